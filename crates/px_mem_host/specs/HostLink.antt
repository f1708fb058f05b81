-- A link of a host in memory: a client's, or one that the host dialled. Own.
use Rattle.std.specs.Prelude.{ℕ, List, [], Option, None, Some}
use Rattle.px_ends.specs.Links.{LinkCounts}
use Rattle.px_ends.specs.Memory.{MemoryLink}
use Rattle.px_mem_host.specs.declared.host_link.HostLink.{HostLink}
use Rattle.px_mem_host.specs.declared.host_link.HostLink.TheVariants.{Client, Dialled}
use Rattle.px_mem_host.specs.declared.plan.DialPlan.{DialPlan}

-- the link of these settings, before any call
abbrev pub new_dialled : DialPlan → MemoryLink
new_dialled plan = record {
  left = plan.bytes;
  sent = [];
  room = plan.room;
  late = plan.late;
  failing = plan.fail;
  calls = 0;
  faults = 0;
  ends = 0;
  not_yets = 0;
}

module _ {R : Type 0} where
  -- the bytes that are still to be received, and those that were sent: visible of a link that was dialled
  abbrev pub left_of : HostLink R → Option (List ℕ)
  left_of (Client link) = None
  left_of (Dialled link) = Some link.left

  abbrev pub sent_by : HostLink R → Option (List ℕ)
  sent_by (Client link) = None
  sent_by (Dialled link) = Some link.sent

  abbrev pub counts_of : HostLink R → LinkCounts
  counts_of (Client link) = record { faults = link.faults; ends = link.ends; not_yets = link.not_yets }
  counts_of (Dialled link) = record { faults = link.faults; ends = link.ends; not_yets = link.not_yets }

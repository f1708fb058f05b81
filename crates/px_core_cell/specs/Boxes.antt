-- The mailboxes that the core's ends are of.
use Rattle.std.specs.Prelude.{Option}
use Rattle.std.specs.Arc.{arc_value}
use Rattle.atomic_table.specs.Seated.{TableId}
use Rattle.crossbeam_queue.specs.declared.array_queue.Doing.{Doing}
use Rattle.crossbeam_queue.specs.declared.array_queue.Slotted.{Slotted}
use Rattle.px_core_cell.specs.declared.ends.CoreEnd.{CoreEnd}

-- the name of a mailbox's queue, by which its passes know it
abbrev pub name_of : {T V Q A : Type 0} → Slotted (Option T) (Doing T V) Q A → TableId
name_of q = q.table.shared.table_id

-- the mailboxes at one sink, by their names
pub record Boxes : Type 0 where
  pub inbox : TableId
  pub outbox : TableId

-- the mailboxes that the core's ends are of
abbrev pub boxes_of : CoreEnd → Boxes
boxes_of e = record { inbox = name_of (arc_value e.inbox).queue; outbox = name_of (arc_value e.outbox).queue }

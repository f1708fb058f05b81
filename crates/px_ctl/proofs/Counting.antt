-- What the counts of a host that took a client's link back show of the client's end.
use Rattle.std.proofs.Common.{◌≡◌, ℕ, inl, inr, List, Option, ap, subst, ◌∙◌, arith}
use Rattle.px_types.specs.Faults.{Rose}
use Rattle.px_ends.specs.Links.{LinkCounts, no_counts}
use Rattle.px_ends.specs.Host.{DialState, HangsUp, RoseBy as RoseByAll, one_given}
use Rattle.px_client.specs.declared.errand.Errand.{Errand}
use Rattle.px_client.specs.declared.end.ClientEnd.{ClientEnd}
use Rattle.px_client.specs.declared.end.ClientEnd.TheVariants as ends
use Rattle.px_client.specs.Causes.{RoseBy, PATIENCE, IsSound}
use Rattle.px_client.specs.Outcome.{Runs}
use Rattle.px_ctl.specs.Control.{Sides, HasNoLink, Counted, link_state, RunsOver, Calls}

-- ---- counts that are added

rose_too : (more before now : ℕ) → RoseByAll more before now → Rose 0 more → Rose before now
rose_too more before now by rose = record { later = by.later; more = omega (arith, by.least, rose.more) }

rose_as_much : (more before now : ℕ) → RoseByAll more before now → RoseBy PATIENCE 0 more → RoseBy PATIENCE before now
rose_as_much more before now by rose = record { later = by.later; more = omega (arith, by.least, rose.more) }

not_risen : (more before now : ℕ) → more ≡ 0 → RoseByAll more before now → now ≡ before
not_risen more before now none by = omega (arith, none, by.later, by.most)

-- ---- by the end

module _ {D R C L : Type 0} (left sent : L → Option (List ℕ)) (counts : L → LinkCounts) (cookie : List ℕ) (errand : Errand) (before after : Sides D R C L) where
  module _ (end : ClientEnd) (x : RunsOver left sent counts end cookie errand before after) where
    -- the link was sound
    sound : IsSound (counts x.link) (counts x.link_after)
        → (after.host.faults ≡ before.host.faults) × (after.dialled.link_faults ≡ before.dialled.link_faults) × (after.dialled.ends ≡ before.dialled.ends)
    sound s = (
      ap (λ h. h.faults) x.host,
      not_risen (counts x.link_after).faults before.dialled.link_faults after.dialled.link_faults (s.faults ∙ ap (λ (c : LinkCounts). c.faults) x.unused) x.hung.0,
      not_risen (counts x.link_after).ends before.dialled.ends after.dialled.ends (s.ends ∙ ap (λ (c : LinkCounts). c.ends) x.unused) x.hung.1,
    )

    well : IsSound (counts x.link) (counts x.link_after) → after.faults ≡ before.faults
        → (after.host.faults ≡ before.host.faults) × (after.dialled.link_faults ≡ before.dialled.link_faults) × (after.dialled.ends ≡ before.dialled.ends)
        × (after.faults ≡ before.faults)
    well s quiet = ((sound s).0, (sound s).1, (sound s).2, quiet)

  counted : (end : ClientEnd) → RunsOver left sent counts end cookie errand before after → Counted end before after
  counted ends.Ok x = well ends.Ok x x.runs.counts x.runs.shows.3
  counted ends.Memory x = well ends.Memory x x.runs.counts x.runs.shows.2
  counted (ends.Denied code) x = well (ends.Denied code) x x.runs.counts x.runs.shows.2
  counted (ends.BadReply at) x = well (ends.BadReply at) x x.runs.counts x.runs.shows.2
  counted ends.WriteFault x = x.runs.shows.3
  counted ends.Host x =
      inr (rose_too (counts x.link_after).faults before.dialled.link_faults after.dialled.link_faults x.hung.0
      (subst (λ (c : LinkCounts). Rose c.faults (counts x.link_after).faults) x.unused x.runs.counts.faults))
  counted ends.Gone x =
      rose_too (counts x.link_after).ends before.dialled.ends after.dialled.ends x.hung.1
      (subst (λ (c : LinkCounts). Rose c.ends (counts x.link_after).ends) x.unused x.runs.counts.ends)
  counted ends.Silent x =
      rose_as_much (counts x.link_after).not_yets before.dialled.not_yets after.dialled.not_yets x.hung.2
      (subst (λ (c : LinkCounts). RoseBy PATIENCE c.not_yets (counts x.link_after).not_yets) x.unused x.runs.counts.later)

  uncalled : (end : ClientEnd) → HasNoLink end before after → Counted end before after
  uncalled ends.Memory n = (ap (λ h. h.faults) n.0, ap (λ (d : DialState L). d.link_faults) n.1.dialled, ap (λ (d : DialState L). d.ends) n.1.dialled, n.1.faults)
  uncalled ends.Host n = inl n.0.0
  uncalled ends.Ok n = absurd n
  uncalled ends.WriteFault n = absurd n
  uncalled (ends.Denied code) n = absurd n
  uncalled (ends.BadReply at) n = absurd n
  uncalled ends.Gone n = absurd n
  uncalled ends.Silent n = absurd n

  -- a client over a link that the host dialled and took back
  pub over_link : (end : ClientEnd) (link link_after : L) (mid : DialState L) → counts link ≡ no_counts → mid ≡ one_given before.dialled
      → Runs end cookie errand (link_state left sent counts link) (link_state left sent counts link_after) before.held after.held before.faults after.faults
      → HangsUp (counts link_after) link_after mid after.dialled → after.host ≡ before.host → Calls left sent counts end cookie errand before after
  over_link end link link_after mid unused given runs hung host =
      let over : RunsOver left sent counts end cookie errand before after = record {
        link = link;
        link_after = link_after;
        unused = unused;
        runs = runs;
        hung = subst (λ (d : DialState L). HangsUp (counts link_after) link_after d after.dialled) given hung;
        host = host;
      } in
      record { does = inl over; counted = counted end over }

  -- the host had no link
  pub no_link : (end : ClientEnd) → HasNoLink end before after → Calls left sent counts end cookie errand before after
  no_link end none = record { does = inr none; counted = uncalled end none }

-- What the status of a control client says.
use Rattle.std.proofs.Common.{◌≡◌, ◌⊎◌, inl, inr, ℕ, List, Option, refl, sym, ap, subst, ◌∙◌}
use Rattle.px_types.specs.declared.status.Status.{Status}
use Rattle.px_types.specs.declared.status.Status.TheVariants as status
use Rattle.px_types.specs.Faults.{Rose}
use Rattle.px_ends.specs.Links.{LinkCounts}
use Rattle.px_client.specs.declared.end.ClientEnd.{ClientEnd}
use Rattle.px_client.specs.declared.end.ClientEnd.TheVariants as ends
use Rattle.px_ctl.specs.declared.words.ControlWords.{ControlWords}
use Rattle.px_ctl.specs.declared.end.ControlEnd.{ControlEnd}
use Rattle.px_ctl.specs.declared.end.ControlEnd.TheVariants.{Refused, ReadFault, Ended}
use Rattle.px_ctl.specs.Words.{IsSaid}
use Rattle.px_ctl.specs.Control.{HasNoLink, RunsOver, Calls, Controls}
use Rattle.px_ctl.specs.End.{status_of as status_at, client_status, Logs, ControlReported, memory_line}
use Rattle.px_app.specs.declared.ending.Ending.{Ending}
use Rattle.px_app.specs.declared.ending.Ending.TheVariants as ending
use Rattle.px_app.specs.Ending.{status_of}
use Rattle.px_app.specs.Report.{Reported}
use Rattle.px_app.specs.Outside.{Outside, sides_of}
use Rattle.px_app.specs.Controlling.{AreUnsaid, OnlyReports, Controlled, ClientEnds, Shows, ControlledBy}

-- ---- the report

-- the status is that of an end, or of a want of memory or a fault that the report met
abbrev pub Answers : Status → Status → ℕ → ℕ → Type 0
Answers said answered faults faults' = (answered ≡ said) ⊎ (answered ≡ status.Memory) ⊎ ((answered ≡ status.WriteFault) × Rose faults faults')

logged : (said answered : Status) (line : List ℕ) (held held' : Option (List ℕ)) (faults faults' : ℕ)
    → (Logs said line answered held held' faults faults' ⊎ Logs status.Memory memory_line answered held held' faults faults') → Answers said answered faults faults'
logged said answered line held held' faults faults' (inl (inl same)) = inl same.0
logged said answered line held held' faults faults' (inl (inr fault)) = inr (inr (fault.0, fault.2))
logged said answered line held held' faults faults' (inr (inl memory)) = inr (inl memory.0)
logged said answered line held held' faults faults' (inr (inr fault)) = inr (inr (fault.0, fault.2))

reported : (end : ControlEnd) (answered : Status) (held held' : Option (List ℕ)) (faults faults' : ℕ)
    → ControlReported end answered held held' faults faults' → Answers (status_at end) answered faults faults'
reported (Refused at) answered held held' faults faults' r = logged status.Refused answered _ held held' faults faults' r
reported ReadFault answered held held' faults faults' r = logged status.ReadFault answered _ held held' faults faults' r
reported (Ended ends.Ok) answered held held' faults faults' r = inl r.0
reported (Ended ends.Memory) answered held held' faults faults' r = logged status.Memory answered _ held held' faults faults' r
reported (Ended ends.WriteFault) answered held held' faults faults' r = logged status.WriteFault answered _ held held' faults faults' r
reported (Ended ends.Host) answered held held' faults faults' r = logged status.Host answered _ held held' faults faults' r
reported (Ended (ends.Denied code)) answered held held' faults faults' r = logged status.Denied answered _ held held' faults faults' r
reported (Ended (ends.BadReply at)) answered held held' faults faults' r = logged status.BadReply answered _ held held' faults faults' r
reported (Ended ends.Gone) answered held held' faults faults' r = logged status.Gone answered _ held held' faults faults' r
reported (Ended ends.Silent) answered held held' faults faults' r = logged status.Silent answered _ held held' faults faults' r

-- ---- the status

module _ {D R C L : Type 0} (left sent : L → Option (List ℕ)) (counts : L → LinkCounts) (texts : List (List ℕ)) (before after : Outside D R C L) where
  abbrev ShowsSo : Status → Type 0
  ShowsSo answered = Shows left sent counts answered texts before after

  module _ (said : ControlWords) (is_said : IsSaid texts said) where
    abbrev Does : ControlEnd → Type 0
    Does end =
        Controls left sent counts end said.errand before.ends.left after.ends.left before.ends.read_faults after.ends.read_faults (sides_of before) (sides_of after)

    -- the end of a client that had a link
    client_ends : (end : ClientEnd) → (HasNoLink end (sides_of before) (sides_of after) → ⊥) → Does (Ended end) → ClientEnds left sent counts end texts before after
    client_ends end some does = record { said = said; is_said = is_said; cookie = does.0; read = does.1; runs = runs does.3.does } where
      runs : (RunsOver left sent counts end does.0 said.errand (sides_of before) (sides_of after) ⊎ HasNoLink end (sides_of before) (sides_of after))
          → RunsOver left sent counts end does.0 said.errand (sides_of before) (sides_of after)
      runs (inl over) = over
      runs (inr none) = absurd (some none)

    shows_end : (end : ControlEnd) → Does end → ShowsSo (status_at end)
    shows_end (Refused at) does = (at, does.0)
    shows_end ReadFault does = does.0.failed
    shows_end (Ended ends.Ok) does = client_ends ends.Ok (λ n. n) does
    shows_end (Ended ends.Memory) does = tt
    shows_end (Ended ends.WriteFault) does = inl does.3.counted
    shows_end (Ended ends.Host) does = does.3.counted
    shows_end (Ended (ends.Denied code)) does = (code, client_ends (ends.Denied code) (λ n. n) does)
    shows_end (Ended (ends.BadReply at)) does = (at, client_ends (ends.BadReply at) (λ n. n) does)
    shows_end (Ended ends.Gone) does = (client_ends ends.Gone (λ n. n) does, does.3.counted)
    shows_end (Ended ends.Silent) does = (client_ends ends.Silent (λ n. n) does, does.3.counted)

  answers_show : (said answered : Status) → ShowsSo said → Answers said answered before.log.faults after.log.faults → ShowsSo answered
  answers_show said answered shows (inl same) = subst ShowsSo (sym same) shows
  answers_show said answered shows (inr (inl memory)) = subst ShowsSo (sym memory) tt
  answers_show said answered shows (inr (inr fault)) = subst ShowsSo (sym fault.0) (inr fault.1)

  -- a report of words that were refused
  among : (ended : Ending) (answered : Status) → Reported ended answered before.log after.log
      → Answers (status_of ended) answered before.log.faults after.log.faults
  among ended answered (said, inl same, inl logged) = inl (logged.answer ∙ ap status_of same)
  among ended answered (said, inr memory, inl logged) = inr (inl (logged.answer ∙ ap status_of memory.1))
  among ended answered (said, says, inr failed) = inr (inr (failed.answer, failed.rose))

  pub unsaid : (answered : Status) → AreUnsaid texts → OnlyReports ending.Usage answered before after → ControlledBy left sent counts texts answered before after
  unsaid answered none only = record {
    exact = inl (none, only);
    shows = answers_show status.Usage answered none (among ending.Usage answered only.reported);
  }

  pub unread : (answered : Status) → OnlyReports ending.Memory answered before after → ControlledBy left sent counts texts answered before after
  unread answered only = record {
    exact = inr (inl only);
    shows = answers_show status.Memory answered tt (among ending.Memory answered only.reported);
  }

  pub controlled : (answered : Status) → Controlled left sent counts texts answered before after → ControlledBy left sent counts texts answered before after
  controlled answered x = record {
    exact = inr (inr x);
    shows = answers_show (status_at x.end) answered (shows_end x.said x.is_said x.end x.controls)
        (reported x.end answered before.log.held after.log.held before.log.faults after.log.faults x.reported);
  }

-- What the status of playing an input says, from how it ended and what was reported.
use Rattle.std.proofs.Common.{◌≡◌, ◌≢◌, ◌⊎◌, inl, inr, refl, subst, ◌∙◌}
use Rattle.px_types.specs.declared.status.Status.{Status}
use Rattle.px_types.specs.declared.status.Status.TheVariants as status
use Rattle.px_ends.specs.Visible.{after_adding, WhereVisible}
use Rattle.px_types.specs.Faults.{Rose}
use Rattle.px_app.specs.declared.refusal.Refusal.{Refusal}
use Rattle.px_app.specs.declared.ending.Ending.{Ending}
use Rattle.px_app.specs.declared.ending.Ending.TheVariants as ending
use Rattle.px_app.specs.Refusal.{refusal_line}
use Rattle.px_app.specs.Ends.{Ends, Log, AreQuiet, SameOrRose}
use Rattle.px_app.specs.Mode.{Mode}
use Rattle.px_app.specs.Ending.{status_of, line_of, IsRefusal, IsReplayStatus}
use Rattle.px_app.specs.Plays.{OutputFailed, LineFailed, IsAccounted, NoneRose, Plays}
use Rattle.px_app.specs.Report.{Reported}
use Rattle.px_app.specs.Played.{PlayedWhole, WasRefused, WasUnnamed, PlayedFront, InputPlayed, InputCounted, Played, Completes}
use Rattle.px_app.proofs.FlushLaws.{front_of}
use Rattle.px_app.proofs.ReportLaws as report
use Rattle.px_app.proofs.CompleteLaws.{complete}

no_usage : {W A L : Type 0} (mode : Mode W A L) (asked : A) (ended : Ending) (before after : Ends) → InputPlayed mode asked ended before after → ended ≢ ending.Usage
no_usage mode asked ended before after p is = subst (λ (x : Ending). InputPlayed mode asked x before after) is p

-- ---- counts

quiet_of : (ended : Ending) (before after : Ends) → status_of ended ≢ status.ReadFault → status_of ended ≢ status.WriteFault → InputCounted ended before after → AreQuiet before after
quiet_of ending.ReadFault before after read written counted = absurd (read refl)
quiet_of ending.WriteFault before after read written counted = absurd (written refl)
quiet_of ending.Done before after read written counted = counted
quiet_of (ending.Refused refusal) before after read written counted = counted
quiet_of ending.Usage before after read written counted = counted
quiet_of ending.Memory before after read written counted = counted
quiet_of ending.NoSuchSink before after read written counted = counted

refusal_quiet : (ended : Ending) (before after : Ends) → IsRefusal ended → InputCounted ended before after → AreQuiet before after
refusal_quiet (ending.Refused refusal) before after is counted = counted
refusal_quiet ending.ReadFault before after is counted = absurd is
refusal_quiet ending.WriteFault before after is counted = absurd is
refusal_quiet ending.Done before after is counted = absurd is
refusal_quiet ending.Usage before after is counted = absurd is
refusal_quiet ending.Memory before after is counted = absurd is
refusal_quiet ending.NoSuchSink before after is counted = absurd is

-- what a status says of the counts and of the log, however it ended
module _ (ended : Ending) (answered : Status) (before after : Ends) (log_before log_after : Log) (counted : InputCounted ended before after) (reported : Reported ended answered log_before log_after) where
  quiet_so : answered ≢ status.ReadFault → answered ≢ status.WriteFault → (after.read_faults ≡ before.read_faults) × (after.write_faults ≡ before.write_faults) × (log_after.faults ≡ log_before.faults)
  quiet_so read written =
      let s = report.logged_unless ended answered log_before log_after reported written in
      let q : AreQuiet before after = elim (report.status_among ended answered log_before log_after reported) [
        | inl same ↦ quiet_of ended before after (λ e. read (same ∙ e)) (λ e. written (same ∙ e)) counted
        | inr rest ↦ (elim rest [
          | inl memory ↦ refusal_quiet ended before after memory.0 counted
          | inr fault ↦ absurd (written fault)
        ])
      ] in
      (q.0, q.1, s.quiet)

  read_fault_so : answered ≡ status.ReadFault → Rose before.read_faults after.read_faults × SameOrRose before.write_faults after.write_faults × (log_after.faults ≡ log_before.faults)
  read_fault_so is =
      let s = report.ended_read_fault ended answered log_before log_after reported is in
      let c = subst (λ (e : Ending). InputCounted e before after) s.0 counted in
      (c.0, c.1, s.1)

  line_so : answered ≢ status.WriteFault → (e : Ending) × (answered ≡ status_of e) × (log_after.held ≡ after_adding log_before.held (line_of e))
  line_so other = report.logged ended answered log_before log_after reported other

  write_fault_so : answered ≡ status.WriteFault → OutputFailed before after log_before log_after ⊎ LineFailed before after log_before log_after
  write_fault_so is = elim (report.ended_write_fault ended answered log_before log_after reported is) [
    | inl whole ↦ (let c = subst (λ (e : Ending). InputCounted e before after) whole.0 counted in inl (record { reads = c.0; writes = c.1; quiet = whole.1; line = whole.2 }))
    | inr cut ↦ inr (record { ended = ended; said = cut.0; says = cut.1; counted = counted; line = cut.2; rose = cut.3 })
  ]

  pub accounted_so : IsAccounted answered before after log_before log_after
  accounted_so = record { quiet = quiet_so; read_fault = read_fault_so; write_fault = write_fault_so; line = line_so }

  -- where no call fails
  pub not_read_fault : NoneRose before after log_before log_after → answered ≡ status.ReadFault → ⊥
  not_read_fault none is = none.0 (read_fault_so is).0

  pub not_write_fault : NoneRose before after log_before log_after → answered ≡ status.WriteFault → ⊥
  not_write_fault none is = elim (write_fault_so is) [
    | inl whole ↦ none.1 whole.writes
    | inr cut ↦ none.2 cut.rose
  ]

memory_no_usage : ending.Memory ≡ ending.Usage → ⊥
memory_no_usage e = cc

write_no_usage : ending.WriteFault ≡ ending.Usage → ⊥
write_no_usage e = cc

-- ---- a status

module _ {W A L : Type 0} (mode : Mode W A L) (asked : A) (answered : Status) (before after : Ends) (log_before log_after : Log) (x : Played mode asked answered before after log_before log_after) where
  front_by : PlayedFront mode asked before after
  front_by = front_of mode asked x.ended before after x.played

  ok_by : answered ≡ status.Ok → PlayedWhole mode asked before after
  ok_by is = subst (λ (e : Ending). InputPlayed mode asked e before after) (report.ended_done x.ended answered log_before log_after x.reported is) x.played

  refused_by : answered ≡ status.Refused → (refusal : Refusal) × WasRefused mode asked refusal before after × (log_after.held ≡ after_adding log_before.held (refusal_line refusal))
  refused_by is =
      let s = report.ended_refused x.ended answered log_before log_after x.reported is in
      (s.0, subst (λ (e : Ending). InputPlayed mode asked e before after) s.1 x.played, s.2)

  no_such_sink_by : answered ≡ status.NoSuchSink → WasUnnamed mode asked before after
  no_such_sink_by is = subst (λ (e : Ending). InputPlayed mode asked e before after) (report.ended_no_such_sink x.ended answered log_before log_after x.reported is) x.played

  among_by : IsReplayStatus answered
  among_by = elim (report.status_among x.ended answered log_before log_after x.reported) [
    | inl same ↦ (x.ended, no_usage mode asked x.ended before after x.played, same)
    | inr rest ↦ (elim rest [
      | inl memory ↦ (ending.Memory, memory_no_usage, memory.1)
      | inr fault ↦ (ending.WriteFault, write_no_usage, fault)
    ])
  ]

  complete_by : NoneRose before after log_before log_after → WhereVisible before.left (Completes mode asked answered)
  complete_by none =
      complete mode asked answered before after ok_by (λ is. (let s = refused_by is in (s.0, s.1))) no_such_sink_by
      (not_read_fault x.ended answered before after log_before log_after x.counted x.reported none)
      (not_write_fault x.ended answered before after log_before log_after x.counted x.reported none) among_by

  pub plays : Plays mode asked answered before after log_before log_after
  plays = record {
    exact = x;
    ok = ok_by;
    refused = refused_by;
    no_such_sink = no_such_sink_by;
    front = front_by;
    accounted = accounted_so x.ended answered before after log_before log_after x.counted x.reported;
    others = among_by;
    complete = complete_by;
  }

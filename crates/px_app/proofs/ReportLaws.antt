-- What a status says of how a run ended, and of the log.
use Rattle.std.proofs.Common.{◌≡◌, ◌≢◌, ◌⊎◌, inl, inr, sym, ap, ◌∙◌}
use Rattle.px_types.specs.declared.status.Status.{Status}
use Rattle.px_types.specs.declared.status.Status.TheVariants as status
use Rattle.px_ends.specs.Visible.{after_adding}
use Rattle.px_types.specs.Faults.{Rose}
use Rattle.px_ends.specs.Whole.{AddsFront}
use Rattle.px_app.specs.declared.refusal.Refusal.{Refusal}
use Rattle.px_app.specs.declared.ending.Ending.{Ending}
use Rattle.px_app.specs.declared.ending.Ending.TheVariants as ending
use Rattle.px_app.specs.Refusal.{refusal_line}
use Rattle.px_app.specs.Ends.{Log}
use Rattle.px_app.specs.Ending.{status_of, line_of, IsRefusal}
use Rattle.px_app.specs.Report.{Says, Logged, Reported}

-- ---- the endings of a status

-- an ending that isn't want of memory has the status of nothing else
pub done_is : (said : Ending) → status_of said ≡ status.Ok → said ≡ ending.Done
done_is ending.Done e = cc
done_is (ending.Refused refusal) e = absurd cc
done_is ending.Usage e = absurd cc
done_is ending.Memory e = absurd cc
done_is ending.ReadFault e = absurd cc
done_is ending.WriteFault e = absurd cc
done_is ending.NoSuchSink e = absurd cc

pub refused_is : (said : Ending) → status_of said ≡ status.Refused → (refusal : Refusal) × (said ≡ ending.Refused refusal)
refused_is (ending.Refused refusal) e = (refusal, cc)
refused_is ending.Done e = absurd cc
refused_is ending.Usage e = absurd cc
refused_is ending.Memory e = absurd cc
refused_is ending.ReadFault e = absurd cc
refused_is ending.WriteFault e = absurd cc
refused_is ending.NoSuchSink e = absurd cc

pub read_fault_is : (said : Ending) → status_of said ≡ status.ReadFault → said ≡ ending.ReadFault
read_fault_is ending.ReadFault e = cc
read_fault_is ending.Done e = absurd cc
read_fault_is (ending.Refused refusal) e = absurd cc
read_fault_is ending.Usage e = absurd cc
read_fault_is ending.Memory e = absurd cc
read_fault_is ending.WriteFault e = absurd cc
read_fault_is ending.NoSuchSink e = absurd cc

pub write_fault_is : (said : Ending) → status_of said ≡ status.WriteFault → said ≡ ending.WriteFault
write_fault_is ending.WriteFault e = cc
write_fault_is ending.Done e = absurd cc
write_fault_is (ending.Refused refusal) e = absurd cc
write_fault_is ending.Usage e = absurd cc
write_fault_is ending.Memory e = absurd cc
write_fault_is ending.ReadFault e = absurd cc
write_fault_is ending.NoSuchSink e = absurd cc

pub no_such_sink_is : (said : Ending) → status_of said ≡ status.NoSuchSink → said ≡ ending.NoSuchSink
no_such_sink_is ending.NoSuchSink e = cc
no_such_sink_is ending.Done e = absurd cc
no_such_sink_is (ending.Refused refusal) e = absurd cc
no_such_sink_is ending.Usage e = absurd cc
no_such_sink_is ending.Memory e = absurd cc
no_such_sink_is ending.ReadFault e = absurd cc
no_such_sink_is ending.WriteFault e = absurd cc

done_no_memory : ending.Done ≡ ending.Memory → ⊥
done_no_memory e = cc

refused_no_memory : (refusal : Refusal) → ending.Refused refusal ≡ ending.Memory → ⊥
refused_no_memory refusal e = cc

unnamed_no_memory : ending.NoSuchSink ≡ ending.Memory → ⊥
unnamed_no_memory e = cc

read_no_memory : ending.ReadFault ≡ ending.Memory → ⊥
read_no_memory e = cc

write_no_memory : ending.WriteFault ≡ ending.Memory → ⊥
write_no_memory e = cc

ok_no_write : status.Ok ≡ status.WriteFault → ⊥
ok_no_write e = cc

refused_no_write : status.Refused ≡ status.WriteFault → ⊥
refused_no_write e = cc

unnamed_no_write : status.NoSuchSink ≡ status.WriteFault → ⊥
unnamed_no_write e = cc

read_no_write : status.ReadFault ≡ status.WriteFault → ⊥
read_no_write e = cc

-- ---- what was reported

module _ (ended : Ending) (answered : Status) (before after : Log) (r : Reported ended answered before after) where
  abbrev said : Ending
  said = r.0

  -- where no write of the log failed the status is that of what is said
  pub logged_unless : (answered ≢ status.WriteFault) → Logged said answered before after
  logged_unless other = elim r.2 [
    | inl whole ↦ whole
    | inr cut ↦ absurd (other cut.answer)
  ]

  -- what is said is the ending, unless it is want of memory
  said_is : said ≢ ending.Memory → said ≡ ended
  said_is other = elim r.1 [
    | inl same ↦ same
    | inr short ↦ absurd (other short.1)
  ]

  pub ended_done : answered ≡ status.Ok → ended ≡ ending.Done
  ended_done is =
      let s = logged_unless (λ e. ok_no_write (sym is ∙ e)) in
      let d = done_is said (sym s.answer ∙ is) in
      sym (said_is (λ e. done_no_memory (sym d ∙ e))) ∙ d

  pub ended_refused : answered ≡ status.Refused → (refusal : Refusal) × (ended ≡ ending.Refused refusal) × (after.held ≡ after_adding before.held (refusal_line refusal))
  ended_refused is =
      let s = logged_unless (λ e. refused_no_write (sym is ∙ e)) in
      let d = refused_is said (sym s.answer ∙ is) in
      (d.0, sym (said_is (λ e. refused_no_memory d.0 (sym d.1 ∙ e))) ∙ d.1, s.line ∙ ap (λ (x : Ending). after_adding before.held (line_of x)) d.1)

  pub ended_no_such_sink : answered ≡ status.NoSuchSink → ended ≡ ending.NoSuchSink
  ended_no_such_sink is =
      let s = logged_unless (λ e. unnamed_no_write (sym is ∙ e)) in
      let d = no_such_sink_is said (sym s.answer ∙ is) in
      sym (said_is (λ e. unnamed_no_memory (sym d ∙ e))) ∙ d

  pub ended_read_fault : answered ≡ status.ReadFault → (ended ≡ ending.ReadFault) × (after.faults ≡ before.faults)
  ended_read_fault is =
      let s = logged_unless (λ e. read_no_write (sym is ∙ e)) in
      let d = read_fault_is said (sym s.answer ∙ is) in
      (sym (said_is (λ e. read_no_memory (sym d ∙ e))) ∙ d, s.quiet)

  -- the line of a failed write, or a front of a line
  pub ended_write_fault : answered ≡ status.WriteFault → ((ended ≡ ending.WriteFault) × (after.faults ≡ before.faults) × (after.held ≡ after_adding before.held (line_of ending.WriteFault)))
      ⊎ ((x : Ending) × Says ended x × AddsFront (line_of x) before.held after.held × Rose before.faults after.faults)
  ended_write_fault is = elim r.2 [
    | inl whole ↦ (let d = write_fault_is said (sym whole.answer ∙ is) in
        inl (sym (said_is (λ e. write_no_memory (sym d ∙ e))) ∙ d, whole.quiet, whole.line ∙ ap (λ (x : Ending). after_adding before.held (line_of x)) d))
    | inr cut ↦ inr (said, r.1, cut.front, cut.rose)
  ]

  -- the log gained the line of what is said
  pub logged : answered ≢ status.WriteFault → (x : Ending) × (answered ≡ status_of x) × (after.held ≡ after_adding before.held (line_of x))
  logged other = let s = logged_unless other in (said, s.answer, s.line)

  -- the status is that of the ending, or of want of memory in place of a refusal, or of a write that failed
  pub status_among : (answered ≡ status_of ended) ⊎ ((IsRefusal ended × (answered ≡ status.Memory)) ⊎ (answered ≡ status.WriteFault))
  status_among = elim r.2 [
    | inl whole ↦ (elim r.1 [
      | inl same ↦ inl (whole.answer ∙ ap status_of same)
      | inr short ↦ inr (inl (short.0, whole.answer ∙ ap status_of short.1))
    ])
    | inr cut ↦ inr (inr cut.answer)
  ]

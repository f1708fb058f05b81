use Rattle.std.proofs.Common.{ℕ, ◌++◌, Option, Err, ap, sym, subst, refl}
use Rattle.px_frame.specs.declared.fault.FrameError.{FrameError}
use Rattle.px_frame.specs.declared.fault.FrameFault.{FrameFault}
use Rattle.px_frame.specs.Progress.{Answers, Leaves}
use Rattle.px_frame.specs.Reading.{IsRead}
use Rattle.px_client.specs.Dialogue.{Waiting}
use Rattle.px_client.specs.Hearing.{left_of, ending_by}
use Rattle.px_client.proofs.Heard.{failed, fed_more}
use Rattle.px_client.proofs.hearing.Hearing.take.Goals as goal
use Rattle.px_client.proofs.hearing.Hearing.take.Goals.{in-Ok, in-Err-Fault}

pub returns-in-Err-Failed-clause-hears : goal.returns-in-Err-Failed-clause-hears
returns-in-Err-Failed-clause-hears c = λ errand bytes awaited h.
    let ear = c.args.self.now in
    let piece = c.args.piece.now in
    let before = h.judged ++ left_of ear in
    failed errand ear bytes awaited h c.requires.all piece c.in-Err-Failed.field-0-0 c.in-Err-Failed.at
    (subst (λ (e : FrameError). Answers bytes before piece (Err e)) c.in-Err-Failed.field-0-is (c.in-Err-Failed.ensures.answers bytes before h.fed))

pub returns-clause-hears : goal.returns-clause-hears
returns-clause-hears c = λ errand bytes awaited h.
    let ear = c.args.self.now in
    let piece = c.args.piece.now in
    let before = h.judged ++ left_of ear in
    elim c.match-feed.branch [
      | in-Ok w ↦ fed_more errand ear bytes (Waiting awaited) h _ piece w.in-Ok.frames c.requires.all
          (w.in-Ok.ensures.leaves bytes before h.fed)
          (subst (λ (f : Option (FrameFault × ℕ)). IsRead (bytes ++ piece) (before ++ w.in-Ok.frames) (ending_by f)) (sym (ap (λ p. p.1) w.frames-is)) (w.in-Ok.ensures.answers bytes before h.fed))
          (ap (λ p. p.0) w.frames-is) refl refl c.requires.few
      | in-Err-Fault w ↦ fed_more errand ear bytes (Waiting awaited) h _ piece w.in-Err-Fault.frames c.requires.all
          (subst (λ (e : FrameError). Leaves c.feed.new.self bytes before piece (Err e)) w.in-Err-Fault.field-0-is (w.in-Err-Fault.ensures.leaves bytes before h.fed))
          (subst (λ (f : Option (FrameFault × ℕ)). IsRead (bytes ++ piece) (before ++ w.in-Err-Fault.frames) (ending_by f)) (sym (ap (λ p. p.1) w.frames-is))
          (subst (λ (e : FrameError). Answers bytes before piece (Err e)) w.in-Err-Fault.field-0-is (w.in-Err-Fault.ensures.answers bytes before h.fed)).0)
          (ap (λ p. p.0) w.frames-is) refl refl c.requires.few
    ]

use Rattle.std.proofs.Common.{◌≡◌, ℕ, ◌-◌, ◌*◌, min, List, length, take, ap, ◌∙◌, subst, arith}
use Rattle.std.specs.Option.{unwrap_or}
use Rattle.std.proofs.lemmas.Result.{err_from_is_err_and}
use Rattle.px_types.specs.Faults.{Rose}
use Rattle.px_ends.specs.Whole.{AddsFront}
use Rattle.px_ends.specs.Visible.{after_adding}
use Rattle.px_ends.proofs.Frames.{frames_inside}
use Rattle.px_paced.specs.Paced.{Paced, frames_of, bytes_at}
use Rattle.px_paced.proofs.paced.PacedSink.play_due.Goals as goal

pub invariant_of-self : goal.invariant_of-self
invariant_of-self g c = c.self.invariant

pub overflow_sub-self-inside : goal.overflow_sub-self-inside
overflow_sub-self-inside g c = c.self.invariant.4

pub overflow_sub-self : goal.overflow_sub-self
overflow_sub-self g c = omega (arith, c.min-frames.ensures)

pub due-due-requires : goal.due-due-requires
due-due-requires g c = c.self.invariant.2

pub bytes_of-bytes-requires-clause-small : goal.bytes_of-bytes-requires-clause-small
bytes_of-bytes-requires-clause-small g c = c.self.invariant.1

pub bytes_of-bytes-requires-clause-few : goal.bytes_of-bytes-requires-clause-few
bytes_of-bytes-requires-clause-few g c = omega (arith, c.min-frames.ensures, c.self.invariant.3, c.self.invariant.5)

pub returns-clause-ok_count : goal.returns-clause-ok_count
returns-clause-ok_count g c = subst (λ (d : Paced g.row.K.Denot g.row.C.Denot). g.K.Sink.faults c.write_front.new.out ≡ g.K.Sink.faults d.out) c.self.view_is c.in_ok-write_front.ensures.ok_count

pub returns-clause-begun : goal.returns-clause-begun
returns-clause-begun g c = tt

pub returns-clause-cause : goal.returns-clause-cause
returns-clause-cause g c = tt

pub returns-clause-front : goal.returns-clause-front
returns-clause-front g c = tt

pub returns-in_err-write_front-clause-after : goal.returns-in_err-write_front-clause-after
returns-in_err-write_front-clause-after g c =
    let p = err_from_is_err_and c.from_residual.result c.from_residual.ensures.1 in rw p.1 tt

pub returns-in_err-write_front-clause-ok_count : goal.returns-in_err-write_front-clause-ok_count
returns-in_err-write_front-clause-ok_count g c =
    let p = err_from_is_err_and c.from_residual.result c.from_residual.ensures.1 in rw p.1 tt

pub returns-in_err-write_front-clause-out : goal.returns-in_err-write_front-clause-out
returns-in_err-write_front-clause-out g c =
    let p = err_from_is_err_and c.from_residual.result c.from_residual.ensures.1 in rw p.1 tt

pub returns-in_err-write_front-clause-cause : goal.returns-in_err-write_front-clause-cause
returns-in_err-write_front-clause-cause g c =
    let p = err_from_is_err_and c.from_residual.result c.from_residual.ensures.1 in rw p.1 (subst (λ (d : Paced g.row.K.Denot g.row.C.Denot). Rose (g.K.Sink.faults d.out) (g.K.Sink.faults c.write_front.new.out)) c.self.view_is c.in_err-write_front.ensures.err_count)

pub write_front-requires : goal.write_front-requires
write_front-requires g c =
    let d = c.self.inside in
    rw c.bytes_of-bytes.ensures (frames_inside (length d.ring.items) c.min-frames.result d.consumed d.filled d.frame c.self.invariant.7 (omega (arith, c.self.invariant.4, c.min-frames.ensures)))

pub remove_front-requires : goal.remove_front-requires
remove_front-requires g c =
    let d = c.self.inside in
    rw c.bytes_of-bytes.ensures (frames_inside (length d.ring.items) c.min-frames.result d.consumed d.filled d.frame c.self.invariant.7 (omega (arith, c.self.invariant.4, c.min-frames.ensures)))

pub overflow_add-self-2 : goal.overflow_add-self-2
overflow_add-self-2 g c = omega (arith, c.min-frames.ensures, c.self.invariant.4, c.self.invariant.6)

pub overflow_add-self : goal.overflow_add-self
overflow_add-self g c = omega (arith, c.due-due.ensures.fits)

pub returns-clause-out : goal.returns-clause-out
returns-clause-out g c =
    let d = c.self.inside in
    let due : c.due-due.result ≡ frames_of d.rate (g.C.Clock.latest c.now-moment.new.self - unwrap_or d.began (g.C.Clock.latest c.now-moment.new.self)) - d.skipped - d.consumed =
    subst (λ (m : ℕ). c.due-due.result ≡ frames_of d.rate (m - unwrap_or d.began m) - d.skipped - d.consumed) c.now-moment.ensures.value
    (c.due-due.ensures.value ∙ ap (λ (n : ℕ). frames_of d.rate n - d.skipped - d.consumed) (c.saturating_sub.ensures ∙ ap (λ (b : ℕ). c.now-moment.result - b) c.unwrap_or-began.ensures)) in
    let bytes = ap (λ (n : ℕ). take n d.ring.items) (c.bytes_of-bytes.ensures ∙ ap (λ (n : ℕ). n * d.frame) (c.min-frames.ensures ∙ ap (λ (n : ℕ). min n (d.filled - d.consumed)) due)) in
    subst (λ (d : Paced g.row.K.Denot g.row.C.Denot). g.K.Sink.held c.write_front.new.out ≡ after_adding (g.K.Sink.held d.out) (bytes_at (g.C.Clock.latest c.now-moment.new.self) d)) c.self.view_is
    (c.in_ok-write_front.ensures.ok ∙ ap (λ (l : List ℕ). after_adding (g.K.Sink.held d.out) l) bytes)

pub returns-in_err-write_front-clause-front : goal.returns-in_err-write_front-clause-front
returns-in_err-write_front-clause-front g c =
    let d = c.self.inside in
    let due : c.due-due.result ≡ frames_of d.rate (g.C.Clock.latest c.now-moment.new.self - unwrap_or d.began (g.C.Clock.latest c.now-moment.new.self)) - d.skipped - d.consumed =
    subst (λ (m : ℕ). c.due-due.result ≡ frames_of d.rate (m - unwrap_or d.began m) - d.skipped - d.consumed) c.now-moment.ensures.value
    (c.due-due.ensures.value ∙ ap (λ (n : ℕ). frames_of d.rate n - d.skipped - d.consumed) (c.saturating_sub.ensures ∙ ap (λ (b : ℕ). c.now-moment.result - b) c.unwrap_or-began.ensures)) in
    let bytes = ap (λ (n : ℕ). take n d.ring.items) (c.bytes_of-bytes.ensures ∙ ap (λ (n : ℕ). n * d.frame) (c.min-frames.ensures ∙ ap (λ (n : ℕ). min n (d.filled - d.consumed)) due)) in
    let p = err_from_is_err_and c.from_residual.result c.from_residual.ensures.1 in rw p.1
    (subst (λ (d : Paced g.row.K.Denot g.row.C.Denot). AddsFront (bytes_at (g.C.Clock.latest c.now-moment.new.self) d) (g.K.Sink.held d.out) (g.K.Sink.held c.write_front.new.out)) c.self.view_is
    (subst (λ (l : List ℕ). AddsFront l (g.K.Sink.held d.out) (g.K.Sink.held c.write_front.new.out)) bytes c.in_err-write_front.ensures.err))

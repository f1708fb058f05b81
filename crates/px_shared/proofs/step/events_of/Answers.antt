use Rattle.std.proofs.Common.{ℕ, ◌∷◌, [], List, Result, Ok, Err, IfOk, subst, sym}
use Rattle.px_types.specs.declared.ids.ConnId.{ConnId}
use Rattle.px_frame.specs.declared.frame.Frame.{Frame}
use Rattle.px_frame.specs.declared.fault.FrameFault.{FrameFault}
use Rattle.px_frame.specs.Reading.{IsRead, Unfinished, Broken}
use Rattle.px_session.specs.declared.event.Event.{Event}
use Rattle.px_core_cell.specs.declared.step.CoreStep.{CoreStep}
use Rattle.px_core_cell.specs.declared.step.CoreStep.TheVariants as step
use Rattle.px_tape.specs.Tape.{ArePieces, all_bytes}
use Rattle.px_shared.specs.Taped.{AreEventsOf}
use Rattle.px_shared.proofs.step.events_of.Goals as goal

of_frame : {E : Type 0} (conn : ConnId) (frame : Frame) (o : Result (List Event) E) → IfOk o (ArePieces conn)
    → IfOk o (λ events. IsRead (all_bytes events) (record { at = 20; body = frame.body } ∷ []) Unfinished) → IfOk o (AreEventsOf (step.Frame conn frame))
of_frame conn frame (Ok events) pieces read = (pieces, read)
of_frame conn frame (Err e) pieces read = tt

of_fault : {E : Type 0} (conn : ConnId) (fault : FrameFault) (at : ℕ) (o : Result (List Event) E) → IfOk o (ArePieces conn)
    → IfOk o (λ events. (there : ℕ) × IsRead (all_bytes events) [] (Broken fault there)) → IfOk o (AreEventsOf (step.Broken conn fault at))
of_fault conn fault at (Ok events) pieces read = (pieces, read.0, read.1)
of_fault conn fault at (Err e) pieces read = tt

pub returns-in-Frame-clause-events : goal.returns-in-Frame-clause-events
returns-in-Frame-clause-events c =
    subst (λ (s : CoreStep). IfOk c.frame.result (AreEventsOf s)) (sym c.in-Frame.is) (of_frame c.in-Frame.conn c.in-Frame.frame c.frame.result c.frame.ensures.pieces c.frame.ensures.bytes)

pub returns-in-Broken-clause-events : goal.returns-in-Broken-clause-events
returns-in-Broken-clause-events c =
    subst (λ (s : CoreStep). IfOk c.fault.result (AreEventsOf s)) (sym c.in-Broken.is) (of_fault c.in-Broken.conn c.in-Broken.fault c.in-Broken.field-2 c.fault.result c.fault.ensures.pieces c.fault.ensures.bytes)

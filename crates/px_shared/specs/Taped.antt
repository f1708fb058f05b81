-- The events of a step of the core on a tape.
use Rattle.std.specs.Prelude.{◌≡◌, ℕ, List, [], ◌∷◌}
use Rattle.px_frame.specs.Reading.{IsRead, Unfinished, Broken}
use Rattle.px_session.specs.declared.event.Event.{Event}
use Rattle.px_session.specs.declared.event.Event.TheVariants as event
use Rattle.px_core_cell.specs.declared.step.CoreStep.{CoreStep}
use Rattle.px_core_cell.specs.declared.step.CoreStep.TheVariants as step
use Rattle.px_tape.specs.Tape.{ArePieces, all_bytes}

-- a frame is bytes of its client that are read as that frame, and a fault those of a descriptor that has it; a sweep and posted messages have no events
abbrev pub AreEventsOf : CoreStep → List Event → Type 0
AreEventsOf (step.Connect conn) events = events ≡ event.Connect conn ∷ []
AreEventsOf (step.Frame conn frame) events = ArePieces conn events × IsRead (all_bytes events) (record { at = 20; body = frame.body } ∷ []) Unfinished
AreEventsOf (step.Broken conn fault at) events = ArePieces conn events × (there : ℕ) × IsRead (all_bytes events) [] (Broken fault there)
AreEventsOf (step.Close conn) events = events ≡ event.Close conn ∷ []
AreEventsOf (step.Cut conn) events = events ≡ event.Cut conn ∷ []
AreEventsOf (step.Notice sink) events = events ≡ event.Collect sink.0 1 ∷ []
AreEventsOf step.Sweep events = events ≡ []
AreEventsOf (step.Out sink) events = events ≡ []

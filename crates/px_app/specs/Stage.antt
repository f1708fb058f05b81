-- What a stage does with an event, and what it writes. A stage is the running part of a mode.
use Rattle.std.specs.Prelude.{◌≡◌, ◌⊎◌, ℕ, List, Option, None, Some, Result, Ok, Err}
use Rattle.px_ends.specs.Visible.{after_adding}
use Rattle.px_ends.specs.Whole.{AddsFront}
use Rattle.px_session.specs.declared.event.Event.{Event}
use Rattle.px_world.specs.declared.fault.WorldFault.{WorldFault}
use Rattle.px_world.specs.declared.fault.WorldFault.TheVariants.{NoMemory}
use Rattle.px_app.specs.Mode.{Mode}

-- a part of the output was added, or, where memory ran out, a front of it
abbrev pub AddsPart : {A E : Type 0} → Result A E → List ℕ → Option (List ℕ) → Option (List ℕ) → Type 0
AddsPart (Ok done) part before now = now ≡ after_adding before part
AddsPart (Err e) part before now = AddsFront part before now

module _ {W A L : Type 0} (mode : Mode W A L) where
  -- the event is admitted in state `w`, and what is shown of it was added
  pub record EventDone (look : L) (w : W) (e : Event) (before now : Option (List ℕ)) : Type 0 where
    pub admitted : mode.course.refuses w e ≡ None
    pub gained : now ≡ after_adding before (mode.shows look w e)

  -- it is admitted, and a front of that was added
  pub record EventCut (look : L) (w : W) (e : Event) (before now : Option (List ℕ)) : Type 0 where
    pub admitted : mode.course.refuses w e ≡ None
    pub gained : AddsFront (mode.shows look w e) before now

  -- it was done, or memory ran out, or it is refused for this fault
  abbrev pub EventPlayed : {B : Type 0} → Result B WorldFault → L → W → Event → Option (List ℕ) → Option (List ℕ) → Type 0
  EventPlayed (Ok done) look w e before now = EventDone look w e before now
  EventPlayed (Err NoMemory) look w e before now = (now ≡ before) ⊎ EventCut look w e before now
  EventPlayed (Err fault) look w e before now = (mode.course.refuses w e ≡ Some fault) × (now ≡ before)

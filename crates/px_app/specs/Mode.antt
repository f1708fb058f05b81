-- Modes of the program: what each makes of a recorded session. A mode begins in a state by the session's header, takes the events one by one, of
-- which it may refuse one, and shows something of the header, of each event, and of the whole session at its end.
use Rattle.std.specs.Prelude.{◌≡◌, ℕ, List, [], ◌∷◌, ◌++◌, Option, None}
use Rattle.px_header.specs.declared.header.Header.{Header}
use Rattle.px_session.specs.declared.event.Event.{Event}
use Rattle.px_world.specs.declared.fault.WorldFault.{WorldFault}

-- ---- what events do

-- the state after the header, why an event is refused in a state, if it is, and the state after one that isn't
pub record Course (W : Type 0) : Type 0 where
  pub first : Header → W
  pub refuses : W → Event → Option WorldFault
  pub after : W → Event → W

module _ {W : Type 0} (course : Course W) where
  -- the state after the events, in order
  abbrev pub state_by : W → List Event → W
  state_by w [] = w
  state_by w (e ∷ events) = state_by (course.after w e) events

  -- each event is admitted in the state after those before it
  abbrev pub AreAdmitted : W → List Event → Type 0
  AreAdmitted w [] = Unit {0}
  AreAdmitted w (e ∷ events) = (course.refuses w e ≡ None) × AreAdmitted (course.after w e) events

  -- the state after a header and the events of its session
  abbrev pub state_after : Header → List Event → W
  state_after header events = state_by (course.first header) events

-- ---- what is shown

-- For what is asked, an `A`, a session is looked at through an `L`, by its header; through none where the header hasn't what is asked for.
pub record Mode (W A L : Type 0) : Type 0 where
  pub course : Course W
  pub looks : A → Header → Option L
  -- what is shown of the header, of an event in the state before it, and of a whole session at its end
  pub opens : L → Header → List ℕ
  pub shows : L → W → Event → List ℕ
  pub closes : L → Header → List Event → List ℕ

module _ {W A L : Type 0} (mode : Mode W A L) where
  -- what is shown of the events, from a state on
  abbrev pub shown_by : L → W → List Event → List ℕ
  shown_by l w [] = []
  shown_by l w (e ∷ events) = mode.shows l w e ++ shown_by l (mode.course.after w e) events

  -- of a header and the events of its session
  abbrev pub parts_by : L → Header → List Event → List ℕ
  parts_by l header events = mode.opens l header ++ shown_by l (mode.course.first header) events

  -- and of a whole session
  abbrev pub output_by : L → Header → List Event → List ℕ
  output_by l header events = parts_by l header events ++ mode.closes l header events

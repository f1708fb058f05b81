-- What the bytes of a session are for a mode: they are played whole, or refused after some events.
use Rattle.std.specs.Prelude.{◌≡◌, ℕ, List, Ok, Err, Option, None, Some, ◌⊎◌}
use Rattle.px_header.specs.declared.header.Header.{Header}
use Rattle.px_session.specs.declared.event.Event.{Event}
use Rattle.px_session.specs.declared.event.Step.TheVariants as step
use Rattle.px_session.specs.declared.form.Form.{Form}
use Rattle.px_session.specs.Place.{Place, Refusal as Broken, start_of}
use Rattle.px_session.specs.HeaderReading.{header_at}
use Rattle.px_session.specs.EventReading.{event_at}
use Rattle.px_session.specs.Session.{Ended, Events, IsSession}
use Rattle.px_session.specs.SessionLaw.{Lead}
use Rattle.px_world.specs.declared.fault.WorldFault.{WorldFault}
use Rattle.px_app.specs.declared.refusal.Refusal.{Refusal}
use Rattle.px_app.specs.Refusal.{of_bytes, of_event}
use Rattle.px_app.specs.Mode.{Course, AreAdmitted, state_after}

-- the bytes start with a header, of either form
abbrev pub HasHeader : List ℕ → Header → Type 0
HasHeader bytes header = (form : Form) × (start : Place) × (header_at (start_of bytes) ≡ Ok ((form, header), start))

-- they don't, and are refused so
abbrev pub NoneBegins : List ℕ → Refusal → Type 0
NoneBegins bytes refusal = (broken : Broken) × (header_at (start_of bytes) ≡ Err broken) × (refusal ≡ of_bytes broken)

-- what comes before a refusal: nothing, or a header and events that were played
abbrev pub Before : Type 0
Before = Option (Header × List Event)

module _ {W : Type 0} (course : Course W) where
  -- the bytes are a session, of either form, to its end byte, and its events are admitted
  pub record IsPlayed (bytes : List ℕ) (header : Header) (events : List Event) : Type 0 where
    pub form : Form
    pub session : IsSession bytes (Events form header events Ended)
    pub admitted : AreAdmitted course (course.first header) events

  -- the bytes start with a header and then these events, which are admitted; `here` is the place after them
  pub record Begins (bytes : List ℕ) (header : Header) (events : List Event) (here : Place) : Type 0 where
    pub form : Form
    pub start : Place
    pub head : header_at (start_of bytes) ≡ Ok ((form, header), start)
    pub lead : Lead form events start here
    pub admitted : AreAdmitted course (course.first header) events

  -- no event stands at `here`, or one that isn't admitted in this state, whose kind byte is at `here`
  abbrev pub StopsIn : Form → W → Place → Refusal → Type 0
  StopsIn form w here refusal =
      ((broken : Broken) × (event_at form here ≡ Err broken) × (refusal ≡ of_bytes broken))
      ⊎ ((e : Event) × (after : Place) × (fault : WorldFault) × (event_at form here ≡ Ok (step.Event e, after)) × (course.refuses w e ≡ Some fault) × (refusal ≡ of_event here.at e fault))

  -- the same, in the state after the events `before`
  abbrev pub StopsHere : Form → Header → List Event → Place → Refusal → Type 0
  StopsHere form header before here refusal = StopsIn form (state_after course header before) here refusal

  -- the bytes are refused so, after these events
  abbrev pub IsRefused : List ℕ → Refusal → Before → Type 0
  IsRefused bytes refusal before =
      (NoneBegins bytes refusal × (before ≡ None))
      ⊎ ((header : Header) × (events : List Event) × (here : Place) × (begun : Begins bytes header events here) × StopsHere begun.form header events here refusal × (before ≡ Some (header, events)))

  -- no session that is played has these bytes
  abbrev pub IsNotPlayed : List ℕ → Type 0
  IsNotPlayed bytes = (header : Header) (events : List Event) → ¬ IsPlayed bytes header events

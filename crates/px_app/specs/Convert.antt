-- What converting a session leaves: the same session in the second form.
use Rattle.std.specs.Prelude.{◌≡◌, ◌≢◌, List, [], ◌∷◌, None, Some}
use Rattle.px_types.specs.declared.status.Status.{Status}
use Rattle.px_types.specs.declared.status.Status.TheVariants as status
use Rattle.px_ends.specs.Visible.{after_adding}
use Rattle.px_header.specs.declared.header.Header.{Header}
use Rattle.px_session.specs.declared.event.Event.{Event}
use Rattle.px_session.specs.declared.form.Form.TheVariants.{Two}
use Rattle.px_session.specs.Spelling as spelling
use Rattle.px_app.specs.declared.convert_stage.Converting.{Converting}
use Rattle.px_app.specs.Ends.{Ends, Log}
use Rattle.px_app.specs.Mode.{Course, Mode}
use Rattle.px_app.specs.Plays.{Plays}

-- no world takes the events, so that none is refused
abbrev pub free_course : Course (Unit {0})
free_course = record { first = λ header. tt; refuses = λ w e. None; after = λ w e. tt }

-- the spelling of the header, of each event and of the end, in the second form
abbrev pub convert_mode : Mode (Unit {0}) (Unit {0}) (Unit {0})
convert_mode = record {
  course = free_course;
  looks = λ asked header. Some tt;
  opens = λ look header. spelling.header Two header;
  shows = λ look w e. spelling.event Two e;
  closes = λ look header events. spelling.end_byte ∷ [];
}

-- the stage was made for this header
abbrev pub IsFor : Converting → Unit {0} → Header → List Event → Type 0
IsFor stage look header events = stage.header ≡ header

-- The session was played in the mode of a conversion, and the status says what was done of it.
pub record Converts (answered : Status) (before after : Ends) (log_before log_after : Log) : Type 0 where
  pub plays : Plays convert_mode tt answered before after log_before log_after
  -- where it was played whole, the output gained it in the second form
  pub converted : (is : answered ≡ status.Ok) → after.held ≡ after_adding before.held (spelling.spelled Two (plays.ok is).header (plays.ok is).events)
  -- nothing is asked of the header
  pub named : answered ≢ status.NoSuchSink

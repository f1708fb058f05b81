-- What a replay shows of a session: the records of all that the server did, the bytes that one sink played, or a summary.
use Rattle.std.specs.Prelude.{ℕ, bytes_eq, List, [], ◌∷◌, ◌++◌, Option, Some, option_map}
use Rattle.std.specs.List.{concat, position}
use Rattle.px_header.specs.declared.header.SinkSpec.{SinkSpec}
use Rattle.px_header.specs.declared.header.Header.{Header}
use Rattle.px_session.specs.declared.event.Event.{Event}
use Rattle.px_session.specs.Spelling.{end_byte}
use Rattle.px_world.specs.World.{World, Mixer, new_world}
use Rattle.px_world.specs.Admission.{refusal_of}
use Rattle.px_world.specs.Event.{world_after}
use Rattle.px_world.specs.Output.{world_by, records_of, records_by}
use Rattle.px_world.specs.History.{played_on, played_by_run}
use Rattle.px_app.specs.declared.view.View.{View}
use Rattle.px_app.specs.declared.view.View.TheVariants as view
use Rattle.px_app.specs.declared.view.Lens.{Lens}
use Rattle.px_app.specs.declared.view.Lens.TheVariants as lens
use Rattle.px_app.specs.declared.tally.Tally.{Tally}
use Rattle.px_app.specs.Mode.{Course, Mode}
use Rattle.px_app.specs.Summary.{tally_by, tally_lines, sink_lines}

-- what is asked for, with a sink by its name
pub data Shown : Type 0 where
  Records : Shown
  Raw : List ℕ → Shown
  Summary : Shown

abbrev pub shown_of : View → Shown
shown_of view.Records = Records
shown_of (view.Raw name) = Raw name.now
shown_of view.Summary = Summary

-- the lens of a request on a session with these sinks: a sink by its index; none where no sink has the name
abbrev pub lens_of : Shown → List SinkSpec → Option Lens
lens_of Records sinks = Some lens.Records
lens_of (Raw name) sinks = option_map lens.Raw (position (λ s. bytes_eq s.name name) sinks)
lens_of Summary sinks = Some lens.Summary

-- what is shown of an event, in the world before it
abbrev pub part_of : Lens → World → Event → List ℕ
part_of lens.Records w e = records_of w e
part_of (lens.Raw k) w e = concat (played_on w e k)
part_of lens.Summary w e = []

-- what is shown after the last event: the end byte of records, or the summary
abbrev pub ending_of : Lens → Tally → List SinkSpec → List Mixer → List ℕ
ending_of lens.Records tally sinks mixers = end_byte ∷ []
ending_of (lens.Raw k) tally sinks mixers = []
ending_of lens.Summary tally sinks mixers = tally_lines tally ++ sink_lines 0 sinks mixers

abbrev pub last_part : Lens → Header → List Event → List ℕ
last_part l header events = ending_of l (tally_by (new_world header) events) header.sinks (world_by (new_world header) events).mixers

-- ---- a replay

-- the events are done by the world, which may not admit one
abbrev pub world_course : Course World
world_course = record { first = new_world; refuses = refusal_of; after = world_after }

-- a replay shows the session through the lens of what is asked for
abbrev pub replay_mode : Mode World Shown Lens
replay_mode = record { course = world_course; looks = λ shown header. lens_of shown header.sinks; opens = λ l header. []; shows = part_of; closes = last_part }

-- what is shown of the events of a run of the world: the records, or all frames that the sink plays
abbrev pub shown_of_run : Lens → World → List Event → List ℕ
shown_of_run lens.Records w events = records_by w events
shown_of_run (lens.Raw k) w events = concat (played_by_run w events k)
shown_of_run lens.Summary w events = []

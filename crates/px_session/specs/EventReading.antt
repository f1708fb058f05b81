-- The reading of an event or of the end byte: the kind, and its fields in order.
use Rattle.std.specs.Prelude.{ℕ, List, [], ◌∷◌, ◌&&◌, Ok, Err, nat_lt, ◌==◌, if◌then◌else◌}
use Rattle.px_types.specs.declared.ids.ConnId.{ConnId}
use Rattle.px_types.specs.declared.ids.SinkId.{SinkId}
use Rattle.px_session.specs.declared.form.Form.{Form}
use Rattle.px_session.specs.Form.{most_bytes, has_stop}
use Rattle.px_session.specs.declared.event.Event.{Event}
use Rattle.px_session.specs.declared.event.Event.TheVariants as event
use Rattle.px_session.specs.declared.event.Step.{Step}
use Rattle.px_session.specs.declared.event.Step.TheVariants as step
use Rattle.px_session.specs.declared.fault.Cause.TheVariants as cause
use Rattle.px_session.specs.Place.{Reading, bytes_at, done, go_on, ◌>>=◌}
use Rattle.px_session.specs.Field.{byte_at, word_at, count_at}

abbrev pub ended_by : List ℕ → Reading Step
ended_by [] place = Ok (step.End, place)
ended_by (byte ∷ rest) place = Err (record { at = place.at; cause = cause.Trailing })

-- nothing follows the end byte
unfoldable pub end_at : Reading Step
end_at place = ended_by place.rest place

abbrev pub conn_of : ℕ → ConnId
conn_of n = record { 0 = n }

-- an event that names a connection and nothing more
unfoldable pub conn_at : (ConnId → Event) → Reading Step
conn_at made = do
  conn ← word_at
  done (step.Event (made (conn_of conn)))

-- the length is checked before the bytes are read; its refusal is at the kind byte, whose offset is given
unfoldable pub sized_at : Form → ℕ → ℕ → Reading (List ℕ)
sized_at form kind_at size place =
    if nat_lt (most_bytes form) size
    then Err (record { at = kind_at; cause = cause.TooLong size })
    else bytes_at size place

unfoldable pub data_at : Form → ℕ → Reading Step
data_at form kind_at = do
  conn ← word_at
  size ← count_at form
  bytes ← sized_at form kind_at size
  done (step.Event (event.Bytes (conn_of conn) bytes))

unfoldable pub turn_at : Form → Reading Step
turn_at form = do
  sink ← byte_at
  frames ← count_at form
  messages ← count_at form
  done (step.Event (event.Turn sink frames messages))

unfoldable pub collect_at : Form → Reading Step
collect_at form = do
  sink ← byte_at
  notices ← count_at form
  done (step.Event (event.Collect sink notices))

abbrev pub no_event_at : ℕ → ℕ → Reading Step
no_event_at kind_at kind place = Err (record { at = kind_at; cause = cause.Kind kind })

abbrev pub sink_of : ℕ → SinkId
sink_of n = record { 0 = n }

unfoldable pub stop_at : Reading Step
stop_at = do
  sink ← byte_at
  done (step.Event (event.Stop (sink_of sink)))

-- the fields after the kind byte at this offset
unfoldable pub fields_at : Form → ℕ → ℕ → Reading Step
fields_at form kind_at kind =
    if kind == 0 then end_at
    else if kind == 1 then conn_at event.Connect
    else if kind == 2 then data_at form kind_at
    else if kind == 3 then conn_at event.Close
    else if kind == 4 then conn_at event.Cut
    else if kind == 5 then turn_at form
    else if kind == 6 then collect_at form
    else if has_stop form && kind == 7 then stop_at
    else no_event_at kind_at kind

unfoldable pub event_at : Form → Reading Step
event_at form place = go_on (byte_at place) (fields_at form place.at)

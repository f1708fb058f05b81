-- The rest of a sink, and of a header, once its first fields are read.
use Rattle.std.specs.Prelude.{ℕ, List, []}
use Rattle.px_sample.specs.declared.spec.Spec.{Spec}
use Rattle.px_header.specs.declared.header.SinkSpec.{SinkSpec}
use Rattle.px_header.specs.declared.header.Header.{Header}
use Rattle.px_session.specs.declared.form.Form.{Form}
use Rattle.px_session.specs.Place.{Reading, done, ◌>>=◌}
use Rattle.px_session.specs.Field.{byte_at, ruled}
use Rattle.px_header.specs.HeaderRules.{is_from_to}
use Rattle.px_session.specs.HeaderReading.{more_at, position_at, room_at, sink_at}

-- the sink with this name and this sample spec
unfoldable pub rest_of_sink_at : List ℕ → Spec → Reading SinkSpec
rest_of_sink_at name spec = do
  map ← more_at position_at [] spec.channels
  room ← room_at
  done (record { name = name; spec = spec; map = map; guard = room.guard; depth = room.depth })

-- the form, and the header with this cookie
unfoldable pub rest_of_header_at : Form → List ℕ → Reading (Form × Header)
rest_of_header_at form cookie = do
  count ← ruled (is_from_to 1 16) byte_at
  sinks ← more_at sink_at [] count
  done (form, record { cookie = cookie; sinks = sinks })

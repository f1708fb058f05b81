-- The replies to the stream commands, and the messages that the server sends by itself.
use Rattle.std.specs.Prelude.{ℕ, false, List, ◌++◌, slice_index, Some}
use Rattle.px_tag.specs.Item.{number, text, flag, usec, wide, signed, time, spec, channel_map}
use Rattle.px_reply.specs.declared.played.Created.{Created}
use Rattle.px_reply.specs.declared.played.LatencyFields.{LatencyFields}
use Rattle.px_reply.specs.Front.{reply_to, message, with_attributes}

-- CREATE_PLAYBACK_STREAM: stream, input, the bytes requested, attributes, spec, map, sink index and name, not suspended, microseconds of
-- latency
abbrev pub created_reply : ℕ → Created → List ℕ
created_reply tag c = with_attributes (reply_to tag ++ number c.stream ++ number c.input ++ number (slice_index c.attr 1)) c.attr ++ spec c.spec ++ channel_map c.map ++ number c.sink ++ text (Some c.name) ++ flag false ++ usec c.usec

-- GET_PLAYBACK_LATENCY: microseconds buffered, of a source none, whether it plays, the client's time twice, write and
-- read index, bytes of underrun, bytes playing
abbrev pub latency_reply : ℕ → LatencyFields → List ℕ
latency_reply tag l = reply_to tag ++ usec l.usec ++ usec 0 ++ flag l.playing ++ time l.time ++ time l.time ++ signed l.write ++ signed l.read ++ wide l.underrun ++ wide l.played

-- SET_PLAYBACK_STREAM_BUFFER_ATTR: the attributes as repaired, microseconds of latency
abbrev pub attributes_reply : ℕ → List ℕ → ℕ → List ℕ
attributes_reply tag attr latency = with_attributes (reply_to tag) attr ++ usec latency

-- PLAYBACK_STREAM_MOVED: stream, sink index and name, not suspended, attributes, microseconds of latency
abbrev pub moved_message : ℕ → ℕ → List ℕ → List ℕ → ℕ → List ℕ
moved_message stream sink name attr latency = with_attributes (message 78 ++ number stream ++ number sink ++ text (Some name) ++ flag false) attr ++ usec latency

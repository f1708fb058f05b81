-- What the two commands do: the checks in order, and the reply.
use Rattle.std.specs.Prelude.{◌≡◌, ℕ, ◌*◌, ◌/◌, ◌<◌, ◌≤◌, min, max, Bool, true, false, not, cond, ◌&&◌, nat_eq, nat_lt, List, ◌++◌, length, slice_get, find, bytes_eq, Option, None, Some, Result, Ok, Err}
use Rattle.std.specs.List.{list_any}
use Rattle.px_types.specs.declared.ids.ConnId.{ConnId}
use Rattle.px_types.specs.declared.error_code.ErrorCode.TheVariants.{Invalid, NoEntity, NotSupported, TooLarge}
use Rattle.px_types.specs.ErrorCode.{code_of}
use Rattle.px_tag.specs.declared.fault.TagFault.{TagFault}
use Rattle.px_tag.specs.Item.{number, text, flag, usec, spec, channel_map}
use Rattle.px_tag.specs.Place.{Place, start_of}
use Rattle.px_cmd.specs.declared.fault.CmdFault.{CmdFault}
use Rattle.px_cmd.specs.declared.fault.CmdFault.TheVariants.{Protocol, Unknown, Unsupported, NoMemory}
use Rattle.px_cmd.specs.Packet.{head_at}
use Rattle.px_reply.specs.Front.{reply_to, refusal}
use Rattle.px_sample.specs.Format.{code_of as format_code, frame_size_of}
use Rattle.px_sample.specs.declared.spec.Spec.{Spec}
use Rattle.px_outcome.specs.declared.refusal.Refusal.{Refusal}
use Rattle.px_outcome.specs.declared.refusal.Refusal.TheVariants.{Code, NoMemory as OutOfMemory}
use Rattle.px_outcome.specs.declared.target.Target.{Target}
use Rattle.px_outcome.specs.Handled.{Handled, ◌>>=◌, check, present}
use Rattle.px_outcome.specs.Target.{raw_of}
use Rattle.px_ctl_play.specs.Asked.{is_spec, is_map}
use Rattle.px_monitor.specs.declared.fields.RecordFields.{RecordFields}
use Rattle.px_monitor.specs.declared.command.Request.{Request}
use Rattle.px_monitor.specs.declared.command.Request.TheVariants.{Create, Delete}
use Rattle.px_monitor.specs.declared.answer.Answer.{Answer}
use Rattle.px_monitor.specs.declared.answer.Answer.TheVariants.{Packet, Fault}
use Rattle.px_monitor.specs.declared.recording.Recording.{Recording}
use Rattle.px_monitor.specs.Command.{request_at}
use Rattle.px_monitor.specs.Records.{Records, streams_of, is_stream, count_of, with_stream, without_stream}

-- the index that names nothing
abbrev pub NO_INDEX : ℕ
NO_INDEX = 0xFFFFFFFF

-- ---- what is lawful: the spec and the map of the stream

abbrev pub is_lawful : RecordFields → Bool
is_lawful a = is_spec a.spec && is_map a.spec a.map

-- ---- the source that a packet names: by index, by name, or by neither the first; both at once are refused

-- the place of the source that has the index, where an index is given
abbrev pub place_of : ℕ → ℕ
place_of index = cond (nat_eq index NO_INDEX) 0 index

abbrev pub named : List Target → ℕ → Option (List ℕ) → Handled Target
named sources index None = present (slice_get sources (place_of index)) NoEntity
named sources index (Some name) = do
  one ← check (nat_eq index NO_INDEX) Invalid
  present (find (λ source. bytes_eq (Target.name source) name) sources) NoEntity

-- ---- the streams that a source gives: its own spec and map, where the client doesn't leave them to the source

abbrev pub is_own_format : Target → RecordFields → Bool
is_own_format source a = cond a.fix_format true (nat_eq a.spec.format (format_code source.spec.format))

abbrev pub is_own_rate : Target → RecordFields → Bool
is_own_rate source a = cond a.fix_rate true (nat_eq a.spec.rate source.spec.rate)

abbrev pub are_own_channels : Target → RecordFields → Bool
are_own_channels source a = cond a.fix_channels true (nat_eq a.spec.channels source.spec.channels && bytes_eq a.map source.map)

-- no floating point, no variable rate, no peak detection; neither corked nor the record of a single input
abbrev pub is_plain : RecordFields → Bool
is_plain a =
    not (nat_eq a.spec.format 5) && not (nat_eq a.spec.format 6)
    && not a.variable_rate && not a.peak_detect && not a.corked
    && nat_eq a.direct_input NO_INDEX

abbrev pub is_supported : Target → RecordFields → Bool
is_supported source a = is_plain a && is_own_format source a && is_own_rate source a && are_own_channels source a

-- ---- the room for it

-- the most record streams of a connection, and the number that no stream and no source output has
abbrev pub MOST_STREAMS : ℕ
MOST_STREAMS = 64

abbrev pub LAST_INDEX : ℕ
LAST_INDEX = 0xFFFFFFFF

abbrev pub has_room : ConnId → Records → Bool
has_room conn records =
    nat_lt (length (streams_of conn records.streams)) MOST_STREAMS
    && nat_lt (count_of conn records.counts) LAST_INDEX
    && nat_lt records.next_output LAST_INDEX

-- ---- the new record stream

-- the most bytes of its data that wait for the client
abbrev pub maxlength_of : RecordFields → ℕ
maxlength_of a = min a.maxlength 4194304

-- the bytes of a data frame: at most 65,536, whole frames, at least one
abbrev pub fragsize_of : Spec → ℕ → ℕ
fragsize_of spec asked = max (frame_size_of spec) (min asked 65536 / frame_size_of spec * frame_size_of spec)

abbrev pub recording_of : ConnId → Target → RecordFields → Records → Recording
recording_of conn source a records = record {
  conn = conn;
  stream = count_of conn records.counts;
  output = records.next_output;
  sink = source.index;
  fragsize = fragsize_of source.spec a.fragsize;
}

-- stream, source output, maxlength, fragsize, spec, map, source index and name, not suspended, microseconds of latency
abbrev pub created_reply : ℕ → Target → ℕ → Recording → List ℕ
created_reply tag source maxlength r =
    reply_to tag ++ number r.stream ++ number r.output ++ number maxlength ++ number r.fragsize
    ++ spec (raw_of source.spec) ++ channel_map source.map ++ number source.index.0 ++ text (Some source.name) ++ flag false ++ usec 0

-- ---- the commands: the table after them, and the reply

abbrev pub Done : Type 0
Done = Records × List ℕ

-- the new record stream, and the reply
abbrev pub made : ConnId → ℕ → RecordFields → Records → Handled (Recording × List ℕ)
made conn tag a records = do
  lawful ← check (is_lawful a) Invalid
  source ← named records.sources a.source.index a.source.name
  supported ← check (is_supported source a) NotSupported
  room ← check (has_room conn records) TooLarge
  Ok (recording_of conn source a records, created_reply tag source (maxlength_of a) (recording_of conn source a records))

abbrev pub create : ConnId → ℕ → RecordFields → Records → Handled Done
create conn tag a records = do
  new ← made conn tag a records
  Ok (with_stream new.0 records, new.1)

abbrev pub delete : ConnId → ℕ → ℕ → Records → Handled Done
delete conn tag stream records = do
  there ← check (list_any (is_stream conn stream) records.streams) NoEntity
  Ok (without_stream conn stream records, reply_to tag)

abbrev pub handled : ConnId → ℕ → Request → Records → Handled Done
handled conn tag (Create a) records = create conn tag a records
handled conn tag (Delete stream) records = delete conn tag stream records

-- ---- the answer to a packet

abbrev pub Answered : Type 0
Answered = Records × Answer

-- the reply; or the error, after which the table is as it was
abbrev pub replied : ℕ → Records → Handled Done → Answered
replied tag records (Ok done) = (done.0, Packet done.1)
replied tag records (Err (Code code)) = (records, Packet (refusal tag (code_of code)))
replied tag records (Err OutOfMemory) = (records, Packet (refusal tag (code_of NotSupported)))

-- a fault in the fields changes nothing; neither does another command, which isn't supported here
abbrev pub requested : ConnId → ℕ → Records → Result Request CmdFault → Answered
requested conn tag records (Ok request) = replied tag records (handled conn tag request records)
requested conn tag records (Err (Protocol fault)) = (records, Fault fault)
requested conn tag records (Err (Unknown number)) = (records, Packet (refusal tag (code_of NotSupported)))
requested conn tag records (Err (Unsupported number)) = (records, Packet (refusal tag (code_of NotSupported)))
requested conn tag records (Err NoMemory) = (records, Packet (refusal tag (code_of NotSupported)))

abbrev pub after_head : ℕ → ConnId → Records → Result ((ℕ × ℕ) × Place) TagFault → Answered
after_head version conn records (Err fault) = (records, Fault fault)
after_head version conn records (Ok head) = requested conn head.0.1 records (request_at version head.0.0 head.1)

-- the answer to a packet of a connection at its version
abbrev pub answer : ℕ → ConnId → List ℕ → Records → Answered
answer version conn packet records = after_head version conn records (head_at (start_of packet))

-- ---- the answers of the calls

-- the answer, with the table after it; without memory nothing is said of it
abbrev pub IsAnswer : {E : Type 0} → Result Answer E → Records → Answered → Type 0
IsAnswer (Ok given) after expected = expected ≡ (after, given)
IsAnswer (Err error) after expected = Unit {0}

-- a frame can carry the packet
pub record IsCarried (packet : List ℕ) : Type 0 where
  pub some : 0 < length packet
  pub few : length packet ≤ 16777216

abbrev pub CanBeSent : Answer → Type 0
CanBeSent (Packet packet) = IsCarried packet
CanBeSent (Fault fault) = Unit {0}

-- A command's call answered what its handler gives, with the table after it, or the handler's refusal, after which the table is as it was;
-- NoMemory is always allowed.
abbrev pub IsDone : Result (List ℕ) Refusal → Records → Handled Done → Type 0
IsDone (Ok reply) after handled = handled ≡ Ok (after, reply)
IsDone (Err (Code code)) after handled = handled ≡ Err (Code code)
IsDone (Err OutOfMemory) after handled = Unit {0}

-- What the server's packets are to a client that waits for a reply.
use Rattle.std.specs.Prelude.{◌≡◌, ℕ, zero, suc, Bool, List, [], ◌∷◌, length, Result, Ok, Err, ◌==◌, if◌then◌else◌, ⊤}
use Rattle.px_tag.specs.declared.fault.TagFault.{TagFault}
use Rattle.px_tag.specs.declared.fault.ListFault.{ListFault}
use Rattle.px_tag.specs.declared.fault.ListFault.TheVariants.{Tag, NoMemory}
use Rattle.px_tag.specs.Place.{Place, Reading, start_of, ◌>>=◌}
use Rattle.px_tag.specs.Reading.{number_at, usec_at, flag_at, text_at, spec_at, map_at, volumes_at, proplist_at, end_at}
use Rattle.px_cmd.specs.Packet.{head_at}
use Rattle.px_client.specs.declared.inputs.Input.{Input}
use Rattle.px_client.specs.declared.awaited.Awaited.{Awaited}
use Rattle.px_client.specs.declared.awaited.Awaited.TheVariants.{Version, Client, Nothing, List as all_inputs}
use Rattle.px_client.specs.declared.answer.Verdict.{Verdict}
use Rattle.px_client.specs.declared.answer.Verdict.TheVariants.{Message, Reply, Refusal, Other}

-- ---- a sink input: index, name, module, client, sink; spec, map, volume; buffer's and sink's latency, resample method, driver, mute,
-- properties. The client shows its index, sink, volume and mute

unfoldable pub owner_at : Reading (ℕ × ℕ)
owner_at place = do
  index ← number_at place
  name ← text_at index.1
  owner ← number_at name.1
  client ← number_at owner.1
  sink ← number_at client.1
  Ok ((index.0, sink.0), sink.1)

unfoldable pub loudness_at : Reading (List ℕ)
loudness_at place = do
  spec ← spec_at place
  map ← map_at spec.1
  volumes_at map.1

unfoldable pub state_at : Reading Bool
state_at place = do
  buffered ← usec_at place
  latency ← usec_at buffered.1
  method ← text_at latency.1
  driver ← text_at method.1
  mute ← flag_at driver.1
  list ← proplist_at mute.1
  Ok (mute.0, list.1)

unfoldable pub input_at : Reading Input
input_at place = do
  owner ← owner_at place
  volume ← loudness_at owner.1
  mute ← state_at volume.1
  Ok (record { index = owner.0.0; sink = owner.0.1; volume = volume.0; mute = mute.0 }, mute.1)

-- ---- the fields of a reply, up to the packet's end

-- none where the packet ends
abbrev pub none_or : Result Unit TagFault → Result (List Input) TagFault → Result (List Input) TagFault
none_or (Ok end) others = Ok []
none_or (Err more) others = others

-- inputs; each has at least one byte, so the packet's length bounds their number
abbrev pub inputs_at : ℕ → Place → Result (List Input) TagFault
inputs_at zero place = end_at place >>= λ end. Ok []
inputs_at (suc most) place = none_or (end_at place) (input_at place >>= λ first. inputs_at most first.1 >>= λ others. Ok (first.0 ∷ others))

unfoldable pub only_number : Place → Result ℕ TagFault
only_number place = number_at place >>= λ number. end_at number.1 >>= λ nothing. Ok number.0

-- the fields of the awaited reply in a packet of at most this many bytes: to AUTH the server's version, to SET_CLIENT_NAME the client's index, to GET_SINK_INPUT_INFO_LIST the
-- inputs, to any other command nothing
abbrev pub fields_at : Awaited → ℕ → Place → Result (List Input) TagFault
fields_at Version most place = only_number place >>= λ version. Ok []
fields_at Client most place = only_number place >>= λ client. Ok []
fields_at Nothing most place = end_at place >>= λ nothing. Ok []
fields_at all_inputs most place = inputs_at most place

-- ---- a packet

-- the tag of the command whose reply is awaited
abbrev pub tag_of : Awaited → ℕ
tag_of Version = 0
tag_of Client = 1
tag_of Nothing = 2
tag_of all_inputs = 2

abbrev pub reply_by : Result (List Input) TagFault → Verdict
reply_by (Ok inputs) = Reply inputs
reply_by (Err fault) = Other

abbrev pub refusal_by : Result ℕ TagFault → Verdict
refusal_by (Ok code) = Refusal code
refusal_by (Err fault) = Other

-- a packet of this size with this command, this tag and fields from a place on: a message, whatever it says; the awaited reply; an error with the awaited
-- tag; or none of these
abbrev pub judged_by : Awaited → ℕ → ℕ → ℕ → Place → Verdict
judged_by awaited size command tag place =
    if tag == 0xFFFFFFFF then Message
    else if tag == tag_of awaited then
    (if command == 2 then reply_by (fields_at awaited size place)
    else if command == 0 then refusal_by (only_number place)
    else Other)
    else Other

abbrev pub judged_behind : Awaited → ℕ → Result ((ℕ × ℕ) × Place) TagFault → Verdict
judged_behind awaited size (Ok head) = judged_by awaited size head.0.0 head.0.1 head.1
judged_behind awaited size (Err fault) = Other

unfoldable pub judged : Awaited → List ℕ → Verdict
judged awaited packet = judged_behind awaited (length packet) (head_at (start_of packet))

-- ---- the answers of the calls

-- A call that takes memory answered what is read at a place, and the reader is past it; or it answered the fault.
abbrev pub Takes : {X Y : Type 0} → (X → Y) → Result X ListFault → Place → Result (Y × Place) TagFault → Type 0
Takes view (Ok x) after read = read ≡ Ok (view x, after)
Takes view (Err (Tag fault)) after read = read ≡ Err fault
Takes view (Err NoMemory) after read = ⊤

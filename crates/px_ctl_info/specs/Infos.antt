-- The infos of sinks and of sink inputs (PulseAudio: `sink_fill_tagstruct`, `sink_input_fill_tagstruct`, `command_get_info` and
-- `command_get_info_list` of pulsecore/protocol-native.c).
use Rattle.std.specs.Prelude.{⊤, ℕ, ◌+◌, ◌≤◌, cond, List, [], ◌∷◌, flat_map, slice_get, Option, None, Some, Ok, IsTrue}
use Rattle.px_types.specs.declared.error_code.ErrorCode.TheVariants.{Invalid, NoEntity}
use Rattle.px_tag.specs.Item.{IsText, is_text}
use Rattle.px_tag.specs.PropList.{Property}
use Rattle.px_types.specs.declared.ids.InputId.{InputId}
use Rattle.px_flat.specs.declared.member.Member.{Member}
use Rattle.px_flat.specs.Member.{is_input}
use Rattle.px_flat.specs.FlatVolume.{FlatGroup, member_of}
use Rattle.px_names.specs.declared.input_lists.InputList.{InputList}
use Rattle.px_names.specs.InputLists.{list_of}
use Rattle.px_reply.specs.declared.info.SinkInfo.{SinkInfo}
use Rattle.px_reply.specs.declared.info.InputInfo.{InputInfo}
use Rattle.px_reply.specs.Front.{reply_to}
use Rattle.px_reply.specs.Info.{with_sink, with_input, sinks_reply, inputs_reply}
use Rattle.px_outcome.specs.declared.input.Input.{Input}
use Rattle.px_outcome.specs.declared.target.Target.{Target}
use Rattle.px_outcome.specs.declared.target.Named.{Named}
use Rattle.px_outcome.specs.Input.{goes_on}
use Rattle.px_outcome.specs.Outcome.{OutcomeParts, replied}
use Rattle.px_outcome.specs.Handled.{Handled, ◌>>=◌, check, present}
use Rattle.px_outcome.specs.Target.{is_clear, target_of, raw_of}
use Rattle.px_ctl_info.specs.Properties.{STREAM_NAME, text_under}

-- ---- the limits of a packet: a name without a zero byte, and up to 32 channels

abbrev pub IsSinkInfo : SinkInfo → Type 0
IsSinkInfo info = IsTrue (is_text info.name) × (info.spec.channels ≤ 32)

abbrev pub IsInputInfo : InputInfo → Type 0
IsInputInfo info = IsText info.name × (info.spec.channels ≤ 32)

-- ---- sinks, each with the group of its index

-- the volume of a sink is the reference volume of its group, and not the real one
abbrev pub sink_of : Target → FlatGroup → SinkInfo
sink_of sink group = record {
  index = sink.index.0;
  name = sink.name;
  spec = raw_of sink.spec;
  map = sink.map;
  volume = group.reference;
  mute = group.muted;
}

abbrev pub group_on : List FlatGroup → Target → Option FlatGroup
group_on groups sink = slice_get groups sink.index.0

-- GET_SINK_INFO of the named sink, at a version
abbrev pub sink_info : {M G : Type 0} → Named → List FlatGroup → ℕ → ℕ → Handled (OutcomeParts M G)
sink_info named groups version tag = do
  clear ← check (is_clear named) Invalid
  sink ← present (target_of named) NoEntity
  group ← present (group_on groups sink) NoEntity
  Ok (replied (with_sink version (reply_to tag) (sink_of sink group)) [])

-- a sink, where it has a group
abbrev pub sinks_with : Target → Option FlatGroup → List SinkInfo
sinks_with sink None = []
sinks_with sink (Some group) = sink_of sink group ∷ []

abbrev pub sink_info_list : List FlatGroup → List Target → List SinkInfo
sink_info_list groups sinks = flat_map (λ s. sinks_with s (group_on groups s)) sinks

-- GET_SINK_INFO_LIST, at a version
abbrev pub sink_infos : {M G : Type 0} → List Target → List FlatGroup → ℕ → ℕ → Handled (OutcomeParts M G)
sink_infos sinks groups version tag = Ok (replied (sinks_reply version tag (sink_info_list groups sinks)) [])

-- ---- sink inputs, each as a member of its sink's group, and with its property list

abbrev pub member_with : Option FlatGroup → Input → Option Member
member_with None x = None
member_with (Some group) x = member_of group.members x.index

-- the indices of members rise: each is at least `least`, and above those before it
abbrev pub RisesFrom : ℕ → List Member → Type 0
RisesFrom least [] = ⊤
RisesFrom least (m ∷ members) = (least ≤ m.input.0) × RisesFrom (m.input.0 + 1) members

-- the first member, where it has this index
abbrev pub first_of : InputId → List Member → Option Member
first_of input [] = None
first_of input (m ∷ members) = cond (is_input input m) (Some m) None

-- a moving input is on the sink that it comes from
abbrev pub member_on : List FlatGroup → Input → Option Member
member_on groups x = member_with (slice_get groups x.sink.0) x

abbrev pub input_of : Input → Member → List Property → InputInfo
input_of x m list = record {
  index = x.index.0;
  name = text_under list STREAM_NAME;
  client = x.client;
  sink = x.sink.0;
  spec = raw_of x.spec;
  map = x.map;
  volume = m.volume;
  mute = m.muted;
  list = list;
}

-- GET_SINK_INPUT_INFO of this input
abbrev pub input_info : {M G : Type 0} → Option Input → List FlatGroup → List InputList → ℕ → Handled (OutcomeParts M G)
input_info input groups lists tag = do
  x ← present input NoEntity
  m ← present (member_on groups x) NoEntity
  Ok (replied (with_input (reply_to tag) (input_of x m (list_of lists (Input.index x)))) [])

-- a live input, where it is a member
abbrev pub inputs_with : List InputList → Input → Option Member → List InputInfo
inputs_with lists x None = []
inputs_with lists x (Some m) = input_of x m (list_of lists x.index) ∷ []

abbrev pub input_info_of : List FlatGroup → List InputList → Input → List InputInfo
input_info_of groups lists x = cond (goes_on x) (inputs_with lists x (member_on groups x)) []

abbrev pub input_info_list : List FlatGroup → List InputList → List Input → List InputInfo
input_info_list groups lists inputs = flat_map (input_info_of groups lists) inputs

-- GET_SINK_INPUT_INFO_LIST: ended inputs are left out
abbrev pub input_infos : {M G : Type 0} → List Input → List FlatGroup → List InputList → ℕ → Handled (OutcomeParts M G)
input_infos inputs groups lists tag = Ok (replied (inputs_reply tag (input_info_list groups lists inputs)) [])

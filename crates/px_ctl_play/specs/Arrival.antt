-- The sink that an input was on has detached its stream: the input leaves the group of that sink and is on the sink that it moves to, in whose group
-- its ratios stay (PulseAudio: `pa_sink_input_finish_move` of pulsecore/sink-input.c; that messages wait meanwhile is own).
use Rattle.std.specs.Prelude.{◌≡◌, ◌≤◌, ℕ, Bool, ◌&&◌, ◌||◌, List, [], ◌∷◌, filter, length, replicate, Option, None, Some, IfSome}
use Rattle.px_types.specs.declared.ids.InputId.{InputId}
use Rattle.px_types.specs.declared.ids.SinkId.{SinkId}
use Rattle.px_model.specs.Frame.{SampleSpec}
use Rattle.px_flat.specs.declared.member.How.TheVariants.{Kept}
use Rattle.px_flat.specs.declared.member.Member.{Member}
use Rattle.px_flat.specs.Member.{channels_of}
use Rattle.px_flat.specs.FlatVolume.{FlatGroup, member_of, attached, detached}
use Rattle.px_msg.specs.declared.message.Msg.{Msg}
use Rattle.px_msg.specs.declared.message.Msg.TheVariants.{Attach}
use Rattle.px_msg.specs.View.{sample_spec}
use Rattle.px_reply.specs.Message.{moved_message}
use Rattle.px_outcome.specs.declared.change.Change.{Change}
use Rattle.px_outcome.specs.declared.change.Change.TheVariants.{Arrives, Released}
use Rattle.px_outcome.specs.declared.input.Connection.{Connection}
use Rattle.px_outcome.specs.declared.input.Input.{Input}
use Rattle.px_outcome.specs.declared.sending.Sending.{Sending}
use Rattle.px_outcome.specs.declared.target.Target.{Target}
use Rattle.px_outcome.specs.Input.{has_index, is_settled, settled_on}
use Rattle.px_outcome.specs.Outcome.{OutcomeParts}
use Rattle.px_ctl_play.specs.Answer.{sent_to}
use Rattle.px_ctl_play.specs.Create.{latency_of}
use Rattle.px_ctl_play.specs.Factors.{own_factors, regrouped}
use Rattle.px_ctl_play.specs.Move.{feed_to}
use Rattle.px_ctl_play.specs.Notified.{bytes_asked, has_left, same_spec}

-- a stream with this spec is what a sink hands over for an input: the sink got the message to do so, and the spec is the input's
abbrev pub hands_over : SampleSpec → Input → Bool
hands_over spec x = has_left x.way && same_spec spec (sample_spec x.spec)

-- ---- the message to the client: the sink, the attributes of its stream in bytes, and the longest time that a frame waits

abbrev pub attributes_in_bytes : Input → List ℕ
attributes_in_bytes x =
    bytes_asked x x.attr.maxlength ∷ bytes_asked x x.attr.tlength ∷ bytes_asked x x.attr.prebuf ∷ bytes_asked x x.attr.minreq ∷ []

abbrev pub arrived_message : Input → Target → List ℕ
arrived_message x sink = moved_message x.stream sink.index.0 sink.name (attributes_in_bytes x) (latency_of sink)

-- ---- the groups

-- that of the new sink: the input retains both ratios, and its mute
abbrev pub joined_by : InputId → Member → List ℕ → FlatGroup → FlatGroup
joined_by index m feed group = attached index m.volume (Kept m.ratios) m.muted feed group

-- the inputs that are settled on the new sink then
abbrev pub is_settled_with : SinkId → InputId → Input → Bool
is_settled_with sink index x = is_settled sink x || has_index index x

abbrev pub settled_with : List Input → SinkId → InputId → List Input
settled_with inputs sink index = filter (is_settled_with sink index) inputs

-- ---- the outcome, but for the message that brings the stream to the new sink, which its parcel makes

pub record Arriving (M G : Type 0) : Type 0 where
  -- the stream channel that feeds each channel of the new sink, and the factor of each
  pub feed : List ℕ
  pub factors : List ℕ
  -- the packets to clients
  pub notified : List Sending
  -- the changes after the arrival
  pub later : List (Change M G)

-- the groups of both sinks are set
abbrev pub both_regrouped : {P : Type 0} → Input → FlatGroup → SinkId → FlatGroup → List Input → List (Change (Msg P) FlatGroup)
both_regrouped x from sink group inputs =
    regrouped x.sink from (settled_on inputs x.sink) ∷ regrouped sink group (settled_with inputs sink x.index) ∷ []

-- the old sink has this group and gets the factors of the inputs that stay; the new one, after the stream, those of all that are settled there then,
-- and the input's held messages
abbrev pub later : {P : Type 0} → Input → FlatGroup → SinkId → FlatGroup → List Input → ℕ → List (Change (Msg P) FlatGroup)
later x from sink group inputs waited =
    regrouped x.sink from (settled_on inputs x.sink) ∷ regrouped sink group (settled_with inputs sink x.index) ∷ replicate waited (Released x.index)

abbrev pub arrival_of : {P : Type 0} → Input → Member → List ℕ → FlatGroup → FlatGroup → Target → Option Connection → List Input → ℕ → Arriving (Msg P) FlatGroup
arrival_of x m feed from group sink owner inputs waited = record {
  feed = feed;
  factors = own_factors (joined_by x.index m feed group) x.index;
  notified = sent_to owner (arrived_message x sink);
  later = later x (detached x.index from) sink.index (joined_by x.index m feed group) inputs waited;
}

-- where it is in the group of its old sink, and there is a channel plan
abbrev pub arrival_by : {P : Type 0} → Input → Option Member → Option (List ℕ) → FlatGroup → FlatGroup → Target → Option Connection → List Input → ℕ → Option (Arriving (Msg P) FlatGroup)
arrival_by x None feed from group sink owner inputs waited = None
arrival_by x (Some m) None from group sink owner inputs waited = None
arrival_by x (Some m) (Some feed) from group sink owner inputs waited = Some (arrival_of x m feed from group sink owner inputs waited)

-- from a sink with the group `from` to this one with `group`
abbrev pub arrive : {P : Type 0} → Input → FlatGroup → FlatGroup → Target → Option Connection → List Input → ℕ → Option (Arriving (Msg P) FlatGroup)
arrive x from group sink owner inputs waited =
    arrival_by x (member_of from.members x.index) (feed_to x sink.map) from group sink owner inputs waited

-- ---- the whole outcome

abbrev pub arriving_with : {P : Type 0} → InputId → P → Arriving (Msg P) FlatGroup → OutcomeParts (Msg P) FlatGroup
arriving_with index parcel a = record {
  reply = None;
  errors = [];
  notified = a.notified;
  changes = Arrives index (Attach index parcel a.feed a.factors) ∷ a.later;
}

-- ---- the groups of both sinks

-- the group of the old sink has a channel, and the input there as many as its map
pub record HasChannels (x : Input) (from : FlatGroup) : Type 0 where
  pub some : 1 ≤ length from.reference
  pub own : IfSome (member_of from.members x.index) (λ m. channels_of (Member.feed m) ≡ length x.map)

-- the group of the new sink can take the input: it has the sink's channels, and not the input yet
pub record CanJoin (sink : Target) (index : InputId) (group : FlatGroup) : Type 0 where
  pub channels : length group.reference ≡ sink.spec.channels
  pub new : member_of group.members index ≡ None

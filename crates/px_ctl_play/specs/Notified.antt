-- Notices from a sink about a stream (PulseAudio: `sink_input_process_msg` and the callbacks of pulsecore/protocol-native.c; which notices fit is
-- own).
use Rattle.std.specs.Prelude.{ℕ, ◌-◌, ◌*◌, ◌^◌, min, Bool, true, false, cond, ◌&&◌, nat_eq, List, [], ◌∷◌, ◌++◌, Option, None, Some, IsSome, ⊤}
use Rattle.px_tag.specs.Item.{number}
use Rattle.px_sample.specs.Format.{frame_size_of}
use Rattle.px_model.specs.Frame.{SampleSpec}
use Rattle.px_flat.specs.FlatVolume.{FlatGroup, member_of, detached}
use Rattle.px_msg.specs.declared.message.Msg.{Msg}
use Rattle.px_msg.specs.View.{sample_spec}
use Rattle.px_reply.specs.Front.{message}
use Rattle.px_outcome.specs.declared.change.Change.TheVariants.{Gone}
use Rattle.px_outcome.specs.declared.input.Connection.{Connection}
use Rattle.px_outcome.specs.declared.input.Input.{Input}
use Rattle.px_outcome.specs.declared.input.Way.{Way}
use Rattle.px_outcome.specs.declared.input.Way.TheVariants.{Coming, There, Left}
use Rattle.px_outcome.specs.Input.{is_leaving, goes_on, settled_on}
use Rattle.px_outcome.specs.Outcome.{OutcomeParts, idle, changing, notifying}
use Rattle.px_ctl_play.specs.declared.notified.News.{News}
use Rattle.px_ctl_play.specs.declared.notified.News.TheVariants.{Request, Overflow, Underflow, Started}
use Rattle.px_ctl_play.specs.Factors.{regrouped}

-- ---- a notice about a stream: a message to the client, where both are live

-- the size of `frames` frames in bytes, saturated to 32 bits
abbrev pub bytes_asked : Input → ℕ → ℕ
bytes_asked x frames = min (frames * frame_size_of x.spec) (2 ^ 32 - 1)

abbrev pub message_of : News → Input → List ℕ
message_of (Request frames) x = message 61 ++ number x.stream ++ number (bytes_asked x frames)
message_of Overflow x = message 62 ++ number x.stream
message_of Underflow x = message 63 ++ number x.stream
message_of Started x = message 86 ++ number x.stream

-- the input is the one on the sink that the notice names, and the connection is the input's, each where it exists and is live
abbrev pub notified : {P : Type 0} → Option Input → Option Connection → News → OutcomeParts (Msg P) FlatGroup
notified None owner news = idle
notified (Some x) None news = idle
notified (Some x) (Some c) news = cond (goes_on x) (notifying c.conn (message_of news x)) idle

-- ---- a sink has detached a stream

abbrev pub has_left : Way → Bool
has_left Coming = false
has_left There = false
has_left Left = true

abbrev pub same_spec : SampleSpec → SampleSpec → Bool
same_spec a b = nat_eq a.format b.format && nat_eq a.channels b.channels && nat_eq a.rate b.rate

-- it fits where the sink got the message to detach it, and the parcel is of the input
abbrev pub gives_up : SampleSpec → Input → Bool
gives_up spec x = is_leaving x.standing && has_left x.way && same_spec spec (sample_spec x.spec)

-- an ended input is removed and leaves the group of its sink, to which the factors of those that stay are posted
abbrev pub gone : {P : Type 0} → Input → Option FlatGroup → List Input → OutcomeParts (Msg P) FlatGroup
gone x None inputs = idle
gone x (Some group) inputs = changing (Gone x.index ∷ regrouped x.sink (detached x.index group) (settled_on inputs x.sink) ∷ [])

-- `group` is its sink's
abbrev pub left : {P : Type 0} → Option Input → Option FlatGroup → SampleSpec → List Input → OutcomeParts (Msg P) FlatGroup
left None group spec inputs = idle
left (Some x) group spec inputs = cond (gives_up spec x) (gone x group inputs) idle

-- the input is in its sink's group, where both exist
abbrev pub IsMemberIn : Option FlatGroup → Input → Type 0
IsMemberIn None x = ⊤
IsMemberIn (Some group) x = IsSome (member_of group.members x.index)

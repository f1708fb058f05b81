-- The most that a turn costs, in samples touched: a sample that a stream gives, that is added to kept sums or taken away from them, or that is
-- clipped.
use Rattle.std.specs.Prelude.{ℕ, zero, suc, ◌+◌, ◌-◌, ◌*◌, Bool, false, not, ◌||◌, List, [], ◌∷◌, map, length, bytes_eq, Option, Some, None, ◌==◌, if◌then◌else◌}
use Rattle.px_model.specs.Stream.{Stream}
use Rattle.px_model.specs.Message.{Message, StreamMessage, InputFactors}
use Rattle.px_model.specs.Sink.{Sink, Input, stream_at}
use Rattle.px_model.specs.Turn.{inputs_with, next_horizon, settled, with_messages}
use Rattle.px_msg.specs.View.{gains}
use Rattle.px_stream.specs.Heard.{unaltered_of}
use Rattle.px_stream.specs.Messages.{message_of}
use Rattle.px_lane.specs.declared.ready.Ready.{Ready}
use Rattle.px_lane.specs.declared.ready.Ready.TheVariants.{Insert, Join, Remove, Change, Each, Answer}
use Rattle.px_lane.specs.declared.lane.Turned.{Turned}
use Rattle.px_lane.specs.declared.lane.Turned.TheVariants.{Played, Stopped}

-- ---- a message to one stream

-- how many of the next n frames sound as before once m is applied to a stream that may not be there
abbrev pub unaltered_there : ℕ → StreamMessage → Option Stream → ℕ
unaltered_there n m None = n
unaltered_there n m (Some s) = unaltered_of n m s

-- each altered frame is read and taken out of the sums, read and put in, and clipped again
abbrev pub change_cost : ℕ → StreamMessage → Option Stream → ℕ
change_cost n m o = 5 * (n - unaltered_there n m o)

-- ---- factors

-- whether a stream that may not be there has factors other than these
abbrev pub has_others : List ℕ → Option Stream → Bool
has_others factors None = false
has_others factors (Some s) = not (bytes_eq factors s.factors)

abbrev pub others_at : List ℕ → Option Stream → ℕ
others_at factors o = if has_others factors o then 1 else 0

abbrev pub is_named : ℕ → List InputFactors → Bool
is_named i [] = false
is_named i (f ∷ each) = f.input == i || is_named i each

-- how many inputs get other factors, each by the last entry that names it
abbrev pub count_others : List InputFactors → List Input → ℕ
count_others [] inputs = 0
count_others (f ∷ each) inputs = (if is_named f.input each then 0 else others_at f.factors (stream_at f.input inputs)) + count_others each inputs

-- where t inputs get others, over n frames
abbrev pub factors_cost : ℕ → ℕ → ℕ
factors_cost n zero = 0
factors_cost n (suc t) = (4 * suc t + 1) * n

-- ---- the messages of a turn

-- the cost of a message, by the inputs just before it, where n frames are mixed past the horizon
abbrev pub cost_of : ℕ → Message Stream → List Input → ℕ
cost_of n (Message.new new) inputs = 5 * n
cost_of n (Message.attach i parcel feed factors) inputs = 5 * n
cost_of n (Message.detach i) inputs = 5 * n
cost_of n (Message.write w) inputs = change_cost n (StreamMessage.write w.seek w.offset w.frames w.bytes) (stream_at w.input inputs)
cost_of n (Message.cork i on) inputs = change_cost n (StreamMessage.cork on) (stream_at i inputs)
cost_of n (Message.flush i) inputs = change_cost n StreamMessage.flush (stream_at i inputs)
cost_of n (Message.trigger i) inputs = change_cost n StreamMessage.trigger (stream_at i inputs)
cost_of n (Message.prebuf i) inputs = change_cost n StreamMessage.prebuf (stream_at i inputs)
cost_of n (Message.drain i tag) inputs = change_cost n (StreamMessage.drain tag) (stream_at i inputs)
cost_of n (Message.attr i attr) inputs = change_cost n (StreamMessage.attr attr) (stream_at i inputs)
cost_of n (Message.factors each) inputs = factors_cost n (count_others each inputs)
cost_of n (Message.query i tag) inputs = 0

-- the cost of all, in order
abbrev pub costs_of : ℕ → List (Message Stream) → List Input → ℕ
costs_of n [] inputs = 0
costs_of n (m ∷ messages) inputs = cost_of n m inputs + costs_of n messages (inputs_with n m inputs)

-- the same of a message with all the memory that it needs
abbrev pub ready_cost : ℕ → Ready → List Input → ℕ
ready_cost n (Insert input stream) inputs = 5 * n
ready_cost n (Join input parcel feed factors) inputs = 5 * n
ready_cost n (Remove input) inputs = 5 * n
ready_cost n (Change input change) inputs = change_cost n (message_of change) (stream_at input.0 inputs)
ready_cost n (Each list) inputs = factors_cost n (count_others (map gains list) inputs)
ready_cost n (Answer input tag) inputs = 0

-- ---- a turn

-- `more` new frames: each is read of each of `streams` streams and added, and clipped
abbrev pub mix_cost : ℕ → ℕ → ℕ
mix_cost more streams = more * (2 * streams + 1)

-- the new frames of a turn whose sync consumed `frames` frames
abbrev pub more_frames : Sink → ℕ → ℕ
more_frames sink frames = sink.consumed + frames + sink.depth - sink.filled

-- the messages are applied at the new horizon, where the frames up to filled are mixed
abbrev pub turn_cost : Sink → ℕ → List (Message Stream) → ℕ
turn_cost sink frames messages =
    sink.spec.channels * (mix_cost (more_frames sink frames) (length (with_messages (settled sink frames) messages).inputs)
    + costs_of (sink.filled - next_horizon sink frames) messages (settled sink frames).inputs)

-- the cost by what the turn did; a stopped sink touches none
abbrev pub cost_by : Sink → List (Message Stream) → Turned → ℕ
cost_by sink messages (Played consumed frames) = turn_cost sink frames messages
cost_by sink messages (Stopped faults) = 0

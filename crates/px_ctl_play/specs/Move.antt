-- MOVE_SINK_INPUT (PulseAudio: `command_move_stream` of pulsecore/protocol-native.c, `pa_sink_input_may_move_to` of pulsecore/sink-input.c; that a
-- moving input is busy, that other rates and maps without a channel plan are refused, and the limit, are own).
use Rattle.std.specs.Prelude.{ℕ, Bool, not, cond, nat_eq, nat_lt, List, [], ◌∷◌, length, Option, Ok}
use Rattle.px_types.specs.declared.ids.SinkId.{SinkId}
use Rattle.px_types.specs.declared.error_code.ErrorCode.TheVariants.{Busy, Invalid, NoEntity, NotSupported, TooLarge}
use Rattle.px_chmap.specs.Plan.{plan_of}
use Rattle.px_reply.specs.Front.{reply_to}
use Rattle.px_outcome.specs.declared.change.Change.TheVariants.{Moves}
use Rattle.px_outcome.specs.declared.input.Input.{Input}
use Rattle.px_outcome.specs.declared.target.Named.{Named}
use Rattle.px_outcome.specs.declared.target.Target.{Target}
use Rattle.px_outcome.specs.Input.{is_moving, bound_for}
use Rattle.px_outcome.specs.Outcome.{OutcomeParts, replied}
use Rattle.px_outcome.specs.Handled.{Handled, ◌>>=◌, check, present}
use Rattle.px_outcome.specs.Target.{is_clear, target_of}
use Rattle.px_ctl_play.specs.Asked.{MOST_ON_SINK}

-- the stream channel that feeds each channel of a sink with this map, where there is a channel plan
abbrev pub feed_to : Input → List ℕ → Option (List ℕ)
feed_to x map = plan_of x.map map x.no_remap x.no_remix

-- one more may be bound for the sink
abbrev pub has_place : List Input → SinkId → Bool
has_place inputs sink = nat_lt (length (bound_for inputs sink)) MOST_ON_SINK

-- the outcome of an accepted move: the reply, and the move
abbrev pub sent : {M G : Type 0} → Input → Target → ℕ → OutcomeParts M G
sent x sink tag = replied (reply_to tag) (Moves x.index sink.index ∷ [])

-- the checks of a move to a sink that the input isn't on
abbrev pub sent_off : {M G : Type 0} → Input → Target → List Input → ℕ → Handled (OutcomeParts M G)
sent_off x sink inputs tag = do
  free ← check (not x.no_move) Invalid
  rate ← check (nat_eq x.spec.rate sink.spec.rate) NotSupported
  feed ← present (feed_to x sink.map) NotSupported
  place ← check (has_place inputs sink.index) TooLarge
  Ok (replied (reply_to tag) (Moves x.index sink.index ∷ []))

-- on the sink that it is on already, nothing changes
abbrev pub moved_to : {M G : Type 0} → Input → Target → List Input → ℕ → Handled (OutcomeParts M G)
moved_to x sink inputs tag = cond (nat_eq x.sink.0 sink.index.0) (Ok (replied (reply_to tag) [])) (sent_off x sink inputs tag)

abbrev pub move_input : {M G : Type 0} → Option Input → Named → List Input → ℕ → Handled (OutcomeParts M G)
move_input input named inputs tag = do
  clear ← check (is_clear named) Invalid
  x ← present input NoEntity
  sink ← present (target_of named) NoEntity
  settled ← check (not (is_moving (Input.standing x))) Busy
  moved_to x sink inputs tag

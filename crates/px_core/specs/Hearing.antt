-- The messages that a sink is handed by all steps together.
use Rattle.std.specs.Prelude.{cond, nat_eq, List, [], ◌∷◌, ◌++◌}
use Rattle.std.specs.Option.{option_to_list}
use Rattle.px_types.specs.declared.ids.SinkId.{SinkId}
use Rattle.px_model.specs.Frame.{SampleSpec}
use Rattle.px_msg.specs.declared.message.Msg.{Msg}
use Rattle.px_state.specs.State.{State}
use Rattle.px_state.specs.Out.{next_for}
use Rattle.px_core.specs.Step.{Step, connect, frame, broken, close, cut, sweep, notice, out, stepped}

-- the message that a step hands to a sink, if any
abbrev pub posted_by_step : {P : Type 0} → SinkId → State P → Step P → List (Msg P)
posted_by_step sink state (connect conn) = []
posted_by_step sink state (frame conn f) = []
posted_by_step sink state (broken conn fault at) = []
posted_by_step sink state (close conn) = []
posted_by_step sink state (cut conn) = []
posted_by_step sink state sweep = []
posted_by_step sink state (notice from n) = []
posted_by_step sink state (out to) = cond (nat_eq to.0 sink.0) (option_to_list (next_for state to)) []

-- those of all steps, in order
abbrev pub posted_by_steps : {P : Type 0} → (P → SampleSpec) → SinkId → State P → List (Step P) → List (Msg P)
posted_by_steps spec_of sink state [] = []
posted_by_steps spec_of sink state (s ∷ steps) = posted_by_step sink state s ++ posted_by_steps spec_of sink (stepped spec_of state s) steps

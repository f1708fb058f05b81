-- Data is answered by nothing.
use Rattle.std.proofs.Common.{◌≡◌, ℕ, List, [], length, Option, None, Some, refl, ap, ◌∙◌, ◌++◌, flat_map}
use Rattle.std.specs.Prelude.{ℤ}
use Rattle.px_types.specs.declared.ids.ConnId.{ConnId}
use Rattle.px_outcome.specs.declared.input.Input.{Input}
use Rattle.px_ctl_play.specs.declared.data.Frames.{Frames}
use Rattle.px_ctl_play.specs.Data.{frames_of, written, data_for}
use Rattle.px_outcome.specs.Outcome.{OutcomeParts, changing}
use Rattle.px_state.specs.Outcome.{outcome_effects}
use Rattle.px_state.specs.State.{State, marked_of}
use Rattle.px_state.specs.Events.{step_events}
use Rattle.px_core.specs.Connecting.{swept, sweep_of}
use Rattle.px_core.specs.Step.{answered, answer_effects}
use Rattle.px_state.proofs.SceneLaws.{none_events, quiet_events}

written_silent : (P : Type 0) (asker : Option ConnId) (frames : Option Frames) (x : Input) (seek : ℕ) (bytes : List ℕ) → outcome_effects {P = P} asker (written frames x seek bytes) ≡ []
written_silent P asker None x seek bytes = refl
written_silent P asker (Some frames) x seek bytes = refl

pub data_silent : (P : Type 0) (asker : Option ConnId) (o : Option Input) (offset : ℤ) (seek : ℕ) (bytes : List ℕ) → outcome_effects {P = P} asker (data_for o offset seek bytes) ≡ []
data_silent P asker None offset seek bytes = refl
data_silent P asker (Some x) offset seek bytes = written_silent P asker (frames_of x offset (length bytes)) x seek bytes

-- nor does it change anything that is told
written_quiet : (P : Type 0) (state : State P) (frames : Option Frames) (x : Input) (seek : ℕ) (bytes : List ℕ) → step_events state (answered state (written frames x seek bytes)) ≡ []
written_quiet P state None x seek bytes = none_events state
written_quiet P state (Some frames) x seek bytes = quiet_events state (OutcomeParts.changes (written {P = P} (Some frames) x seek bytes)) refl

data_quiet : (P : Type 0) (state : State P) (o : Option Input) (offset : ℤ) (seek : ℕ) (bytes : List ℕ) → step_events state (answered state (data_for o offset seek bytes)) ≡ []
data_quiet P state None offset seek bytes = none_events state
data_quiet P state (Some x) offset seek bytes = written_quiet P state (frames_of x offset (length bytes)) x seek bytes

pub data_notifies_nobody : (P : Type 0) (asker : Option ConnId) (state : State P) (o : Option Input) (offset : ℤ) (seek : ℕ) (bytes : List ℕ) → answer_effects asker state (data_for o offset seek bytes) ≡ []
data_notifies_nobody P asker state o offset seek bytes = λ k. data_silent P asker o offset seek bytes k ++ data_quiet P state o offset seek bytes k

-- nor is a sweep where no connection has ended, and it changes nothing
pub unswept_effects : (P : Type 0) (state : State P) → marked_of state.connections ≡ [] → answer_effects None state (sweep_of state) ≡ []
unswept_effects P state none = ap (λ ended. answer_effects {P = P} None state (changing (flat_map (swept state.inputs) ended))) none ∙ none_events state

pub unswept_state : (P : Type 0) (state : State P) → marked_of state.connections ≡ [] → answered state (sweep_of state) ≡ state
unswept_state P state none = ap (λ ended. answered {P = P} state (changing (flat_map (swept state.inputs) ended))) none

-- A core keeps what a core keeps, whether a step was done or there was no memory for it.
use Rattle.std.proofs.Common.{◌≡◌, Result, Ok, Err, sym, subst}
use Rattle.std.specs.Prelude.{OnOk, OnErr}
use Rattle.px_model.specs.Frame.{SampleSpec}
use Rattle.px_state.specs.State.{State}
use Rattle.px_core.specs.Consistency.{IsConsistent, IsStep}
use Rattle.px_core.specs.Step.{Step, stepped}
use Rattle.px_core.proofs.StepLaws.{step_keeps}

pub done_consistent : {P : Type 0} (spec_of : P → SampleSpec) (old new : State P) (s : Step P) → IsStep s → new ≡ stepped spec_of old s → IsConsistent spec_of old → IsConsistent spec_of new
done_consistent spec_of old new s is e h = subst (IsConsistent spec_of) (sym e) (step_keeps spec_of old s is h)

pub step_consistent : {P V E : Type 0} (spec_of : P → SampleSpec) (result : Result V E) (old new : State P) (s : Step P) → IsStep s → OnOk result (new ≡ stepped spec_of old s) → OnErr result (new ≡ old) → IsConsistent spec_of old → IsConsistent spec_of new
step_consistent spec_of (Ok v) old new s is ok err h = done_consistent spec_of old new s is ok h
step_consistent spec_of (Err e) old new s is ok err h = subst (IsConsistent spec_of) (sym err) h

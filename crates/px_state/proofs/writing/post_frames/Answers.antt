use Rattle.std.proofs.Common.{◌≡◌, Some, sym, ap, ◌∙◌}
use Rattle.px_msg.specs.declared.message.Msg.{Msg}
use Rattle.px_outcome.specs.declared.input.Input.{Input}
use Rattle.px_state.specs.State.{State, input_of}
use Rattle.px_state.specs.Change.{posting_to_input, posting_if_there}

posted_if_there : {P : Type 0} (before now after : State P) (x : Input) (m : Msg P) → now ≡ before → input_of before.inputs x.index ≡ Some x → after ≡ posting_to_input x.standing x m now → after ≡ posting_if_there (input_of before.inputs x.index) m before
posted_if_there before now after x m same there notified = notified ∙ ap (posting_to_input x.standing x m) same ∙ ap (λ o. posting_if_there o m before) (sym there)

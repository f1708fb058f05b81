-- A change of a family, as code finds it.
use Rattle.std.proofs.Common.{◌≡◌, ◌∙◌, ap, sym}
use Rattle.px_state.specs.State.{State}
use Rattle.px_state.specs.Change.{Change, changed}

-- what a change does is told of what the change was found to be
pub as_found : {P : Type 0} (s t : State P) (change found : Change P) → change ≡ found → t ≡ changed s found → t ≡ changed s change
as_found s t change found is after = after ∙ sym (ap (λ c. changed s c) is)

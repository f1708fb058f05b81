-- The families of changes.
use Rattle.std.specs.Prelude.{⊤}
use Rattle.px_outcome.specs.declared.change.Change.TheVariants.{Authed, Named, Masked, Defaulted, Described, Leaves, Moves, Arrives, Released, Posted, Gone, Ended, Forgotten}
use Rattle.px_state.specs.Change.{Change}

-- of a connection or its client, or of the default sink
abbrev pub IsOfClient : {P : Type 0} → Change P → Type 0
IsOfClient (Authed conn version) = ⊤
IsOfClient (Named conn list) = ⊤
IsOfClient (Masked conn mask) = ⊤
IsOfClient (Defaulted sink) = ⊤
IsOfClient (Ended conn reason fault at) = ⊤
IsOfClient (Forgotten conn) = ⊤
IsOfClient _ = ⊥

-- of an existing input
abbrev pub IsOfInput : {P : Type 0} → Change P → Type 0
IsOfInput (Described index list) = ⊤
IsOfInput (Leaves index) = ⊤
IsOfInput (Moves index to) = ⊤
IsOfInput (Arrives index m) = ⊤
IsOfInput (Released index) = ⊤
IsOfInput (Posted index m) = ⊤
IsOfInput (Gone index) = ⊤
IsOfInput _ = ⊥

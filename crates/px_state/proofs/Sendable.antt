-- What goes to clients are frames, in lists of effects that are joined.
use Rattle.std.proofs.Common.{List, [], ◌∷◌, ◌++◌}
use Rattle.px_state.specs.declared.effect.Effect.{Effect}
use Rattle.px_state.specs.Effect.{IsSendable, AreSendable}

pub all_sendable : (xs ys : List Effect) → AreSendable xs → AreSendable ys → AreSendable (xs ++ ys)
all_sendable [] ys h k = k
all_sendable (x ∷ xs) ys h k = (h.0, all_sendable xs ys h.1 k)

pub more_sendable : (xs : List Effect) (x : Effect) → AreSendable xs → IsSendable x → AreSendable (xs ++ x ∷ [])
more_sendable xs x h k = all_sendable xs (x ∷ []) h (k, tt)

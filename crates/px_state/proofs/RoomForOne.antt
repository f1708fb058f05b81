-- Room for several changes is room for one.
use Rattle.std.proofs.Common.{arith, ℕ, ◌+◌, List, [], ◌∷◌}
use Rattle.std.specs.declared.collections.VecDeque.{VecDeque}
use Rattle.px_msg.specs.declared.message.Msg.{Msg}
use Rattle.px_state.specs.declared.tables.Tables.{Tables}
use Rattle.px_state.specs.Tables.{HasRoom, HavePlaces}

-- queues with room for more than one message have room for one
pub one_place : {P Z : Type 0} (n : ℕ) (queues : List (VecDeque (Msg P) Z)) → HavePlaces (n + 1) queues → HavePlaces 1 queues
one_place n [] have = tt
one_place n (x ∷ queues) have = (omega (arith, have.0), one_place n queues have.1)

-- and so have tables for one change
pub room_for_one : {P : Type 0} (n : ℕ) (t : Tables P) → HasRoom (n + 1) t → HasRoom 1 t
room_for_one n t had = record { places = omega (arith, had.places); streams = omega (arith, had.streams); lists = omega (arith, had.lists); waiting = omega (arith, had.waiting); delayed = omega (arith, had.delayed); posted = one_place n t.posted.items had.posted }

use Rattle.std.proofs.Common.{arith, ◌≡◌, ℕ, ◌+◌, List, [], ◌∷◌, ◌++◌, replicate, ap, ◌∙◌}
use Rattle.std.proofs.lemmas.List.{map-append, replicate_more}
use Rattle.std.specs.declared.collections.VecDeque.{VecDeque}
use Rattle.px_msg.specs.declared.message.Msg.{Msg}
use Rattle.px_state.specs.Tables.{lists_of}
use Rattle.px_state.proofs.start.queues_for.Goals as goal

-- one more queue with no message is made
one_more : {P Z : Type 0} (n : ℕ) (old made : List (VecDeque (Msg P) Z)) (q : VecDeque (Msg P) Z) → q.items ≡ [] → made ≡ old ++ q ∷ [] → lists_of old ≡ replicate n [] → lists_of made ≡ replicate (n + 1) []
one_more n old made q empty made_is so_far =
    ap (λ l. lists_of l) made_is
    ∙ map-append (λ q. q.items) old (q ∷ [])
    ∙ ap (λ l. lists_of old ++ l ∷ []) empty
    ∙ ap (λ l. l ++ [] ∷ []) so_far
    ∙ replicate_more n []

pub loop-sink-init : goal.loop-sink-init
loop-sink-init g c = ap (λ l. lists_of l) c.new-made.ensures.items

pub loop-sink-preserved : goal.loop-sink-preserved
loop-sink-preserved g c = one_more c.loop-sink._sink-index c.loop-sink.made.items c.push.new.self.items c.new.result c.new.ensures.items c.in_ok-push.ensures.items c.loop-sink.invariant

pub loop-sink-smaller : goal.loop-sink-smaller
loop-sink-smaller g c = omega (arith, c.loop-sink-test.true)

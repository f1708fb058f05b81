use Rattle.std.proofs.Common.{arith, ◌≡◌, ℕ, suc, ◌+◌, ◌<◌, ◌++◌, ◌∷◌, List, length, get_or, drop, drop-cons, flat_map, ap, sym, ◌∙◌}
use Rattle.px_outcome.specs.declared.input.Connection.{Connection}
use Rattle.px_state.specs.State.{marked_of}
use Rattle.px_state.specs.Change.{Change}
use Rattle.px_core.specs.Connecting.{swept}
use Rattle.px_core.proofs.connecting.swept_changes.Goals as goal

-- the changes of one more of the connections that are left
one_more : {C : Type 0} (f : Connection → List C) (old new all : List C) (cs : List Connection) (i : ℕ) (d : Connection) → i < length cs
    → ((more : List Connection) → new ++ flat_map f (marked_of more) ≡ old ++ flat_map f (marked_of (get_or cs i d ∷ more))) → old ++ flat_map f (marked_of (drop i cs)) ≡ all → new ++ flat_map f (marked_of (drop (i + 1) cs)) ≡ all
one_more {C} f old new all cs i d below one before =
    let after : suc i ≡ i + 1 = omega arith in
    let at : drop i cs ≡ get_or cs i d ∷ drop (i + 1) cs = drop-cons cs i d below ∙ ap (λ n. get_or cs i d ∷ drop n cs) after in
    one (drop (i + 1) cs) ∙ ap (λ (l : List Connection). old ++ flat_map f (marked_of l)) (sym at) ∙ before

pub loop-c-preserved : goal.loop-c-preserved
loop-c-preserved g c =
    one_more {C = Change g.row.P.Denot} (swept c.args.inputs.now) c.loop-c.changes.items c.add_swept.new.changes.items _ c.args.connections.now c.loop-c.c-index _ c.loop-c-test.true c.in_ok-add_swept.ensures c.loop-c.invariant

use Rattle.std.proofs.Common.{arith, ◌≡◌, ℕ, suc, ◌+◌, ◌<◌, ◌++◌, ◌∷◌, List, length, get_or, drop, ap, sym, ◌∙◌}
use Rattle.std.proofs.Math.Seq.{drop-cons}
use Rattle.px_state.specs.declared.effect.Effect.{Effect}
use Rattle.px_state.specs.Change.{Change}
use Rattle.px_state.specs.Outcome.{closed_all}
use Rattle.px_state.proofs.effects.close_all.Goals as goal

next : (i : ℕ) → suc i ≡ i + 1
next i = omega arith

one_closed : {P : Type 0} (old new all : List Effect) (changes : List (Change P)) (i : ℕ) (c : Change P) → i < length changes → c ≡ get_or changes i c → ((more : List (Change P)) → new ++ closed_all more ≡ old ++ closed_all (c ∷ more)) → old ++ closed_all (drop i changes) ≡ all
    → new ++ closed_all (drop (i + 1) changes) ≡ all
one_closed {P} old new all changes i c l e one before =
    let at : drop i changes ≡ c ∷ drop (i + 1) changes = drop-cons changes i c l ∙ ap (λ x. x ∷ drop (suc i) changes) (sym e) ∙ ap (λ n. c ∷ drop n changes) (next i) in
    one (drop (i + 1) changes) ∙ ap (λ (cs : List (Change P)). old ++ closed_all cs) (sym at) ∙ before

pub loop-change-preserved : goal.loop-change-preserved
loop-change-preserved g c = one_closed c.loop-change.effects c.close_one.new.effects _ c.args.changes.now c.loop-change.change-index c.change-item.result c.loop-change-test.true c.change-item.is c.in_ok-close_one.ensures c.loop-change.invariant

use Rattle.std.proofs.Common.{ℕ, ◌/◌, ◌^◌, ◌<◌, List, length, subst, arith}
use Rattle.std.specs.Prelude.{slice_index}
use Rattle.px_kept_mix.proofs.Putting.{values_fit, little}
use Rattle.px_kept_mix.proofs.kept.put.Goals as goal

pub change-requires-clause-values : goal.change-requires-clause-values
change-requires-clause-values g c =
    values_fit c.args.cache.now c.args.values.now c.args.factors.now c.args.from (length c.args.values.now / length c.args.cache.now.runs)
    c.requires.whole c.requires.inside c.requires.words c.requires.room
    (λ i fed. subst (λ (numbers : List ℕ). slice_index numbers i < 2 ^ 32) c.requires.same (omega (arith, c.type_inv.numbers i))) c.args.add

pub returns-clause-little : goal.returns-clause-little
returns-clause-little g c = λ i k fed.
    little c.args.cache.now c.args.values.now c.args.factors.now c.args.from (length c.args.values.now / length c.args.cache.now.runs)
    c.requires.whole c.requires.inside c.requires.words c.requires.room
    (λ j here. subst (λ (numbers : List ℕ). slice_index numbers j < 2 ^ 32) c.requires.same (omega (arith, c.type_inv.numbers j))) i k fed

use Rattle.std.proofs.Common.{◌≡◌, length, arith, ap, ◌∙◌, ℤ, List, pos, get_or, replicate}
use Rattle.std.proofs.lemmas.List.{get_or-replicate}
use Rattle.px_sample.specs.Format.{width_of}
use Rattle.bench.proofs.Words.{word_within}
use Rattle.bench.proofs.mix.mix.Goals as goal

pub loop-number-init : goal.loop-number-init
loop-number-init g c =
    let zeros : c.fill.new.self ≡ replicate (length c.args.sums.now) (pos 0) = c.fill.ensures.after (λ y same. same) in (
      λ k less. ap (λ (xs : List ℤ). get_or xs k (pos 0)) zeros ∙ get_or-replicate (length c.args.sums.now) k (pos 0) (pos 0) (omega (arith, less, c.fill.ensures.len)),
      omega (arith, c.requires.places, c.fill.ensures.len),
      λ k less. word_within (width_of c.args.format) (get_or c.unpack.new.out k (pos 0)) (c.unpack.ensures.within k (pos 0) (omega (arith, less, c.fill.ensures.len, c.requires.long, c.unpack.auto.out))),
    )

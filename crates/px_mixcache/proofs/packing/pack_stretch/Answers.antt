use Rattle.std.proofs.Common.{◌≡◌, ℕ, ◌+◌, ◌*◌, ◌<◌, length, get_or, refl, ap, sym, subst, ◌∙◌, arith, pos}
use Rattle.std.proofs.Math.Nat.{mul-le-mul_right}
use Rattle.std.proofs.lemmas.List.{length-take-le, get_or_default}
use Rattle.std.specs.Int.{saturate_signed}
use Rattle.px_sample.specs.declared.format.Width.{Width}
use Rattle.px_sample.specs.Format.{size_of}
use Rattle.px_sample.specs.WorkValue.{IsWithin, packed_of}
use Rattle.px_kernel.specs.Kernel.{at, bits_of}
use Rattle.px_mixcache.specs.Cache.{run_at}
use Rattle.px_mixcache.proofs.Stretches.{clipped_at, stretch_listed, packed_stretch, stretch_size, nothing_within}
use Rattle.px_mixcache.proofs.packing.pack_stretch.Goals as goal

pub returns-clause-bytes : goal.returns-clause-bytes
returns-clause-bytes g c =
    let runs = c.args.runs.now in
    let format = c.args.format in
    let from = c.args.from in
    let size : length c.clip_channels.new.values ≡ length runs * c.args.count = c.clip_channels.ensures.long ∙ c.fill.ensures.len ∙ length-take-le (length runs * c.args.count) _ c.requires.few in
    c.pack.ensures
    ∙ ap (packed_of format)
    (stretch_listed (clipped_at format runs) (length runs) from c.args.count c.clip_channels.new.values size
    (λ n j less few. c.clip_channels.ensures.values n j less few ∙ ap (λ (w : Width). saturate_signed (bits_of w) (at (run_at runs n).sums (from + j))) c.width.ensures))
    ∙ packed_stretch format runs from c.args.count

pub clip_channels-requires-clause-inside : goal.clip_channels-requires-clause-inside
clip_channels-requires-clause-inside g c = c.requires.inside

pub clip_channels-requires-clause-values : goal.clip_channels-requires-clause-values
clip_channels-requires-clause-values g c = c.fill.ensures.len ∙ length-take-le (length c.args.runs.now * c.args.count) _ c.requires.few

pub overflow_mul-places : goal.overflow_mul-places
overflow_mul-places g c = omega (arith, c.requires.few)

pub pack-requires-clause-linear : goal.pack-requires-clause-linear
pack-requires-clause-linear g c = c.requires.linear

pub returns-clause-ticks : goal.returns-clause-ticks
returns-clause-ticks g c = c.clip_channels.ensures.ticks

pub slice_bounds-clipped-end : goal.slice_bounds-clipped-end
slice_bounds-clipped-end g c = omega (arith, c.requires.few, mul-le-mul_right c.args.count c.requires.some)

pub slice_bounds-values-end : goal.slice_bounds-values-end
slice_bounds-values-end g c = c.requires.few

pub slice_bounds-values-end-2 : goal.slice_bounds-values-end-2
slice_bounds-values-end-2 g c = sym (length-take-le (length c.args.runs.now * c.args.count) _ c.requires.few)

pub pack-requires-clause-lengths : goal.pack-requires-clause-lengths
pack-requires-clause-lengths g c =
    let runs = c.args.runs.now in
    let size : length c.clip_channels.new.values ≡ length runs * c.args.count = c.clip_channels.ensures.long ∙ c.fill.ensures.len ∙ length-take-le (length runs * c.args.count) _ c.requires.few in
    c.requires.whole ∙ stretch_size c.args.count (length runs) (size_of c.args.format) ∙ ap (λ (n : ℕ). size_of c.args.format * n) (sym size)

pub pack-requires-clause-within : goal.pack-requires-clause-within
pack-requires-clause-within g c = λ k d less.
    let values = c.clip_channels.new.values in
    subst (λ (w : Width). IsWithin w (get_or values k d)) c.width.ensures
    (subst (IsWithin c.width.result) (get_or_default values k (pos 0) d less) (c.clip_channels.ensures.within k (subst (λ (n : ℕ). k < n) c.clip_channels.ensures.long less)))

pub clip_channels-requires-clause-within : goal.clip_channels-requires-clause-within
clip_channels-requires-clause-within g c = λ i less.
    let nothing : get_or c.fill.new.self i (pos 0) ≡ pos 0 = c.fill.ensures.clones i (pos 0) (subst (λ (n : ℕ). i < n) c.fill.ensures.len less) refl in
    subst (IsWithin c.width.result) (sym nothing) (nothing_within c.width.result)

pub clip_channels-requires-clause-clipped : goal.clip_channels-requires-clause-clipped
clip_channels-requires-clause-clipped g c = length-take-le c.args.count _ (omega (arith, c.requires.few, mul-le-mul_right c.args.count c.requires.some))

pub slice_bounds-clip_channels-end : goal.slice_bounds-clip_channels-end
slice_bounds-clip_channels-end g c = sym (length-take-le c.args.count _ (omega (arith, c.requires.few, mul-le-mul_right c.args.count c.requires.some)))

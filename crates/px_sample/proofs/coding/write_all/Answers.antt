use Rattle.std.proofs.Common.{◌≡◌, ◌*◌, ◌+◌, ◌-◌, ◌<◌, ◌≤◌, length, arith, ◌∙◌, ap, pos, get_or, w32, to_z, of_z, ℤ}
use Rattle.std.proofs.lemmas.Int.{to_z-of_z}
use Rattle.px_sample.specs.Format.{width_of}
use Rattle.px_sample.specs.WorkValue.{packed_sample}
use Rattle.px_sample.proofs.RunLemmas.{packed_more, next_fits, length_part, fits_word}
use Rattle.px_sample.proofs.coding.write_all.Goals as goal

pub loop-place-preserved : goal.loop-place-preserved
loop-place-preserved g c =
    let place = c.loop-place.place in
    let there : place < length c.args.values.now = omega arith in
    let value : ℤ = get_or c.args.values.now place (pos 0) in
    let same : to_z w32 (of_z w32 value) ≡ value =
    to_z-of_z w32 value (fits_word (width_of g.C.WriteSample.format) value (c.requires.within place (pos 0) there)) in
    let fits : place * g.row.SIZE + g.row.SIZE ≤ length c.loop-place.out =
    next_fits _ _ _ _ there (c.loop-place.auto.out ∙ c.requires.lengths) in
    let size : length c.copy_from_slice.new.self ≡ g.row.SIZE =
    c.copy_from_slice.ensures.len ∙ length_part c.loop-place.out (place * g.row.SIZE) g.row.SIZE fits in
    packed_more (packed_sample g.C.WriteSample.format) c.loop-place.out c.copy_from_slice.new.self c.args.values.now
    (place * g.row.SIZE) (place * g.row.SIZE + g.row.SIZE - place * g.row.SIZE) ((place + 1) * g.row.SIZE)
    place (pos 0) there (omega arith) (omega arith) c.loop-place.invariant
    (c.copy_from_slice.ensures.after ∙ c.write.ensures ∙ ap (packed_sample g.C.WriteSample.format) same)

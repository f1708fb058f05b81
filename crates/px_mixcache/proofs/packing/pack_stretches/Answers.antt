use Rattle.std.proofs.Common.{◌≡◌, map, take, ◌*◌, ◌+◌, ◌-◌, ◌/◌, ◌≤◌, ℕ, length, ◌∙◌, arith, sym, ap, mul_comm}
use Rattle.std.proofs.Math.Nat.{add-mul, mul-le-mul_right, div-mul-le_self}
use Rattle.std.proofs.lemmas.List.{take_all}
use Rattle.std.specs.List.{concat, range_with_len}
use Rattle.px_sample.proofs.RunLemmas.{length_part}
use Rattle.px_mixcache.specs.Packing.{frame_of}
use Rattle.px_mixcache.proofs.Stretches.{run_more, run_fits, some_most}
use Rattle.px_mixcache.proofs.packing.pack_stretches.Goals as goal

pub slice_bounds-pack_stretch-end : goal.slice_bounds-pack_stretch-end
slice_bounds-pack_stretch-end g c =
    let size = length c.args.runs.now * c.size.result in
    run_fits size c.loop-done.done c.min-count.result c.args.frames (length c.loop-done.out) (omega (arith, c.min-count.ensures, c.loop-done.invariant.few))
    (c.loop-done.auto.out ∙ c.requires.whole ∙ sym (ap (λ (n : ℕ). c.args.frames * (length c.args.runs.now * n)) c.size.ensures))

pub loop-done-preserved : goal.loop-done-preserved
loop-done-preserved g c =
    let done = c.loop-done.done in
    let count = c.min-count.result in
    let size = length c.args.runs.now * c.size.result in
    let few : done + count ≤ c.args.frames = omega (arith, c.min-count.ensures, c.loop-done.invariant.few) in
    let fits : done * size + count * size ≤ length c.loop-done.out = run_fits size done count c.args.frames (length c.loop-done.out) few
    (c.loop-done.auto.out ∙ c.requires.whole ∙ sym (ap (λ (n : ℕ). c.args.frames * (length c.args.runs.now * n)) c.size.ensures)) in
    record {
      few = few;
      bytes = run_more (frame_of c.args.format c.args.runs.now) c.loop-done.out c.pack_stretch.new.out c.args.from done count
          (done * size) (done * size + count * size - done * size) ((done + count) * size) (omega (arith, fits))
          (omega (arith, add-mul done count size, c.pack_stretch.auto.out, length_part c.loop-done.out (done * size) (count * size) fits)) c.loop-done.invariant.bytes c.pack_stretch.ensures.bytes;
      ticks = omega (arith, c.loop-done.invariant.ticks, c.pack_stretch.ensures.ticks);
    }

pub nonzero_div-most : goal.nonzero_div-most
nonzero_div-most g c = c.requires.some

pub overflow_add-done : goal.overflow_add-done
overflow_add-done g c = omega (arith, c.requires.near, c.loop-done.invariant.few, c.min-count.ensures)

pub overflow_add-from : goal.overflow_add-from
overflow_add-from g c = omega (arith, c.requires.near, c.loop-done.invariant.few)

pub pack_stretch-requires-clause-few : goal.pack_stretch-requires-clause-few
pack_stretch-requires-clause-few g c =
    let few : c.min-count.result ≤ 256 / length c.args.runs.now = omega (arith, c.min-count.ensures) in
    omega (arith, mul-le-mul_right (length c.args.runs.now) few, div-mul-le_self 256 (length c.args.runs.now), mul_comm c.min-count.result (length c.args.runs.now))

pub pack_stretch-requires-clause-inside : goal.pack_stretch-requires-clause-inside
pack_stretch-requires-clause-inside g c = λ k less. omega (arith, c.requires.inside k less, c.min-count.ensures, c.loop-done.invariant.few)

pub pack_stretch-requires-clause-linear : goal.pack_stretch-requires-clause-linear
pack_stretch-requires-clause-linear g c = c.requires.linear

pub pack_stretch-requires-clause-some : goal.pack_stretch-requires-clause-some
pack_stretch-requires-clause-some g c = c.requires.some

pub pack_stretch-requires-clause-whole : goal.pack_stretch-requires-clause-whole
pack_stretch-requires-clause-whole g c =
    let size = length c.args.runs.now * c.size.result in
    let fits : c.loop-done.done * size + c.min-count.result * size ≤ length c.loop-done.out = run_fits size c.loop-done.done c.min-count.result c.args.frames (length c.loop-done.out) (omega (arith, c.min-count.ensures, c.loop-done.invariant.few))
    (c.loop-done.auto.out ∙ c.requires.whole ∙ sym (ap (λ (n : ℕ). c.args.frames * (length c.args.runs.now * n)) c.size.ensures)) in
    length_part c.loop-done.out (c.loop-done.done * size) (c.min-count.result * size) fits ∙ ap (λ (n : ℕ). c.min-count.result * (length c.args.runs.now * n)) c.size.ensures

pub slice_bounds-pack_stretch-count : goal.slice_bounds-pack_stretch-count
slice_bounds-pack_stretch-count g c = omega (arith)

pub loop-done-init : goal.loop-done-init
loop-done-init g c =
    let none : 0 * (length c.args.runs.now * c.size.result) ≡ 0 = omega arith in
    record { few = omega arith; bytes = ap (λ (n : ℕ). take n c.args.out.now) none; ticks = omega arith }

pub loop-done-smaller : goal.loop-done-smaller
loop-done-smaller g c =
    let some : 1 ≤ 256 / length c.args.runs.now = some_most (length c.args.runs.now) c.requires.some c.requires.few in
    omega (arith, some, c.min-count.ensures, c.loop-done-test.true)

pub returns-clause-bytes : goal.returns-clause-bytes
returns-clause-bytes g c =
    let runs = c.args.runs.now in
    let all : c.loop-done.done ≡ c.args.frames = omega (arith, c.loop-done-test.false, c.loop-done.invariant.few) in
    let size : length c.loop-done.out ≡ c.loop-done.done * (length runs * c.size.result) =
    c.loop-done.auto.out ∙ c.requires.whole ∙ sym (ap (λ (n : ℕ). c.args.frames * (length runs * n)) c.size.ensures) ∙ sym (ap (λ (n : ℕ). n * (length runs * c.size.result)) all) in
    sym (take_all (c.loop-done.done * (length runs * c.size.result)) c.loop-done.out (omega (arith, size)))
    ∙ c.loop-done.invariant.bytes ∙ ap (λ (n : ℕ). concat (map (frame_of c.args.format runs) (range_with_len c.args.from n))) all

pub returns-clause-ticks : goal.returns-clause-ticks
returns-clause-ticks g c =
    let all : c.loop-done.done ≡ c.args.frames = omega (arith, c.loop-done-test.false, c.loop-done.invariant.few) in
    c.loop-done.invariant.ticks ∙ ap (λ (n : ℕ). c.args.steps.now + length c.args.runs.now * n) all

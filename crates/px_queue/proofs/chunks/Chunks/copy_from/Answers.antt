use Rattle.std.proofs.Common.{◌≡◌, ◌+◌, ◌-◌, ◌<◌, ◌≤◌, ℕ, ap, ◌∙◌, List, [], ◌++◌, arith, take, drop, length, length-append, length-drop, length-take, ⊎_elim}
use Rattle.std.specs.Prelude.{slice_index_or}
use Rattle.std.proofs.lemmas.Bool.{cases_lt}
use Rattle.px_queue.specs.Pieces.{Piece, byte_at}
use Rattle.px_queue.proofs.Finding.{part_get, copied, some_not_none}
use Rattle.px_queue.proofs.chunks.Chunks.copy_from.Goals as goal

pub copy-requires-clause-some : goal.copy-requires-clause-some
copy-requires-clause-some c =
    let d : Piece = record { at = 0; bytes = [] } in
    let v : List Piece = c.args.self.now.before in
    let k : ℕ = c.part_at-place.result.0 in
    let count : ℕ = c.loop-count.count in
    let more : ℕ = c.part_at-place.result.1 in
    let out : List ℕ = c.loop-count.out in
    let some : 0 < more =
    ⊎_elim (λ (less : 0 < more). less)
    (λ (none : more ≤ 0). absurd (some_not_none (byte_at v (c.args.from + count)) (c.requires.held count (omega (arith, c.loop-count-test.true, c.loop-count.invariant.size))) (c.part_at-place.ensures.none (omega arith) (omega (arith, c.loop-count-test.true)))))
    (cases_lt 0 more) in
    c.part_at-place.ensures.some some

pub loop-count-preserved : goal.loop-count-preserved
loop-count-preserved c =
    let d : Piece = record { at = 0; bytes = [] } in
    let v : List Piece = c.args.self.now.before in
    let k : ℕ = c.part_at-place.result.0 in
    let count : ℕ = c.loop-count.count in
    let more : ℕ = c.part_at-place.result.1 in
    let out : List ℕ = c.loop-count.out in
    let part : List ℕ = c.copy.new.out in
    let some : 0 < more =
    ⊎_elim (λ (less : 0 < more). less)
    (λ (none : more ≤ 0). absurd (some_not_none (byte_at v (c.args.from + count)) (c.requires.held count (omega (arith, c.loop-count-test.true, c.loop-count.invariant.size))) (c.part_at-place.ensures.none (omega arith) (omega (arith, c.loop-count-test.true)))))
    (cases_lt 0 more) in
    let p : Piece = slice_index_or v k d in
    let fits : count + more ≤ length out = omega (arith, c.part_at-place.ensures.few, c.loop-count-test.true) in
    let n : ℕ = count + more - count in
    let len : length (take n (drop count out)) ≡ more = omega (arith, length-take n (drop count out), length-drop count out, fits) in
    let is : part ≡ take more (drop (c.args.from + count - p.at) p.bytes) = c.copy.ensures d ∙ ap (λ (m : ℕ). take m (drop (c.args.from + count - p.at) p.bytes)) len in
    let low : p.at ≤ c.args.from + count = c.part_at-place.ensures.first d some in
    let long : length part ≡ more = omega (arith, ap length is, length-take more (drop (c.args.from + count - p.at) p.bytes), length-drop (c.args.from + count - p.at) p.bytes, c.part_at-place.ensures.inside d some, low) in
    let rest : List ℕ = drop n (drop count out) in
    let whole : length (take count out ++ (part ++ rest)) ≡ length out = omega (arith, length-append (take count out) (part ++ rest), length-append part rest, length-take count out, length-drop n (drop count out), length-drop count out, long, fits) in
    record {
      few = omega (arith, whole, fits);
      size = omega (arith, whole, c.loop-count.invariant.size);
      done = copied (byte_at v) c.args.from count more out part rest (omega (arith, fits)) long c.loop-count.invariant.done
          (λ j few. c.part_at-place.ensures.bytes d j few ∙ part_get p (c.args.from + count) more j part low is few);
    }

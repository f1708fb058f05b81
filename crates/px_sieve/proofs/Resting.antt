-- The bytes after whole frames, of which the first twenty are kept and all are counted.
use Rattle.std.proofs.Common.{◌≡◌, ℕ, zero, suc, ◌+◌, ◌-◌, ◌<◌, ◌≤◌, min, List, [], ◌∷◌, ◌++◌, length, take, drop, ap, sym, ◌∙◌, append-nil, arith, inl, inr, ◌⊎◌, take_all}
use Rattle.std.specs.Prelude.{nat_eq, ◌^◌, false}
use Rattle.std.proofs.lemmas.List.{take-append-le, length-append, length-take, length-drop}
use Rattle.std.proofs.Math.Seq.{take-append-add, drop-append-add}
use Rattle.std.proofs.Math.ListN.{drop_of_length-le}
use Rattle.px_frame.specs.declared.frame.Frame.{Frame}
use Rattle.px_sieve.specs.declared.rest.Rest.{Rest}
use Rattle.px_sieve.specs.Segment.{size_of, size_of_all}
use Rattle.px_sieve.specs.Standing.{IsRest, IsShort}

-- one number is at most another, or above it
either : (a b : ℕ) → (a ≤ b) ⊎ (b < a)
either zero b = inl (omega arith)
either (suc a) zero = inr (omega arith)
either (suc a) (suc b) = elim (either a b) [ inl h ↦ inl (omega arith) | inr h ↦ inr (omega arith) ]

take-min : (k : ℕ) (bytes : List ℕ) → take (min k (length bytes)) bytes ≡ take k bytes
take-min k bytes =
    elim (either k (length bytes)) [
      | inl le ↦ ap (λ n. take n bytes) (omega (arith, le))
      | inr lt ↦ ap (λ n. take n bytes) (let same : min k (length bytes) ≡ length bytes = omega (arith, lt) in same) ∙ take_all (length bytes) bytes (omega arith) ∙ sym (take_all k bytes (omega (arith, lt)))
    ]

pub filled : (first bytes begun : List ℕ) → first ≡ take 20 begun → first ++ take (min (20 - length first) (length bytes)) bytes ≡ take 20 (begun ++ bytes)
filled first bytes begun e =
    elim (either 20 (length begun)) [
      | inl long ↦
          let full : length first ≡ 20 = ap length e ∙ length-take 20 begun ∙ omega (arith, long) in
          ap (λ n. first ++ take n bytes) (let none : min (20 - length first) (length bytes) ≡ 0 = omega (arith, full) in none)
          ∙ append-nil first ∙ e ∙ sym (take-append-le 20 begun bytes long)
      | inr short ↦
          let all : first ≡ begun = e ∙ take_all 20 begun (omega (arith, short)) in
          let sum : length begun + (20 - length begun) ≡ 20 = omega (arith, short) in
          ap (λ l. first ++ l) (take-min (20 - length first) bytes)
          ∙ ap (λ l. l ++ take (20 - length l) bytes) all
          ∙ sym (take-append-add begun bytes (20 - length begun))
          ∙ ap (λ n. take n (begun ++ bytes)) sum
    ]

-- after the bytes that were there before
pub resumed : (begun bytes : List ℕ) (size : ℕ) → length begun ≤ size → drop (length bytes - (length begun + length bytes - size)) bytes ≡ drop size (begun ++ bytes)
resumed begun bytes size past =
    let sum : length begun + (size - length begun) ≡ size = omega (arith, past) in
    sym (
    ap (λ n. drop n (begun ++ bytes)) (sym sum) ∙ drop-append-add begun bytes (size - length begun)
    ∙ elim (either size (length begun + length bytes)) [
      | inl within ↦ ap (λ n. drop n bytes) (omega (arith, within, past))
      | inr beyond ↦
          drop_of_length-le bytes (omega (arith, beyond))
          ∙ sym (drop_of_length-le bytes (omega (arith, beyond)))
    ]
    )

size-first : (f : Frame) (fs : List Frame) (n : ℕ) → n ≤ size_of f → n ≤ size_of_all (f ∷ fs)
size-first f fs n le = omega (arith, le)

-- ---- both

pub rest-some : (next : Rest) (begun bytes : List ℕ) (f : Frame) (fs : List Frame) → length begun ≤ size_of f → next.count ≡ length begun + length bytes - size_of_all (f ∷ fs)
    → next.first.items ≡ take 20 (drop (length bytes - next.count) bytes) → IsRest next (drop (size_of_all (f ∷ fs)) (begun ++ bytes))
rest-some next begun bytes f fs le c first = record {
  count = c ∙ sym (length-drop (size_of_all (f ∷ fs)) (begun ++ bytes) ∙ ap (λ n. n - size_of_all (f ∷ fs)) (length-append begun bytes));
  first = first ∙ ap (λ n. take 20 (drop (length bytes - n) bytes)) c ∙ ap (take 20) (resumed begun bytes (size_of_all (f ∷ fs)) (size-first f fs (length begun) le));
}

-- where frames were completed
pub resume : (frames : List Frame) (rest next : Rest) (begun bytes tail : List ℕ) (all : ℕ) → nat_eq (length frames) 0 ≡ false → IsRest rest begun → IsShort begun frames
    → all ≡ min (rest.count + length bytes) (2 ^ 128 - 1) → length bytes < 2 ^ 64 → next.count ≡ all - size_of_all frames
    → tail ≡ drop (length bytes - next.count) bytes → next.first.items ≡ take 20 tail → IsRest next (drop (size_of_all frames) (begun ++ bytes))
resume [] rest next begun bytes tail all some is short sum fits left last first = absurd cc
resume (f ∷ fs) rest next begun bytes tail all some is short sum fits left last first =
    let whole : all ≡ length begun + length bytes = omega (arith, sum, is.count, short.0, fits) in
    rest-some next begun bytes f fs short.1 (left ∙ ap (λ n. n - size_of_all (f ∷ fs)) whole) (first ∙ ap (take 20) last)

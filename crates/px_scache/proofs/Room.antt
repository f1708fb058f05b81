-- The bytes of the samples, where some of them are dropped and one is added.
use Rattle.std.proofs.Common.{arith, ◌≡◌, ℕ, ◌+◌, ◌≤◌, not, Bool, true, false, cond, List, [], ◌∷◌, ◌++◌, length, refl}
use Rattle.px_scache.specs.declared.sample.Sample.{Sample}
use Rattle.px_scache.specs.Cache.{Cache, IsSample, IsCache, is_called, others, stored, bytes_in, bytes_of_other}
use Rattle.px_scache.proofs.Kept.{kept, joined}

-- the bytes of a sample where it is counted
abbrev counted : Bool → Sample → ℕ
counted called s = cond called 0 (length (Sample.bytes s))

one_more : (called : Bool) (s : Sample) (rest : Cache) → bytes_in (cond (not called) (s ∷ rest) rest) ≡ counted called s + bytes_in rest
one_more true s rest = omega arith
one_more false s rest = refl

pub counted_with : (name : List ℕ) (s : Sample) (cache : Cache) → bytes_in (others name (s ∷ cache)) ≡ bytes_of_other name s + bytes_in (others name cache)
counted_with name s cache = one_more (is_called name s) s (others name cache)

counted_few : (called : Bool) (s : Sample) → counted called s ≤ length (Sample.bytes s)
counted_few true s = omega arith
counted_few false s = omega arith

pub fewer : (name : List ℕ) (cache : Cache) → bytes_in (others name cache) ≤ bytes_in cache
fewer name [] = omega arith
fewer name (s ∷ cache) = omega (arith, counted_with name s cache, counted_few (is_called name s) s, fewer name cache)

pub bytes_with : (cache : Cache) (s : Sample) → bytes_in (cache ++ s ∷ []) ≡ bytes_in cache + length (Sample.bytes s)
bytes_with [] s = omega arith
bytes_with (x ∷ cache) s = omega (arith, bytes_with cache s)

pub others_are : (name : List ℕ) (cache : Cache) → IsCache cache → IsCache (others name cache)
others_are name cache is = record {
  samples = kept IsSample (λ s. not (is_called name s)) cache is.samples;
  fits = omega (arith, fewer name cache, is.fits);
}

pub stored_is : (s : Sample) (cache : Cache) → IsCache cache → IsSample s → length s.bytes + bytes_in (others s.name cache) ≤ 67108864 → IsCache (stored s cache)
stored_is s cache is one fits = record {
  samples = joined IsSample (others s.name cache) s (others_are s.name cache is).samples one;
  fits = omega (arith, bytes_with (others s.name cache) s, fits);
}

-- What is found in the cache after a change, and the cache after one more.
use Rattle.std.proofs.Common.{◌≡◌, Bool, true, false, not, cond, List, [], ◌∷◌, ◌++◌, find, bytes_eq, fold, ℕ, Option, None, Some, refl, ap, ◌∙◌}
use Rattle.std.specs.Cmp.Lexicographic.{bytes_decides}
use Rattle.px_scache.specs.declared.sample.Sample.{Sample}
use Rattle.px_scache.specs.Cache.{Cache, Change, is_called, sample_in, others, stored, removed, changed, cache_of}

itself : (name : List ℕ) → bytes_eq name name ≡ true
itself name = (bytes_decides name name).1 refl

-- ---- a sample with the name that was dropped is no longer there

dropped : (b : Bool) (x : Sample) (test : Sample → Bool) (rest : Cache) → test x ≡ b → find test rest ≡ None → find test (cond (not b) (x ∷ rest) rest) ≡ None
dropped true x test rest is none = none
dropped false x test rest is none = rw is none

pub none_left : (name : List ℕ) (cache : Cache) → sample_in (removed name cache) name ≡ None
none_left name [] = refl
none_left name (x ∷ cache) = dropped (is_called name x) x (is_called name) (others name cache) refl (none_left name cache)

after_first : (b : Bool) (x s : Sample) (rest longer : Option Sample) → (rest ≡ None → longer ≡ Some s) → cond b (Some x) rest ≡ None → cond b (Some x) longer ≡ Some s
after_first true x s rest longer more e = absurd cc
after_first false x s rest longer more e = more e

last : (name : List ℕ) (cache : Cache) (s : Sample) → sample_in cache name ≡ None → is_called name s ≡ true → sample_in (cache ++ s ∷ []) name ≡ Some s
last name [] s none is = rw is refl
last name (x ∷ cache) s none is = after_first (is_called name x) x s (sample_in cache name) (sample_in (cache ++ s ∷ []) name) (λ e. last name cache s e is) none

pub found_again : (s : Sample) (cache : Cache) → sample_in (stored s cache) s.name ≡ Some s
found_again s cache = last s.name (others s.name cache) s (none_left s.name cache) (itself s.name)

-- ---- those with other names are found as before

module _ (name other : List ℕ) (differ : bytes_eq name other ≡ false) where
  apart : (x : Sample) → is_called name x ≡ true → is_called other x ≡ false
  apart x is =
      let same : Sample.name x ≡ name = (bytes_decides (Sample.name x) name).0 is in
      ap (λ n. bytes_eq n other) same ∙ differ

  kept_there : (b : Bool) (x : Sample) (rest cache : Cache) → is_called name x ≡ b → sample_in rest other ≡ sample_in cache other
      → sample_in (cond (not b) (x ∷ rest) rest) other ≡ sample_in (x ∷ cache) other
  kept_there true x rest cache is e = rw (apart x is) e
  kept_there false x rest cache is e = ap (λ o. cond (is_called other x) (Some x) o) e

  pub others_stay : (cache : Cache) → sample_in (removed name cache) other ≡ sample_in cache other
  others_stay [] = refl
  others_stay (x ∷ cache) = kept_there (is_called name x) x (others name cache) cache refl (others_stay cache)

  not_last : (cache : Cache) (s : Sample) → is_called other s ≡ false → sample_in (cache ++ s ∷ []) other ≡ sample_in cache other
  not_last [] s is = rw is refl
  not_last (x ∷ cache) s is = ap (λ o. cond (is_called other x) (Some x) o) (not_last cache s is)

pub others_found : (s : Sample) (other : List ℕ) (cache : Cache) → bytes_eq s.name other ≡ false → sample_in (stored s cache) other ≡ sample_in cache other
others_found s other cache differ = not_last s.name other differ (others s.name cache) s differ ∙ others_stay s.name other differ cache

-- ---- one more change

from_on : (cache : Cache) (changes : List Change) (change : Change) → fold changed cache (changes ++ change ∷ []) ≡ changed (fold changed cache changes) change
from_on cache [] change = refl
from_on cache (first ∷ changes) change = from_on (changed cache first) changes change

pub one_more : (changes : List Change) (change : Change) → cache_of (changes ++ change ∷ []) ≡ changed (cache_of changes) change
one_more changes change = from_on [] changes change

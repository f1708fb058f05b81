-- The sample cache: a map from names to samples.
use Rattle.std.specs.Prelude.{◌≡◌, ℕ, ◌+◌, ◌<◌, ◌≤◌, Bool, false, not, cond, ◌&&◌, nat_lt, nat_le, List, [], ◌∷◌, ◌++◌, length, filter, find, fold, bytes_eq, Option, None, Some, Ok}
use Rattle.std.specs.List.{AllByRecursion, list_any}
use Rattle.px_types.specs.declared.error_code.ErrorCode.TheVariants.{NoEntity, TooLarge}
use Rattle.px_chmap.specs.ChannelMap.{IsChannelMap}
use Rattle.px_reply.specs.Front.{reply_to}
use Rattle.px_outcome.specs.Handled.{Handled, ◌>>=◌, check}
use Rattle.px_scache.specs.declared.sample.Sample.{Sample}
use Rattle.px_scache.specs.Uploads.{MOST_BYTES}

abbrev pub Cache : Type 0
Cache = List Sample

abbrev pub is_called : List ℕ → Sample → Bool
is_called name s = bytes_eq (Sample.name s) name

-- the sample with a name
abbrev pub sample_in : Cache → List ℕ → Option Sample
sample_in cache name = find (is_called name) cache

abbrev pub others : List ℕ → Cache → Cache
others name cache = filter (λ s. not (is_called name s)) cache

-- a sample is stored under its name, in place of one there
abbrev pub stored : Sample → Cache → Cache
stored s cache = others s.name cache ++ s ∷ []

abbrev pub removed : List ℕ → Cache → Cache
removed name cache = others name cache

-- ---- the cache after finished uploads and removals

pub data Change : Type 0 where
  Finished : Sample → Change
  Removed : List ℕ → Change

abbrev pub changed : Cache → Change → Cache
changed cache (Finished s) = stored s cache
changed cache (Removed name) = removed name cache

abbrev pub cache_of : List Change → Cache
cache_of changes = fold changed [] changes

-- ---- the room in it

abbrev pub bytes_in : Cache → ℕ
bytes_in [] = 0
bytes_in (s ∷ cache) = length (Sample.bytes s) + bytes_in cache

-- the bytes of a sample, where it has another name
abbrev pub bytes_of_other : List ℕ → Sample → ℕ
bytes_of_other name s = cond (is_called name s) 0 (length (Sample.bytes s))

abbrev pub MOST_SAMPLES : ℕ
MOST_SAMPLES = 256

abbrev pub MOST_IN_ALL : ℕ
MOST_IN_ALL = 67108864

-- beside the samples of other names
abbrev pub has_room : Sample → Cache → Bool
has_room s cache =
    nat_lt (length (others s.name cache)) MOST_SAMPLES
    && nat_le (length s.bytes + bytes_in (others s.name cache)) MOST_IN_ALL

-- ---- what is done by name, which the null string isn't

abbrev pub sample_named : Option (List ℕ) → Cache → Option Sample
sample_named None cache = None
sample_named (Some name) cache = sample_in cache name

abbrev pub has_sample : Option (List ℕ) → Cache → Bool
has_sample None cache = false
has_sample (Some name) cache = list_any (is_called name) cache

abbrev pub without : Option (List ℕ) → Cache → Cache
without None cache = cache
without (Some name) cache = removed name cache

-- FINISH_UPLOAD_STREAM: the sample of the upload is stored
abbrev pub finish : ℕ → Sample → Cache → Handled (Cache × List ℕ)
finish tag s cache = do
  room ← check (has_room s cache) TooLarge
  Ok (stored s cache, reply_to tag)

-- REMOVE_SAMPLE
abbrev pub remove : ℕ → Option (List ℕ) → Cache → Handled (Cache × List ℕ)
remove tag name cache = do
  there ← check (has_sample name cache) NoEntity
  Ok (without name cache, reply_to tag)

-- ---- the invariant

pub record IsSample (s : Sample) : Type 0 where
  pub map : IsChannelMap s.map
  pub channels : length s.map ≡ s.spec.channels
  pub rate : s.spec.rate ≤ 192000
  pub some : 0 < length s.bytes
  pub few : length s.bytes ≤ MOST_BYTES

pub record IsCache (cache : Cache) : Type 0 where
  pub samples : AllByRecursion IsSample cache
  pub fits : bytes_in cache ≤ MOST_IN_ALL

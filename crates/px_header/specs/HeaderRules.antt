-- The rules of a header's fields, and of the whole header.
use Rattle.std.specs.Prelude.{◌≡◌, ℕ, ◌≤◌, Bool, ◌&&◌, not, List, [], ◌∷◌, ◌++◌, length, Option, find, ◌==◌, nat_le, slice_index, bytes_eq, IsTrue}
use Rattle.std.specs.List.{list_all}
use Rattle.px_sample.specs.declared.format.Format.{Format}
use Rattle.px_sample.specs.declared.format.Format.TheVariants.{U8, S16Le, S16Be, S32Le, S32Be, S24Le, S24Be, S24In32Le, S24In32Be}
use Rattle.px_sample.specs.Format.{code_of, IsLinear}
use Rattle.px_chmap.specs.ChannelMap.{IsChannelMap}
use Rattle.px_header.specs.declared.header.SinkSpec.{SinkSpec}
use Rattle.px_header.specs.declared.header.Header.{Header}

abbrev pub is_from_to : ℕ → ℕ → ℕ → Bool
is_from_to low high n = nat_le low n && nat_le n high

-- printable bytes of ASCII without the blank, the first not @
abbrev pub is_name : List ℕ → Bool
is_name bytes = list_all (is_from_to 0x21 0x7E) bytes && not (slice_index bytes 0 == 0x40)

-- no earlier sink has the name
abbrev pub is_new : List SinkSpec → List ℕ → Bool
is_new earlier name = list_all (λ s. not (bytes_eq s.name name)) earlier

-- the formats of sinks: whole numbers in even steps
abbrev pub formats : List Format
formats = U8 ∷ S16Le ∷ S16Be ∷ S32Le ∷ S32Be ∷ S24Le ∷ S24Be ∷ S24In32Le ∷ S24In32Be ∷ []

abbrev pub format_of : ℕ → Option Format
format_of code = find (λ f. code_of f == code) formats

abbrev pub is_depth : ℕ → ℕ → Bool
is_depth guard depth = is_from_to 1 65536 depth && nat_le guard depth

-- ---- what a header is

abbrev pub IsFromTo : ℕ → ℕ → ℕ → Type 0
IsFromTo low high n = (low ≤ n) × (n ≤ high)

-- a sink that follows these others
pub record IsSink (earlier : List SinkSpec) (s : SinkSpec) : Type 0 where
  pub name_size : IsFromTo 1 64 (length s.name)
  pub name : IsTrue (is_name s.name)
  pub own_name : IsTrue (is_new earlier s.name)
  pub format : IsLinear s.spec.format
  pub channels : IsFromTo 1 32 s.spec.channels
  pub rate : IsFromTo 1 192000 s.spec.rate
  pub map : IsChannelMap s.map
  pub map_size : length s.map ≡ s.spec.channels
  pub depth : IsFromTo 1 65536 s.depth
  pub guard : s.guard ≤ s.depth

-- sinks that follow these others, in order
abbrev pub AreSinks : List SinkSpec → List SinkSpec → Type 0
AreSinks earlier [] = Unit {0}
AreSinks earlier (s ∷ sinks) = IsSink earlier s × AreSinks (earlier ++ s ∷ []) sinks

pub record IsHeader (h : Header) : Type 0 where
  pub cookie : length h.cookie ≡ 256
  pub count : IsFromTo 1 16 (length h.sinks)
  pub sinks : AreSinks [] h.sinks

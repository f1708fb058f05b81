-- The bytes of a connection that the world doesn't get: their number, which stays at 2 ^ 64 - 1 once it reaches that.
use Rattle.std.specs.Prelude.{ℕ, ◌+◌, Bool, not, nat_eq, List, [], ◌∷◌, ◌++◌, filter, find, Option, None, Some}
use Rattle.px_types.specs.declared.ids.ConnId.{ConnId}
use Rattle.px_frame.specs.Frame.{offset_at}
use Rattle.px_cache_world.specs.declared.skips.Skip.{Skip}

abbrev pub skips_for : ConnId → Skip → Bool
skips_for conn skip = nat_eq (Skip.conn skip).0 conn.0

abbrev pub bytes_in : Option Skip → ℕ
bytes_in None = 0
bytes_in (Some skip) = skip.bytes

abbrev pub skipped_of : ConnId → List Skip → ℕ
skipped_of conn skips = bytes_in (find (skips_for conn) skips)

abbrev pub other_skips : ConnId → List Skip → List Skip
other_skips conn skips = filter (λ skip. not (skips_for conn skip)) skips

abbrev pub with_skip : ConnId → ℕ → List Skip → List Skip
with_skip conn more skips = other_skips conn skips ++ record { conn = conn; bytes = offset_at (skipped_of conn skips + more) } ∷ []

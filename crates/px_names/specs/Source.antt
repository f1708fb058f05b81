-- The name of the default source, where a server tells its clients one.
use Rattle.std.specs.Prelude.{ℕ, Bool, ◌&&◌, nat_le, List, length}
use Rattle.std.specs.List.{list_all}

-- a visible character of ASCII
abbrev pub is_visible : ℕ → Bool
is_visible byte = nat_le 0x21 byte && nat_le byte 0x7E

-- 1 to 64 of them
abbrev pub is_source_name : List ℕ → Bool
is_source_name bytes = nat_le 1 (length bytes) && nat_le (length bytes) 64 && list_all is_visible bytes

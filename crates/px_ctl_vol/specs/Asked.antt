-- The volume that a command asks for.
use Rattle.std.specs.Prelude.{ℕ, Bool, ◌&&◌, ◌||◌, nat_eq, nat_lt, nat_le, List, length}
use Rattle.std.specs.List.{list_all}
use Rattle.px_vol.specs.Volume.{greatest}

-- lawful volumes: one at least, and none above the maximum
abbrev pub is_volume : List ℕ → Bool
is_volume volumes = nat_lt 0 (length volumes) && list_all (λ v. nat_le v greatest) volumes

-- they fit `channels` channels: one for all of them, or one each
abbrev pub fits : List ℕ → ℕ → Bool
fits volumes channels = nat_eq (length volumes) 1 || nat_eq (length volumes) channels

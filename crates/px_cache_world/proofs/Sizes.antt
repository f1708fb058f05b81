-- How many bytes the packets of the server's own connection have.
use Rattle.std.proofs.Common.{◌≡◌, ℕ, ◌+◌, ◌<◌, ◌≤◌, List, [], length, length-append, refl, arith}
use Rattle.px_tag.specs.Item.{number, arbitrary, text, proplist, property}
use Rattle.px_cache_world.specs.Own.{auth_packet, name_packet}

auth_size : (cookie : List ℕ) → length (auth_packet cookie) ≡ 20 + length cookie
unfolding auth_packet number arbitrary
auth_size cookie = omega (arith, length-append cookie [])

pub auth_some : (cookie : List ℕ) → 0 < length (auth_packet cookie)
auth_some cookie = let size = auth_size cookie in omega arith

pub auth_few : (cookie : List ℕ) → length cookie ≡ 256 → length (auth_packet cookie) ≤ 400
auth_few cookie whole = let size = auth_size cookie in omega arith

name_size : length name_packet ≡ 53
unfolding name_packet number text arbitrary proplist property
name_size = refl

pub name_some : 0 < length name_packet
name_some = let size = name_size in omega arith

pub name_few : length name_packet ≤ 400
name_few = let size = name_size in omega arith

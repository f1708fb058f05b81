-- How many bytes the packets have.
use Rattle.std.proofs.Common.{◌≡◌, ℕ, ◌+◌, ◌<◌, ◌≤◌, true, false, List, [], ◌∷◌, ◌++◌, length, length-append, refl, arith, lit<}
use Rattle.px_tag.specs.Item.{number, arbitrary, text, flag, channel_volumes, proplist, property}
use Rattle.px_client.specs.declared.errand.Errand.{Errand}
use Rattle.px_client.specs.declared.errand.Errand.TheVariants.{List as list_inputs, Volume, Mute, SinkVolume, Move, Kill}
use Rattle.px_client.specs.Errand.{IsErrand, auth_packet, name_packet, errand_packet}

auth_size : (cookie : List ℕ) → length (auth_packet cookie) ≡ 20 + length cookie
unfolding auth_packet number arbitrary
auth_size cookie = omega (arith, length-append cookie [])

pub auth_some : (cookie : List ℕ) → 0 < length (auth_packet cookie)
auth_some cookie = let size = auth_size cookie in omega arith

pub auth_few : (cookie : List ℕ) → length cookie ≡ 256 → length (auth_packet cookie) ≤ 400
auth_few cookie whole = let size = auth_size cookie in omega arith

name_size : length name_packet ≡ 53
unfolding name_packet number text arbitrary proplist property
name_size = refl

pub name_some : 0 < length name_packet
name_some = let size = name_size in omega arith

pub name_few : length name_packet ≤ 400
name_few = let size = name_size in omega arith

errand_size : (errand : Errand) → IsErrand errand → (0 < length (errand_packet errand)) × (length (errand_packet errand) ≤ 400)
unfolding errand_packet number text flag channel_volumes
errand_size list_inputs is = (lit< tt, lit< tt)
errand_size (Volume input value) is = (lit< tt, lit< tt)
errand_size (Mute input true) is = (lit< tt, lit< tt)
errand_size (Mute input false) is = (lit< tt, lit< tt)
errand_size (SinkVolume name value) is =
    let few = is.0.few in
    let volumes : length (channel_volumes (value ∷ []) ++ []) ≡ 6 = refl in
    let text_cells = length-append name (0 ∷ []) in
    let cells = length-append (name ++ 0 ∷ []) (channel_volumes (value ∷ []) ++ []) in
    (omega (arith, few, volumes, text_cells, cells), omega (arith, few, volumes, text_cells, cells))
errand_size (Move input name) is =
    let few = is.few in
    let text_cells = length-append name (0 ∷ []) in
    let cells = length-append (name ++ 0 ∷ []) [] in
    (omega (arith, few, text_cells, cells), omega (arith, few, text_cells, cells))
errand_size (Kill input) is = (lit< tt, lit< tt)

pub errand_some : (errand : Errand) → IsErrand errand → 0 < length (errand_packet errand)
errand_some errand is = (errand_size errand is).0

pub errand_few : (errand : Errand) → IsErrand errand → length (errand_packet errand) ≤ 400
errand_few errand is = (errand_size errand is).1

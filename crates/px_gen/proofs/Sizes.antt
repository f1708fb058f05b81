-- How many bytes packets and frames have.
use Rattle.std.proofs.Common.{◌≡◌, ℕ, zero, suc, ◌*◌, ◌<◌, ◌≤◌, Bool, true, false, [], ◌++◌, length, refl, arith, lit<}
use Rattle.px_tag.specs.Item.{number, arbitrary, text, flag, spec, channel_map, channel_volumes, proplist}
use Rattle.px_gen.specs.Numbers.{next_state, samples}
use Rattle.px_gen.specs.Client.{auth_packet, create_packet, volume_packet, cork_packet, is_mono, shape, buffering, nine_flags}

auth_size : length auth_packet ≡ 276
unfolding auth_packet number arbitrary
auth_size = refl

volume_size : (conn volume : ℕ) → length (volume_packet conn volume) ≡ 21
unfolding volume_packet number channel_volumes
volume_size conn volume = refl

cork_size : (on : Bool) → length (cork_packet on) ≡ 16
unfolding cork_packet number flag
cork_size true = refl
cork_size false = refl

create_by : (mono : Bool) (conn : ℕ) → is_mono conn ≡ mono → (0 < length (create_packet conn)) × (length (create_packet conn) ≤ 400)
unfolding create_packet number text flag spec channel_map channel_volumes proplist
create_by true conn is = rw (is) (lit< tt, lit< tt)
create_by false conn is = rw (is) (lit< tt, lit< tt)

pub auth_some : 0 < length auth_packet
auth_some = let size = auth_size in omega arith

pub auth_few : length auth_packet ≤ 400
auth_few = let size = auth_size in omega arith

pub volume_some : (conn volume : ℕ) → 0 < length (volume_packet conn volume)
volume_some conn volume = let size = volume_size conn volume in omega arith

pub volume_few : (conn volume : ℕ) → length (volume_packet conn volume) ≤ 400
volume_few conn volume = let size = volume_size conn volume in omega arith

pub cork_some : (on : Bool) → 0 < length (cork_packet on)
cork_some on = let size = cork_size on in omega arith

pub cork_few : (on : Bool) → length (cork_packet on) ≤ 400
cork_few on = let size = cork_size on in omega arith

-- the packet is its parts
pub create_joined : (conn : ℕ) → ((((number 3 ++ number 1) ++ shape conn) ++ buffering) ++ nine_flags) ++ proplist [] ≡ create_packet conn
unfolding create_packet number text flag spec channel_map channel_volumes proplist
create_joined conn = joined_by (is_mono conn) conn refl
  where
    joined_by : (mono : Bool) (conn : ℕ) → is_mono conn ≡ mono → ((((number 3 ++ number 1) ++ shape conn) ++ buffering) ++ nine_flags) ++ proplist [] ≡ create_packet conn
    joined_by true conn is = rw (is) refl
    joined_by false conn is = rw (is) refl

pub create_some : (conn : ℕ) → 0 < length (create_packet conn)
create_some conn = (create_by (is_mono conn) conn refl).0

pub create_few : (conn : ℕ) → length (create_packet conn) ≤ 400
create_few conn = (create_by (is_mono conn) conn refl).1

pub samples_size : (n x : ℕ) → length (samples n x) ≡ 2 * n
samples_size zero x = refl
samples_size (suc n) x = let rest = samples_size n (next_state x) in omega arith

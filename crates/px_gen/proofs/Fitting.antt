-- What is written fits the fields of a session.
use Rattle.std.proofs.Common.{◌≡◌, ℕ, ◌%◌, ◌≤◌, Bool, true, false, List, length, refl, arith, lit<}
use Rattle.std.specs.List.{AllByRecursion}
use Rattle.px_tag.specs.Item.{number, arbitrary, text, flag, spec, channel_map, channel_volumes, proplist}
use Rattle.px_frame.specs.Descriptor.{descriptor_bytes}
use Rattle.px_session.specs.Writing.{FitsHeader, FitsEvent}
use Rattle.px_gen.specs.Client.{auth_packet, create_packet}
use Rattle.std.specs.Prelude.{pos, ◌==◌, if◌then◌else◌}
use Rattle.std.proofs.lemmas.List.{length-append}
use Rattle.px_frame.specs.Descriptor.{data_descriptor}
use Rattle.px_gen.specs.Numbers.{next_state, next_number, samples}
use Rattle.px_gen.specs.Client.{volume_packet, cork_packet, control_frame, data_frame, is_mono}
use Rattle.px_gen.specs.Generator.{form, header, opening, conn_in, choice_in, samples_of, said, step_events}
use Rattle.px_gen.proofs.Sizes.{samples_size}

pub header_fits : FitsHeader header
header_fits = record { count = lit< tt; names = (lit< tt, (lit< tt, tt)) }

pub opening_fits : AllByRecursion (FitsEvent form) opening
unfolding auth_packet create_packet descriptor_bytes number arbitrary text flag spec channel_map channel_volumes proplist
opening_fits = (tt, (lit< tt, (lit< tt, (tt, (lit< tt, (lit< tt, (tt, (lit< tt, (lit< tt, (tt, (lit< tt, (lit< tt, ((lit< tt, lit< tt), ((lit< tt, lit< tt), tt))))))))))))))

if_few : (b : Bool) (x y : List ℕ) → length x ≤ 65536 → length y ≤ 65536 → length (if b then x else y) ≤ 65536
if_few true x y few other = few
if_few false x y few other = other

volume_few : (n volume : ℕ) → length (control_frame (volume_packet n volume)) ≤ 65536
unfolding volume_packet descriptor_bytes number channel_volumes
volume_few n volume = lit< tt

cork_few : (on : Bool) → length (control_frame (cork_packet on)) ≤ 65536
unfolding cork_packet descriptor_bytes number flag
cork_few true = lit< tt
cork_few false = lit< tt

data_few : (bytes : List ℕ) → length bytes ≤ 256 → length (data_frame bytes) ≤ 65536
unfolding descriptor_bytes
data_few bytes few =
    let front = descriptor_bytes (data_descriptor (length bytes) 0 (pos 0) 0) in
    let size : length front ≡ 20 = refl in
    let whole = length-append {A = ℕ} front bytes in
    omega arith

few_by : (mono : Bool) (n : ℕ) → is_mono n ≡ mono → samples_of n ≤ 128
few_by true n is = rw (is) (lit< tt)
few_by false n is = rw (is) (lit< tt)

said_few : (n choice x : ℕ) → length (said n choice x) ≤ 65536
unfolding said
said_few n choice x =
    let few = few_by (is_mono n) n refl in
    let size = samples_size (samples_of n) x in
    if_few (choice == 0) _ _ (volume_few n (next_number x % 65537))
    (if_few (choice == 1) _ _ (cork_few (next_number x % 4 == 0)) (data_few (samples (samples_of n) x) (omega arith)))

pub step_fits : (x : ℕ) → AllByRecursion (FitsEvent form) (step_events x)
unfolding step_events
step_fits x = (said_few (conn_in (next_number x)) (choice_in (next_number x)) (next_state x), ((lit< tt, lit< tt), tt))

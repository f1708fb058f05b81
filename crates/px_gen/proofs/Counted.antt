-- The bytes of a session without steps, and the events of a session.
use Rattle.std.proofs.Common.{◌≡◌, ℕ, zero, suc, ◌+◌, ◌*◌, ◌++◌, length, refl, arith}
use Rattle.std.proofs.lemmas.List.{length-append}
use Rattle.px_tag.specs.Item.{number, arbitrary, text, flag, spec, channel_map, channel_volumes, proplist}
use Rattle.px_frame.specs.Descriptor.{descriptor_bytes}
use Rattle.px_session.specs.declared.event.Event.{Event}
use Rattle.px_session.specs.Spelling.{event}
use Rattle.px_session.specs.Spelling as spelling
use Rattle.px_gen.specs.Client.{auth_packet, create_packet}
use Rattle.px_gen.specs.Generator.{opening, step_events, step_state, steps, generated}

pub bare_size : (seed : ℕ) → length (generated seed 0) ≡ 1952
unfolding generated spelling.header event spelling.sink auth_packet create_packet descriptor_bytes number arbitrary text flag spec channel_map channel_volumes proplist
bare_size seed = refl

step_count : (x : ℕ) → length (step_events x) ≡ 2
unfolding step_events
step_count x = refl

steps_count : (n x : ℕ) → length (steps n x) ≡ 2 * n
steps_count zero x = refl
steps_count (suc n) x =
    let whole = length-append {A = Event} (step_events x) (steps n (step_state x)) in
    let one = step_count x in
    let rest = steps_count n (step_state x) in
    omega arith

pub event_count : (seed count : ℕ) → length (opening ++ steps count seed) ≡ 14 + 2 * count
event_count seed count =
    let whole = length-append {A = Event} opening (steps count seed) in
    let front : length opening ≡ 14 = refl in
    let rest = steps_count count seed in
    omega arith

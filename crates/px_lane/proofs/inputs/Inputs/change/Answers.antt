use Rattle.std.proofs.Common.{◌≡◌, ◌∙◌, ◌+◌, ◌-◌, List, length, ap, sym, subst, arith}
use Rattle.std.specs.List.{AllByRecursion}
use Rattle.px_model.specs.Sink.{IsRising}
use Rattle.px_lane.specs.declared.input.Input.{Input}
use Rattle.px_model.specs.Applied.{applied}
use Rattle.px_stream.specs.Messages.{message_of, room_for, blocks_with}
use Rattle.px_lane.specs.Room.{RoomyInputs}
use Rattle.px_lane.specs.Inputs.{inputs_of, HasRoom}
use Rattle.px_lane.proofs.Each.{in_place}
use Rattle.px_lane.proofs.Places.{all_less, room_small}
use Rattle.px_lane.proofs.Rising.{rising_change}
use Rattle.px_lane.proofs.inputs.Inputs.change.Goals as goal

pub change_at-requires-clause-room : goal.change_at-requires-clause-room
change_at-requires-clause-room g c =
    let d = c.self.inside in
    subst (λ (xs : List Input). AllByRecursion (HasRoom (room_for (message_of c.args.change)) (blocks_with (message_of c.args.change))) xs) (sym c.as_mut_slice.ensures.value)
    (all_less d.room (room_for (message_of c.args.change)) d.block_room (blocks_with (message_of c.args.change)) d.items.items
    (omega (arith, room_small (message_of c.args.change), c.requires.room, ap (λ (v : RoomyInputs). v.room) c.self.view_is))
    (omega (arith, c.requires.block_room, ap (λ (v : RoomyInputs). v.block_room) c.self.view_is))
    c.self.invariant.1)

pub invariant_of-self : goal.invariant_of-self
invariant_of-self g c =
    let d = c.self.inside in
    let left = d.block_room - c.blocks_with-brought.result in
    let lent : c.as_mut_slice.result.now ≡ d.items.items = c.as_mut_slice.ensures.value in
    in_place d.items.items c.change_at.new.inputs d.items.len d.room (d.room - 1) left d.items.cap
    (ap (λ (xs : List Input). length xs) (sym lent) ∙ c.as_mut_slice.ensures.len)
    (c.change_at.auto.inputs ∙ ap (λ (xs : List Input). length xs) lent)
    (subst IsRising (sym c.change_at.ensures.inputs) (rising_change c.args.input.0 (applied c.args.mixed (message_of c.args.change)) (inputs_of c.as_mut_slice.result.now) (subst (λ (xs : List Input). IsRising (inputs_of xs)) (sym lent) c.self.invariant.0)))
    (c.change_at.ensures.room (d.room - 1) left
    (subst (λ (xs : List Input). AllByRecursion (HasRoom (d.room - 1 + room_for (message_of c.args.change)) (left + blocks_with (message_of c.args.change))) xs) (sym lent)
    (all_less d.room (d.room - 1 + room_for (message_of c.args.change)) d.block_room (left + blocks_with (message_of c.args.change)) d.items.items
    (omega (arith, room_small (message_of c.args.change), c.requires.room, ap (λ (v : RoomyInputs). v.room) c.self.view_is))
    (omega (arith, c.blocks_with-brought.ensures, c.requires.block_room, ap (λ (v : RoomyInputs). v.block_room) c.self.view_is))
    c.self.invariant.1)))
    (omega arith)
    c.self.invariant.2

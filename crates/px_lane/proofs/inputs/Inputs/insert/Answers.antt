use Rattle.std.proofs.Common.{◌-◌, ap, sym, subst, arith}
use Rattle.px_model.specs.Sink.{IsRising}
use Rattle.px_lane.specs.Room.{RoomyInputs}
use Rattle.px_lane.specs.Inputs.{inputs_of}
use Rattle.px_lane.proofs.Places.{all_less}
use Rattle.px_lane.proofs.Rising.{rising_with}
use Rattle.px_lane.proofs.inputs.Inputs.insert.Goals as goal

pub invariant_of-self : goal.invariant_of-self
invariant_of-self c =
    let d = c.self.inside in (
      subst IsRising (sym c.open_at.ensures.inputs) (rising_with c.args.input.0 c.args.stream.stream (inputs_of d.items.items) c.self.invariant.0),
      c.open_at.ensures.room (d.room - 1) d.block_room (
        omega (arith, c.requires.stream_room.0, ap (λ (v : RoomyInputs). v.room) c.self.view_is),
        omega (arith, c.requires.stream_room.1, ap (λ (v : RoomyInputs). v.block_room) c.self.view_is),
      )
          (all_less d.room (d.room - 1) d.block_room d.block_room d.items.items (omega arith) (omega arith) c.self.invariant.1),
      omega (arith, c.open_at.ensures.len, c.open_at.ensures.capacity, c.self.invariant.2, c.requires.room, ap (λ (v : RoomyInputs). v.room) c.self.view_is),
    )

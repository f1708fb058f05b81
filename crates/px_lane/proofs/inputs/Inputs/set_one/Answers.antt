use Rattle.std.proofs.Common.{◌≡◌, ◌+◌, ◌∙◌, List, length, ap, sym, subst, arith}
use Rattle.std.specs.List.{AllByRecursion}
use Rattle.px_model.specs.Control.{with_factors}
use Rattle.px_model.specs.Sink.{IsRising}
use Rattle.px_lane.specs.declared.input.Input.{Input}
use Rattle.px_lane.specs.Inputs.{inputs_of, HasRoom}
use Rattle.px_lane.proofs.Each.{in_place}
use Rattle.px_lane.proofs.Places.{all_less, all_none}
use Rattle.px_lane.proofs.Rising.{rising_change}
use Rattle.px_lane.proofs.inputs.Inputs.set_one.Goals as goal

pub change_at-requires-clause-room : goal.change_at-requires-clause-room
change_at-requires-clause-room g c = all_none c.as_mut_slice.result.now

pub invariant_of-self : goal.invariant_of-self
invariant_of-self g c =
    let d = c.self.inside in
    let lent : c.as_mut_slice.result.now ≡ d.items.items = c.as_mut_slice.ensures.value in
    in_place d.items.items c.change_at.new.inputs d.items.len d.room d.room d.block_room d.items.cap
    (ap (λ (xs : List Input). length xs) (sym lent) ∙ c.as_mut_slice.ensures.len)
    (c.change_at.auto.inputs ∙ ap (λ (xs : List Input). length xs) lent)
    (subst IsRising (sym c.change_at.ensures.inputs) (rising_change c.args.input.0 (λ s. with_factors s c.args.factors) (inputs_of c.as_mut_slice.result.now) (subst (λ (xs : List Input). IsRising (inputs_of xs)) (sym lent) c.self.invariant.0)))
    (c.change_at.ensures.room d.room d.block_room
    (subst (λ (xs : List Input). AllByRecursion (HasRoom (d.room + 0) (d.block_room + 0)) xs) (sym lent)
    (all_less d.room (d.room + 0) d.block_room (d.block_room + 0) d.items.items (omega arith) (omega arith) c.self.invariant.1)))
    (omega arith)
    c.self.invariant.2

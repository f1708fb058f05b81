use Rattle.std.proofs.Common.{◌≡◌, ◌∙◌, List, length, ap, sym, subst, arith}
use Rattle.std.specs.List.{AllByRecursion}
use Rattle.px_model.specs.Sink.{IsRising}
use Rattle.px_lane.specs.declared.input.Input.{Input}
use Rattle.px_lane.specs.Inputs.{inputs_of, HasRoom}
use Rattle.px_lane.proofs.Each.{in_place}
use Rattle.px_lane.proofs.inputs.Inputs.reserve.Goals as goal

pub invariant_of-self : goal.invariant_of-self
invariant_of-self c =
    let d = c.self.inside in
    let lent : c.as_mut_slice.result.now ≡ d.items.items = c.as_mut_slice.ensures.value in
    in_place d.items.items c.reserve_inputs.new.inputs d.items.len d.room d.room d.block_room d.items.cap
    (ap (λ (xs : List Input). length xs) (sym lent) ∙ c.as_mut_slice.ensures.len)
    (c.reserve_inputs.auto.inputs ∙ ap (λ (xs : List Input). length xs) lent)
    (subst IsRising (sym (c.reserve_inputs.ensures.same ∙ ap inputs_of lent)) c.self.invariant.0)
    (c.reserve_inputs.ensures.held d.room d.block_room (subst (λ (xs : List Input). AllByRecursion (HasRoom d.room d.block_room) xs) (sym lent) c.self.invariant.1))
    (omega arith)
    c.self.invariant.2

pub invariant_of-self-in_err-reserve : goal.invariant_of-self-in_err-reserve
invariant_of-self-in_err-reserve c =
    let d = c.self.inside in
    let lent : c.as_mut_slice.result.now ≡ d.items.items = c.as_mut_slice.ensures.value in
    let held = in_place d.items.items c.reserve_inputs.new.inputs d.items.len d.room d.room d.block_room d.items.cap
    (ap (λ (xs : List Input). length xs) (sym lent) ∙ c.as_mut_slice.ensures.len)
    (c.reserve_inputs.auto.inputs ∙ ap (λ (xs : List Input). length xs) lent)
    (subst IsRising (sym (c.reserve_inputs.ensures.same ∙ ap inputs_of lent)) c.self.invariant.0)
    (c.reserve_inputs.ensures.held d.room d.block_room (subst (λ (xs : List Input). AllByRecursion (HasRoom d.room d.block_room) xs) (sym lent) c.self.invariant.1))
    (omega arith)
    c.self.invariant.2 in (
      subst (λ (xs : List Input). IsRising (inputs_of xs)) (sym c.reserve.ensures.items) held.0,
      subst (λ (xs : List Input). AllByRecursion (HasRoom d.room d.block_room) xs) (sym c.reserve.ensures.items) held.1,
      omega (arith, c.reserve.ensures.len, c.reserve.ensures.capacity, held.2),
    )

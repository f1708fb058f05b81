use Rattle.std.proofs.Common.{◌≡◌, ◌∙◌, length, ap, sym, subst, map, List}
use Rattle.std.specs.List.{AllByRecursion}
use Rattle.px_model.specs.Sink.{with_stream}
use Rattle.px_model.specs.Going.{after}
use Rattle.px_lane.specs.declared.input.Input.{Input}
use Rattle.px_lane.specs.Inputs.{inputs_of, HasRoom}
use Rattle.px_lane.proofs.Each.{rooms_in_place}
use Rattle.px_lane.proofs.inputs.Inputs.go.Goals as goal

pub invariant_of-self : goal.invariant_of-self
invariant_of-self g c =
    let d = c.self.inside in
    let lent : c.as_mut_slice.result.now ≡ d.items.items = c.as_mut_slice.ensures.value in
    rooms_in_place (λ s. after s c.args.frames) d.items.items c.go_each.new.inputs d.items.len d.room d.block_room d.items.cap
    (ap (λ (xs : List Input). length xs) (sym lent) ∙ c.as_mut_slice.ensures.len)
    (c.go_each.auto.inputs ∙ ap (λ (xs : List Input). length xs) lent)
    (c.go_each.ensures.inputs ∙ ap (λ (xs : List Input). map (with_stream (λ s. after s c.args.frames)) (inputs_of xs)) lent)
    (λ r b h. c.go_each.ensures.room r b (subst (λ (xs : List Input). AllByRecursion (HasRoom r b) xs) (sym lent) h))
    c.self.invariant

use Rattle.std.proofs.Common.{◌∙◌, List, Option, Ok, length, ◌-◌, take, drop, ap, subst, refl, arith}
use Rattle.std.proofs.lemmas.Result.{err_from_is_err_and}
use Rattle.px_frame.specs.declared.frame.Frame.{Frame}
use Rattle.px_client.specs.declared.inputs.Input.{Input}
use Rattle.px_client.specs.declared.errand.Errand.TheVariants as errands
use Rattle.px_client.specs.Hearing.{Scans}
use Rattle.px_client.proofs.Loops.{sound_still, sound_both, hears_nothing, refilled, ended, found, stopped, scan_counts, slice_left, scanned_few, inside_still, none_left}
use Rattle.px_client.proofs.hearing.Hearing.reply.Goals as goal

pub loop-count-init : goal.loop-count-init
loop-count-init g c = record {
  hears = hears_nothing c.args.awaited c.args.self.now (g.L.Link.left c.args.link.now);
  sent = refl;
  sound = sound_still (g.L.Link.counts c.args.link.now);
  inside = c.requires.inside;
}

pub returns-in_err-count-clause-hears : goal.returns-in_err-count-clause-hears
returns-in_err-count-clause-hears g c =
    let p = err_from_is_err_and c.from_residual.result c.from_residual.ensures.1 in
    rw (p.1, p.2) (stopped c.args.awaited c.args.self.now c.loop-count.self (g.L.Link.left c.args.link.now) (g.L.Link.left c.loop-count.link) c.loop-count.invariant.hears
    _ (slice_left c.as_slice.result.now c.loop-count.self c.as_slice.ensures) _ c.in_err-count.field-0.0 c.in_err-count.ensures)

pub returns-in_err-count-clause-count : goal.returns-in_err-count-clause-count
returns-in_err-count-clause-count g c =
    let p = err_from_is_err_and c.from_residual.result c.from_residual.ensures.1 in
    rw (p.1, p.2) (scan_counts _ _ c.in_err-count.field-0.0 errands.List c.args.awaited _ (c.in_err-count.ensures errands.List) c.loop-count.invariant.sound)

pub overflow_add-self : goal.overflow_add-self
overflow_add-self g c =
    let few = scanned_few c.in_ok-count.count c.in_ok-count.found errands.List c.args.awaited _ (c.in_ok-count.ensures errands.List) in
    let inside = inside_still c.loop-count.self _ c.in_ok-count.count c.loop-count.invariant.inside (slice_left c.as_slice.result.now c.loop-count.self c.as_slice.ensures) few in
    omega (arith, inside, c.as_slice.type_inv, ap (length {A = Frame}) c.as_slice.ensures)

pub returns-in-Some-clause-hears : goal.returns-in-Some-clause-hears
returns-in-Some-clause-hears g c =
    found c.args.awaited c.args.self.now c.loop-count.self (g.L.Link.left c.args.link.now) (g.L.Link.left c.loop-count.link) c.loop-count.invariant.hears
    _ (slice_left c.as_slice.result.now c.loop-count.self c.as_slice.ensures) _ c.in_ok-count.count c.in-Some.inputs refl
    (λ errand. subst (λ (f : Option (List Input)). Scans (Ok (c.in_ok-count.count, f)) errand c.args.awaited (take (length c.as_slice.result.now - c.loop-count.self.next) (drop c.loop-count.self.next c.as_slice.result.now))) c.in-Some.is (c.in_ok-count.ensures errand))

pub returns-in-Some-clause-inside : goal.returns-in-Some-clause-inside
returns-in-Some-clause-inside g c =
    inside_still c.loop-count.self _ c.in_ok-count.count c.loop-count.invariant.inside (slice_left c.as_slice.result.now c.loop-count.self c.as_slice.ensures)
    (scanned_few c.in_ok-count.count c.in_ok-count.found errands.List c.args.awaited _ (c.in_ok-count.ensures errands.List))

pub refill-requires : goal.refill-requires
refill-requires g c = record {
  all = none_left c.loop-count.self _ c.in_ok-count.count (slice_left c.as_slice.result.now c.loop-count.self c.as_slice.ensures)
      (subst (λ (f : Option (List Input)). Scans (Ok (c.in_ok-count.count, f)) errands.List c.args.awaited (take (length c.as_slice.result.now - c.loop-count.self.next) (drop c.loop-count.self.next c.as_slice.result.now))) c.in_default.is (c.in_ok-count.ensures errands.List)).0;
}

pub loop-count-preserved : goal.loop-count-preserved
loop-count-preserved g c = record {
  hears = refilled c.args.awaited c.args.self.now c.loop-count.self _ (g.L.Link.left c.args.link.now) (g.L.Link.left c.loop-count.link) (g.L.Link.left c.refill.new.link) c.loop-count.invariant.hears
      _ c.in_ok-count.count (slice_left c.as_slice.result.now c.loop-count.self c.as_slice.ensures) refl
      (λ errand. subst (λ (f : Option (List Input)). Scans (Ok (c.in_ok-count.count, f)) errand c.args.awaited (take (length c.as_slice.result.now - c.loop-count.self.next) (drop c.loop-count.self.next c.as_slice.result.now))) c.in_default.is (c.in_ok-count.ensures errand))
      c.in_ok-refill.field-0 c.refill.new.self c.in_ok-refill.ensures.hears;
  sent = c.in_ok-refill.ensures.other ∙ c.loop-count.invariant.sent;
  sound = sound_both c.loop-count.invariant.sound c.in_ok-refill.ensures.count;
  inside = c.in_ok-refill.ensures.inside;
}

pub returns-in_err-refill-clause-hears : goal.returns-in_err-refill-clause-hears
returns-in_err-refill-clause-hears g c =
    let p = err_from_is_err_and c.from_residual-in_err-refill.result c.from_residual-in_err-refill.ensures.1 in
    rw (p.1, p.2) (ended c.args.awaited c.args.self.now c.loop-count.self _ (g.L.Link.left c.args.link.now) (g.L.Link.left c.loop-count.link) (g.L.Link.left c.refill.new.link) c.loop-count.invariant.hears
    _ c.in_ok-count.count (slice_left c.as_slice.result.now c.loop-count.self c.as_slice.ensures) refl
    (λ errand. subst (λ (f : Option (List Input)). Scans (Ok (c.in_ok-count.count, f)) errand c.args.awaited (take (length c.as_slice.result.now - c.loop-count.self.next) (drop c.loop-count.self.next c.as_slice.result.now))) c.in_default.is (c.in_ok-count.ensures errand))
    c.refill.new.self c.in_err-refill.field-0.0 c.in_err-refill.ensures.hears)

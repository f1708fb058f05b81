use Rattle.std.proofs.Common.{◌≡◌, ◌<◌, length, arith, ◌∙◌, ap, sym, subst, ℤ, pos, get_or, w64, to_z, of_z, FitsSigned}
use Rattle.std.proofs.lemmas.Int.{to_z-of_z}
use Rattle.px_kernel.specs.Kernel.{AreReady, changed, changed_at, scaled}
use Rattle.px_kernel.proofs.Changing.{more_changed, ready_behind}
use Rattle.px_kernel.proofs.Shares.{word_is}
use Rattle.px_kernel.proofs.change.change_rest.Goals as goal

pub change_one-requires : goal.change_one-requires
change_one-requires c =
    let k = c.loop-k.k in
    let room : k < length c.loop-k.sums = omega (arith, c.loop-k.auto.sums, c.loop-k-test.true) in
    let ready : AreReady c.args.add c.loop-k.sums c.args.values.now c.args.factor k =
    ready_behind c.args.add c.args.sums.now c.args.values.now c.args.factor c.args.from k c.loop-k.sums c.requires.ready c.loop-k.invariant.1 c.loop-k.invariant.0 in
    record {
      fit = subst (FitsSigned w64)
          (sym (word_is c.args.add c.args.factor (get_or c.loop-k.sums k (pos 0)) (get_or c.args.values.now k (pos 0)) (ready.room k (omega arith) room) (ready.words k (omega arith) room)))
          (ready.fit k (omega arith) room);
    }

pub loop-k-preserved : goal.loop-k-preserved
loop-k-preserved c =
    let k = c.loop-k.k in
    let room : k < length c.loop-k.sums = omega (arith, c.loop-k.auto.sums, c.loop-k-test.true) in
    let ready : AreReady c.args.add c.loop-k.sums c.args.values.now c.args.factor k =
    ready_behind c.args.add c.args.sums.now c.args.values.now c.args.factor c.args.from k c.loop-k.sums c.requires.ready c.loop-k.invariant.1 c.loop-k.invariant.0 in
    let written : to_z w64 (of_z w64 c.change_one.result) ≡ c.change_one.result = to_z-of_z w64 c.change_one.result (record { sfits = c.change_one.type_inv }) in
    let value : to_z w64 (of_z w64 c.change_one.result) ≡ changed_at c.args.add c.args.sums.now c.args.values.now c.args.factor k =
    written ∙ c.change_one.ensures
    ∙ word_is c.args.add c.args.factor (get_or c.loop-k.sums k (pos 0)) (get_or c.args.values.now k (pos 0)) (ready.room k (omega arith) room) (ready.words k (omega arith) room)
    ∙ ap (λ (s : ℤ). changed c.args.add s (scaled (get_or c.args.values.now k (pos 0)) c.args.factor)) (c.loop-k.invariant.1.behind k (omega arith)) in
    (omega (arith, c.loop-k.invariant.0), more_changed c.args.add c.args.sums.now c.args.values.now c.args.factor c.args.from k c.loop-k.sums _ c.loop-k.invariant.1 c.loop-k.invariant.0 room value)

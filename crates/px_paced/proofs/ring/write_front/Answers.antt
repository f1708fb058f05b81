use Rattle.std.proofs.Common.{rules, ◌≡◌, min, length}
use Rattle.std.proofs.lemmas.Result.{on_ok_weaker, on_err_weaker}
use Rattle.px_paced.proofs.Ringed.{whole_of, both_added, cut_in_first, cut_in_second}
use Rattle.px_paced.proofs.ring.write_front.Goals as goal

pub returns-in-Ok-clause-ok : goal.returns-in-Ok-clause-ok
returns-in-Ok-clause-ok g c =
    let few : c.min-first.result ≡ min c.args.count (length c.as_slices.result.0.now) = search rules in
    let whole = whole_of c.as_slices.result.0.now c.as_slices.result.1.now c.args.ring.now.items c.args.count c.min-first.result few c.as_slices.ensures in
    on_ok_weaker c.write_all-in-Ok.result (λ two. both_added _ _ _ _ _ _ whole c.in-Ok.ensures.ok two) c.write_all-in-Ok.ensures.ok

pub returns-in-Ok-clause-err : goal.returns-in-Ok-clause-err
returns-in-Ok-clause-err g c =
    let few : c.min-first.result ≡ min c.args.count (length c.as_slices.result.0.now) = search rules in
    let whole = whole_of c.as_slices.result.0.now c.as_slices.result.1.now c.args.ring.now.items c.args.count c.min-first.result few c.as_slices.ensures in
    on_err_weaker c.write_all-in-Ok.result (λ cut. cut_in_second _ _ _ _ _ _ whole c.in-Ok.ensures.ok cut) c.write_all-in-Ok.ensures.err

pub returns-in-Err-clause-err : goal.returns-in-Err-clause-err
returns-in-Err-clause-err g c =
    let few : c.min-first.result ≡ min c.args.count (length c.as_slices.result.0.now) = search rules in
    let whole = whole_of c.as_slices.result.0.now c.as_slices.result.1.now c.args.ring.now.items c.args.count c.min-first.result few c.as_slices.ensures in
    cut_in_first _ _ _ _ _ whole c.in-Err.ensures.err

use Rattle.std.proofs.Common.{ℕ, ◌*◌, ◌≤◌, ap, sym, subst, arith, ◌∙◌}
use Rattle.px_stream.proofs.Sounds.{bytes_are, bytes_few}
use Rattle.px_stream.proofs.values.bytes_of.Goals as goal

pub overflow_mul-result : goal.overflow_mul-result
overflow_mul-result c =
    let few : c.args.frames * c.frame_size.result ≤ 1024 = subst (λ (n : ℕ). c.args.frames * n ≤ 1024) (sym c.frame_size.ensures) (bytes_few c.args.spec c.args.frames c.requires) in
    omega (arith, few)

pub returns-clause-few : goal.returns-clause-few
returns-clause-few c = subst (λ (n : ℕ). c.args.frames * n ≤ 1024) (sym c.frame_size.ensures) (bytes_few c.args.spec c.args.frames c.requires)

pub returns-clause-samples : goal.returns-clause-samples
returns-clause-samples c = ap (λ (n : ℕ). c.args.frames * n) c.frame_size.ensures ∙ bytes_are c.args.spec c.args.frames

use Rattle.std.proofs.Common.{◌≡◌, ℕ, length, arith, rules, refl, ◌∙◌}
use Rattle.std.specs.Prelude.{if◌then◌else◌}
use Rattle.px_flat.specs.Member.{factor_at}
use Rattle.px_flat.proofs.ByChannel.{listed}
use Rattle.px_flat.proofs.member.factors_under.Goals as goal

pub returns : goal.returns
returns c =
    let long : length c.loop-s.factors ≡ length c.values-channels.result.now = search rules in
    let listing = listed (λ (k : ℕ). if c.args.silent then 0 else factor_at c.args.real.now c.args.member.now k) c.loop-s.factors
    (length c.values-channels.result.now) long (λ k below. c.loop-s.invariant k (omega arith)) in
    c.in_sink.ensures ∙ listing ∙ rw c.values-channels.ensures.value refl

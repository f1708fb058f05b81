use Rattle.std.proofs.Common.{◌≡◌, ◌+◌, ◌∙◌, ℕ, sym, max, arith, ◌==◌}
use Rattle.std.specs.Prelude.{if◌then◌else◌}
use Rattle.px_flat.specs.Channels.{at, per_channel, greatest_of}
use Rattle.px_flat.proofs.ByChannel.{greatest_more}
use Rattle.px_flat.proofs.channels.value_for.Goals as goal

one_more : (number : ℕ → ℕ) (s loudest more heard : ℕ) → loudest ≡ greatest_of (per_channel s number) → heard ≡ number s → more ≡ max loudest heard
    → more ≡ greatest_of (per_channel (s + 1) number)
one_more number s loudest more heard is here e = e ∙ (λ i. max (is i) (here i)) ∙ sym (greatest_more number s)

pub loop-s-preserved : goal.loop-s-preserved
loop-s-preserved c = record {
  is = one_more (λ (s : ℕ). if at c.args.feed.now s == c.args.channel then at c.args.volumes.now s else 0)
      c.loop-s.s c.loop-s.loudest c.max-loudest.result c.heard.result c.loop-s.invariant.is c.heard.ensures.value c.max-loudest.ensures;
  bounded = grind (arith, c.max-loudest.ensures, c.heard.ensures.bounded, c.loop-s.invariant.bounded);
}

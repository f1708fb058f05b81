use Rattle.std.proofs.Common.{◌≡◌, ℕ, ◌+◌, ◌<◌, ◌≤◌, ◌+ℤ◌, ℤ, List, length, refl, ap, sym, ◌∙◌, subst, arith, ⊎_elim}
use Rattle.std.proofs.lemmas.Bool.{cases_lt}
use Rattle.std.proofs.lemmas.List.{length-map}
use Rattle.px_model.specs.Control.{with_factors}
use Rattle.px_mixcache.specs.Cache.{kept_at}
use Rattle.px_kept_mix.specs.Kept.{IsSumOf}
use Rattle.px_kept_mix.specs.Keeping.{share_in}
use Rattle.px_ramp.specs.Ramp.{value_at}
use Rattle.px_ramp.specs.RampMix.{values_at}
use Rattle.px_ramp.proofs.shares.add_each.Goals as goal

pub loop-k-init : goal.loop-k-init
loop-k-init g c = record {
  size = refl;
  words = c.requires.words;
  large = record { depth = refl; frames = refl; channels = refl };
  added = λ i j fed less. absurd (omega (arith, less));
  rest = λ i j fed high less. refl;
  little = λ i j fed less. absurd (omega (arith, less));
}

pub add_share-requires-clause-channels : goal.add_share-requires-clause-channels
add_share-requires-clause-channels g c = c.loop-k.invariant.large.channels ∙ c.requires.channels

pub add_share-requires-clause-inside : goal.add_share-requires-clause-inside
add_share-requires-clause-inside g c = omega (arith, c.loop-k.invariant.large.frames, c.requires.whole, c.loop-k-test.true)

pub add_share-requires-clause-near : goal.add_share-requires-clause-near
add_share-requires-clause-near g c = omega (arith, c.loop-k.invariant.large.frames, c.requires.whole, c.requires.near)

pub add_share-requires-clause-factors : goal.add_share-requires-clause-factors
add_share-requires-clause-factors g c =
    ap (λ (xs : List ℕ). length xs) c.factors-factors.ensures
    ∙ length-map c.args.ramps.now (λ r. value_at c.args.frames r (c.args.horizon + c.loop-k.k))
    ∙ c.requires.wide

pub add_share-requires-clause-room : goal.add_share-requires-clause-room
add_share-requires-clause-room g c = λ i j fed high less.
    let channels : i < c.args.sink.now.channels = omega (arith, fed, c.loop-k.invariant.large.channels, c.requires.channels) in
    let few : j < c.args.count = omega (arith, less, c.loop-k.invariant.large.frames, c.requires.whole) in
    subst (IsSumOf 258) (sym (c.loop-k.invariant.rest i j channels high few))
    (c.requires.room i j (omega (arith, channels, c.requires.channels)) (omega (arith, few, c.requires.whole)))

pub loop-k-preserved : goal.loop-k-preserved
loop-k-preserved g c =
    let l = c.loop-k in
    record {
      size = c.add_share.ensures.size ∙ l.invariant.size;
      words = c.add_share.ensures.words;
      large = record {
        depth = c.add_share.ensures.large.depth ∙ l.invariant.large.depth;
        frames = c.add_share.ensures.large.frames ∙ l.invariant.large.frames;
        channels = c.add_share.ensures.large.channels ∙ l.invariant.large.channels;
      };
      added = λ i j fed less. ⊎_elim
          (λ (low : j < c.loop-k.k). c.add_share.ensures.before i j fed low ∙ c.loop-k.invariant.added i j fed low)
          (λ (high : c.loop-k.k ≤ j).
          let here : c.loop-k.k ≡ j = omega (arith, less, high) in
          subst (λ (m : ℕ). kept_at c.add_share.new.cache i m
          ≡ kept_at c.args.cache.now i m +ℤ share_in c.args.sink.now (with_factors c.args.stream.now.stream (values_at c.args.frames (c.args.horizon + m) c.args.ramps.now)) i m) here
          (c.add_share.ensures.sums i fed
          ∙ ap (λ (fs : List ℕ). kept_at c.loop-k.cache i c.loop-k.k +ℤ share_in c.args.sink.now (with_factors c.args.stream.now.stream fs) i c.loop-k.k) c.factors-factors.ensures
          ∙ ap (λ (z : ℤ). z +ℤ share_in c.args.sink.now (with_factors c.args.stream.now.stream (values_at c.args.frames (c.args.horizon + c.loop-k.k) c.args.ramps.now)) i c.loop-k.k)
          (c.loop-k.invariant.rest i c.loop-k.k fed (omega arith) c.loop-k-test.true)))
          (cases_lt j c.loop-k.k);
      rest = λ i j fed high less.
          c.add_share.ensures.after i j fed (omega (arith, high)) (omega (arith, less, c.loop-k.invariant.large.frames, c.requires.whole))
          ∙ c.loop-k.invariant.rest i j fed (omega (arith, high)) less;
      little = λ i j fed less. ⊎_elim
          (λ (low : j < c.loop-k.k). c.loop-k.invariant.little i j fed low)
          (λ (high : c.loop-k.k ≤ j).
          let here : c.loop-k.k ≡ j = omega (arith, less, high) in
          subst (λ (m : ℕ). IsSumOf 1 (share_in c.args.sink.now (with_factors c.args.stream.now.stream (values_at c.args.frames (c.args.horizon + m) c.args.ramps.now)) i m)) here
          (subst (λ (fs : List ℕ). IsSumOf 1 (share_in c.args.sink.now (with_factors c.args.stream.now.stream fs) i c.loop-k.k)) c.factors-factors.ensures (c.add_share.ensures.little i fed)))
          (cases_lt j c.loop-k.k);
    }

pub returns-clause-sums : goal.returns-clause-sums
returns-clause-sums g c = λ i k fed less. c.loop-k.invariant.added i k fed (omega (arith, less, c.loop-k-test.false))

pub returns-clause-little : goal.returns-clause-little
returns-clause-little g c = λ i k fed less. c.loop-k.invariant.little i k fed (omega (arith, less, c.loop-k-test.false))

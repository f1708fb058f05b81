use Rattle.std.proofs.Common.{◌≡◌, ℕ, ◌+◌, ◌-◌, ◌*◌, ◌≤◌, length, arith, subst, ◌∙◌}
use Rattle.std.proofs.Math.Nat.{mul-le-mul_left}
use Rattle.px_kept_mix.specs.Keeping.{SharesBetween, AreLittle}
use Rattle.px_kept_mix.proofs.Spanned.{both_spans, both_little, small_past, ticks_more}
use Rattle.px_kept_mix.proofs.spans.change_spans.Goals as goal

pub change_next-at-requires-clause-channels : goal.change_next-at-requires-clause-channels
change_next-at-requires-clause-channels g c = c.loop-at.invariant.large.channels ∙ c.requires.channels

pub change_next-at-requires-clause-inside : goal.change_next-at-requires-clause-inside
change_next-at-requires-clause-inside g c = omega (arith, c.loop-at.invariant.large.frames, c.requires.inside)

pub change_next-at-requires-clause-near : goal.change_next-at-requires-clause-near
change_next-at-requires-clause-near g c = omega (arith, c.loop-at.invariant.large.frames, c.requires.near)

pub change_next-at-requires-clause-size : goal.change_next-at-requires-clause-size
change_next-at-requires-clause-size g c =
    let h = c.loop-at.invariant in
    let fewer : c.args.to - c.loop-at.at ≤ c.args.to - c.args.from = omega (arith, h.first) in
    omega (arith, h.size, c.requires.size, mul-le-mul_left c.args.sink.now.channels fewer)

pub change_next-at-requires-clause-room : goal.change_next-at-requires-clause-room
change_next-at-requires-clause-room g c =
    let h = c.loop-at.invariant in
    small_past c.args.add c.args.sink.now c.args.stream.now.stream c.args.from c.loop-at.at 258 c.args.cache.now c.loop-at.cache h.large h.first h.sums c.requires.room

pub loop-at-preserved : goal.loop-at-preserved
loop-at-preserved g c =
    let h = c.loop-at.invariant in
    let next = c.change_next-at.result in
    let e = c.change_next-at.ensures in
    let some : c.loop-at.at ≤ next = omega (arith, e.more) in
    record {
      first = omega (arith, h.first, some);
      last = e.few;
      size = e.size ∙ h.size;
      words = e.words;
      large = record {
        depth = e.large.depth ∙ h.large.depth;
        frames = e.large.frames ∙ h.large.frames;
        channels = e.large.channels ∙ h.large.channels;
      };
      sums = both_spans c.args.add c.args.sink.now c.args.stream.now.stream c.args.from c.loop-at.at next h.first some c.args.cache.now c.loop-at.cache c.change_next-at.new.cache h.large h.sums e.sums;
      little = both_little c.args.add c.args.sink.now c.args.stream.now.stream c.args.from c.loop-at.at next h.first some h.little e.little;
      ticks = ticks_more c.args.sink.now.channels c.args.from c.loop-at.at next c.args.steps.now c.loop-at.steps c.change_next-at.new.steps h.first some h.ticks e.ticks;
    }

pub returns-clause-sums : goal.returns-clause-sums
returns-clause-sums g c =
    let h = c.loop-at.invariant in
    let end : c.loop-at.at ≡ c.args.to = omega (arith, h.last, c.loop-at-test.false) in
    subst (λ (n : ℕ). SharesBetween c.args.add c.args.sink.now c.args.stream.now.stream c.args.from n c.args.cache.now c.loop-at.cache) end h.sums

pub returns-clause-little : goal.returns-clause-little
returns-clause-little g c =
    let h = c.loop-at.invariant in
    let end : c.loop-at.at ≡ c.args.to = omega (arith, h.last, c.loop-at-test.false) in
    subst (λ (n : ℕ). AreLittle c.args.sink.now c.args.stream.now.stream c.args.from n) end h.little

pub change_next-at-requires-clause-words : goal.change_next-at-requires-clause-words
change_next-at-requires-clause-words g c = c.loop-at.invariant.words

pub returns-clause-words : goal.returns-clause-words
returns-clause-words g c = c.loop-at.invariant.words

pub returns-clause-large : goal.returns-clause-large
returns-clause-large g c = c.loop-at.invariant.large

pub returns-clause-ticks : goal.returns-clause-ticks
returns-clause-ticks g c =
    let h = c.loop-at.invariant in
    let end : c.loop-at.at ≡ c.args.to = omega (arith, h.last, c.loop-at-test.false) in
    subst (λ (n : ℕ). c.loop-at.steps ≤ c.args.steps.now + 2 * (c.args.sink.now.channels * (n - c.args.from))) end h.ticks

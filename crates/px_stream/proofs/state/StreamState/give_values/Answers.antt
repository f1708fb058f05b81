use Rattle.std.proofs.Common.{◌≡◌, ◌≢◌, ℕ, ◌+◌, ◌-◌, ◌*◌, ◌/◌, ◌<◌, ◌≤◌, List, length, get_or, pos, ap, sym, ◌∙◌, subst, arith, ⊎_elim}
use Rattle.std.proofs.lemmas.Bool.{cases_lt}
use Rattle.px_model.specs.Queue.{nothing}
use Rattle.px_model.specs.Stream.{frame_at}
use Rattle.px_stream.specs.HeldStream.{HeldStream}
use Rattle.px_stream.specs.Values.{value_at, GivesValues}
use Rattle.px_stream.proofs.Runs.{run_is}
use Rattle.px_stream.proofs.state.StreamState.give_values.Goals as goal

pub put_values-given-requires-clause-runs : goal.put_values-given-requires-clause-runs
put_values-given-requires-clause-runs c =
    let feed = c.args.self.now.stream.feed in
    let same : c.channels.result.now ≡ feed = c.channels.ensures.value ∙ ap (λ (v : HeldStream). v.stream.feed) c.self.view_is in
    let some : 0 < length feed = omega (arith, c.channels.ensures.valid.some, ap (λ (v : HeldStream). length v.stream.feed) c.self.view_is) in
    let run : c.run_of-run.result ≡ c.requires.0 =
    c.run_of-run.ensures ∙ ap (λ (xs : List ℕ). length c.args.out.now / length xs) same ∙ run_is (length c.args.out.now) c.requires.0 (length feed) some c.requires.1 in
    c.loop-count.auto.out ∙ c.requires.1 ∙ ap (λ (n : ℕ). n * length feed) (sym run)

pub loop-count-preserved : goal.loop-count-preserved
loop-count-preserved c =
    let s = c.args.self.now.stream in
    let run = c.run_of-run.result in
    let count = c.loop-count.count in
    let from = c.args.from in
    let given = c.put_values-given.result in
    let h = c.loop-count.invariant in
    let put = c.put_values-given.ensures in
    let few : count + given ≤ run = omega (arith, put.few, c.loop-count-test.true, c.min-most.ensures) in
    record {
      few = few;
      near = omega (arith, put.few, c.if-count-from.true, c.min-most.ensures);
      there = λ j less. ⊎_elim
          (λ (earlier : j < count). h.there j earlier)
          (λ (past : count ≤ j). let same : from + count + (j - count) ≡ from + j = omega (arith, past) in
          subst (λ (n : ℕ). frame_at s n ≢ nothing) same (put.there (j - count) (omega (arith, past, less))))
          (cases_lt j count);
      values = λ k j fed less. ⊎_elim
          (λ (earlier : j < count). put.before k j fed earlier ∙ h.values k j fed earlier)
          (λ (past : count ≤ j).
          let same : from + count + (j - count) ≡ from + j = omega (arith, past) in
          let at : k * run + j ≡ k * run + count + (j - count) = omega (arith, past) in
          ap (λ (n : ℕ). get_or c.put_values-given.new.out n (pos 0)) at ∙ put.values k (j - count) fed (omega (arith, past, less)) ∙ ap (λ (n : ℕ). value_at c.args.width s k (frame_at s n)) same)
          (cases_lt j count);
      fit = λ all. put.fit (h.fit all);
      rest = λ k j fed past within. put.after k j fed past within ∙ h.rest k j fed (omega (arith, past)) within;
    }

pub returns-then-given-eq0-clause-values : goal.returns-then-given-eq0-clause-values
returns-then-given-eq0-clause-values c =
    let s = c.args.self.now.stream in
    let feed = s.feed in
    let run = c.run_of-run.result in
    let same : c.channels.result.now ≡ feed = c.channels.ensures.value ∙ ap (λ (v : HeldStream). v.stream.feed) c.self.view_is in
    let some : 0 < length feed = omega (arith, c.channels.ensures.valid.some, ap (λ (v : HeldStream). length v.stream.feed) c.self.view_is) in
    let h = c.loop-count.invariant in
    let put = c.put_values-given.ensures in
    let zero : c.put_values-given.result ≡ 0 = omega (arith, c.if-given-eq0.true) in
    let made : GivesValues c.args.width s c.args.from run c.loop-count.count c.args.out.now c.put_values-given.new.out = record {
      few = h.few;
      size = c.put_values-given.auto.out ∙ c.loop-count.auto.out;
      there = h.there;
      greatest = λ less near. put.none zero;
      values = λ k j fed less. put.before k j fed less ∙ h.values k j fed less;
      rest = λ k j fed past within. put.after k j fed (omega (arith, past, zero)) within ∙ h.rest k j fed past within;
    } in
    λ n whole.
    let run_same : run ≡ n = c.run_of-run.ensures ∙ ap (λ (xs : List ℕ). length c.args.out.now / length xs) same ∙ run_is (length c.args.out.now) n (length feed) some whole in
    subst (λ (m : ℕ). GivesValues c.args.width s c.args.from m c.loop-count.count c.args.out.now c.put_values-given.new.out) run_same made

pub returns-else-count-from-clause-values : goal.returns-else-count-from-clause-values
returns-else-count-from-clause-values c =
    let s = c.args.self.now.stream in
    let feed = s.feed in
    let run = c.run_of-run.result in
    let same : c.channels.result.now ≡ feed = c.channels.ensures.value ∙ ap (λ (v : HeldStream). v.stream.feed) c.self.view_is in
    let some : 0 < length feed = omega (arith, c.channels.ensures.valid.some, ap (λ (v : HeldStream). length v.stream.feed) c.self.view_is) in
    let h = c.loop-count.invariant in
    let made : GivesValues c.args.width s c.args.from run c.loop-count.count c.args.out.now c.loop-count.out = record {
      few = h.few;
      size = c.loop-count.auto.out;
      there = h.there;
      greatest = λ less near. absurd (omega (arith, c.if-count-from.false, near));
      values = h.values;
      rest = h.rest;
    } in
    λ n whole.
    let run_same : run ≡ n = c.run_of-run.ensures ∙ ap (λ (xs : List ℕ). length c.args.out.now / length xs) same ∙ run_is (length c.args.out.now) n (length feed) some whole in
    subst (λ (m : ℕ). GivesValues c.args.width s c.args.from m c.loop-count.count c.args.out.now c.loop-count.out) run_same made

pub returns-after-loop-count-clause-values : goal.returns-after-loop-count-clause-values
returns-after-loop-count-clause-values c =
    let s = c.args.self.now.stream in
    let feed = s.feed in
    let run = c.run_of-run.result in
    let same : c.channels.result.now ≡ feed = c.channels.ensures.value ∙ ap (λ (v : HeldStream). v.stream.feed) c.self.view_is in
    let some : 0 < length feed = omega (arith, c.channels.ensures.valid.some, ap (λ (v : HeldStream). length v.stream.feed) c.self.view_is) in
    let h = c.loop-count.invariant in
    let made : GivesValues c.args.width s c.args.from run c.loop-count.count c.args.out.now c.loop-count.out = record {
      few = h.few;
      size = c.loop-count.auto.out;
      there = h.there;
      greatest = λ less near. absurd (omega (arith, c.loop-count-test.false, less));
      values = h.values;
      rest = h.rest;
    } in
    λ n whole.
    let run_same : run ≡ n = c.run_of-run.ensures ∙ ap (λ (xs : List ℕ). length c.args.out.now / length xs) same ∙ run_is (length c.args.out.now) n (length feed) some whole in
    subst (λ (m : ℕ). GivesValues c.args.width s c.args.from m c.loop-count.count c.args.out.now c.loop-count.out) run_same made

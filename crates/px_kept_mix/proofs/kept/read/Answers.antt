use Rattle.std.proofs.Common.{◌≡◌, ℕ, ◌+◌, ◌<◌, ◌≤◌, List, length, ap, ◌∙◌, arith, ⊎_elim}
use Rattle.std.proofs.Math.Nat.{mul-le-mul_left}
use Rattle.std.proofs.lemmas.Bool.{cases_lt}
use Rattle.px_model.specs.Stream.{frame_at}
use Rattle.px_kept_mix.proofs.Reading.{none_behind, value_none}
use Rattle.px_kept_mix.proofs.kept.read.Goals as goal

pub returns-clause-values : goal.returns-clause-values
returns-clause-values g c = λ i j fed few.
    let s = c.args.stream.now.stream in
    let given = c.frame_values-given.result in
    let gives = c.frame_values-given.ensures.values c.args.run c.requires.runs in
    let runs : length c.values-runs.result.now ≡ length c.args.stream.now.stream.feed =
    ap (λ (xs : List ℕ). length xs) c.values-runs.ensures.value ∙ ap (λ (xs : List ℕ). length xs) c.factors.ensures.value ∙ c.factors.ensures.places in
    let within : j < c.args.run = ⊎_elim (λ is. omega (arith, is, few, gives.few)) (λ is. omega (arith, is, few)) c.shorten.ensures.left in
    ⊎_elim
    (λ (there : j < given). c.shorten.ensures.values i j (omega (arith, fed, runs)) there ∙ gives.values i j fed there)
    (λ (past : given ≤ j).
    c.shorten.ensures.silent i j (omega (arith, fed, runs)) past few
    ∙ value_none c.args.width s i (frame_at s (c.args.from + j))
    (none_behind c.args.width s c.args.from c.args.run given c.args.values.now c.frame_values-given.new.out gives c.requires.near j past within))
    (cases_lt j given)

pub returns-clause-end : goal.returns-clause-end
returns-clause-end g c = λ j past few.
    let gives = c.frame_values-given.ensures.values c.args.run c.requires.runs in
    let behind : c.frame_values-given.result ≤ j = ⊎_elim (λ is. omega (arith, is, past)) (λ is. omega (arith, is, past, gives.few)) c.shorten.ensures.left in
    none_behind c.args.width c.args.stream.now.stream c.args.from c.args.run c.frame_values-given.result c.args.values.now c.frame_values-given.new.out gives c.requires.near j behind few

pub returns-clause-ticks : goal.returns-clause-ticks
returns-clause-ticks g c =
    let gives = c.frame_values-given.ensures.values c.args.run c.requires.runs in
    let most : c.frame_values-given.result ≤ c.shorten.result = ⊎_elim (λ is. omega (arith, is)) (λ is. omega (arith, is, gives.few)) c.shorten.ensures.left in
    omega (arith, c.frame_values-given.ensures.ticks, mul-le-mul_left (length c.args.stream.now.stream.feed) most)

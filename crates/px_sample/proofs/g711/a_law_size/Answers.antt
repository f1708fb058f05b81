use Rattle.std.proofs.Common.{rules, ◌<◌, sym, ◌∙◌, ◌+◌, ◌%◌, ◌*◌, ◌^◌, ◌/◌, ◌-◌, bit_and, nat_eq, subst}
use Rattle.std.proofs.lemmas.Bool.{cond-true, cond-false, eq-eqb, ne_eqb}
use Rattle.px_sample.proofs.CompandedLemmas.{a_law_shifted-is, a_law_shifted-small}
use Rattle.px_sample.proofs.g711.a_law_size.Goals as goal

pub returns-then-segment-eq0-clause-value : goal.returns-then-segment-eq0-clause-value
returns-then-segment-eq0-clause-value c =
    sym (cond-true _ _ _ (eq-eqb _ _ c.if-segment-eq0.true)) ∙ a_law_shifted-is c.args.plain (search rules)

pub returns-else-segment-eq0-clause-value : goal.returns-else-segment-eq0-clause-value
returns-else-segment-eq0-clause-value c =
    sym (cond-false _ _ _ (ne_eqb _ _ c.if-segment-eq0.false)) ∙ a_law_shifted-is c.args.plain (search rules)

pub returns-else-segment-eq0-clause-small : goal.returns-else-segment-eq0-clause-small
returns-else-segment-eq0-clause-small c =
    let same = cond-false (nat_eq (bit_and c.args.plain 112 / 16) 0) (bit_and c.args.plain 15 * 16 % 4294967296 + 8)
    ((bit_and c.args.plain 15 * 16 % 4294967296 + 264) * 2 ^ (bit_and c.args.plain 112 / 16 - 1) % 4294967296)
    (ne_eqb _ _ c.if-segment-eq0.false) in
    subst (λ n. n < 32768) same (a_law_shifted-small c.args.plain (search rules))

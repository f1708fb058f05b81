use Rattle.std.proofs.Common.{◌≡◌, suc, ◌+◌, ◌-◌, ◌*◌, ◌^◌, drop, get_or, rules, sym, ap, ◌∙◌, arith}
use Rattle.std.proofs.lemmas.List.{drop_all}
use Rattle.px_ctl.specs.Number.{in_64_bits, digits_behind}
use Rattle.px_ctl.proofs.NumberLaws.{digit_below, digit_above, digit_more, not_below, past_64_bits, within_64_bits}
use Rattle.px_ctl.proofs.digits.number.Goals as goal
use Rattle.px_ctl.proofs.digits.number.Goals.{then-c-lt48-via-then-c-lt48, then-c-lt48-via-else-c-lt48+then-c-gt57}

pub returns-then-c-lt48 : goal.returns-then-c-lt48
returns-then-c-lt48 c = elim c.then-c-lt48.branch [
  | then-c-lt48-via-then-c-lt48 w ↦ ap in_64_bits (sym (digit_below c.args.word.now c.loop-c.c-index c.loop-c.n 0 c.loop-c-test.true (omega (arith, w.if-c-lt48.true))) ∙ c.loop-c.invariant.so_far)
  | then-c-lt48-via-else-c-lt48+then-c-gt57 w ↦ ap in_64_bits (sym (digit_above c.args.word.now c.loop-c.c-index c.loop-c.n 0 c.loop-c-test.true (omega (arith, w.if-c-gt57.true))) ∙ c.loop-c.invariant.so_far)
]

pub returns-in_default : goal.returns-in_default
returns-in_default c =
    let word = c.args.word.now in
    let i = c.loop-c.c-index in
    let n = c.loop-c.n in
    let more = digit_more word i n 0 c.loop-c-test.true c.if-c-lt48.false c.if-c-gt57.false in
    let past = not_below (n * 10) (2 ^ 64) c.in_default.ensures in
    sym (ap in_64_bits (sym c.loop-c.invariant.so_far ∙ more) ∙ past_64_bits (n * 10 + (get_or word i 0 - 0x30)) (drop (suc i) word) (omega (arith, past)))

pub returns-in_default-checked_add : goal.returns-in_default-checked_add
returns-in_default-checked_add c =
    let word = c.args.word.now in
    let i = c.loop-c.c-index in
    let n = c.loop-c.n in
    let more = digit_more word i n 0 c.loop-c-test.true c.if-c-lt48.false c.if-c-gt57.false in
    let past = not_below (c.in-Some.tens + c.from.result) (2 ^ 64) c.in_default-checked_add.ensures in
    let tens : c.in-Some.tens ≡ n * 10 = search rules in
    sym (ap in_64_bits (sym c.loop-c.invariant.so_far ∙ more) ∙ past_64_bits (n * 10 + (get_or word i 0 - 0x30)) (drop (suc i) word) (omega (arith, past, tens, c.from.ensures)))

pub returns : goal.returns
returns c =
    sym (ap in_64_bits (sym c.loop-c.invariant.so_far ∙ ap (digits_behind c.loop-c.n) (drop_all c.loop-c.c-index c.args.word.now c.loop-c-test.false)) ∙ within_64_bits c.loop-c.n c.loop-c.invariant.fits)

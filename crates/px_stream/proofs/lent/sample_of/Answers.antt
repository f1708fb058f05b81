use Rattle.std.proofs.Common.{◌≡◌, ◌*◌, ◌∙◌, ℕ, take, drop, ap, sym, arith}
use Rattle.px_stream.proofs.Halves.{lower_half, upper_half}
use Rattle.px_stream.proofs.lent.sample_of.Goals as goal

pub returns-then-channel-eq0 : goal.returns-then-channel-eq0
returns-then-channel-eq0 c =
    let pair = c.args.pair.now in
    let zero : c.args.channel ≡ 0 = omega (arith, c.if-channel-eq0.true) in
    c.to_le_bytes.ensures
    ∙ lower_half pair c.from_le_bytes-word.result c.told-pair c.fits-pair c.from_le_bytes-word.ensures
    ∙ ap (λ (n : ℕ). take 2 (drop (n * 2) pair)) (sym zero)

pub returns-else-channel-eq0 : goal.returns-else-channel-eq0
returns-else-channel-eq0 c =
    let pair = c.args.pair.now in
    let one : c.args.channel ≡ 1 = omega (arith, c.if-channel-eq0.false, c.requires) in
    c.to_le_bytes-else-channel-eq0.ensures
    ∙ upper_half pair c.from_le_bytes-word.result c.told-pair c.fits-pair c.from_le_bytes-word.ensures
    ∙ ap (λ (n : ℕ). take 2 (drop (n * 2) pair)) (sym one)

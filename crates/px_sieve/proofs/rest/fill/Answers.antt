use Rattle.std.proofs.Common.{rules, ◌≡◌, ◌-◌, ◌++◌, min, take, length, ap, ◌∙◌}
use Rattle.px_sieve.proofs.Resting.{filled}
use Rattle.px_sieve.proofs.rest.fill.Goals as goal

pub returns : goal.returns
returns c = λ begun e.
    let room : c.min.result ≡ min (20 - length c.args.first.now.items) (length c.args.bytes.now) = search rules in
    c.in_ok-extend_from_slice.ensures.items
    ∙ ap (λ n. c.args.first.now.items ++ take n c.args.bytes.now) room
    ∙ filled c.args.first.now.items c.args.bytes.now begun e

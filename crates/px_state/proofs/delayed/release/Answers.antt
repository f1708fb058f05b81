use Rattle.std.proofs.Common.{arith, rules, ◌≡◌, ap, length}
use Rattle.px_state.specs.Delayed.{is_of}
use Rattle.px_state.specs.Release.{without_firsts}
use Rattle.px_state.proofs.Releases.{fewer_without}
use Rattle.px_state.proofs.delayed.release.Goals as goal

pub returns-clause-len : goal.returns-clause-len
returns-clause-len g c =
    let same : c.replace-2.new.dest.items ≡ without_firsts (is_of c.args.input) c.args.delayed.now.items c.args.count = search rules in
    omega (arith, ap length same, fewer_without (is_of c.args.input) c.args.delayed.now.items c.args.count)

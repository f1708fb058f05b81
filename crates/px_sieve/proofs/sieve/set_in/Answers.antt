use Rattle.std.proofs.Common.{rules, ◌<◌, length}
use Rattle.px_sieve.specs.Standing.{line_set}
use Rattle.px_sieve.proofs.Lines.{set-at}
use Rattle.px_sieve.proofs.sieve.set_in.Goals as goal

pub loop-line-preserved : goal.loop-line-preserved
loop-line-preserved c =
    let within : c.loop-line.line-index < length c.args.lines.now = search rules in
    set-at (line_set c.args.conn c.args.on) c.args.lines.now c.loop-line.lines c.loop-line.line-index c.line-item.result c.set_one.new.line within
    c.loop-line.invariant c.set_one.ensures

use Rattle.std.proofs.Common.{rules}
use Rattle.std.specs.Prelude.{IsSome}
use Rattle.px_world.specs.Running.{decoder_of}
use Rattle.px_world.proofs.connections.cut.Goals as goal

pub returns-clause-done : goal.returns-clause-done
returns-clause-done c = λ w opened.
    let there : IsSome (decoder_of c.args.doors.now.entries c.args.conn) = search rules in
    c.in_ok-cut_off.ensures.done c.args.doors.now.entries w there opened

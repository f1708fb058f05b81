use Rattle.std.proofs.Common.{arith}
use Rattle.px_ramp.proofs.Between.{part_within}
use Rattle.px_ramp.proofs.ramp.part.Goals as goal

pub overflow_cast-result : goal.overflow_cast-result
overflow_cast-result c = omega (arith, c.ranges.difference, part_within c.args.difference c.args.way c.args.frames c.args.more c.requires.inside c.requires.more)

pub returns-clause-within : goal.returns-clause-within
returns-clause-within c = part_within c.args.difference c.args.way c.args.frames c.args.more c.requires.inside c.requires.more

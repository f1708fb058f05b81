use Rattle.std.proofs.Common.{◌+◌, List, drop, ap, ◌∙◌}
use Rattle.px_ramp.specs.declared.ramps.InputRamps.{InputRamps}
use Rattle.px_ramp.specs.Ramp.{ramps_with_all}
use Rattle.px_ramp.proofs.Taking.{taken_got, taken_past}
use Rattle.px_ramp.proofs.table.take_at.Goals as goal

pub returns-in-Some-clause-ramps : goal.returns-in-Some-clause-ramps
returns-in-Some-clause-ramps c =
    ap (λ (rs : List InputRamps). ramps_with_all c.args.frames c.args.at (drop (c.args.i + 1) c.args.messages.now.messages) rs) c.take.ensures.ramps
    ∙ taken_got c.args.frames c.args.at c.args.messages.now.messages c.args.i _ c.args.table.now.ramps c.in-Some.ensures

pub returns-in-None-clause-ramps : goal.returns-in-None-clause-ramps
returns-in-None-clause-ramps c = taken_past c.args.frames c.args.at c.args.messages.now.messages c.args.i c.args.table.now.ramps c.in-None.ensures

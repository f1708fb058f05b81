use Rattle.px_ramp_world.proofs.Beside as beside
use Rattle.px_ramp_world.proofs.law.ramps_change_only_frames.Goals as goal

pub returns-clause-world : goal.returns-clause-world
returns-clause-world c = beside.world-beside

pub returns-clause-effects : goal.returns-clause-effects
returns-clause-effects c = beside.effects-beside

pub returns-clause-admitted : goal.returns-clause-admitted
returns-clause-admitted c = beside.admitted-beside

pub returns-clause-refused : goal.returns-clause-refused
returns-clause-refused c = beside.refused-beside

pub returns-clause-histories : goal.returns-clause-histories
returns-clause-histories c = beside.history-beside

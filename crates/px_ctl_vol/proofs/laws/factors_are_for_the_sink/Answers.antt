use Rattle.px_ctl_vol.proofs.Gains as gains
use Rattle.px_ctl_vol.proofs.laws.factors_are_for_the_sink.Goals as goal

pub returns-clause-members : goal.returns-clause-members
returns-clause-members c = gains.members

pub returns-clause-channels : goal.returns-clause-channels
returns-clause-channels c = gains.channels

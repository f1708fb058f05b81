use Rattle.std.proofs.Common.{◌∙◌}
use Rattle.std.proofs.lemmas.List.{take-replicate}
use Rattle.px_vol.specs.Volume.{norm}
use Rattle.px_flat.proofs.channels.neutral.Goals as goal

pub returns : goal.returns
returns c = c.in_channels.ensures ∙ take-replicate c.args.channels 32 norm c.requires.few

use Rattle.std.proofs.Common.{sym}
use Rattle.px_ends.specs.Visible.{after_adding}
use Rattle.px_ends.proofs.VisibleBytes.{adding_nothing}
use Rattle.px_app.proofs.ramp_stage.RampingStage.open.Goals as goal

pub returns : goal.returns
returns c = λ look header held stage. sym (adding_nothing (after_adding held c.args.pieces.now.bytes))

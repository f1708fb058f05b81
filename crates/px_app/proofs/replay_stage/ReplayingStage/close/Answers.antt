use Rattle.std.proofs.Common.{ℕ, List, Some, subst}
use Rattle.px_app.specs.Stage.{AddsPart}
use Rattle.px_app.specs.View.{last_part}
use Rattle.px_app.proofs.FlushLaws.{gathered_part}
use Rattle.px_app.proofs.ReplayLaws.{closes_are}
use Rattle.px_app.proofs.replay_stage.ReplayingStage.close.Goals as goal

pub returns : goal.returns
returns c = λ look header events held stage.
    gathered_part c.close.result c.args.pieces.now.bytes c.close.new.output.bytes (last_part look header events) held
    (subst (λ (p : List ℕ). AddsPart c.close.result p (Some c.args.pieces.now.bytes) (Some c.close.new.output.bytes)) (closes_are c.args.self.now look header events stage) c.close.ensures)

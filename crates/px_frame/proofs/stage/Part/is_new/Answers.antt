use Rattle.px_frame.proofs.PassingLemmas.{control-held, write-held}
use Rattle.px_frame.proofs.stage.Part.is_new.Goals as goal

pub returns-in-Control : goal.returns-in-Control
returns-in-Control c = control-held c.args.self.now _ _ _ c.in-Control.is

pub returns-in-Write : goal.returns-in-Write
returns-in-Write c = write-held c.args.self.now _ _ _ c.in-Write.is

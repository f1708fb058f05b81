use Rattle.std.proofs.lemmas.Result.{IfOk-weaker}
use Rattle.px_session.specs.EventRules.{IsStepBy}
use Rattle.px_session.specs.Writing.{FitsStepBy}
use Rattle.px_session.proofs.Answered.{gives_all, given_fits}
use Rattle.px_session.proofs.reader.Reader.next.Goals as goal

pub returns-clause-gives : goal.returns-clause-gives
returns-clause-gives g c = gives_all c.advance.result c.args.self.now c.advance.new.self (g.S.Source.left c.args.input.now) (g.S.Source.left c.advance.new.input) c.advance.ensures.takes

pub returns-clause-writable : goal.returns-clause-writable
returns-clause-writable g c = IfOk-weaker c.advance.result (IsStepBy c.advance.new.self.begun) (FitsStepBy c.advance.new.self.begun) (given_fits c.advance.new.self.begun) c.advance.ensures.lawful

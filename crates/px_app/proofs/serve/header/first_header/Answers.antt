use Rattle.std.proofs.Common.{◌++◌, ℕ, List, Some, Ok, Err, subst}
use Rattle.px_app.specs.HeaderFile.{FirstGives}
use Rattle.px_app.proofs.HeaderLaws.{IsHeaderStep, first_is, first_gives, first_refuses}
use Rattle.px_app.proofs.serve.header.first_header.Goals as goal

pub unreachable-requires : goal.unreachable-requires
unreachable-requires c =
    subst IsHeaderStep c.in-Ok-Event.field-0-is
    (first_is c.args.reader.now c.next.new.self c.new.result (Some (c.next.new.self.ahead ++ c.next.new.input)) c.in-Ok-Event.field-0 c.requires c.in-Ok-Event.ensures.gives)

pub unreachable-requires-in-Ok-End : goal.unreachable-requires-in-Ok-End
unreachable-requires-in-Ok-End c =
    subst IsHeaderStep c.in-Ok-End.field-0-is
    (first_is c.args.reader.now c.next.new.self c.new.result (Some (c.next.new.self.ahead ++ c.next.new.input)) c.in-Ok-End.field-0 c.requires c.in-Ok-End.ensures.gives)

pub returns-in-Ok-Header-clause-gives : goal.returns-in-Ok-Header-clause-gives
returns-in-Ok-Header-clause-gives c =
    subst (λ (b : List ℕ). FirstGives (Ok c.in-Ok-Header.header) b c.next.new.self.at) c.new.ensures
    (first_gives c.args.reader.now c.next.new.self c.new.result (Some (c.next.new.self.ahead ++ c.next.new.input)) c.in-Ok-Header.field-0 c.in-Ok-Header.header
    c.requires c.in-Ok-Header.field-0-is c.in-Ok-Header.ensures.gives)

pub returns-clause-gives : goal.returns-clause-gives
returns-clause-gives c =
    subst (λ (b : List ℕ). FirstGives (Err c.in-Err.e) b c.next.new.self.at) c.new.ensures
    (first_refuses c.args.reader.now c.next.new.self c.new.result (Some (c.next.new.self.ahead ++ c.next.new.input)) c.in-Err.e c.next.new.self.at
    c.requires c.in-Err.ensures.gives c.in-Err.ensures.counts)

use Rattle.std.proofs.Common.{rules, Some, refl}
use Rattle.px_world.proofs.Openings.{doors-connect}
use Rattle.px_world.proofs.doors.add.Goals as goal

pub returns-in_err-insert-clause-err : goal.returns-in_err-insert-clause-err
returns-in_err-insert-clause-err c = search rules

pub returns-clause-opened : goal.returns-clause-opened
returns-clause-opened c = λ links opened.
    doors-connect c.args.doors.now.entries links c.args.conn opened c.insert.new.self.entries (Some c.new.result) c.in_ok-insert.ensures.updates.1 c.in_ok-insert.ensures.updates.2
    c.new.result refl c.new.ensures.fed c.requires

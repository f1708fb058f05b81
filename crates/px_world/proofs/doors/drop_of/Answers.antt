use Rattle.std.proofs.Common.{None, refl}
use Rattle.px_world.proofs.Openings.{doors-close}
use Rattle.px_world.proofs.doors.drop_of.Goals as goal

pub returns : goal.returns
returns c = λ links opened.
    doors-close c.args.doors.now.entries links c.args.conn opened c.remove.new.self.entries None c.remove.ensures.updates.1 c.remove.ensures.updates.2 refl

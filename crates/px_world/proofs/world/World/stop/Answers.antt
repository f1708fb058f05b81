use Rattle.px_world.proofs.Standings.{stops-stand}
use Rattle.px_world.proofs.world.World.stop.Goals as goal

pub returns-clause-stands : goal.returns-clause-stands
returns-clause-stands c = λ w s. stops-stand c.args.self.now c.mark.new.self w c.args.sink.0 s c.mark.ensures

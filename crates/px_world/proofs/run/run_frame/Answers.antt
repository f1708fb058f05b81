use Rattle.std.proofs.Common.{map, refl}
use Rattle.px_frame.specs.Spelling.{spelling_of}
use Rattle.px_session.specs.declared.event.Event.TheVariants.{Bytes}
use Rattle.px_world.specs.Playing.{mixer_of}
use Rattle.px_world.specs.Parts.{running_of}
use Rattle.px_world.proofs.Standings.{runs-connection, consistent-silent}
use Rattle.px_world.proofs.run.run_frame.Goals as goal

pub returns-clause-done : goal.returns-clause-done
returns-clause-done c = λ w s.
    runs-connection (running_of c.args.core.now.state c.args.doors.now.entries c.args.mixers.now) (running_of c.frame.new.core.state c.frame.new.doors.entries c.args.mixers.now)
    w (Bytes c.args.conn (spelling_of c.args.arrived.body)) s c.frame.result c.silent.result c.silent.ensures (c.frame.ensures.done w s.doors) refl refl refl refl

pub returns-clause-consistent : goal.returns-clause-consistent
returns-clause-consistent c =
    consistent-silent c.args.core.now.state c.frame.new.core.state _ _ (map mixer_of c.args.mixers.now) c.frame.result c.silent.result c.silent.ensures c.frame.ensures.stays c.frame.ensures.consistent c.requires.consistent

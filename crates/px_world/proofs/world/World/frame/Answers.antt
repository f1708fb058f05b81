use Rattle.std.proofs.Common.{List, ap, sym, subst, ◌∙◌}
use Rattle.px_world.specs.declared.playing.Playing.{Playing}
use Rattle.px_world.specs.Running.{Running, StandsFor}
use Rattle.px_world.specs.Parts.{running_of}
use Rattle.px_world.proofs.world.World.frame.Goals as goal

pub returns-in-Ok-clause-done : goal.returns-in-Ok-clause-done
returns-in-Ok-clause-done c = λ w s.
    (c.in-Ok.ensures.done w
    (subst (λ (r : Running). StandsFor r w)
    (sym c.self.view_is ∙ ap (λ (ps : List Playing). running_of c.self.inside.core.state c.self.inside.doors.entries ps) (sym c.deref.ensures.value)) s)).done

use Rattle.std.proofs.Common.{Bool, subst}
use Rattle.std.specs.Prelude.{IsFalse}
use Rattle.px_world.specs.Parts.{loses}
use Rattle.px_world.proofs.Beginning.{unless-lost}
use Rattle.px_ramp_world.proofs.world.RampWorld.event.Goals as goal

pub invariant_of-self-in-Err : goal.invariant_of-self-in-Err
invariant_of-self-in-Err c = λ going.
    let memory : IsFalse (loses c.in-Err.fault) = subst (λ (b : Bool). IsFalse b) c.is_want-self-inside.ensures going in
    (unless-lost c.in-Err.fault _ c.in-Err.ensures.consistent memory, unless-lost c.in-Err.fault _ c.in-Err.ensures.playing memory)

-- The sink that a command names.
use Rattle.std.proofs.Common.{◌≡◌, Ok, subst}
use Rattle.px_types.specs.declared.error_code.ErrorCode.{ErrorCode}
use Rattle.px_outcome.specs.declared.target.Named.{Named}
use Rattle.px_outcome.specs.declared.target.Named.TheVariants.{Unclear, Unknown, Sink}
use Rattle.px_outcome.specs.declared.target.Target.{Target}
use Rattle.px_outcome.specs.Handled.{present}
use Rattle.px_outcome.specs.Target.{target_of, IsTarget, IsNamed}

-- one that was found can be
pub found_is_target : (named : Named) (code : ErrorCode) (sink : Target) → IsNamed named → present (target_of named) code ≡ Ok sink → IsTarget sink
found_is_target Unclear code sink h e = absurd cc
found_is_target Unknown code sink h e = absurd cc
found_is_target (Sink target) code sink h e =
    let same : target ≡ sink = cc in
    subst (λ (t : Target). IsTarget t) same h

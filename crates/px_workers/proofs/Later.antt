-- What calls of a host add up to.
use Rattle.std.proofs.Common.{arith, refl, ◌∙◌}
use Rattle.px_ends.specs.Host.{HostState}
use Rattle.px_workers.specs.declared.stop.Stop.{Stop}
use Rattle.px_workers.specs.declared.stop.Stop.TheVariants.{Over, Memory, Host, Unrecorded}
use Rattle.px_workers.specs.Hosted.{IsLater, IsCalm, IsCauseOf, IsOwn}

pub later_refl : {D R C : Type 0} (h : HostState D R C) → IsLater h h
later_refl h = record {
  faults = omega arith;
  overs = omega arith;
  links = omega arith;
  device_faults = refl;
  recorder_faults = refl;
  fulls = refl;
  header = refl;
  started = refl;
  parts = refl;
  cores = refl;
}

pub later_later : {D R C : Type 0} (a b c : HostState D R C) → IsLater a b → IsLater b c → IsLater a c
later_later a b c first then = record {
  faults = let one = first.faults in let two = then.faults in omega arith;
  overs = let one = first.overs in let two = then.overs in omega arith;
  links = let one = first.links in let two = then.links in omega arith;
  device_faults = then.device_faults ∙ first.device_faults;
  recorder_faults = then.recorder_faults ∙ first.recorder_faults;
  fulls = then.fulls ∙ first.fulls;
  header = then.header ∙ first.header;
  started = then.started ∙ first.started;
  parts = then.parts ∙ first.parts;
  cores = then.cores ∙ first.cores;
}

-- a cause is one also from an earlier moment on, where no call failed until then
pub cause_later : {D R C : Type 0} (stop : Stop) (a b c : HostState D R C) → IsLater a b → IsCalm a b → IsCauseOf stop b c → IsCauseOf stop a c
cause_later Over a b c later calm cause =
    (record { later = let one = later.overs in let two = cause.0.later in omega arith; more = let one = later.overs in let two = cause.0.more in omega arith }, cause.1 ∙ calm)
cause_later Memory a b c later calm cause = tt
cause_later Host a b c later calm rose = record { later = let one = later.faults in let two = rose.later in omega arith; more = let one = later.faults in let two = rose.more in omega arith }
cause_later (Unrecorded fault) a b c later calm cause = tt

-- a cause that isn't the host's is one between any two moments
pub cause_own : {D R C : Type 0} (stop : Stop) (before after : HostState D R C) → IsOwn stop → IsCauseOf stop before after
cause_own Over before after own = absurd own
cause_own Memory before after own = tt
cause_own Host before after own = absurd own
cause_own (Unrecorded fault) before after own = tt

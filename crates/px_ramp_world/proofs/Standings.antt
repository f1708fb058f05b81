-- An event that is done leaves a world with ramps that stands for the one after it.
use Rattle.std.proofs.Common.{◌≡◌, List, [], length, Result, Ok, Err, ap, sym, subst, ◌∙◌}
use Rattle.std.specs.Prelude.{None, Some}
use Rattle.std.specs.List.{concat}
use Rattle.px_session.specs.declared.event.Event.{Event}
use Rattle.px_model.specs.Stream.{Stream}
use Rattle.px_state.specs.declared.effect.Effect.{Effect}
use Rattle.px_core.specs.Step.{stepped_by, effects_by}
use Rattle.px_world.specs.declared.fault.WorldFault.{WorldFault}
use Rattle.px_world.specs.declared.outcome.Outcome.{Outcome}
use Rattle.px_world.specs.Admission.{refusal_of}
use Rattle.px_world.specs.Event.{all_steps, links_after, frames_played, stopped_by}
use Rattle.px_world.specs.Running.{Open}
use Rattle.px_world.specs.Parts.{Unless, Does, HasNoSound, IsSilent, Answered, IsRefused}
use Rattle.px_world.proofs.Links.{distinct-after}
use Rattle.px_ramp_world.specs.World.{RampWorld, plain_of}
use Rattle.px_ramp_world.specs.Event.{ramped_after, ramp_world_after}
use Rattle.px_ramp_world.specs.Running.{RampRunning, StandsFor}
use Rattle.px_ramp_world.specs.Parts.{Plays, Runs}

module _ (before after : RampRunning) (w : RampWorld) (e : Event) (s : StandsFor before w) where
  stands-after : refusal_of (plain_of w) e ≡ None → after.core ≡ stepped_by Stream.spec before.core (all_steps (plain_of w) e) → Open after.doors (links_after w.links e) → after.mixers ≡ ramped_after w e
      → StandsFor after (ramp_world_after w e)
  stands-after admitted core doors mixers = record {
    core = core ∙ ap (λ c. stepped_by Stream.spec c (all_steps (plain_of w) e)) s.core;
    doors = doors;
    distinct = distinct-after (plain_of w) e admitted s.distinct;
    mixers = mixers;
  }

  done-connection : (effects : List Effect) (outcome : Outcome) → HasNoSound effects outcome → Does before.core after.core after.doors (plain_of w) e effects
      → after.mixers ≡ before.mixers → ramped_after w e ≡ w.mixers → frames_played (plain_of w) e ≡ [] → stopped_by (plain_of w) e ≡ None → Runs after w e outcome
  done-connection effects outcome silent d same unchanged soundless going = record {
    done = record {
      admitted = d.admitted;
      effects = silent.caused ∙ d.caused ∙ ap (λ c. effects_by Stream.spec c (all_steps (plain_of w) e)) s.core;
      frames = silent.counted ∙ sym (ap length soundless);
      played = silent.bytes ∙ sym (ap concat soundless);
      stopped = silent.stopped ∙ sym going;
    };
    stands = stands-after d.admitted d.core d.opened (same ∙ s.mixers ∙ sym unchanged);
  }

  -- an event of a connection
  pub runs-connection : (given : Result (List Effect) WorldFault) (result : Result Outcome WorldFault) → IsSilent given result
      → Answered given (Does before.core after.core after.doors (plain_of w) e) (IsRefused (plain_of w) e)
      → after.mixers ≡ before.mixers → ramped_after w e ≡ w.mixers → frames_played (plain_of w) e ≡ [] → stopped_by (plain_of w) e ≡ None → Answered result (Runs after w e) (IsRefused (plain_of w) e)
  runs-connection (Ok effects) (Ok outcome) silent d same unchanged soundless going = done-connection effects outcome silent d same unchanged soundless going
  runs-connection (Ok effects) (Err fault) silent d same unchanged soundless going = absurd silent
  runs-connection (Err fault) (Ok outcome) silent d same unchanged soundless going = absurd silent
  runs-connection (Err fault) (Err other) silent d same unchanged soundless going = subst (λ f. Unless f (refusal_of (plain_of w) e ≡ Some f)) (sym silent) d

  done-sink : (outcome : Outcome) → Plays before.core after.core after.mixers w e outcome → after.doors ≡ before.doors → links_after w.links e ≡ w.links → Runs after w e outcome
  done-sink outcome p same unchanged = record {
    done = record {
      admitted = p.admitted;
      effects = p.caused ∙ ap (λ c. effects_by Stream.spec c (all_steps (plain_of w) e)) s.core;
      frames = p.counted;
      played = p.bytes;
      stopped = p.stopped;
    };
    stands = stands-after p.admitted p.core
        (subst (Open after.doors) (sym unchanged) (subst (λ doors. Open doors w.links) (sym same) s.doors)) p.mixed;
  }

  -- an event of a sink
  pub runs-sink : (result : Result Outcome WorldFault) → Answered result (Plays before.core after.core after.mixers w e) (IsRefused (plain_of w) e) → after.doors ≡ before.doors → links_after w.links e ≡ w.links
      → Answered result (Runs after w e) (IsRefused (plain_of w) e)
  runs-sink (Ok outcome) p same unchanged = done-sink outcome p same unchanged
  runs-sink (Err fault) p same unchanged = p

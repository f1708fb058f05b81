-- An event that is done leaves a world that stands for the world after it.
use Rattle.std.proofs.Common.{◌≡◌, ℕ, List, [], length, None, Some, Result, Ok, Err, ap, sym, subst, ◌∙◌}
use Rattle.std.specs.Prelude.{OnOk}
use Rattle.std.specs.List.{concat, slice_get}
use Rattle.px_frame.specs.Progress.{Progress}
use Rattle.px_session.specs.declared.event.Event.{Event}
use Rattle.px_model.specs.Stream.{Stream}
use Rattle.px_state.specs.declared.effect.Effect.{Effect}
use Rattle.px_core.specs.Step.{effects_by}
use Rattle.px_world.specs.declared.fault.WorldFault.{WorldFault}
use Rattle.px_world.specs.declared.fault.WorldFault.TheVariants.{Live, NotLive, NoSink, Worn, TooMany, NoMemory}
use Rattle.px_world.specs.declared.outcome.Outcome.{Outcome}
use Rattle.px_state.specs.State.{State}
use Rattle.px_world.specs.World.{World, Mixer}
use Rattle.px_world.specs.Admission.{refusal_of}
use Rattle.px_world.specs.Event.{all_steps, links_after, mixers_after, change_at, set_to_fail, world_stopping, frames_played, stopped_by}
use Rattle.px_world.specs.Running.{Running, Open, StandsFor}
use Rattle.px_world.specs.Parts.{Unless, Does, Plays, HasNoSound, IsSilent, Runs, Answered, IsRefused}
use Rattle.px_world.specs.Consistency.{AreConsistent}
use Rattle.px_world.proofs.Standing.{stands-after}

module _ (before after : Running) (w : World) (e : Event) (s : StandsFor before w) where
  done-connection : (effects : List Effect) (outcome : Outcome) → HasNoSound effects outcome → Does before.core after.core after.doors w e effects
      → after.mixers ≡ before.mixers → mixers_after w e ≡ w.mixers → frames_played w e ≡ [] → stopped_by w e ≡ None → Runs after w e outcome
  done-connection effects outcome silent d same unchanged soundless going = record {
    done = record {
      admitted = d.admitted;
      effects = silent.caused ∙ d.caused ∙ ap (λ c. effects_by Stream.spec c (all_steps w e)) s.core;
      frames = silent.counted ∙ sym (ap length soundless);
      played = silent.bytes ∙ sym (ap concat soundless);
      stopped = silent.stopped ∙ sym going;
    };
    stands = stands-after before after w e s d.admitted d.core d.opened (same ∙ s.mixers ∙ sym unchanged);
  }

  -- an event of a connection
  pub runs-connection : (given : Result (List Effect) WorldFault) (result : Result Outcome WorldFault) → IsSilent given result → Answered given (Does before.core after.core after.doors w e) (IsRefused w e)
      → after.mixers ≡ before.mixers → mixers_after w e ≡ w.mixers → frames_played w e ≡ [] → stopped_by w e ≡ None → Answered result (Runs after w e) (IsRefused w e)
  runs-connection (Ok effects) (Ok outcome) silent d same unchanged soundless going = done-connection effects outcome silent d same unchanged soundless going
  runs-connection (Ok effects) (Err fault) silent d same unchanged soundless going = absurd silent
  runs-connection (Err fault) (Ok outcome) silent d same unchanged soundless going = absurd silent
  runs-connection (Err fault) (Err other) silent d same unchanged soundless going = subst (λ f. Unless f (refusal_of w e ≡ Some f)) (sym silent) d

  done-sink : (outcome : Outcome) → Plays before.core after.core after.mixers w e outcome → after.doors ≡ before.doors → links_after w.links e ≡ w.links → Runs after w e outcome
  done-sink outcome p same unchanged = record {
    done = record {
      admitted = p.admitted;
      effects = p.caused ∙ ap (λ c. effects_by Stream.spec c (all_steps w e)) s.core;
      frames = p.counted;
      played = p.bytes;
      stopped = p.stopped;
    };
    stands = stands-after before after w e s p.admitted p.core
        (subst (Open after.doors) (sym unchanged) (subst (λ doors. Open doors w.links) (sym same) s.doors)) p.mixed;
  }

  -- an event of a sink
  pub runs-sink : (result : Result Outcome WorldFault) → Answered result (Plays before.core after.core after.mixers w e) (IsRefused w e) → after.doors ≡ before.doors → links_after w.links e ≡ w.links → Answered result (Runs after w e) (IsRefused w e)
  runs-sink (Ok outcome) p same unchanged = done-sink outcome p same unchanged
  runs-sink (Err fault) p same unchanged = p

-- ---- nothing has changed

unless-map : (fault : WorldFault) (A B : Type 0) → (A → B) → Unless fault A → Unless fault B
unless-map Live A B f a = f a
unless-map NotLive A B f a = f a
unless-map NoSink A B f a = f a
unless-map Worn A B f a = f a
unless-map (TooMany asked there) A B f a = f a
unless-map NoMemory A B f a = tt

-- ---- what is kept where there is no sound

pub consistent-silent : (core after : State Stream) (doors later : List (ℕ × Progress)) (mixers : List Mixer) (given : Result (List Effect) WorldFault) (result : Result Outcome WorldFault) → IsSilent given result
    → Answered given (λ _. Unit {0}) (λ _. (after ≡ core) × (later ≡ doors)) → OnOk given ((ms : List Mixer) → AreConsistent core ms → AreConsistent after ms) → AreConsistent core mixers → Answered result (λ _. AreConsistent after mixers) (λ _. AreConsistent after mixers)
consistent-silent core after doors later mixers (Ok effects) (Ok outcome) silent stays consistent h = consistent mixers h
consistent-silent core after doors later mixers (Ok effects) (Err fault) silent stays consistent h = absurd silent
consistent-silent core after doors later mixers (Err fault) (Ok outcome) silent stays consistent h = absurd silent
consistent-silent core after doors later mixers (Err fault) (Err other) silent stays consistent h =
    subst (λ f. Unless f (AreConsistent after mixers)) (sym silent)
    (unless-map fault ((after ≡ core) × (later ≡ doors)) (AreConsistent after mixers) (λ p. subst (λ t. AreConsistent t mixers) (sym p.0) h) stays)

pub keeps-it : (result : Result Outcome WorldFault) (A : Type 0) → A → Answered result (λ _. A) (λ _. A)
keeps-it (Ok outcome) A a = a
keeps-it (Err Live) A a = a
keeps-it (Err NotLive) A a = a
keeps-it (Err NoSink) A a = a
keeps-it (Err Worn) A a = a
keeps-it (Err (TooMany asked there)) A a = a
keeps-it (Err NoMemory) A a = tt

-- ---- a device that is to fail

pub stops-stand : (before after : Running) (w : World) (k : ℕ) → StandsFor before w → after ≡ record before { mixers = change_at before.mixers k (slice_get before.mixers k) set_to_fail } → StandsFor after (world_stopping w k)
stops-stand before after w k s same = subst (λ (r : Running). StandsFor r (world_stopping w k)) (sym same) (record {
  core = s.core;
  doors = s.doors;
  distinct = s.distinct;
  mixers = ap (λ (ms : List Mixer). change_at ms k (slice_get ms k) set_to_fail) s.mixers;
})

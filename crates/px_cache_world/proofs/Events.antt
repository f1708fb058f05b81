-- The events of a world with a sample cache, from what its parts do.
use Rattle.std.proofs.Common.{◌≡◌, ℕ, true, false, List, ◌++◌, Option, None, Some, Result, Ok, Err, refl, ap, sym, subst, ◌∙◌}
use Rattle.std.specs.Option.{is_some}
use Rattle.std.proofs.lemmas.Bool.{cond-true, cond-false}
use Rattle.px_types.specs.declared.ids.ConnId.{ConnId}
use Rattle.px_types.specs.declared.ids.SinkId.{SinkId}
use Rattle.px_session.specs.declared.event.Event.{Event}
use Rattle.px_session.specs.declared.event.Event.TheVariants.{Connect, Close, Cut, Turn, Collect, Stop}
use Rattle.px_state.specs.declared.effect.Effect.{Effect}
use Rattle.px_world.specs.declared.fault.WorldFault.{WorldFault}
use Rattle.px_world.specs.declared.fault.WorldFault.TheVariants.{Live, NotLive, NoSink, Worn, TooMany, NoMemory}
use Rattle.px_world.specs.declared.outcome.Outcome.{Outcome}
use Rattle.px_world.specs.Admission.{if_named, refusal_of}
use Rattle.px_world.specs.Event.{effects_after}
use Rattle.px_world.specs.Parts.{Unless, Answered}
use Rattle.px_world.specs.World.{Link}
use Rattle.px_sieve.specs.Scene.{shown_by}
use Rattle.px_sieve.proofs.Scenes.{shown-join}
use Rattle.px_cache_world.specs.declared.parts.Parts.{Parts}
use Rattle.px_cache_world.specs.Own.{is_hidden}
use Rattle.px_cache_world.specs.Sampler.{Sampler, running_on, seeing, after_items, alone, lone_items, after_lone, settle_items, settled, forgotten, unless_hidden, open_effects, StandsForSampler}
use Rattle.px_cache_world.specs.CacheOutcome.{HasLone, HasDone}
use Rattle.px_cache_world.proofs.Partly.{shown-alone}

-- ---- answers

-- a fact of a fault that isn't want of memory
pub unless-refused : (fault : WorldFault) (fact : Type 0) → ((fault ≡ NoMemory → ⊥) → fact) → Unless fault fact
unless-refused Live fact h = h (λ e. cc)
unless-refused NotLive fact h = h (λ e. cc)
unless-refused NoSink fact h = h (λ e. cc)
unless-refused Worn fact h = h (λ e. cc)
unless-refused (TooMany asked there) fact h = h (λ e. cc)
unless-refused NoMemory fact h = tt

-- another fact of an answer
pub answered-as : {A : Type 0} (P Q : A → Type 0) (R : WorldFault → Type 0) (r : Result A WorldFault) → ((x : A) → P x → Q x) → Answered r P R → Answered r Q R
answered-as P Q R (Ok x) f a = f x a
answered-as P Q R (Err fault) f a = a

-- a number that is in use, or isn't
pub in-use : (o : Option Link) → true ≡ is_some o → if_named o ≡ None
in-use None e = absurd cc
in-use (Some link) e = refl

pub not-in-use : (o : Option Link) → false ≡ is_some o → if_named o ≡ Some NotLive
not-in-use None e = refl
not-in-use (Some link) e = absurd cc

-- ---- the number of the server's own connection

pub refused-hidden : (conn : ConnId) (fault : WorldFault) (refusal : Option WorldFault) → true ≡ is_hidden conn → unless_hidden conn fault refusal ≡ Some fault
refused-hidden conn fault refusal e = cond-true (is_hidden conn) (Some fault) refusal (sym e)

pub refused-other : (conn : ConnId) (fault : WorldFault) (refusal : Option WorldFault) → false ≡ is_hidden conn → unless_hidden conn fault refusal ≡ refusal
refused-other conn fault refusal e = cond-false (is_hidden conn) (Some fault) refusal (sym e)

-- ---- an event that the world gets as it is

module _ (s : Sampler) (e : Event) (effects : List Effect) (is : effects ≡ effects_after s.world e) where
  seen-alone : effects ≡ shown_by s.world (alone e)
  seen-alone = shown-alone s.world e effects is

  pub lone-stands : (parts : Parts) → StandsForSampler parts (settled (seeing effects (running_on s (alone e)))) → StandsForSampler parts (after_lone s e)
  lone-stands parts stands = subst (λ es. StandsForSampler parts (settled (seeing es (running_on s (alone e))))) seen-alone stands

  pub lone-shown : (shown : List Effect) → shown ≡ open_effects (effects ++ shown_by (running_on s (alone e)).world (settle_items (seeing effects (running_on s (alone e)))))
      → shown ≡ open_effects (shown_by s.world (lone_items s e))
  lone-shown shown told =
      told
      ∙ ap (λ es. open_effects (es ++ shown_by (running_on s (alone e)).world (settle_items (seeing es (running_on s (alone e)))))) seen-alone
      ∙ ap open_effects (sym (shown-join s.world (alone e) (settle_items (after_items s (alone e)))))

module _ (s : Sampler) (parts : Parts) (outcome : Outcome) where
  pub turn-done : (sink frames n : ℕ) → HasLone parts s (Turn sink frames n) outcome → HasDone parts s (Turn sink frames n) outcome
  turn-done sink frames n l = record {
    done = record { admitted = l.admitted; effects = l.effects; frames = l.frames; played = l.played; stopped = l.stopped };
    stands = l.stands;
  }

  pub collect-done : (sink n : ℕ) → HasLone parts s (Collect sink n) outcome → HasDone parts s (Collect sink n) outcome
  collect-done sink n l = record {
    done = record { admitted = l.admitted; effects = l.effects; frames = l.frames; played = l.played; stopped = l.stopped };
    stands = l.stands;
  }

  pub stop-done : (sink : SinkId) → HasLone parts s (Stop sink) outcome → HasDone parts s (Stop sink) outcome
  stop-done sink l = record {
    done = record { admitted = l.admitted; effects = l.effects; frames = l.frames; played = l.played; stopped = l.stopped };
    stands = l.stands;
  }

  module _ (conn : ConnId) (other : false ≡ is_hidden conn) where
    pub connect-done : HasLone parts s (Connect conn) outcome → HasDone parts s (Connect conn) outcome
    connect-done l = record {
      done = record { admitted = refused-other conn Live (refusal_of s.world (Connect conn)) other ∙ l.admitted; effects = l.effects; frames = l.frames; played = l.played; stopped = l.stopped };
      stands = l.stands;
    }

    pub cut-done : HasLone parts s (Cut conn) outcome → HasDone parts s (Cut conn) outcome
    cut-done l = record {
      done = record { admitted = refused-other conn NotLive (refusal_of s.world (Cut conn)) other ∙ l.admitted; effects = l.effects; frames = l.frames; played = l.played; stopped = l.stopped };
      stands = l.stands;
    }

    pub close-done : (later : Parts) → HasLone parts s (Close conn) outcome → StandsForSampler later (forgotten conn (after_lone s (Close conn))) → HasDone later s (Close conn) outcome
    close-done later l stands = record {
      done = record { admitted = refused-other conn NotLive (refusal_of s.world (Close conn)) other ∙ l.admitted; effects = l.effects; frames = l.frames; played = l.played; stopped = l.stopped };
      stands = stands;
    }

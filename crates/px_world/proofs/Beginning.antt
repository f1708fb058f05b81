-- What a world keeps before its first event, and where an event was refused.
use Rattle.std.proofs.Common.{◌≡◌, ◌+◌, ◌<◌, ℕ, true, take, List, [], ◌∷◌, ◌++◌, map, set, get_or, length, Some, refl, ap, sym, subst, ◌∙◌}
use Rattle.std.specs.Prelude.{option_map, slice_get, All, IsFalse}
use Rattle.std.specs.List.{AllByRecursion}
use Rattle.std.proofs.lemmas.Bool.{cond_both}
use Rattle.std.proofs.lemmas.List.{length-map, map-set, map_push, map_more}
use Rattle.std.proofs.lemmas.Option.{slice_get-map, slice_get-get_or, same_Some}
use Rattle.px_header.specs.declared.header.Header.{Header}
use Rattle.px_header.specs.declared.header.SinkSpec.{SinkSpec}
use Rattle.px_header.specs.HeaderRules.{IsHeader, IsSink, AreSinks}
use Rattle.px_frame.specs.Progress.{Progress}
use Rattle.px_msg.specs.View.{sample_spec}
use Rattle.px_model.specs.Stream.{Stream}
use Rattle.px_model.proofs.Rounds.{empty_keeps}
use Rattle.px_state.specs.State.{State, new_state}
use Rattle.px_core.proofs.ParcelLaws.{new_carry}
use Rattle.px_core.proofs.StepLaws.{new_keeps}
use Rattle.px_sinks.proofs.Sinks.{is_of_header}
use Rattle.px_world.specs.declared.fault.WorldFault.{WorldFault}
use Rattle.px_world.specs.declared.fault.WorldFault.TheVariants.{Live, NotLive, NoSink, Worn, TooMany, NoMemory}
use Rattle.px_world.specs.declared.playing.Playing.{Playing}
use Rattle.px_world.specs.World.{Mixer, new_mixer, new_world}
use Rattle.px_world.specs.Playing.{mixer_of}
use Rattle.px_world.specs.Running.{StandsFor}
use Rattle.px_world.specs.Consistency.{HasStream, GivesStream, IsMixerOf, AreConsistent}
use Rattle.px_world.specs.Event.{set_to_fail}
use Rattle.px_world.specs.Parts.{Unless, loses, running_of}
use Rattle.px_world.proofs.Consistent.{consistent-notices}
use Rattle.px_world.proofs.Sounding.{seen-at}
use Rattle.px_world.proofs.Standing.{stands-first}

new-mixer-is : (header : Header) (index : ℕ) (s : SinkSpec) (m : Mixer) → slice_get header.sinks index ≡ Some s → slice_get (map new_mixer header.sinks) index ≡ Some m → IsMixerOf (new_state header) index s m
new-mixer-is header index s m there mixer =
    let same : new_mixer s ≡ m = same_Some (new_mixer s) m (sym (slice_get-map new_mixer header.sinks index ∙ ap (option_map new_mixer) there) ∙ mixer) in
    subst (λ x. IsMixerOf (new_state header) index s x) same (record { spec = refl; consistent = empty_keeps (sample_spec s.spec) s.guard s.depth; inputs = refl; gives = tt })

pub consistent-first : (header : Header) → IsHeader header → AreConsistent (new_state header) (map new_mixer header.sinks)
consistent-first header h = record {
  core_consistent = new_keeps Stream.spec header h;
  carried = new_carry HasStream header;
  count = length-map header.sinks new_mixer;
  each = λ index s m there mixer. new-mixer-is header index s m there mixer;
}

-- the world before its first event
pub begins : (header : Header) (core : State Stream) (doors : List (ℕ × Progress)) (mixers : List Playing) → core ≡ new_state header → doors ≡ [] → map mixer_of mixers ≡ map new_mixer header.sinks
    → StandsFor (running_of core doors mixers) (new_world header)
begins header core doors mixers c d m = stands-first header (running_of core doors mixers) c d m

pub consistent_begins : (header : Header) (core : State Stream) (mixers : List Playing) → IsHeader header → core ≡ new_state header → map mixer_of mixers ≡ map new_mixer header.sinks
    → AreConsistent core (map mixer_of mixers)
consistent_begins header core mixers h c m = subst (λ t. AreConsistent t (map mixer_of mixers)) (sym c) (subst (AreConsistent (new_state header)) (sym m) (consistent-first header h))

-- one mixer more
pub each-push : {X : Type 0} (P : X → Type 0) (xs : List X) (x : X) → AllByRecursion P xs → P x → AllByRecursion P (xs ++ x ∷ [])
each-push P [] x h new = (new, tt)
each-push P (y ∷ xs) x h new = (h.0, each-push P xs x h.1 new)

-- the mixers so far are those of the first sinks
pub mixers-next : {X : Type 0} (v : X → Mixer) (sinks : List SinkSpec) (i : ℕ) (d : SinkSpec) (made next : List X) (x : X) → i < length sinks → next ≡ made ++ x ∷ [] → v x ≡ new_mixer (get_or sinks i d)
    → map v made ≡ map new_mixer (take i sinks) → map v next ≡ map new_mixer (take (i + 1) sinks)
mixers-next v sinks i d made next x below e same h =
    ap (map v) e ∙ map_push v made x ∙ ap (λ l. l ++ v x ∷ []) h ∙ ap (λ m. map new_mixer (take i sinks) ++ m ∷ []) same ∙ sym (map_more new_mixer sinks i d below)

-- each sink of a header stands behind others
pub all_sinks : (sinks : List SinkSpec) → AreSinks [] sinks → All (λ (s : SinkSpec). (earlier : List SinkSpec) × IsSink earlier s) sinks
all_sinks sinks h = λ k d below. is_of_header sinks k (get_or sinks k d) h (slice_get-get_or sinks k d below)

-- ---- where an event was refused

pub unless-lost : (fault : WorldFault) (A : Type 0) → Unless fault A → IsFalse (loses fault) → A
unless-lost Live A a going = a
unless-lost NotLive A a going = a
unless-lost NoSink A a going = a
unless-lost Worn A a going = a
unless-lost (TooMany asked there) A a going = a
unless-lost NoMemory A a going = absurd cc

-- ---- a mixer whose device alone changes

pub fail-notices : (m : Mixer) → (set_to_fail m).notices ≡ m.notices
fail-notices m = cond_both m.sink.stopped m (record m { failing = true }) (λ x. Mixer.notices x ≡ m.notices) (λ e. refl) (λ e. refl)

pub consistent-device : {X : Type 0} (v : X → Mixer) (xs : List X) (k : ℕ) (d next : X) (core : State Stream) → k < length xs → (v next).sink ≡ (v (get_or xs k d)).sink → (v next).notices ≡ (v (get_or xs k d)).notices → AreConsistent core (map v xs) → AreConsistent core (map v (set xs k next))
consistent-device v xs k d next core within same notices h =
    subst (AreConsistent core) (sym (map-set v xs k next)) (consistent-notices core (map v xs) k (v (get_or xs k d)) (v next) h (seen-at v xs k d within) same (subst (AllByRecursion GivesStream) (sym notices)))

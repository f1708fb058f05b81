-- What a world with ramps keeps before its first event.
use Rattle.std.proofs.Common.{◌≡◌, ◌+◌, ◌<◌, ℕ, take, List, [], ◌∷◌, ◌++◌, map, get_or, length, None, refl, ap, sym, subst, ◌∙◌}
use Rattle.std.specs.Ordering.{nat_cmp}
use Rattle.std.specs.BTreeMap.{is_at}
use Rattle.std.specs.Map.{lookup}
use Rattle.std.proofs.lemmas.List.{map_push, map_more}
use Rattle.px_header.specs.declared.header.Header.{Header}
use Rattle.px_header.specs.declared.header.SinkSpec.{SinkSpec}
use Rattle.px_header.specs.HeaderRules.{IsHeader}
use Rattle.px_frame.specs.Progress.{Progress}
use Rattle.px_model.specs.Stream.{Stream}
use Rattle.px_state.specs.State.{State, new_state}
use Rattle.px_world.specs.World.{Mixer, new_mixer}
use Rattle.px_world.specs.Running.{Opens}
use Rattle.px_world.specs.Consistency.{AreConsistent}
use Rattle.px_world.proofs.Beginning.{consistent-first}
use Rattle.px_ramp_world.specs.declared.playing.RampPlaying.{RampPlaying}
use Rattle.px_ramp_world.specs.World.{RampedMixer, new_ramped_mixer, new_ramp_world, plain_mixer}
use Rattle.px_ramp_world.specs.Playing.{ramped_mixer_of, plain_mixer_of}
use Rattle.px_ramp_world.specs.Running.{StandsFor}
use Rattle.px_ramp_world.specs.Parts.{running_of}

-- one after the other
pub maps_join : {A B C : Type 0} (f : A → B) (g : B → C) (xs : List A) → map (λ x. g (f x)) xs ≡ map g (map f xs)
maps_join f g [] = refl
maps_join f g (x ∷ xs) = ap (λ l. g (f x) ∷ l) (maps_join f g xs)

pub begins : (n : ℕ) (header : Header) (core : State Stream) (doors : List (ℕ × Progress)) (mixers : List RampPlaying) → core ≡ new_state header → doors ≡ [] → map ramped_mixer_of mixers ≡ map (new_ramped_mixer n) header.sinks
    → StandsFor (running_of core doors mixers) (new_ramp_world n header)
begins n header core doors mixers c d m = record {
  core = c;
  doors = λ conn. subst (λ l. Opens (lookup (is_at (nat_cmp conn.0)) l) None) (sym d) tt;
  distinct = tt;
  mixers = m;
}

pub consistent_begins : (n : ℕ) (header : Header) (core : State Stream) (mixers : List RampPlaying) → IsHeader header → core ≡ new_state header → map ramped_mixer_of mixers ≡ map (new_ramped_mixer n) header.sinks
    → AreConsistent core (map plain_mixer_of mixers)
consistent_begins n header core mixers h c m =
    let plain : map plain_mixer_of mixers ≡ map new_mixer header.sinks =
    maps_join ramped_mixer_of plain_mixer mixers ∙ ap (λ (l : List RampedMixer). map plain_mixer l) m ∙ sym (maps_join (new_ramped_mixer n) plain_mixer header.sinks) in
    subst (λ t. AreConsistent t (map plain_mixer_of mixers)) (sym c) (subst (AreConsistent (new_state header)) (sym plain) (consistent-first header h))

-- the mixers so far are those of the first sinks
pub mixers-next : {X : Type 0} (v : X → RampedMixer) (n : ℕ) (sinks : List SinkSpec) (i : ℕ) (d : SinkSpec) (made next : List X) (x : X) → i < length sinks → next ≡ made ++ x ∷ [] → v x ≡ new_ramped_mixer n (get_or sinks i d)
    → map v made ≡ map (new_ramped_mixer n) (take i sinks) → map v next ≡ map (new_ramped_mixer n) (take (i + 1) sinks)
mixers-next v n sinks i d made next x below e same h =
    ap (map v) e ∙ map_push v made x ∙ ap (λ l. l ++ v x ∷ []) h ∙ ap (λ m. map (new_ramped_mixer n) (take i sinks) ++ m ∷ []) same ∙ sym (map_more (new_ramped_mixer n) sinks i d below)

-- A world with ramps goes beside the plain world: only the frames of its buffers are others.
use Rattle.std.proofs.Common.{◌≡◌, ℕ, List, [], ◌∷◌, ◌++◌, map, take, set, length, Bool, true, false, cond, Option, None, Some, refl, ap, sym, ◌∙◌}
use Rattle.std.specs.Prelude.{option_map, nat_eq}
use Rattle.std.specs.List.{slice_get}
use Rattle.std.proofs.lemmas.List.{map-set}
use Rattle.std.proofs.lemmas.Option.{slice_get-map}
use Rattle.px_types.specs.declared.ids.SinkId.{SinkId}
use Rattle.px_header.specs.declared.header.Header.{Header}
use Rattle.px_session.specs.declared.event.Event.{Event}
use Rattle.px_session.specs.declared.event.Event.TheVariants.{Connect, Bytes, Close, Cut, Turn, Collect, Stop}
use Rattle.px_model.specs.Message.{Message}
use Rattle.px_model.specs.Notice.{Notice}
use Rattle.px_model.specs.Stream.{Stream}
use Rattle.px_model.specs.Deciding.{Entry}
use Rattle.px_msg.specs.View.{notice_for}
use Rattle.px_state.specs.State.{State}
use Rattle.px_state.specs.Out.{waiting_for}
use Rattle.px_state.specs.declared.effect.Effect.{Effect}
use Rattle.px_core.specs.Step.{Step, notice, sweep, stepped_by, effects_by}
use Rattle.px_world.specs.World.{World, Link, Mixer, new_mixer, new_world, link_of, received_of}
use Rattle.px_world.specs.declared.fault.WorldFault.{WorldFault}
use Rattle.px_world.specs.Admission.{if_new, if_named, refusal_of, turn_refusal, collect_refusal, stop_refusal}
use Rattle.px_world.specs.Event.{notices_of, bytes_steps, steps_of, all_steps, links_after, messages_taken, is_to_stop, mixer_stopped, mixer_played, mixer_turned, mixer_collected, set_to_fail, change_at, mixers_after, world_after, effects_after}
use Rattle.px_world.specs.Output.{world_by, effects_by_run, AreAdmitted}
use Rattle.px_world.specs.History.{entry_of, entries_of, history_by}
use Rattle.px_ramp_world.specs.World.{RampedMixer, RampWorld, new_ramped_mixer, new_ramp_world, plain_mixer, plain_of}
use Rattle.px_ramp_world.specs.Event.{ramped_stopped, ramped_played, ramped_turned, ramped_collected, ramped_to_fail, change_ramped, ramped_after, ramp_world_after}
use Rattle.px_ramp_world.specs.Output.{ramp_world_by, ramp_effects_by, AreRampAdmitted}
use Rattle.px_ramp_world.specs.History.{ramp_history_by}
use Rattle.px_ramp_world.specs.Plain.{without_buffer, without_frames}
use Rattle.px_ramp_world.proofs.Beginning.{maps_join}

-- both worlds without the frames in their buffers
record AreAlike (w x : World) : Type 0 where
  core : w.core ≡ x.core
  links : w.links ≡ x.links
  mixers : map without_buffer w.mixers ≡ map without_buffer x.mixers

-- ---- what doesn't see the frames

module _ (w x : World) (a : AreAlike w x) where
  same_mixer : (k : ℕ) → option_map without_buffer (slice_get w.mixers k) ≡ option_map without_buffer (slice_get x.mixers k)
  same_mixer k = sym (slice_get-map without_buffer w.mixers k) ∙ ap (λ (l : List Mixer). slice_get l k) a.mixers ∙ slice_get-map without_buffer x.mixers k

  same_seen : {A : Type 0} (g : Option Mixer → A) → ((o : Option Mixer) → g o ≡ g (option_map without_buffer o)) → (k : ℕ) → g (slice_get w.mixers k) ≡ g (slice_get x.mixers k)
  same_seen g blind k = blind (slice_get w.mixers k) ∙ ap g (same_mixer k) ∙ sym (blind (slice_get x.mixers k))

  turn_blind : (frames n waiting : ℕ) (o : Option Mixer) → turn_refusal o frames n waiting ≡ turn_refusal (option_map without_buffer o) frames n waiting
  turn_blind frames n waiting None = refl
  turn_blind frames n waiting (Some m) = refl

  collect_blind : (n : ℕ) (o : Option Mixer) → collect_refusal o n ≡ collect_refusal (option_map without_buffer o) n
  collect_blind n None = refl
  collect_blind n (Some m) = refl

  stop_blind : (o : Option Mixer) → stop_refusal o ≡ stop_refusal (option_map without_buffer o)
  stop_blind None = refl
  stop_blind (Some m) = refl

  notices_blind : (o : Option Mixer) → notices_of o ≡ notices_of (option_map without_buffer o)
  notices_blind None = refl
  notices_blind (Some m) = refl

  entry_blind : (frames : ℕ) (messages : List (Message Stream)) (o : Option Mixer) → entry_of o frames messages ≡ entry_of (option_map without_buffer o) frames messages
  entry_blind frames messages None = refl
  entry_blind frames messages (Some m) = refl

  same_refusal : (e : Event) → refusal_of w e ≡ refusal_of x e
  same_refusal (Connect conn) = ap (λ (l : List Link). if_new (link_of l conn)) a.links
  same_refusal (Bytes conn bytes) = ap (λ (l : List Link). if_named (link_of l conn)) a.links
  same_refusal (Close conn) = ap (λ (l : List Link). if_named (link_of l conn)) a.links
  same_refusal (Cut conn) = ap (λ (l : List Link). if_named (link_of l conn)) a.links
  same_refusal (Turn sink frames n) =
      ap (λ (s : State Stream). turn_refusal (slice_get w.mixers sink) frames n (length (waiting_for s (record { 0 = sink })))) a.core
      ∙ same_seen (λ o. turn_refusal o frames n (length (waiting_for x.core (record { 0 = sink })))) (turn_blind frames n (length (waiting_for x.core (record { 0 = sink })))) sink
  same_refusal (Collect sink n) = same_seen (λ o. collect_refusal o n) (collect_blind n) sink
  same_refusal (Stop sink) = same_seen stop_refusal stop_blind sink.0

  same_steps : (e : Event) → all_steps w e ≡ all_steps x e
  same_steps (Connect conn) = refl
  same_steps (Bytes conn bytes) = ap (λ (l : List Link). bytes_steps conn (received_of (link_of l conn)) bytes ++ sweep ∷ []) a.links
  same_steps (Close conn) = refl
  same_steps (Cut conn) = refl
  same_steps (Turn sink frames n) = refl
  same_steps (Collect sink n) =
      ap (λ (ns : List (Notice Stream)). map (λ (m : Notice Stream). notice (record { 0 = sink }) (notice_for m)) (take n ns) ++ sweep ∷ []) (same_seen notices_of notices_blind sink)
  same_steps (Stop sink) = refl

  same_effects : (e : Event) → effects_after w e ≡ effects_after x e
  same_effects e = ap (λ (s : State Stream). effects_by Stream.spec s (all_steps w e)) a.core ∙ ap (λ (steps : List (Step Stream)). effects_by Stream.spec x.core steps) (same_steps e)

  same_core : (e : Event) → stepped_by Stream.spec w.core (all_steps w e) ≡ stepped_by Stream.spec x.core (all_steps x e)
  same_core e = ap (λ (s : State Stream). stepped_by Stream.spec s (all_steps w e)) a.core ∙ ap (λ (steps : List (Step Stream)). stepped_by Stream.spec x.core steps) (same_steps e)

  same_taken : (sink n : ℕ) → messages_taken w sink n ≡ messages_taken x sink n
  same_taken sink n = ap (λ (s : State Stream). messages_taken (record x { core = s }) sink n) a.core

  same_entries : (e : Event) (k : ℕ) → entries_of w e k ≡ entries_of x e k
  same_entries (Connect conn) k = refl
  same_entries (Bytes conn bytes) k = refl
  same_entries (Close conn) k = refl
  same_entries (Cut conn) k = refl
  same_entries (Turn sink frames n) k =
      ap (λ (messages : List (Message Stream)). cond (nat_eq sink k) (entry_of (slice_get w.mixers sink) frames messages) []) (same_taken sink n)
      ∙ ap (λ (l : List Entry). cond (nat_eq sink k) l []) (same_seen (λ o. entry_of o frames (messages_taken x sink n)) (entry_blind frames (messages_taken x sink n)) sink)
  same_entries (Collect sink n) k = refl
  same_entries (Stop sink) k = refl

-- ---- the mixers after an event

abbrev bare : RampedMixer → Mixer
bare m = without_buffer (plain_mixer m)

module _ {X : Type 0} (v : X → Mixer) (g : X → X) (h : Mixer → Mixer) (same : (m : X) → v (g m) ≡ h (v m)) where
  set_seen : (ms : List X) (k : ℕ) (m : X) → map v (set ms k (g m)) ≡ set (map v ms) k (h (v m))
  set_seen ms k m = map-set v ms k (g m) ∙ ap (set (map v ms) k) (same m)

change_plain : (g h : Mixer → Mixer) → ((m : Mixer) → without_buffer (g m) ≡ h (without_buffer m)) → (ms : List Mixer) (k : ℕ)
    → map without_buffer (change_at ms k (slice_get ms k) g) ≡ change_at (map without_buffer ms) k (slice_get (map without_buffer ms) k) h
change_plain g h same ms k = go (slice_get ms k) ∙ ap (λ o. change_at (map without_buffer ms) k o h) (sym (slice_get-map without_buffer ms k))
  where
    go : (o : Option Mixer) → map without_buffer (change_at ms k o g) ≡ change_at (map without_buffer ms) k (option_map without_buffer o) h
    go None = refl
    go (Some m) = set_seen without_buffer g h same ms k m

change_bare : (g : RampedMixer → RampedMixer) (h : Mixer → Mixer) → ((m : RampedMixer) → bare (g m) ≡ h (bare m)) → (ms : List RampedMixer) (k : ℕ)
    → map bare (change_ramped ms k (slice_get ms k) g) ≡ change_at (map bare ms) k (slice_get (map bare ms) k) h
change_bare g h same ms k = go (slice_get ms k) ∙ ap (λ o. change_at (map bare ms) k o h) (sym (slice_get-map bare ms k))
  where
    go : (o : Option RampedMixer) → map bare (change_ramped ms k o g) ≡ change_at (map bare ms) k (option_map bare o) h
    go None = refl
    go (Some m) = set_seen bare g h same ms k m

changed_alike : (g : RampedMixer → RampedMixer) (f h : Mixer → Mixer) → ((m : RampedMixer) → bare (g m) ≡ h (bare m)) → ((m : Mixer) → without_buffer (f m) ≡ h (without_buffer m))
    → (ms : List RampedMixer) (plain : List Mixer) (k : ℕ) → map without_buffer (map plain_mixer ms) ≡ map without_buffer plain
    → map without_buffer (map plain_mixer (change_ramped ms k (slice_get ms k) g)) ≡ map without_buffer (change_at plain k (slice_get plain k) f)
changed_alike g f h same other ms plain k e =
    sym (maps_join plain_mixer without_buffer (change_ramped ms k (slice_get ms k) g))
    ∙ change_bare g h same ms k
    ∙ ap (λ (l : List Mixer). change_at l k (slice_get l k) h) (maps_join plain_mixer without_buffer ms ∙ e)
    ∙ sym (change_plain f h other plain k)

turned_bare : (frames : ℕ) (messages : List (Message Stream)) (m : RampedMixer) → bare (ramped_turned m frames messages) ≡ without_buffer (mixer_turned (bare m) frames messages)
turned_bare frames messages m = go (is_to_stop (plain_mixer m))
  where
    go : (b : Bool) → bare (cond b (ramped_stopped m messages) (ramped_played m frames messages)) ≡ without_buffer (cond b (mixer_stopped (bare m) messages) (mixer_played (bare m) frames messages))
    go true = refl
    go false = refl

turned_plain : (frames : ℕ) (messages : List (Message Stream)) (m : Mixer) → without_buffer (mixer_turned m frames messages) ≡ without_buffer (mixer_turned (without_buffer m) frames messages)
turned_plain frames messages m = go (is_to_stop m)
  where
    go : (b : Bool) → without_buffer (cond b (mixer_stopped m messages) (mixer_played m frames messages)) ≡ without_buffer (cond b (mixer_stopped (without_buffer m) messages) (mixer_played (without_buffer m) frames messages))
    go true = refl
    go false = refl

fails_bare : (m : RampedMixer) → bare (ramped_to_fail m) ≡ without_buffer (set_to_fail (bare m))
fails_bare m = go m.ramped.sink.stopped
  where
    go : (b : Bool) → bare (cond b m (record m { failing = true })) ≡ without_buffer (cond b (bare m) (record (bare m) { failing = true }))
    go true = refl
    go false = refl

fails_plain : (m : Mixer) → without_buffer (set_to_fail m) ≡ without_buffer (set_to_fail (without_buffer m))
fails_plain m = go m.sink.stopped
  where
    go : (b : Bool) → without_buffer (cond b m (record m { failing = true })) ≡ without_buffer (cond b (without_buffer m) (record (without_buffer m) { failing = true }))
    go true = refl
    go false = refl

module _ (w : RampWorld) (x : World) (a : AreAlike (plain_of w) x) where
  mixers_alike : (e : Event) → map without_buffer (map plain_mixer (ramped_after w e)) ≡ map without_buffer (mixers_after x e)
  mixers_alike (Connect conn) = a.mixers
  mixers_alike (Bytes conn bytes) = a.mixers
  mixers_alike (Close conn) = a.mixers
  mixers_alike (Cut conn) = a.mixers
  mixers_alike (Turn sink frames n) =
      changed_alike (λ m. ramped_turned m frames (messages_taken (plain_of w) sink n)) (λ m. mixer_turned m frames (messages_taken (plain_of w) sink n))
      (λ m. without_buffer (mixer_turned m frames (messages_taken (plain_of w) sink n)))
      (turned_bare frames (messages_taken (plain_of w) sink n)) (turned_plain frames (messages_taken (plain_of w) sink n)) w.mixers x.mixers sink a.mixers
      ∙ ap (λ (messages : List (Message Stream)). map without_buffer (change_at x.mixers sink (slice_get x.mixers sink) (λ m. mixer_turned m frames messages))) (same_taken (plain_of w) x a sink n)
  mixers_alike (Collect sink n) =
      changed_alike (λ m. ramped_collected m n) (λ m. mixer_collected m n) (λ m. mixer_collected m n) (λ m. refl) (λ m. refl) w.mixers x.mixers sink a.mixers
  mixers_alike (Stop sink) =
      changed_alike ramped_to_fail set_to_fail (λ m. without_buffer (set_to_fail m)) fails_bare fails_plain w.mixers x.mixers sink.0 a.mixers

  alike_after : (e : Event) → AreAlike (plain_of (ramp_world_after w e)) (world_after x e)
  alike_after e = record {
    core = same_core (plain_of w) x a e;
    links = ap (λ (l : List Link). links_after l e) a.links;
    mixers = mixers_alike e;
  }

-- ---- a run

alike_by : (w : RampWorld) (x : World) → AreAlike (plain_of w) x → (events : List Event) → AreAlike (plain_of (ramp_world_by w events)) (world_by x events)
alike_by w x a [] = a
alike_by w x a (e ∷ events) = alike_by (ramp_world_after w e) (world_after x e) (alike_after w x a e) events

effects_alike : (w : RampWorld) (x : World) → AreAlike (plain_of w) x → (events : List Event) → ramp_effects_by w events ≡ effects_by_run x events
effects_alike w x a [] = refl
effects_alike w x a (e ∷ events) = λ i. same_effects (plain_of w) x a e i ++ effects_alike (ramp_world_after w e) (world_after x e) (alike_after w x a e) events i

histories_alike : (w : RampWorld) (x : World) → AreAlike (plain_of w) x → (events : List Event) (k : ℕ) → ramp_history_by w events k ≡ history_by x events k
histories_alike w x a [] k = refl
histories_alike w x a (e ∷ events) k = λ i. same_entries (plain_of w) x a e k i ++ histories_alike (ramp_world_after w e) (world_after x e) (alike_after w x a e) events k i

admitted_alike : (w : RampWorld) (x : World) → AreAlike (plain_of w) x → (events : List Event) → AreAdmitted x events → AreRampAdmitted w events
admitted_alike w x a [] h = tt
admitted_alike w x a (e ∷ events) h = (same_refusal (plain_of w) x a e ∙ h.0, admitted_alike (ramp_world_after w e) (world_after x e) (alike_after w x a e) events h.1)

refused_alike : (w : RampWorld) (x : World) → AreAlike (plain_of w) x → (events : List Event) → AreRampAdmitted w events → AreAdmitted x events
refused_alike w x a [] h = tt
refused_alike w x a (e ∷ events) h = (sym (same_refusal (plain_of w) x a e) ∙ h.0, refused_alike (ramp_world_after w e) (world_after x e) (alike_after w x a e) events h.1)

module _ (n : ℕ) (header : Header) (events : List Event) where
  first_alike : AreAlike (plain_of (new_ramp_world n header)) (new_world header)
  first_alike = record { core = refl; links = refl; mixers = ap (λ (l : List Mixer). map without_buffer l) (sym (maps_join (new_ramped_mixer n) plain_mixer header.sinks)) }

  pub world-beside : without_frames (plain_of (ramp_world_by (new_ramp_world n header) events)) ≡ without_frames (world_by (new_world header) events)
  world-beside =
      let a = alike_by (new_ramp_world n header) (new_world header) first_alike events in
      λ i. record { core = AreAlike.core a i; links = AreAlike.links a i; mixers = AreAlike.mixers a i }

  pub effects-beside : ramp_effects_by (new_ramp_world n header) events ≡ effects_by_run (new_world header) events
  effects-beside = effects_alike (new_ramp_world n header) (new_world header) first_alike events

  pub admitted-beside : AreAdmitted (new_world header) events → AreRampAdmitted (new_ramp_world n header) events
  admitted-beside = admitted_alike (new_ramp_world n header) (new_world header) first_alike events

  pub refused-beside : AreRampAdmitted (new_ramp_world n header) events → AreAdmitted (new_world header) events
  refused-beside = refused_alike (new_ramp_world n header) (new_world header) first_alike events

  pub history-beside : (k : ℕ) → ramp_history_by (new_ramp_world n header) events k ≡ history_by (new_world header) events k
  history-beside k = histories_alike (new_ramp_world n header) (new_world header) first_alike events k

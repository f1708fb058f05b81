-- What the events of a sink do to a world with ramps, from what their parts do.
use Rattle.std.proofs.Common.{◌≡◌, ◌<◌, ◌≤◌, ℕ, true, List, [], ◌∷◌, ◌++◌, map, take, length, set, get_or, Option, None, Some, refl, ap, sym, ◌∙◌, arith}
use Rattle.std.specs.Prelude.{option_map, replicate}
use Rattle.std.specs.List.{slice_get, concat}
use Rattle.std.proofs.lemmas.Bool.{cond_both}
use Rattle.std.proofs.lemmas.List.{length-map, map-set}
use Rattle.std.proofs.lemmas.Option.{slice_get-map, slice_get-get_or, slice_get_past}
use Rattle.px_types.specs.declared.ids.SinkId.{SinkId}
use Rattle.px_session.specs.declared.event.Event.{Event}
use Rattle.px_session.specs.declared.event.Event.TheVariants.{Turn, Collect, Stop}
use Rattle.px_model.specs.Stream.{Stream}
use Rattle.px_model.specs.Notice.{Notice}
use Rattle.px_msg.specs.View.{message_of, notice_for}
use Rattle.px_state.specs.State.{State}
use Rattle.px_state.specs.Out.{waiting_for}
use Rattle.px_core.specs.Step.{notice, out, sweep, stepped_by, effects_by}
use Rattle.px_world.specs.declared.fault.WorldFault.TheVariants.{NoSink, TooMany}
use Rattle.px_world.specs.declared.outcome.Outcome.{Outcome}
use Rattle.px_world.specs.World.{Mixer}
use Rattle.px_world.specs.Admission.{refusal_of, turn_refusal, collect_refusal, stop_refusal}
use Rattle.px_world.specs.Event.{mixer_turned, mixer_collected, change_at, played_of, stopped_of}
use Rattle.px_world.specs.Parts as world
use Rattle.px_world.proofs.Sounding as plain
use Rattle.px_ramp_world.specs.World.{RampedMixer, RampWorld, plain_mixer, plain_of}
use Rattle.px_ramp_world.specs.Event.{change_ramped, ramped_turned, ramped_collected, ramped_to_fail, ramped_after}
use Rattle.px_ramp_world.specs.Parts.{Plays}

-- ---- a mixer among the others, each seen as one of the definitions

module _ {X : Type 0} (v : X → RampedMixer) (xs : List X) (k : ℕ) (d : X) (within : k < length xs) where
  pub seen-at : slice_get (map v xs) k ≡ Some (v (get_or xs k d))
  seen-at = slice_get-map v xs k ∙ ap (option_map v) (slice_get-get_or xs k d within)

  pub changed-at : (next : X) (change : RampedMixer → RampedMixer) → v next ≡ change (v (get_or xs k d)) → map v (set xs k next) ≡ change_ramped (map v xs) k (slice_get (map v xs) k) change
  changed-at next change e = map-set v xs k next ∙ ap (set (map v xs) k) e ∙ sym (ap (λ o. change_ramped (map v xs) k o change) seen-at)

-- ---- events of a sink

module _ (w : RampWorld) (core : State Stream) (ms : List RampedMixer) (same_core : w.core ≡ core) (same_mixers : w.mixers ≡ ms) (k : ℕ) where
  plain_same : map plain_mixer w.mixers ≡ map plain_mixer ms
  plain_same = ap (λ (l : List RampedMixer). map plain_mixer l) same_mixers

  -- that isn't there
  module _ (past : length ms ≤ k) where
    nowhere : slice_get (map plain_mixer w.mixers) k ≡ None
    nowhere = ap (λ (l : List Mixer). slice_get l k) plain_same ∙ slice_get_past (map plain_mixer ms) k (omega (arith, past, length-map ms plain_mixer))

    pub turn-nowhere : (frames count : ℕ) → refusal_of (plain_of w) (Turn k frames count) ≡ Some NoSink
    turn-nowhere frames count = ap (λ o. turn_refusal o frames count (length (waiting_for w.core (record { 0 = k })))) nowhere

    pub collect-nowhere : (count : ℕ) → refusal_of (plain_of w) (Collect k count) ≡ Some NoSink
    collect-nowhere count = ap (λ o. collect_refusal o count) nowhere

    pub stop-nowhere : refusal_of (plain_of w) (Stop (record { 0 = k })) ≡ Some NoSink
    stop-nowhere = ap stop_refusal nowhere

  -- that is
  module _ (m : RampedMixer) (there : slice_get ms k ≡ Some m) where
    seen : slice_get (map plain_mixer ms) k ≡ Some (plain_mixer m)
    seen = slice_get-map plain_mixer ms k ∙ ap (option_map plain_mixer) there

    pub turn-refusal : (frames count : ℕ) → refusal_of (plain_of w) (Turn k frames count) ≡ turn_refusal (Some (plain_mixer m)) frames count (length (waiting_for core (record { 0 = k })))
    turn-refusal frames count = plain.turn-refusal (plain_of w) core (map plain_mixer ms) same_core plain_same k (plain_mixer m) seen frames count

    pub collect-refused : (count : ℕ) → length m.notices < count → refusal_of (plain_of w) (Collect k count) ≡ Some (TooMany count (length m.notices))
    collect-refused count h = plain.collect-refused (plain_of w) core (map plain_mixer ms) same_core plain_same k (plain_mixer m) seen count h

    pub collects : (after : State Stream) (mixers : List RampedMixer) (count : ℕ) (outcome : Outcome) → count ≤ length m.notices
        → after ≡ stepped_by Stream.spec core (map (λ (n : Notice Stream). notice (record { 0 = k }) (notice_for n)) (take count m.notices) ++ sweep ∷ [])
        → mixers ≡ change_ramped ms k (slice_get ms k) (λ x. ramped_collected x count)
        → outcome.effects ≡ effects_by Stream.spec core (map (λ (n : Notice Stream). notice (record { 0 = k }) (notice_for n)) (take count m.notices) ++ sweep ∷ [])
        → outcome.frames ≡ 0 → outcome.played ≡ [] → outcome.stopped ≡ None → Plays core after mixers w (Collect k count) outcome
    collects after mixers count outcome few e mixed caused counted bytes stopped =
        let p : world.Plays core after (change_at (map plain_mixer ms) k (slice_get (map plain_mixer ms) k) (λ x. mixer_collected x count)) (plain_of w) (Collect k count) outcome =
        plain.collects (plain_of w) core (map plain_mixer ms) same_core plain_same k (plain_mixer m) seen after (change_at (map plain_mixer ms) k (slice_get (map plain_mixer ms) k) (λ x. mixer_collected x count)) count outcome few e refl caused counted bytes stopped in
        record {
          admitted = p.admitted;
          core = p.core;
          mixed = mixed ∙ ap (λ (l : List RampedMixer). change_ramped l k (slice_get l k) (λ x. ramped_collected x count)) (sym same_mixers);
          caused = p.caused;
          counted = p.counted;
          bytes = p.bytes;
          stopped = p.stopped;
        }

    pub plays : (after : State Stream) (mixers : List RampedMixer) (frames count : ℕ) (outcome : Outcome)
        → turn_refusal (Some (plain_mixer m)) frames count (length (waiting_for core (record { 0 = k }))) ≡ None
        → after ≡ stepped_by Stream.spec core (replicate count (out (record { 0 = k })) ++ sweep ∷ [])
        → mixers ≡ change_ramped ms k (slice_get ms k) (λ x. ramped_turned x frames (map (message_of (λ p. p)) (take count (waiting_for core (record { 0 = k })))))
        → outcome.effects ≡ effects_by Stream.spec core (replicate count (out (record { 0 = k })) ++ sweep ∷ [])
        → outcome.frames ≡ length (played_of (Some (plain_mixer m)) frames) → outcome.played ≡ concat (played_of (Some (plain_mixer m)) frames)
        → outcome.stopped ≡ stopped_of (Some (plain_mixer m)) (map (message_of (λ p. p)) (take count (waiting_for core (record { 0 = k }))))
        → Plays core after mixers w (Turn k frames count) outcome
    plays after mixers frames count outcome goes e mixed caused counted bytes stopped =
        let turned : List Mixer = change_at (map plain_mixer ms) k (slice_get (map plain_mixer ms) k) (λ x. mixer_turned x frames (map (message_of (λ p. p)) (take count (waiting_for core (record { 0 = k }))))) in
        let p : world.Plays core after turned (plain_of w) (Turn k frames count) outcome =
        plain.plays (plain_of w) core (map plain_mixer ms) same_core plain_same k (plain_mixer m) seen after turned frames count outcome goes e refl caused counted bytes stopped in
        record {
          admitted = p.admitted;
          core = p.core;
          mixed = mixed
              ∙ ap (λ (l : List RampedMixer). change_ramped l k (slice_get l k) (λ x. ramped_turned x frames (map (message_of (λ p. p)) (take count (waiting_for core (record { 0 = k })))))) (sym same_mixers)
              ∙ ap (λ (s : State Stream). change_ramped w.mixers k (slice_get w.mixers k) (λ x. ramped_turned x frames (map (message_of (λ p. p)) (take count (waiting_for s (record { 0 = k })))))) (sym same_core);
          caused = p.caused;
          counted = p.counted;
          bytes = p.bytes;
          stopped = p.stopped;
        }

    pub stops : (after : State Stream) (mixers : List RampedMixer) (outcome : Outcome) → after ≡ stepped_by Stream.spec core (sweep ∷ [])
        → mixers ≡ change_ramped ms k (slice_get ms k) ramped_to_fail → outcome.effects ≡ effects_by Stream.spec core (sweep ∷ [])
        → outcome.frames ≡ 0 → outcome.played ≡ [] → outcome.stopped ≡ None → Plays core after mixers w (Stop (record { 0 = k })) outcome
    stops after mixers outcome e mixed caused counted bytes stopped = record {
      admitted = ap (λ (l : List Mixer). stop_refusal (slice_get l k)) plain_same ∙ ap stop_refusal seen;
      core = e;
      mixed = mixed ∙ ap (λ (l : List RampedMixer). change_ramped l k (slice_get l k) ramped_to_fail) (sym same_mixers);
      caused = caused;
      counted = counted;
      bytes = bytes;
      stopped = stopped;
    }

-- ---- a mixer whose device alone changes

pub kept-notices : (m : RampedMixer) → (ramped_to_fail m).notices ≡ m.notices
kept-notices m = cond_both m.ramped.sink.stopped m (record m { failing = true }) (λ x. RampedMixer.notices x ≡ m.notices) (λ e. refl) (λ e. refl)

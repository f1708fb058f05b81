-- The ramped mixer of a sink goes through the history of its sink.
use Rattle.std.proofs.Common.{◌≡◌, ℕ, zero, suc, Bool, true, false, cond, List, [], ◌∷◌, ◌++◌, length, set, append_assoc, append-nil, Option, None, Some, refl, ap, sym, subst, ◌∙◌}
use Rattle.std.specs.Prelude.{nat_eq, option_map}
use Rattle.std.specs.List.{slice_get}
use Rattle.std.proofs.lemmas.Bool.{cond-true, cond-false, cond_both, eqb-true, eqb-false}
use Rattle.std.proofs.lemmas.Option.{none-some, slice_get-map}
use Rattle.px_types.specs.declared.ids.SinkId.{SinkId}
use Rattle.px_session.specs.declared.event.Event.{Event}
use Rattle.px_session.specs.declared.event.Event.TheVariants.{Connect, Bytes, Close, Cut, Turn, Collect, Stop}
use Rattle.px_model.specs.Frame.{Frame}
use Rattle.px_model.specs.Message.{Message}
use Rattle.px_model.specs.Stream.{Stream}
use Rattle.px_model.specs.Turn.{played_by}
use Rattle.px_model.specs.Deciding.{Entry, turn, stop, played_of}
use Rattle.px_state.specs.Out.{waiting_for}
use Rattle.px_stream.specs.Samples.{samples}
use Rattle.px_ramp.specs.RampMix.{RampSink}
use Rattle.px_ramp.specs.Deciding.{ramp_after, ramp_replay, ramp_played, IsRampHistory}
use Rattle.px_world.specs.World.{Mixer}
use Rattle.px_world.specs.Admission.{refusal_of, turn_refusal}
use Rattle.px_world.specs.Event.{messages_taken, is_to_stop, frames_played}
use Rattle.px_world.specs.Event as world
use Rattle.px_world.specs.History.{entry_of, entries_of, played_on}
use Rattle.px_world.proofs.Histories.{frames_there, can_be, turn-played}
use Rattle.px_ramp_world.specs.World.{RampedMixer, RampWorld, plain_mixer, plain_of}
use Rattle.px_ramp_world.specs.Event.{ramped_stopped, ramped_played, ramped_turned, ramped_collected, ramped_to_fail, change_ramped, ramped_after, ramp_world_after}
use Rattle.px_ramp_world.specs.Output.{ramp_world_by, AreRampAdmitted}
use Rattle.px_ramp_world.specs.History.{ramp_history_by, ramp_played_by_run}

-- ---- one mixer of the list

get-set_same : (xs : List RampedMixer) (k : ℕ) (x y : RampedMixer) → slice_get xs k ≡ Some x → slice_get (set xs k y) k ≡ Some y
get-set_same [] k x y e = absurd (none-some x e)
get-set_same (z ∷ xs) zero x y e = refl
get-set_same (z ∷ xs) (suc k) x y e = get-set_same xs k x y e

get-set_other : (xs : List RampedMixer) (i k : ℕ) (y : RampedMixer) → (i ≡ k → ⊥) → slice_get (set xs i y) k ≡ slice_get xs k
get-set_other [] i k y h = refl
get-set_other (z ∷ xs) zero zero y h = absurd (h refl)
get-set_other (z ∷ xs) zero (suc k) y h = refl
get-set_other (z ∷ xs) (suc i) zero y h = refl
get-set_other (z ∷ xs) (suc i) (suc k) y h = get-set_other xs i k y (λ e. h (ap suc e))

module _ (mixers : List RampedMixer) (sink k : ℕ) (m : RampedMixer) (there : slice_get mixers k ≡ Some m) (change : RampedMixer → RampedMixer) where
  -- it is the one that changes
  changed-there : nat_eq sink k ≡ true → slice_get (change_ramped mixers sink (slice_get mixers sink) change) k ≡ Some (change m)
  changed-there e =
      let same : sink ≡ k = eqb-true sink k e in
      let at : slice_get mixers sink ≡ Some m = ap (slice_get mixers) same ∙ there in
      ap (λ o. slice_get (change_ramped mixers sink o change) k) at
      ∙ ap (λ i. slice_get (set mixers i (change m)) k) same
      ∙ get-set_same mixers k m (change m) there

  -- it is another
  changed-elsewhere : nat_eq sink k ≡ false → slice_get (change_ramped mixers sink (slice_get mixers sink) change) k ≡ Some m
  changed-elsewhere e = stays (slice_get mixers sink)
    where
      stays : (o : Option RampedMixer) → slice_get (change_ramped mixers sink o change) k ≡ Some m
      stays None = there
      stays (Some other) = get-set_other mixers sink k (change other) (eqb-false sink k e) ∙ there

-- ---- one event

-- the sink with this mixer goes through what the event adds to its history
record GoesThrough (w : RampWorld) (e : Event) (k : ℕ) (m : RampedMixer) : Type 0 where
  next : RampedMixer
  there : slice_get (ramped_after w e) k ≡ Some next
  ramp : next.ramp ≡ m.ramp
  ramped : next.ramped ≡ ramp_replay samples m.ramp m.ramped (entries_of (plain_of w) e k)
  played : played_on (plain_of w) e k ≡ ramp_played samples m.ramp m.ramped (entries_of (plain_of w) e k)
  history : refusal_of (plain_of w) e ≡ None → IsRampHistory samples m.ramp m.ramped (entries_of (plain_of w) e k)

turned-sink : (m : RampedMixer) (frames : ℕ) (messages : List (Message Stream)) (b : Bool) → is_to_stop (plain_mixer m) ≡ b
    → (ramped_turned m frames messages).ramped ≡ ramp_after samples m.ramp m.ramped (cond b (stop messages) (turn frames messages))
turned-sink m frames messages true e = ap (λ x. RampedMixer.ramped x) (cond-true (is_to_stop (plain_mixer m)) (ramped_stopped m messages) (ramped_played m frames messages) e)
turned-sink m frames messages false e = ap (λ x. RampedMixer.ramped x) (cond-false (is_to_stop (plain_mixer m)) (ramped_stopped m messages) (ramped_played m frames messages) e)

turned-ramp : (m : RampedMixer) (frames : ℕ) (messages : List (Message Stream)) → (ramped_turned m frames messages).ramp ≡ m.ramp
turned-ramp m frames messages = cond_both (is_to_stop (plain_mixer m)) (ramped_stopped m messages) (ramped_played m frames messages) (λ x. RampedMixer.ramp x ≡ m.ramp) (λ e. refl) (λ e. refl)

module _ (w : RampWorld) (sink frames n k : ℕ) (m : RampedMixer) (there : slice_get w.mixers k ≡ Some m) where
  abbrev messages : List (Message Stream)
  messages = messages_taken (plain_of w) sink n

  turn-here : nat_eq sink k ≡ true → (b : Bool) → is_to_stop (plain_mixer m) ≡ b → GoesThrough w (Turn sink frames n) k m
  turn-here e b is =
      let same : slice_get w.mixers sink ≡ Some m = ap (slice_get w.mixers) (eqb-true sink k e) ∙ there in
      let at : slice_get (plain_of w).mixers sink ≡ Some (plain_mixer m) = slice_get-map plain_mixer w.mixers sink ∙ ap (option_map plain_mixer) same in
      let one : entries_of (plain_of w) (Turn sink frames n) k ≡ cond b (stop messages) (turn frames messages) ∷ [] =
      cond-true (nat_eq sink k) (entry_of (slice_get (plain_of w).mixers sink) frames messages) [] e
      ∙ ap (λ o. entry_of o frames messages) at
      ∙ ap (λ x. cond x (stop messages) (turn frames messages) ∷ []) is in
      record {
        next = ramped_turned m frames messages;
        there = changed-there w.mixers sink k m there (λ x. ramped_turned x frames messages) e;
        ramp = turned-ramp m frames messages;
        ramped = turned-sink m frames messages b is ∙ ap (ramp_replay samples m.ramp m.ramped) (sym one);
        played = cond-true (nat_eq sink k) (frames_played (plain_of w) (Turn sink frames n)) [] e
            ∙ ap (λ o. world.played_of o frames) at
            ∙ turn-played (plain_mixer m) frames messages b is
            ∙ ap (ramp_played samples m.ramp m.ramped) (sym one);
        history = λ admitted.
            let lawful : turn_refusal (Some (plain_mixer m)) frames n (length (waiting_for w.core (record { 0 = sink }))) ≡ None =
            ap (λ o. turn_refusal o frames n (length (waiting_for w.core (record { 0 = sink })))) (sym at) ∙ admitted in
            subst (IsRampHistory samples m.ramp m.ramped) (sym one)
            (can_be (plain_mixer m) frames messages b is (frames_there (plain_mixer m) frames n (length (waiting_for w.core (record { 0 = sink }))) lawful), tt);
      }

  turn-elsewhere : nat_eq sink k ≡ false → GoesThrough w (Turn sink frames n) k m
  turn-elsewhere e =
      let none : entries_of (plain_of w) (Turn sink frames n) k ≡ [] = cond-false (nat_eq sink k) (entry_of (slice_get (plain_of w).mixers sink) frames messages) [] e in
      record {
        next = m;
        there = changed-elsewhere w.mixers sink k m there (λ x. ramped_turned x frames messages) e;
        ramp = refl;
        ramped = ap (ramp_replay samples m.ramp m.ramped) (sym none);
        played = cond-false (nat_eq sink k) (frames_played (plain_of w) (Turn sink frames n)) [] e ∙ ap (ramp_played samples m.ramp m.ramped) (sym none);
        history = λ admitted. subst (IsRampHistory samples m.ramp m.ramped) (sym none) tt;
      }

-- what is collected of a mixer is no turn
collected : (w : RampWorld) (sink n k : ℕ) (m : RampedMixer) → slice_get w.mixers k ≡ Some m → (b : Bool) → nat_eq sink k ≡ b → GoesThrough w (Collect sink n) k m
collected w sink n k m there true e =
    record { next = ramped_collected m n; there = changed-there w.mixers sink k m there (λ x. ramped_collected x n) e; ramp = refl; ramped = refl; played = refl; history = λ admitted. tt }
collected w sink n k m there false e =
    record { next = m; there = changed-elsewhere w.mixers sink k m there (λ x. ramped_collected x n) e; ramp = refl; ramped = refl; played = refl; history = λ admitted. tt }

-- a device that is set to fail is no turn
failed : (w : RampWorld) (sink : SinkId) (k : ℕ) (m : RampedMixer) → slice_get w.mixers k ≡ Some m → (b : Bool) → nat_eq sink.0 k ≡ b → GoesThrough w (Stop sink) k m
failed w sink k m there true e = record {
  next = ramped_to_fail m;
  there = changed-there w.mixers sink.0 k m there ramped_to_fail e;
  ramp = cond_both m.ramped.sink.stopped m (record m { failing = true }) (λ x. RampedMixer.ramp x ≡ m.ramp) (λ i. refl) (λ i. refl);
  ramped = cond_both m.ramped.sink.stopped m (record m { failing = true }) (λ x. RampedMixer.ramped x ≡ m.ramped) (λ i. refl) (λ i. refl);
  played = refl;
  history = λ admitted. tt;
}
failed w sink k m there false e =
    record { next = m; there = changed-elsewhere w.mixers sink.0 k m there ramped_to_fail e; ramp = refl; ramped = refl; played = refl; history = λ admitted. tt }

turned_or_not : (w : RampWorld) (sink frames n k : ℕ) (m : RampedMixer) → slice_get w.mixers k ≡ Some m → (b : Bool) → nat_eq sink k ≡ b → GoesThrough w (Turn sink frames n) k m
turned_or_not w sink frames n k m there true e = turn-here w sink frames n k m there e (is_to_stop (plain_mixer m)) refl
turned_or_not w sink frames n k m there false e = turn-elsewhere w sink frames n k m there e

goes_through : (w : RampWorld) (e : Event) (k : ℕ) (m : RampedMixer) → slice_get w.mixers k ≡ Some m → GoesThrough w e k m
goes_through w (Connect conn) k m there = record { next = m; there = there; ramp = refl; ramped = refl; played = refl; history = λ admitted. tt }
goes_through w (Bytes conn bytes) k m there = record { next = m; there = there; ramp = refl; ramped = refl; played = refl; history = λ admitted. tt }
goes_through w (Close conn) k m there = record { next = m; there = there; ramp = refl; ramped = refl; played = refl; history = λ admitted. tt }
goes_through w (Cut conn) k m there = record { next = m; there = there; ramp = refl; ramped = refl; played = refl; history = λ admitted. tt }
goes_through w (Turn sink frames n) k m there = turned_or_not w sink frames n k m there (nat_eq sink k) refl
goes_through w (Collect sink n) k m there = collected w sink n k m there (nat_eq sink k) refl
goes_through w (Stop sink) k m there = failed w sink k m there (nat_eq sink.0 k) refl

-- ---- one history after another

module _ (n : ℕ) where
  replays_join : (rs : RampSink) (earlier later : List Entry) → ramp_replay samples n rs (earlier ++ later) ≡ ramp_replay samples n (ramp_replay samples n rs earlier) later
  replays_join rs [] later = refl
  replays_join rs (x ∷ earlier) later = replays_join (ramp_after samples n rs x) earlier later

  played_join : (rs : RampSink) (earlier later : List Entry) → ramp_played samples n rs (earlier ++ later) ≡ ramp_played samples n rs earlier ++ ramp_played samples n (ramp_replay samples n rs earlier) later
  played_join rs [] later = refl
  played_join rs (x ∷ earlier) later =
      ap (λ l. played_of rs.sink x ++ l) (played_join (ramp_after samples n rs x) earlier later)
      ∙ sym (append_assoc (played_of rs.sink x) (ramp_played samples n (ramp_after samples n rs x) earlier) (ramp_played samples n (ramp_replay samples n (ramp_after samples n rs x) earlier) later))

  histories_join : (rs : RampSink) (earlier later : List Entry) → IsRampHistory samples n rs earlier → IsRampHistory samples n (ramp_replay samples n rs earlier) later → IsRampHistory samples n rs (earlier ++ later)
  histories_join rs [] later h l = l
  histories_join rs (x ∷ earlier) later h l = (h.0, histories_join (ramp_after samples n rs x) earlier later h.1 l)

-- ---- a run

-- the mixer that a run leaves to a sink, for ramps over n frames, has gone through the sink's history
pub record HasGone (w : RampWorld) (events : List Event) (k n : ℕ) (rs : RampSink) : Type 0 where
  pub last : RampedMixer
  pub there : slice_get (ramp_world_by w events).mixers k ≡ Some last
  pub ramped : last.ramped ≡ ramp_replay samples n rs (ramp_history_by w events k)
  pub played : ramp_played_by_run w events k ≡ ramp_played samples n rs (ramp_history_by w events k)
  pub history : AreRampAdmitted w events → IsRampHistory samples n rs (ramp_history_by w events k)

pub has_gone : (w : RampWorld) (events : List Event) (k : ℕ) (m : RampedMixer) → slice_get w.mixers k ≡ Some m → HasGone w events k m.ramp m.ramped
has_gone w [] k m there = record { last = m; there = there; ramped = refl; played = refl; history = λ admitted. tt }
has_gone w (e ∷ events) k m there =
    let step : GoesThrough w e k m = goes_through w e k m there in
    let later : List Entry = ramp_history_by (ramp_world_after w e) events k in
    let rest : HasGone (ramp_world_after w e) events k m.ramp (ramp_replay samples m.ramp m.ramped (entries_of (plain_of w) e k)) =
    subst (λ (r : ℕ). HasGone (ramp_world_after w e) events k r (ramp_replay samples m.ramp m.ramped (entries_of (plain_of w) e k))) step.ramp
    (subst (λ (rs : RampSink). HasGone (ramp_world_after w e) events k step.next.ramp rs) step.ramped (has_gone (ramp_world_after w e) events k step.next step.there)) in
    record {
      last = rest.last;
      there = rest.there;
      ramped = rest.ramped ∙ sym (replays_join m.ramp m.ramped (entries_of (plain_of w) e k) later);
      played = ap (λ (l : List Frame). l ++ ramp_played_by_run (ramp_world_after w e) events k) step.played
          ∙ ap (λ (l : List Frame). ramp_played samples m.ramp m.ramped (entries_of (plain_of w) e k) ++ l) rest.played
          ∙ sym (played_join m.ramp m.ramped (entries_of (plain_of w) e k) later);
      history = λ admitted. histories_join m.ramp m.ramped (entries_of (plain_of w) e k) later (step.history admitted.0) (rest.history admitted.1);
    }

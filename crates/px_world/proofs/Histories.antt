-- The mixer of a sink goes through the history of its sink.
use Rattle.std.proofs.Common.{◌≡◌, ℕ, zero, suc, ◌-◌, ◌≤◌, Bool, true, false, cond, List, [], ◌∷◌, ◌++◌, length, set, append-nil, Option, None, Some, refl, ap, sym, subst, ◌∙◌, ⊎_elim}
use Rattle.std.specs.Prelude.{nat_eq, nat_lt}
use Rattle.std.specs.List.{slice_get}
use Rattle.std.proofs.lemmas.Bool.{cases_Bool, cond-true, cond-false, cond_both, eqb-true, eqb-false, ltb-false, or_parts}
use Rattle.std.proofs.lemmas.Option.{none-some}
use Rattle.px_types.specs.declared.ids.SinkId.{SinkId}
use Rattle.px_session.specs.declared.event.Event.{Event}
use Rattle.px_session.specs.declared.event.Event.TheVariants.{Connect, Bytes, Close, Cut, Turn, Collect, Stop}
use Rattle.px_model.specs.Message.{Message}
use Rattle.px_model.specs.Stream.{Stream}
use Rattle.px_model.specs.Sink.{Sink}
use Rattle.px_model.specs.Turn.{played_by}
use Rattle.px_model.specs.Deciding.{Entry, turn, stop, sink_after, played_of, replay, replay_played, CanBe, IsHistory}
use Rattle.px_model.proofs.Replays.{replay_joins, played_join}
use Rattle.px_state.specs.Out.{waiting_for}
use Rattle.px_stream.specs.Samples.{samples}
use Rattle.px_world.specs.declared.fault.WorldFault.{WorldFault}
use Rattle.px_world.specs.declared.fault.WorldFault.TheVariants.{TooMany}
use Rattle.px_world.specs.World.{World, Mixer}
use Rattle.px_world.specs.Admission.{LAST_FILLED, too_many, or_else, refusal_of, turn_refusal}
use Rattle.px_world.specs.Event.{world_after, mixers_after, change_at, mixer_stopped, mixer_played, mixer_turned, mixer_collected, set_to_fail, messages_taken, is_to_stop, frames_played}
use Rattle.px_world.specs.Event as world
use Rattle.px_world.specs.Output.{world_by, AreAdmitted}
use Rattle.px_world.specs.History.{entry_of, entries_of, played_on, history_by, played_by_run}

-- ---- one mixer of the list

pub get-set_same : (xs : List Mixer) (k : ℕ) (x y : Mixer) → slice_get xs k ≡ Some x → slice_get (set xs k y) k ≡ Some y
get-set_same [] k x y e = absurd (none-some x e)
get-set_same (z ∷ xs) zero x y e = refl
get-set_same (z ∷ xs) (suc k) x y e = get-set_same xs k x y e

pub get-set_other : (xs : List Mixer) (i k : ℕ) (y : Mixer) → (i ≡ k → ⊥) → slice_get (set xs i y) k ≡ slice_get xs k
get-set_other [] i k y h = refl
get-set_other (z ∷ xs) zero zero y h = absurd (h refl)
get-set_other (z ∷ xs) zero (suc k) y h = refl
get-set_other (z ∷ xs) (suc i) zero y h = refl
get-set_other (z ∷ xs) (suc i) (suc k) y h = get-set_other xs i k y (λ e. h (ap suc e))

module _ (mixers : List Mixer) (sink k : ℕ) (m : Mixer) (there : slice_get mixers k ≡ Some m) (change : Mixer → Mixer) where
  -- it is the one that changes
  pub changed-there : nat_eq sink k ≡ true → slice_get (change_at mixers sink (slice_get mixers sink) change) k ≡ Some (change m)
  changed-there e =
      let same : sink ≡ k = eqb-true sink k e in
      let at : slice_get mixers sink ≡ Some m = ap (slice_get mixers) same ∙ there in
      ap (λ o. slice_get (change_at mixers sink o change) k) at
      ∙ ap (λ i. slice_get (set mixers i (change m)) k) same
      ∙ get-set_same mixers k m (change m) there

  -- it is another
  pub changed-elsewhere : nat_eq sink k ≡ false → slice_get (change_at mixers sink (slice_get mixers sink) change) k ≡ Some m
  changed-elsewhere e = consistent (slice_get mixers sink)
    where
      consistent : (o : Option Mixer) → slice_get (change_at mixers sink o change) k ≡ Some m
      consistent None = there
      consistent (Some other) = get-set_other mixers sink k (change other) (eqb-false sink k e) ∙ there

-- ---- a turn that is admitted can be

or_else-none : (first later : Option WorldFault) → or_else first later ≡ None → (first ≡ None) × (later ≡ None)
or_else-none None later e = (refl, e)
or_else-none (Some fault) later e = absurd (none-some fault (sym e))

not_too_many : (asked there : ℕ) → too_many asked there ≡ None → asked ≤ there
not_too_many asked there e =
    ⊎_elim
    (λ (more : nat_lt there asked ≡ true).
    absurd (none-some (TooMany asked there) (sym e ∙ cond-true (nat_lt there asked) (Some (TooMany asked there)) None more)))
    (λ (enough : nat_lt there asked ≡ false). ltb-false there asked enough)
    (cases_Bool (nat_lt there asked))

pub frames_there : (m : Mixer) (frames n waiting : ℕ) → turn_refusal (Some m) frames n waiting ≡ None → frames ≤ m.sink.filled - m.sink.consumed
frames_there m frames n waiting e =
    let past : or_else (too_many frames (m.sink.filled - m.sink.consumed)) (too_many n waiting) ≡ None =
    (or_else-none (cond (nat_lt LAST_FILLED m.sink.filled) (Some WorldFault.Worn) None) (or_else (too_many frames (m.sink.filled - m.sink.consumed)) (too_many n waiting)) e).1 in
    not_too_many frames (m.sink.filled - m.sink.consumed) (or_else-none (too_many frames (m.sink.filled - m.sink.consumed)) (too_many n waiting) past).0

pub can_be : (m : Mixer) (frames : ℕ) (messages : List (Message Stream)) (b : Bool) → is_to_stop m ≡ b → frames ≤ m.sink.filled - m.sink.consumed
    → CanBe m.sink (cond b (stop messages) (turn frames messages))
can_be m frames messages true e h = tt
can_be m frames messages false e h = (h, (or_parts m.sink.stopped m.failing e).0)

-- ---- one event

-- the sink with this mixer goes through what the event adds to its history
pub record GoesThrough (w : World) (e : Event) (k : ℕ) (m : Mixer) : Type 0 where
  pub next : Mixer
  pub there : slice_get (mixers_after w e) k ≡ Some next
  pub sink : next.sink ≡ replay samples m.sink (entries_of w e k)
  pub played : played_on w e k ≡ replay_played samples m.sink (entries_of w e k)
  pub history : refusal_of w e ≡ None → IsHistory samples m.sink (entries_of w e k)

turned-sink : (m : Mixer) (frames : ℕ) (messages : List (Message Stream)) (b : Bool) → is_to_stop m ≡ b
    → (mixer_turned m frames messages).sink ≡ sink_after samples m.sink (cond b (stop messages) (turn frames messages))
turned-sink m frames messages true e =
    ap (λ x. Mixer.sink x)
    (cond-true (is_to_stop m)
    (mixer_stopped m messages)
    (mixer_played m frames messages) e)
turned-sink m frames messages false e =
    ap (λ x. Mixer.sink x)
    (cond-false (is_to_stop m)
    (mixer_stopped m messages)
    (mixer_played m frames messages) e)

pub turn-played : (m : Mixer) (frames : ℕ) (messages : List (Message Stream)) (b : Bool) → is_to_stop m ≡ b
    → cond (is_to_stop m) [] (played_by m.sink frames) ≡ played_of m.sink (cond b (stop messages) (turn frames messages)) ++ []
turn-played m frames messages true e = cond-true (is_to_stop m) [] (played_by m.sink frames) e
turn-played m frames messages false e =
    cond-false (is_to_stop m) [] (played_by m.sink frames) e ∙ sym (append-nil (played_by m.sink frames))

module _ (w : World) (sink frames n k : ℕ) (m : Mixer) (there : slice_get w.mixers k ≡ Some m) where
  abbrev messages : List (Message Stream)
  messages = messages_taken w sink n

  turn-here : nat_eq sink k ≡ true → (b : Bool) → is_to_stop m ≡ b → GoesThrough w (Turn sink frames n) k m
  turn-here e b is =
      let at : slice_get w.mixers sink ≡ Some m = ap (slice_get w.mixers) (eqb-true sink k e) ∙ there in
      let one : entries_of w (Turn sink frames n) k ≡ cond b (stop messages) (turn frames messages) ∷ [] =
      cond-true (nat_eq sink k) (entry_of (slice_get w.mixers sink) frames messages) [] e
      ∙ ap (λ o. entry_of o frames messages) at
      ∙ ap (λ x. cond x (stop messages) (turn frames messages) ∷ []) is in
      record {
        next = mixer_turned m frames messages;
        there = changed-there w.mixers sink k m there (λ x. mixer_turned x frames messages) e;
        sink = turned-sink m frames messages b is ∙ ap (replay samples m.sink) (sym one);
        played = cond-true (nat_eq sink k) (frames_played w (Turn sink frames n)) [] e
            ∙ ap (λ o. world.played_of o frames) at
            ∙ turn-played m frames messages b is
            ∙ ap (replay_played samples m.sink) (sym one);
        history = λ admitted.
            let lawful : turn_refusal (Some m) frames n (length (waiting_for w.core (record { 0 = sink }))) ≡ None =
            ap (λ o. turn_refusal o frames n (length (waiting_for w.core (record { 0 = sink })))) (sym at) ∙ admitted in
            subst (IsHistory samples m.sink) (sym one)
            (can_be m frames messages b is (frames_there m frames n (length (waiting_for w.core (record { 0 = sink }))) lawful), tt);
      }

  turn-elsewhere : nat_eq sink k ≡ false → GoesThrough w (Turn sink frames n) k m
  turn-elsewhere e =
      let none : entries_of w (Turn sink frames n) k ≡ [] =
      cond-false (nat_eq sink k) (entry_of (slice_get w.mixers sink) frames messages) [] e in
      record {
        next = m;
        there = changed-elsewhere w.mixers sink k m there (λ x. mixer_turned x frames messages) e;
        sink = ap (replay samples m.sink) (sym none);
        played = cond-false (nat_eq sink k) (frames_played w (Turn sink frames n)) [] e ∙ ap (replay_played samples m.sink) (sym none);
        history = λ admitted. subst (IsHistory samples m.sink) (sym none) tt;
      }

-- what is collected of a mixer is no turn
collected : (w : World) (sink n k : ℕ) (m : Mixer) → slice_get w.mixers k ≡ Some m → (b : Bool) → nat_eq sink k ≡ b → GoesThrough w (Collect sink n) k m
collected w sink n k m there true e = record {
  next = mixer_collected m n;
  there = changed-there w.mixers sink k m there (λ x. mixer_collected x n) e;
  sink = refl;
  played = refl;
  history = λ admitted. tt;
}
collected w sink n k m there false e = record {
  next = m;
  there = changed-elsewhere w.mixers sink k m there (λ x. mixer_collected x n) e;
  sink = refl;
  played = refl;
  history = λ admitted. tt;
}

-- a device that is set to fail is no turn
pub fail-sink : (m : Mixer) → (set_to_fail m).sink ≡ m.sink
fail-sink m = cond_both m.sink.stopped m (record m { failing = true }) (λ x. Mixer.sink x ≡ m.sink) (λ e. refl) (λ e. refl)

failed : (w : World) (sink : SinkId) (k : ℕ) (m : Mixer) → slice_get w.mixers k ≡ Some m → (b : Bool) → nat_eq sink.0 k ≡ b → GoesThrough w (Stop sink) k m
failed w sink k m there true e = record {
  next = set_to_fail m;
  there = changed-there w.mixers sink.0 k m there set_to_fail e;
  sink = fail-sink m;
  played = refl;
  history = λ admitted. tt;
}
failed w sink k m there false e = record {
  next = m;
  there = changed-elsewhere w.mixers sink.0 k m there set_to_fail e;
  sink = refl;
  played = refl;
  history = λ admitted. tt;
}

turned_or_not : (w : World) (sink frames n k : ℕ) (m : Mixer) → slice_get w.mixers k ≡ Some m → (b : Bool) → nat_eq sink k ≡ b → GoesThrough w (Turn sink frames n) k m
turned_or_not w sink frames n k m there true e = turn-here w sink frames n k m there e (is_to_stop m) refl
turned_or_not w sink frames n k m there false e = turn-elsewhere w sink frames n k m there e

pub goes_through : (w : World) (e : Event) (k : ℕ) (m : Mixer) → slice_get w.mixers k ≡ Some m → GoesThrough w e k m
goes_through w (Connect conn) k m there = record { next = m; there = there; sink = refl; played = refl; history = λ admitted. tt }
goes_through w (Bytes conn bytes) k m there = record { next = m; there = there; sink = refl; played = refl; history = λ admitted. tt }
goes_through w (Close conn) k m there = record { next = m; there = there; sink = refl; played = refl; history = λ admitted. tt }
goes_through w (Cut conn) k m there = record { next = m; there = there; sink = refl; played = refl; history = λ admitted. tt }
goes_through w (Turn sink frames n) k m there = turned_or_not w sink frames n k m there (nat_eq sink k) refl
goes_through w (Collect sink n) k m there = collected w sink n k m there (nat_eq sink k) refl
goes_through w (Stop sink) k m there = failed w sink k m there (nat_eq sink.0 k) refl

-- ---- a run

-- one history after another
pub histories_join : (sink : Sink) (earlier later : List Entry) → IsHistory samples sink earlier → IsHistory samples (replay samples sink earlier) later → IsHistory samples sink (earlier ++ later)
histories_join sink [] later h l = l
histories_join sink (x ∷ earlier) later h l = (h.0, histories_join (sink_after samples sink x) earlier later h.1 l)

-- the mixer that a run leaves to a sink has gone through the sink's history
pub record HasGone (w : World) (events : List Event) (k : ℕ) (m : Mixer) : Type 0 where
  pub last : Mixer
  pub there : slice_get (world_by w events).mixers k ≡ Some last
  pub sink : last.sink ≡ replay samples m.sink (history_by w events k)
  pub played : played_by_run w events k ≡ replay_played samples m.sink (history_by w events k)
  pub history : AreAdmitted w events → IsHistory samples m.sink (history_by w events k)

pub has_gone : (w : World) (events : List Event) (k : ℕ) (m : Mixer) → slice_get w.mixers k ≡ Some m → HasGone w events k m
has_gone w [] k m there = record { last = m; there = there; sink = refl; played = refl; history = λ admitted. tt }
has_gone w (e ∷ events) k m there =
    let step : GoesThrough w e k m = goes_through w e k m there in
    let rest : HasGone (world_after w e) events k step.next = has_gone (world_after w e) events k step.next step.there in
    record {
      last = rest.last;
      there = rest.there;
      sink = rest.sink
          ∙ ap (λ x. replay samples x (history_by (world_after w e) events k)) step.sink
          ∙ sym (replay_joins samples m.sink (entries_of w e k) (history_by (world_after w e) events k));
      played = ap (λ l. l ++ played_by_run (world_after w e) events k) step.played
          ∙ ap (λ l. replay_played samples m.sink (entries_of w e k) ++ l) rest.played
          ∙ ap (λ x. replay_played samples m.sink (entries_of w e k) ++ replay_played samples x (history_by (world_after w e) events k)) step.sink
          ∙ sym (played_join samples m.sink (entries_of w e k) (history_by (world_after w e) events k));
      history = λ admitted.
          histories_join m.sink (entries_of w e k) (history_by (world_after w e) events k) (step.history admitted.0)
          (subst (λ x. IsHistory samples x (history_by (world_after w e) events k)) step.sink (rest.history admitted.1));
    }

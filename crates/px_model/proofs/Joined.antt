-- The track of an input is joined, but where the read index ran on, and rises.
use Rattle.std.proofs.Common.{◌≡◌, ℕ, zero, suc, ◌+◌, ◌≤◌, min, List, [], ◌∷◌, ◌++◌, map, Option, Some, None, Bool, true, false, refl, ap, sym, subst, ◌∙◌, arith, cond, ⊎_elim, inl, inr, ◌⊎◌}
use Rattle.std.specs.Prelude.{nat_lt, ◌==◌, not, ◌&&◌, ℤ, ◌≤ℤ◌, ⊤, IsTrue}
use Rattle.std.specs.List.{range_with_len, AllByRecursion}
use Rattle.std.proofs.lemmas.Option.{none-some, same_Some}
use Rattle.std.proofs.lemmas.Bool.{false≢true, cases_Bool, ltb-false, cond-true, cond-false}
use Rattle.std.proofs.lemmas.Int.{ints}
use Rattle.px_model.specs.Index.{onward, above, LAST}
use Rattle.px_model.specs.Frame.{SampleSpec}
use Rattle.px_model.specs.Queue.{Queue, IsQueue, left_of, is_short}
use Rattle.px_model.specs.Stream.{Stream, IsStream}
use Rattle.px_model.specs.Going.{after, given_of, queue_given, queue_after, queue_on}
use Rattle.px_model.specs.Mix.{Samples}
use Rattle.px_model.specs.Sink.{Sink, Input, IsSink, IsStreamOf, stream_at}
use Rattle.px_model.specs.Turn.{AreFor}
use Rattle.px_model.specs.Deciding.{replay, Entry, turn, stop, sink_after, CanBe, IsHistory, IsOrderlyHistory, messages_of}
use Rattle.px_model.specs.Track.{Stretch, stretch_of, stretches_from, track_of, forward_by, IsJoined, presence_of, all_opens, history_opens, indices_of_all, RiseFrom, Rise}
use Rattle.px_model.proofs.Forward.{step_of, on_step, left_fits, after_by}
use Rattle.px_model.proofs.Adding.{given_short, given_on, given_none as queue_given_none}
use Rattle.px_model.proofs.Streams.{stream_on, stream_by, given_open, given_corked, given_none}
use Rattle.px_model.proofs.Rounds.{turn_keeps, stop_keeps}
use Rattle.px_model.proofs.Lookups.{read_of, KeepsRead, gone, entry_reads, entry_count}

pub entry_keeps : (samples : Samples) (sink : Sink) → IsSink sink → (e : Entry) → CanBe sink e → AreFor sink (messages_of e) → IsSink (sink_after samples sink e)
entry_keeps samples sink keeps (turn n messages) c a = turn_keeps samples sink keeps n c.0 messages a
entry_keeps samples sink keeps (stop messages) c a = stop_keeps sink keeps messages a

-- a whole history keeps what a sink keeps
pub replay_keeps : (samples : Samples) (sink : Sink) → IsSink sink → (history : List Entry) → IsHistory samples sink history → IsOrderlyHistory samples sink history → IsSink (replay samples sink history)
replay_keeps samples sink keeps [] h o = keeps
replay_keeps samples sink keeps (e ∷ history) h o = replay_keeps samples (sink_after samples sink e) (entry_keeps samples sink keeps e h.0 o.0) history h.1 o.1

-- ---- a stretch ends where the read index goes, or the read index ran on past it

step_meets : (b : Bool) (n m k : ℕ) → n ≤ m → (b ≡ true → k ≤ n) → min k (cond b m n) ≡ min k n
step_meets true n m k h l = omega (arith, l refl)
step_meets false n m k h l = refl

step_reaches : (b : Bool) (n m k : ℕ) → n ≤ m → min k n ≤ min k (cond b m n)
step_reaches true n m k h = omega arith
step_reaches false n m k h = omega arith

onward_none : (i : ℤ) (n : ℕ) → n ≡ 0 → i ≡ onward i n
onward_none i n e = omega (arith, ints)

rises_none : (i : ℤ) (n : ℕ) → n ≡ 0 → onward i n ≤ℤ i
rises_none i n e = omega (arith, ints)

onward_rises : (i : ℤ) (m n : ℕ) → m ≤ n → onward i m ≤ℤ onward i n
onward_rises i m n h = omega (arith, ints)

short_or_all : (b : Bool) (n k : ℕ) → (b && nat_lt n k) ≡ false → b ≡ true → k ≤ n
short_or_all true n k e h = ltb-false n k e
short_or_all false n k e h = absurd (false≢true h)

-- a read index after n frames were given of k, where the queue ran on or not
abbrev pub Ends : ℤ → ℕ → Bool → ℤ → Type 0
Ends from n ran i = ((i ≡ onward from n) ⊎ IsTrue ran) × (onward from n ≤ℤ i)

abbrev queue_ran : Queue → ℕ → Bool
queue_ran q k = not (is_short q) && q.prebuf == 0 && nat_lt (left_of q) k

ends_still : (from : ℤ) (n : ℕ) (ran : Bool) → n ≡ 0 → Ends from n ran from
ends_still from n ran e = (inl (onward_none from n e), rises_none from n e)

ends_on : (q : Queue) → IsQueue q → (k : ℕ) → is_short q ≡ false → Ends q.read (queue_given q k) (queue_ran q k) (queue_on q k).read
ends_on q keeps k w =
    let given : queue_given q k ≡ min k (left_of q) = given_on q k w in
    let read : (queue_on q k).read ≡ onward q.read (step_of q k) = ap Queue.read (on_step q keeps k) in
    let reaches : queue_given q k ≤ step_of q k = subst (λ n. n ≤ step_of q k) (sym given) (step_reaches (q.prebuf == 0) (left_of q) (above LAST q.read) k (left_fits q keeps)) in (
      ⊎_elim
          (λ (e : (q.prebuf == 0 && nat_lt (left_of q) k) ≡ true). inr (ap (λ b. not b && q.prebuf == 0 && nat_lt (left_of q) k) w ∙ e))
          (λ (e : (q.prebuf == 0 && nat_lt (left_of q) k) ≡ false).
          inl (read ∙ ap (onward q.read) (step_meets (q.prebuf == 0) (left_of q) (above LAST q.read) k (left_fits q keeps) (short_or_all (q.prebuf == 0) (left_of q) k e) ∙ sym given)))
          (cases_Bool (q.prebuf == 0 && nat_lt (left_of q) k)),
      subst (λ i. onward q.read (queue_given q k) ≤ℤ i) (sym read) (onward_rises q.read (queue_given q k) (step_of q k) reaches),
    )

queue_ends : (q : Queue) → IsQueue q → (k : ℕ) → Ends q.read (queue_given q k) (queue_ran q k) (queue_after q k).read
queue_ends q keeps zero = ends_still q.read (queue_given q 0) (queue_ran q 0) (queue_given_none q)
queue_ends q keeps (suc k) =
    after_by (λ t. Ends q.read (queue_given q (suc k)) (queue_ran q (suc k)) (Queue.read t)) q (suc k) (omega arith)
    (λ h. ends_still q.read (queue_given q (suc k)) (queue_ran q (suc k)) (given_short q (suc k) h))
    (λ h. ends_on q keeps (suc k) h)

abbrev pub Meets : Stream → ℕ → Stream → Type 0
Meets s k t = Ends s.queue.read (given_of s k) (stretch_of s k).ran_on t.queue.read

meets_open : (s : Stream) → IsStream s → (k : ℕ) → s.corked ≡ false → Meets s k (stream_on s k)
meets_open s keeps k c =
    let ends : Ends s.queue.read (queue_given s.queue k) (queue_ran s.queue k) (queue_after s.queue k).read = queue_ends s.queue keeps.queue_holds k in
    subst (λ n. Ends s.queue.read n (stretch_of s k).ran_on (queue_after s.queue k).read) (sym (given_open s k c))
    (subst (λ b. Ends s.queue.read (queue_given s.queue k) (not b && not (is_short s.queue) && s.queue.prebuf == 0 && nat_lt (left_of s.queue) k) (queue_after s.queue k).read) (sym c) ends)

pub meets : (s : Stream) → IsStream s → (k : ℕ) → Meets s k (after s k)
meets s keeps zero = ends_still s.queue.read (given_of s 0) (stretch_of s 0).ran_on (given_none s)
meets s keeps (suc k) =
    stream_by (Meets s (suc k)) s (suc k) (omega arith)
    (λ c. ends_still s.queue.read (given_of s (suc k)) (stretch_of s (suc k)).ran_on (given_corked s (suc k) c))
    (λ c. meets_open s keeps (suc k) c)

-- ---- over a history

-- a track, if it has a stretch, begins at an index
abbrev pub Begins : ℤ → List Stretch → Type 0
Begins read [] = ⊤
Begins read (x ∷ track) = Stretch.from x ≡ read

pub begins_at : (samples : Samples) (sink : Sink) (history : List Entry) (i : ℕ) (s : Stream) → stream_at i sink.inputs ≡ Some s → Begins s.queue.read (track_of samples sink history i)
begins_at samples sink [] i s e = tt
begins_at samples sink (x ∷ history) i s e =
    subst (λ o. Begins s.queue.read (stretches_from o (forward_by sink x) ++ track_of samples (sink_after samples sink x) history i)) (sym e) refl

pub none_stays : (p : Option Stream) → KeepsRead None p → p ≡ None
none_stays None h = refl
none_stays (Some t) h = absurd h

-- an input that isn't there, and that no message opens, settles nothing
pub nothing_settled : (samples : Samples) (sink : Sink) (history : List Entry) (i : ℕ) → stream_at i sink.inputs ≡ None → history_opens i history ≡ 0 → track_of samples sink history i ≡ []
nothing_settled samples sink [] i e h = refl
nothing_settled samples sink (x ∷ history) i e h =
    let absent : stream_at i (sink_after samples sink x).inputs ≡ None =
    none_stays (stream_at i (sink_after samples sink x).inputs)
    (subst (λ o. KeepsRead (gone (forward_by sink x) o) (stream_at i (sink_after samples sink x).inputs)) e (entry_reads samples sink x i (omega (arith, h)))) in
    ap (λ o. stretches_from o (forward_by sink x) ++ track_of samples (sink_after samples sink x) history i) e
    ∙ nothing_settled samples (sink_after samples sink x) history i absent (omega (arith, h))

-- one stretch in front
pub join_one : (x : Stretch) (read : ℤ) (track : List Stretch) → (read ≡ onward x.from x.count) ⊎ IsTrue x.ran_on → onward x.from x.count ≤ℤ read → Begins read track → IsJoined track → IsJoined (x ∷ track)
join_one x read [] e h b j = tt
join_one x read (y ∷ track) e h b j = (
  record {
    joined = ⊎_elim (λ (p : read ≡ onward x.from x.count). inl (b ∙ p)) (λ (p : IsTrue x.ran_on). inr p) e;
    rising = subst (λ i. onward x.from x.count ≤ℤ i) (sym b) h;
  },
  j,
)

pub stream_holds : (sink : SampleSpec) (i : ℕ) (xs : List Input) (s : Stream) → AllByRecursion (λ x. IsStreamOf sink (Input.stream x)) xs → stream_at i xs ≡ Some s → IsStream s
stream_holds sink i [] s k e = absurd (none-some s e)
stream_holds sink i (x ∷ xs) s k e =
    ⊎_elim
    (λ (f : (x.index == i) ≡ true). subst IsStream (same_Some x.stream s (sym (cond-true (x.index == i) (Some x.stream) (stream_at i xs) f) ∙ e)) k.0.holds)
    (λ (f : (x.index == i) ≡ false). stream_holds sink i xs s k.1 (sym (cond-false (x.index == i) (Some x.stream) (stream_at i xs) f) ∙ e))
    (cases_Bool (x.index == i))

-- what follows a stretch of a stream that is there
follow : (s : Stream) → IsStream s → (k : ℕ) (o : Option Stream) (track : List Stretch) → KeepsRead (Some (after s k)) o → ((t : Stream) → o ≡ Some t → Begins (read_of t) track) → (o ≡ None → track ≡ []) → IsJoined track → IsJoined (stretch_of s k ∷ track)
follow s keeps k None track h begins nothing j = subst (λ l. IsJoined (stretch_of s k ∷ l)) (sym (nothing refl)) tt
follow s keeps k (Some t) track h begins nothing j =
    let ends : Meets s k t = subst (λ i. Ends s.queue.read (given_of s k) (stretch_of s k).ran_on i) (sym h) (meets s keeps k) in
    join_one (stretch_of s k) (read_of t) track ends.0 ends.1 (begins t refl) j

pub track_joined : (samples : Samples) (sink : Sink) → IsSink sink → (history : List Entry) → IsHistory samples sink history → IsOrderlyHistory samples sink history
    → (i : ℕ) → presence_of (stream_at i sink.inputs) + history_opens i history ≤ 1 → IsJoined (track_of samples sink history i)
track_joined samples sink keeps [] h o i once = tt
track_joined samples sink keeps (x ∷ history) h o i once =
    go (stream_at i sink.inputs) refl
    (track_joined samples (sink_after samples sink x) (entry_keeps samples sink keeps x h.0 o.0) history h.1 o.1 i (omega (arith, once, entry_count samples sink x i)))
  where
    go : (p : Option Stream) → stream_at i sink.inputs ≡ p → IsJoined (track_of samples (sink_after samples sink x) history i) → IsJoined (stretches_from p (forward_by sink x) ++ track_of samples (sink_after samples sink x) history i)
    go None e j = j
    go (Some s) e j =
        let none : all_opens i (messages_of x) + history_opens i history ≡ 0 = omega (arith, once, ap presence_of e) in
        follow s (stream_holds sink.spec i sink.inputs s keeps.streams e) (forward_by sink x) (stream_at i (sink_after samples sink x).inputs) (track_of samples (sink_after samples sink x) history i)
        (subst (λ q. KeepsRead (gone (forward_by sink x) q) (stream_at i (sink_after samples sink x).inputs)) e (entry_reads samples sink x i (omega (arith, none))))
        (λ t f. begins_at samples (sink_after samples sink x) history i t f)
        (λ f. nothing_settled samples (sink_after samples sink x) history i f (omega (arith, none)))
        j

-- ---- the indices rise

rise_less : (a b : ℤ) (indices : List ℤ) → a ≤ℤ b → RiseFrom b indices → RiseFrom a indices
rise_less a b [] h r = tt
rise_less a b (i ∷ indices) h r = (omega (arith, ints, h, r.0), r.1)

rise_range : (from low : ℤ) (a n : ℕ) (rest : List ℤ) → low ≤ℤ onward from a → RiseFrom (onward from (a + n)) rest → RiseFrom low (map (onward from) (range_with_len a n) ++ rest)
rise_range from low a zero rest h r = rise_less low (onward from (a + 0)) rest (omega (arith, ints, h)) r
rise_range from low a (suc n) rest h r =
    (h, rise_range from (onward (onward from a) 1) (a + 1) n rest (omega (arith, ints)) (subst (λ m. RiseFrom (onward from m) rest) (shift a n) r))
  where
    shift : (b m : ℕ) → b + suc m ≡ b + 1 + m
    shift b m = omega arith

-- the indices of a joined track rise from its first
track_rises_from : (x : Stretch) (track : List Stretch) → IsJoined (x ∷ track) → RiseFrom x.from (indices_of_all (x ∷ track))
track_rises_from x [] j = rise_range x.from x.from 0 x.count [] (rises_at x.from) tt
  where
    rises_at : (i : ℤ) → i ≤ℤ onward i 0
    rises_at i = omega (arith, ints)
track_rises_from x (y ∷ track) j =
    rise_range x.from x.from 0 x.count (indices_of_all (y ∷ track)) (rises_at x.from)
    (rise_less (onward x.from (0 + x.count)) y.from (indices_of_all (y ∷ track)) (rises_to x.from x.count y.from j.0.rising) (track_rises_from y track j.1))
  where
    rises_at : (i : ℤ) → i ≤ℤ onward i 0
    rises_at i = omega (arith, ints)

    rises_to : (i : ℤ) (n : ℕ) (k : ℤ) → onward i n ≤ℤ k → onward i (0 + n) ≤ℤ k
    rises_to i n k h = omega (arith, ints, h)

rise_any : (low : ℤ) (indices : List ℤ) → RiseFrom low indices → Rise indices
rise_any low [] r = tt
rise_any low (i ∷ indices) r = r.1

pub joined_rise : (track : List Stretch) → IsJoined track → Rise (indices_of_all track)
joined_rise [] j = tt
joined_rise (x ∷ track) j = rise_any x.from (indices_of_all (x ∷ track)) (track_rises_from x track j)

-- The stream of an input after messages and turns: it may leave, and its read index moves only by going forward.
use Rattle.std.proofs.Common.{◌≡◌, ℕ, ◌+◌, ◌-◌, ◌≤◌, List, [], ◌∷◌, map, Option, Some, None, Bool, true, false, refl, ap, sym, subst, ◌∙◌, arith, cond, ⊎_elim}
use Rattle.std.specs.Prelude.{nat_lt, ◌==◌, not, ℤ, option_map, ⊤}
use Rattle.std.proofs.lemmas.Bool.{cond_both, cases_Bool, eqb-true, cases_eq, ne_eqb}
use Rattle.px_model.specs.Frame.{Frame, frame_size, frames_of}
use Rattle.px_model.specs.Queue.{Queue}
use Rattle.px_model.specs.Stream.{Stream}
use Rattle.px_model.specs.Going.{after}
use Rattle.px_model.specs.Write.{seek_of, Outcome, stored, overflow, outside, queue_with, target_of}
use Rattle.px_model.specs.Control.{corked_to, triggered, prebuffered, flushed, drained_by, with_attr, with_factors, new_stream, attached}
use Rattle.px_model.specs.Message.{Message, InputFactors}
use Rattle.px_model.specs.Mix.{Samples}
use Rattle.px_model.specs.Sink.{Sink, Input, stream_at, with_input, without_input, with_stream, with_change}
use Rattle.px_model.specs.Applied.{written_by, write_outcome}
use Rattle.px_model.specs.Turn.{next_horizon, inputs_with, inputs_with_all, with_each_factors, asked_stream}
use Rattle.px_model.specs.Deciding.{Entry, turn, stop, sink_after, messages_of}
use Rattle.px_model.specs.Track.{forward_by, presence_of, opens, all_opens}

abbrev pub read_of : Stream → ℤ
read_of s = s.queue.read

-- ---- what a message does to the stream of an input: it may leave, and its read index stays

abbrev pub KeepsRead : Option Stream → Option Stream → Type 0
KeepsRead None None = ⊤
KeepsRead None (Some t) = ⊥
KeepsRead (Some s) None = ⊤
KeepsRead (Some s) (Some t) = read_of t ≡ read_of s

pub keeps_same : (o : Option Stream) → KeepsRead o o
keeps_same None = tt
keeps_same (Some s) = refl

pub keeps_then : (o p q : Option Stream) → KeepsRead o p → KeepsRead p q → KeepsRead o q
keeps_then None None None h k = tt
keeps_then None None (Some u) h k = k
keeps_then None (Some t) q h k = absurd h
keeps_then (Some s) None None h k = tt
keeps_then (Some s) None (Some u) h k = absurd k
keeps_then (Some s) (Some t) None h k = tt
keeps_then (Some s) (Some t) (Some u) h k = k ∙ h

keeps_less : (o p : Option Stream) → KeepsRead o p → presence_of p ≤ presence_of o
keeps_less None None h = omega arith
keeps_less None (Some t) h = absurd h
keeps_less (Some s) None h = omega arith
keeps_less (Some s) (Some t) h = omega arith

one_at_most : (o : Option Stream) → presence_of o ≤ 1
one_at_most None = omega arith
one_at_most (Some s) = omega arith

-- ---- look-ups after a change

keeps_here : (b : Bool) (s t : Stream) (o p : Option Stream) → read_of t ≡ read_of s → KeepsRead o p → KeepsRead (cond b (Some s) o) (cond b (Some t) p)
keeps_here true s t o p e h = e
keeps_here false s t o p e h = h

pub at_map : (i : ℕ) (f : Input → Input) → ((x : Input) → Input.index (f x) ≡ Input.index x) → ((x : Input) → read_of (Input.stream (f x)) ≡ read_of (Input.stream x)) → (xs : List Input) → KeepsRead (stream_at i xs) (stream_at i (map f xs))
at_map i f e r [] = tt
at_map i f e r (x ∷ xs) =
    subst (λ n. KeepsRead (cond (x.index == i) (Some x.stream) (stream_at i xs)) (cond (n == i) (Some (Input.stream (f x))) (stream_at i (map f xs)))) (sym (e x))
    (keeps_here (x.index == i) x.stream (Input.stream (f x)) (stream_at i xs) (stream_at i (map f xs)) (r x) (at_map i f e r xs))

at_change : (i j : ℕ) (f : Stream → Stream) → ((s : Stream) → read_of (f s) ≡ read_of s) → (xs : List Input) → KeepsRead (stream_at i xs) (stream_at i (with_change j f xs))
at_change i j f r xs =
    at_map i (λ x. cond (Input.index x == j) (with_stream f x) x)
    (λ x. cond_both (x.index == j) (with_stream f x) x (λ y. Input.index y ≡ x.index) (λ e. refl) (λ e. refl))
    (λ x. cond_both (x.index == j) (with_stream f x) x (λ y. read_of (Input.stream y) ≡ read_of x.stream) (λ e. r x.stream) (λ e. refl))
    xs

pub at_each : (i : ℕ) (f : Stream → Stream) (xs : List Input) → stream_at i (map (with_stream f) xs) ≡ option_map f (stream_at i xs)
at_each i f [] = refl
at_each i f (x ∷ xs) = cond_map (x.index == i) f x.stream (stream_at i (map (with_stream f) xs)) (stream_at i xs) (at_each i f xs)
  where
    cond_map : (b : Bool) (g : Stream → Stream) (s : Stream) (o p : Option Stream) → o ≡ option_map g p → cond b (Some (g s)) o ≡ option_map g (cond b (Some s) p)
    cond_map true g s o p e = refl
    cond_map false g s o p e = e

pub none_without : (j : ℕ) (xs : List Input) → stream_at j (without_input j xs) ≡ None
none_without j [] = refl
none_without j (x ∷ xs) =
    ⊎_elim
    (λ (e : (x.index == j) ≡ true). ap (λ b. stream_at j (cond (not b) (x ∷ without_input j xs) (without_input j xs))) e ∙ none_without j xs)
    (λ (e : (x.index == j) ≡ false). ap (λ b. stream_at j (cond (not b) (x ∷ without_input j xs) (without_input j xs))) e
    ∙ ap (λ b. cond b (Some x.stream) (stream_at j (without_input j xs))) e ∙ none_without j xs)
    (cases_Bool (x.index == j))

pub same_without : (i j : ℕ) (xs : List Input) → (i ≡ j → ⊥) → stream_at i (without_input j xs) ≡ stream_at i xs
same_without i j [] n = refl
same_without i j (x ∷ xs) n =
    ⊎_elim
    (λ (e : (x.index == j) ≡ true).
    let same : x.index ≡ j = eqb-true x.index j e in
    let other : x.index ≡ i → ⊥ = λ f. n (sym f ∙ same) in
    ap (λ b. stream_at i (cond (not b) (x ∷ without_input j xs) (without_input j xs))) e ∙ same_without i j xs n
    ∙ ap (λ b. cond b (Some x.stream) (stream_at i xs)) (sym (ne_eqb x.index i other)))
    (λ (e : (x.index == j) ≡ false). ap (λ b. stream_at i (cond (not b) (x ∷ without_input j xs) (without_input j xs))) e
    ∙ ap (λ o. cond (x.index == i) (Some x.stream) o) (same_without i j xs n))
    (cases_Bool (x.index == j))

leaves : (o p : Option Stream) → p ≡ None → KeepsRead o p
leaves None p e = subst (λ q. KeepsRead None q) (sym e) tt
leaves (Some s) p e = subst (λ q. KeepsRead (Some s) q) (sym e) tt

keeps_equal : (o p : Option Stream) → p ≡ o → KeepsRead o p
keeps_equal o p e = subst (λ q. KeepsRead o q) (sym e) (keeps_same o)

at_without : (i j : ℕ) (xs : List Input) → KeepsRead (stream_at i xs) (stream_at i (without_input j xs))
at_without i j xs =
    ⊎_elim
    (λ (e : i ≡ j). leaves (stream_at i xs) (stream_at i (without_input j xs)) (ap (λ n. stream_at n (without_input j xs)) e ∙ none_without j xs))
    (λ (n : i ≡ j → ⊥). keeps_equal (stream_at i xs) (stream_at i (without_input j xs)) (same_without i j xs n))
    (cases_eq i j)

pub same_with : (i j : ℕ) (s : Stream) (xs : List Input) → (j == i) ≡ false → stream_at i (with_input j s xs) ≡ stream_at i xs
same_with i j s [] n = ap (λ b. cond b (Some s) None) n
same_with i j s (x ∷ xs) n =
    cond_both (nat_lt j x.index) (record { index = j; stream = s } ∷ (x ∷ xs)) (cond (x.index == j) (record { index = j; stream = s } ∷ xs) (x ∷ with_input j s xs)) (λ ys. stream_at i ys ≡ stream_at i (x ∷ xs))
    (λ e. ap (λ b. cond b (Some s) (stream_at i (x ∷ xs))) n)
    (λ e. cond_both (x.index == j) (record { index = j; stream = s } ∷ xs) (x ∷ with_input j s xs) (λ ys. stream_at i ys ≡ stream_at i (x ∷ xs))
    (λ f. ap (λ b. cond b (Some s) (stream_at i xs)) n
    ∙ ap (λ b. cond b (Some x.stream) (stream_at i xs)) (sym (ap (λ m. m == i) (eqb-true x.index j f) ∙ n)))
    (λ f. ap (λ o. cond (x.index == i) (Some x.stream) o) (same_with i j s xs n)))

written_read : (o : Outcome) (q : Queue) (p : ℤ) (frames : List Frame) → Queue.read (queue_with o q p frames) ≡ q.read
written_read stored q p frames = refl
written_read overflow q p frames = refl
written_read outside q p frames = refl

at_factors : (i : ℕ) (each : List InputFactors) (xs : List Input) → KeepsRead (stream_at i xs) (stream_at i (with_each_factors each xs))
at_factors i [] xs = keeps_same (stream_at i xs)
at_factors i (f ∷ each) xs =
    keeps_then (stream_at i xs) (stream_at i (with_change f.input (λ s. with_factors s f.factors) xs)) (stream_at i (with_each_factors each (with_change f.input (λ s. with_factors s f.factors) xs)))
    (at_change i f.input (λ s. with_factors s f.factors) (λ s. refl) xs) (at_factors i each (with_change f.input (λ s. with_factors s f.factors) xs))

-- ---- messages that open no such input

not_opened : (b : Bool) → ◌≡◌ {A = ℕ} (cond b 1 0) 0 → b ≡ false
not_opened true e = absurd (omega (arith, e))
not_opened false e = refl

pub message_reads : (i mixed : ℕ) (m : Message Stream) (xs : List Input) → opens i m ≡ 0 → KeepsRead (stream_at i xs) (stream_at i (inputs_with mixed m xs))
message_reads i mixed (Message.new n) xs e =
    keeps_equal (stream_at i xs) _ (same_with i n.input (new_stream n.spec n.feed n.factors n.attr n.corked) xs (not_opened (n.input == i) e))
message_reads i mixed (Message.attach j parcel feed factors) xs e =
    keeps_equal (stream_at i xs) _ (same_with i j (attached parcel feed factors) xs (not_opened (j == i) e))
message_reads i mixed (Message.detach j) xs e = at_without i j xs
message_reads i mixed (Message.write w) xs e =
    at_change i w.input (written_by w.seek w.offset w.frames w.bytes mixed) (λ s. written_read (write_outcome s w.seek w.offset w.frames w.bytes mixed) s.queue (target_of s.queue (seek_of w.seek) w.offset) (frames_of (frame_size s.spec) w.frames w.bytes)) xs
message_reads i mixed (Message.cork j on) xs e = at_change i j (λ s. corked_to s on) (λ s. refl) xs
message_reads i mixed (Message.flush j) xs e = at_change i j flushed (λ s. refl) xs
message_reads i mixed (Message.trigger j) xs e = at_change i j triggered (λ s. refl) xs
message_reads i mixed (Message.prebuf j) xs e = at_change i j prebuffered (λ s. refl) xs
message_reads i mixed (Message.drain j tag) xs e = at_change i j (λ s. drained_by s tag) (λ s. refl) xs
message_reads i mixed (Message.attr j attr) xs e = at_change i j (λ s. with_attr s attr) (λ s. refl) xs
message_reads i mixed (Message.factors each) xs e = at_factors i each xs
message_reads i mixed (Message.query j tag) xs e = keeps_same (stream_at i xs)

pub messages_read : (i mixed : ℕ) (messages : List (Message Stream)) (xs : List Input) → all_opens i messages ≡ 0 → KeepsRead (stream_at i xs) (stream_at i (inputs_with_all mixed messages xs))
messages_read i mixed [] xs e = keeps_same (stream_at i xs)
messages_read i mixed (m ∷ messages) xs e =
    keeps_then (stream_at i xs) (stream_at i (inputs_with mixed m xs)) (stream_at i (inputs_with_all mixed messages (inputs_with mixed m xs)))
    (message_reads i mixed m xs (omega (arith, e))) (messages_read i mixed messages (inputs_with mixed m xs) (omega (arith, e)))

-- and how often it is there after any

message_count : (i mixed : ℕ) (m : Message Stream) (xs : List Input) → presence_of (stream_at i (inputs_with mixed m xs)) ≤ presence_of (stream_at i xs) + opens i m
message_count i mixed m xs =
    ⊎_elim
    (λ (e : opens i m ≡ 0). omega (arith, keeps_less (stream_at i xs) (stream_at i (inputs_with mixed m xs)) (message_reads i mixed m xs e)))
    (λ (n : opens i m ≡ 0 → ⊥). omega (arith, n, one_at_most (stream_at i (inputs_with mixed m xs))))
    (cases_eq (opens i m) 0)

messages_count : (i mixed : ℕ) (messages : List (Message Stream)) (xs : List Input) → presence_of (stream_at i (inputs_with_all mixed messages xs)) ≤ presence_of (stream_at i xs) + all_opens i messages
messages_count i mixed [] xs = omega arith
messages_count i mixed (m ∷ messages) xs = omega (arith, message_count i mixed m xs, messages_count i mixed messages (inputs_with mixed m xs))

-- ---- a turn: a stream that stays goes forward

abbrev pub gone : ℕ → Option Stream → Option Stream
gone k o = option_map (λ s. after s k) o

gone_presence : (k : ℕ) (o : Option Stream) → presence_of (gone k o) ≡ presence_of o
gone_presence k None = refl
gone_presence k (Some s) = refl

-- the inputs after going k on, with the messages and the last step
abbrev round : ℕ → ℕ → ℕ → List (Message Stream) → List Input → List Input
round k mixed asked messages xs = map (with_stream (asked_stream asked)) (inputs_with_all mixed messages (map (with_stream (λ s. after s k)) xs))

round_reads : (i k mixed asked : ℕ) (messages : List (Message Stream)) (xs : List Input) → all_opens i messages ≡ 0 → KeepsRead (gone k (stream_at i xs)) (stream_at i (round k mixed asked messages xs))
round_reads i k mixed asked messages xs e =
    let forward : List Input = map (with_stream (λ s. after s k)) xs in
    subst (λ o. KeepsRead o (stream_at i (round k mixed asked messages xs))) (at_each i (λ s. after s k) xs)
    (keeps_then (stream_at i forward) (stream_at i (inputs_with_all mixed messages forward)) (stream_at i (round k mixed asked messages xs))
    (messages_read i mixed messages forward e)
    (at_map i (with_stream (asked_stream asked)) (λ x. refl) (λ x. refl) (inputs_with_all mixed messages forward)))

round_count : (i k mixed asked : ℕ) (messages : List (Message Stream)) (xs : List Input) → presence_of (stream_at i (round k mixed asked messages xs)) ≤ presence_of (stream_at i xs) + all_opens i messages
round_count i k mixed asked messages xs =
    let forward : List Input = map (with_stream (λ s. after s k)) xs in
    omega (
      arith,
      keeps_less (stream_at i (inputs_with_all mixed messages forward)) (stream_at i (round k mixed asked messages xs)) (at_map i (with_stream (asked_stream asked)) (λ x. refl) (λ x. refl) (inputs_with_all mixed messages forward)),
      messages_count i mixed messages forward,
      ap presence_of (at_each i (λ s. after s k) xs) ∙ gone_presence k (stream_at i xs),
    )

pub entry_reads : (samples : Samples) (sink : Sink) (e : Entry) (i : ℕ) → all_opens i (messages_of e) ≡ 0 → KeepsRead (gone (forward_by sink e) (stream_at i sink.inputs)) (stream_at i (sink_after samples sink e).inputs)
entry_reads samples sink (turn n messages) i h = round_reads i (forward_by sink (turn n messages)) (sink.filled - next_horizon sink n) (sink.consumed + n + sink.depth - next_horizon sink n) messages sink.inputs h
entry_reads samples sink (stop messages) i h = round_reads i (forward_by sink (stop messages)) (next_horizon sink 0 - next_horizon sink 0) (next_horizon sink 0 - next_horizon sink 0) messages sink.inputs h

pub entry_count : (samples : Samples) (sink : Sink) (e : Entry) (i : ℕ) → presence_of (stream_at i (sink_after samples sink e).inputs) ≤ presence_of (stream_at i sink.inputs) + all_opens i (messages_of e)
entry_count samples sink (turn n messages) i = round_count i (forward_by sink (turn n messages)) (sink.filled - next_horizon sink n) (sink.consumed + n + sink.depth - next_horizon sink n) messages sink.inputs
entry_count samples sink (stop messages) i = round_count i (forward_by sink (stop messages)) (next_horizon sink 0 - next_horizon sink 0) (next_horizon sink 0 - next_horizon sink 0) messages sink.inputs

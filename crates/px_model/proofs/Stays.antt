-- The track of an input goes on from stay to stay: what leaves a sink stands where the track there ends, and what comes to one goes on from there.
use Rattle.std.proofs.Common.{◌≡◌, ℕ, zero, suc, ◌+◌, ◌-◌, ◌≤◌, List, [], ◌∷◌, ◌++◌, map, Option, Some, None, Bool, true, false, refl, ap, sym, subst, ◌∙◌, arith, cond, ⊎_elim, inl, inr, ◌⊎◌}
use Rattle.std.specs.Prelude.{ℤ, flat_map, ◌≤ℤ◌, option_map, ⊤, ◌==◌, IsTrue}
use Rattle.std.specs.List.{AllByRecursion}
use Rattle.std.proofs.lemmas.Bool.{eq-eqb}
use Rattle.std.proofs.lemmas.Int.{ints}
use Rattle.px_model.specs.Index.{onward}
use Rattle.px_model.specs.Stream.{Stream}
use Rattle.px_model.specs.Going.{after}
use Rattle.px_model.specs.Control.{attached}
use Rattle.px_model.specs.Message.{Message}
use Rattle.px_model.specs.Notice.{Notice}
use Rattle.px_model.specs.Mix.{Samples}
use Rattle.px_model.specs.Sink.{Sink, Input, IsSink, stream_at, with_input, with_stream}
use Rattle.px_model.specs.Turn.{going_notices, asked_notices, message_notices, all_message_notices, inputs_with, inputs_with_all, settled, halted, with_messages, next_horizon, asked_stream}
use Rattle.px_model.specs.Deciding.{Entry, turn, stop, sink_after, notices_of, messages_of, IsHistory, IsOrderlyHistory}
use Rattle.px_model.specs.Track.{Stretch, Follows, stretch_of, stretches_from, track_of, forward_by, IsJoined, StandsAt, HandsOverAt, presence_of, opens, all_opens, history_opens, indices_of_all, Rise}
use Rattle.px_model.specs.Stay.{HasOne, Comes, Leaves, Stay, IsStay, ComesIn, LeavesIn, GoesOn, AreStays, track_over}
use Rattle.px_model.proofs.Lookups.{read_of, KeepsRead, keeps_then, keeps_same, at_map, at_each, message_reads, messages_read, entry_reads, entry_count, gone}
use Rattle.px_model.proofs.Joined.{Begins, Meets, meets, begins_at, none_stays, nothing_settled, join_one, stream_holds, entry_keeps, track_joined, joined_rise}
use Rattle.px_model.proofs.Parcels.{All, joined, each_of, going_hands, asked_hands, message_hands, messages_hand}
use Rattle.px_model.proofs.Matching.{here_with}

-- ---- the parts of a turn

abbrev mixed_of : Sink → Entry → ℕ
mixed_of sink (turn n messages) = sink.filled - next_horizon sink n
mixed_of sink (stop messages) = next_horizon sink 0 - next_horizon sink 0

abbrev buffered_of : Sink → Entry → ℕ
buffered_of sink (turn n messages) = sink.filled - (sink.consumed + n)
buffered_of sink (stop messages) = next_horizon sink 0 - (sink.consumed + 0)

-- the inputs that have gone forward, and with the messages
abbrev forward : Sink → Entry → List Input
forward sink e = map (with_stream (λ s. after s (forward_by sink e))) sink.inputs

abbrev given : Sink → Entry → List Input
given sink e = inputs_with_all (mixed_of sink e) (messages_of e) (forward sink e)

abbrev notices_at : Sink → Entry → List (Notice Stream)
notices_at sink e = all_message_notices (mixed_of sink e) (buffered_of sink e) (messages_of e) (forward sink e)

forward_at : (sink : Sink) (e : Entry) (i : ℕ) (o : Option Stream) → stream_at i sink.inputs ≡ o → stream_at i (forward sink e) ≡ gone (forward_by sink e) o
forward_at sink e i o h = at_each i (λ s. after s (forward_by sink e)) sink.inputs ∙ ap (gone (forward_by sink e)) h

hands_by : (samples : Samples) (sink : Sink) (e : Entry) (i : ℕ) (read : ℤ) → All i read (notices_at sink e) → All i read (notices_of samples sink e)
hands_by samples sink (turn n messages) i read h =
    joined i read
    (flat_map (going_notices (next_horizon sink n - sink.horizon)) sink.inputs ++ all_message_notices (sink.filled - next_horizon sink n) (sink.filled - (sink.consumed + n)) messages (settled sink n).inputs)
    (flat_map (asked_notices (sink.consumed + n + sink.depth - next_horizon sink n)) (with_messages (settled sink n) messages).inputs)
    (joined i read (flat_map (going_notices (next_horizon sink n - sink.horizon)) sink.inputs) (all_message_notices (sink.filled - next_horizon sink n) (sink.filled - (sink.consumed + n)) messages (settled sink n).inputs)
    (each_of i read (going_notices (next_horizon sink n - sink.horizon)) (going_hands i read (next_horizon sink n - sink.horizon)) sink.inputs)
    h)
    (each_of i read (asked_notices (sink.consumed + n + sink.depth - next_horizon sink n)) (asked_hands i read (sink.consumed + n + sink.depth - next_horizon sink n)) (with_messages (settled sink n) messages).inputs)
hands_by samples sink (stop messages) i read h =
    joined i read
    (flat_map (going_notices (next_horizon sink 0 - sink.horizon)) sink.inputs ++ all_message_notices (next_horizon sink 0 - next_horizon sink 0) (next_horizon sink 0 - (sink.consumed + 0)) messages (halted sink).inputs)
    (flat_map (asked_notices 0) (with_messages (halted sink) messages).inputs)
    (joined i read (flat_map (going_notices (next_horizon sink 0 - sink.horizon)) sink.inputs) (all_message_notices (next_horizon sink 0 - next_horizon sink 0) (next_horizon sink 0 - (sink.consumed + 0)) messages (halted sink).inputs)
    (each_of i read (going_notices (next_horizon sink 0 - sink.horizon)) (going_hands i read (next_horizon sink 0 - sink.horizon)) sink.inputs)
    h)
    (each_of i read (asked_notices 0) (asked_hands i read 0) (with_messages (halted sink) messages).inputs)

asked_at : (i asked : ℕ) (xs : List Input) → KeepsRead (stream_at i xs) (stream_at i (map (with_stream (asked_stream asked)) xs))
asked_at i asked xs = at_map i (with_stream (asked_stream asked)) (λ x. refl) (λ x. refl) xs

after_reads : (samples : Samples) (sink : Sink) (e : Entry) (i : ℕ) (o : Option Stream) → KeepsRead o (stream_at i (given sink e)) → KeepsRead o (stream_at i (sink_after samples sink e).inputs)
after_reads samples sink (turn n messages) i o h =
    keeps_then o (stream_at i (given sink (turn n messages))) (stream_at i (sink_after samples sink (turn n messages)).inputs) h
    (asked_at i (sink.consumed + n + sink.depth - next_horizon sink n) (given sink (turn n messages)))
after_reads samples sink (stop messages) i o h =
    keeps_then o (stream_at i (given sink (stop messages))) (stream_at i (sink_after samples sink (stop messages)).inputs) h
    (asked_at i (next_horizon sink 0 - next_horizon sink 0) (given sink (stop messages)))

-- ---- a parcel that is handed over

handed : (i : ℕ) (read : ℤ) (p : Stream) (notices : List (Notice Stream)) → All i read notices → HasOne (Leaves i p) notices → p.queue.read ≡ read
handed i read p [] h l = absurd l
handed i read p (n ∷ notices) h l = ⊎_elim (λ c. one n h.0 c) (λ c. handed i read p notices h.1 c) l
  where
    one : (m : Notice Stream) → HandsOverAt i read m → Leaves i p m → p.queue.read ≡ read
    one (Notice.request j frames) k c = absurd c
    one (Notice.overflow j) k c = absurd c
    one (Notice.underflow j) k c = absurd c
    one (Notice.started j) k c = absurd c
    one (Notice.drained j tag) k c = absurd c
    one (Notice.detached j q) k c = sym (ap read_of c.1) ∙ k c.0
    one (Notice.latency j tag answer) k c = absurd c

onward_differs : (i : ℤ) → i ≡ onward i 1 → ⊥
onward_differs i e = omega (arith, ints, e)

stands_none : (read : ℤ) (o : Option Stream) → o ≡ None → StandsAt read o
stands_none read o e = subst (StandsAt read) (sym e) tt

-- an input that isn't there, and that no message opens, leaves in no turn
none_leaves : (samples : Samples) (sink : Sink) (e : Entry) (i : ℕ) (p : Stream) → stream_at i sink.inputs ≡ None → all_opens i (messages_of e) ≡ 0 → HasOne (Leaves i p) (notices_of samples sink e) → ⊥
none_leaves samples sink e i p h o l =
    let read : ℤ = onward p.queue.read 1 in
    onward_differs p.queue.read
    (handed i read p (notices_of samples sink e)
    (hands_by samples sink e i read (messages_hand i (mixed_of sink e) (buffered_of sink e) read (messages_of e) (forward sink e) o (stands_none read (stream_at i (forward sink e)) (forward_at sink e i None h))))
    l)

none_after : (samples : Samples) (sink : Sink) (e : Entry) (i : ℕ) → stream_at i sink.inputs ≡ None → all_opens i (messages_of e) ≡ 0 → stream_at i (sink_after samples sink e).inputs ≡ None
none_after samples sink e i h o =
    none_stays (stream_at i (sink_after samples sink e).inputs)
    (subst (λ q. KeepsRead (gone (forward_by sink e) q) (stream_at i (sink_after samples sink e).inputs)) h (entry_reads samples sink e i o))

none_leaves_in : (samples : Samples) (i : ℕ) (p : Stream) (sink : Sink) (history : List Entry) → stream_at i sink.inputs ≡ None → history_opens i history ≡ 0 → LeavesIn samples i p sink history → ⊥
none_leaves_in samples i p sink [] h o l = l
none_leaves_in samples i p sink (e ∷ []) h o l = none_leaves samples sink e i p h (omega (arith, o)) l
none_leaves_in samples i p sink (e ∷ f ∷ history) h o l =
    none_leaves_in samples i p (sink_after samples sink e) (f ∷ history) (none_after samples sink e i h (omega (arith, o))) (omega (arith, o)) l

-- ---- where an input leaves, its track ends

-- the place of a parcel, as a stretch of nothing
abbrev place_of : Stream → Stretch
place_of p = record { from = p.queue.read; count = 0; ran_on = false }

-- a stream goes forward, and then leaves or stays
leaves_here : (samples : Samples) (sink : Sink) (e : Entry) (i : ℕ) (p s : Stream) → IsSink sink → stream_at i sink.inputs ≡ Some s → all_opens i (messages_of e) ≡ 0 → HasOne (Leaves i p) (notices_of samples sink e) → IsJoined (stretch_of s (forward_by sink e) ∷ place_of p ∷ [])
leaves_here samples sink e i p s keeps h o l =
    let k : ℕ = forward_by sink e in
    let stands : StandsAt (after s k).queue.read (stream_at i (forward sink e)) = subst (StandsAt (after s k).queue.read) (sym (forward_at sink e i (Some s) h)) refl in
    let read : p.queue.read ≡ (after s k).queue.read =
    handed i (after s k).queue.read p (notices_of samples sink e)
    (hands_by samples sink e i (after s k).queue.read (messages_hand i (mixed_of sink e) (buffered_of sink e) (after s k).queue.read (messages_of e) (forward sink e) o stands)) l in
    let ends : Meets s k p = subst (λ z. ((z ≡ onward (stretch_of s k).from (stretch_of s k).count) ⊎ IsTrue (stretch_of s k).ran_on) × (onward (stretch_of s k).from (stretch_of s k).count ≤ℤ z)) (sym read) (meets s (stream_holds sink.spec i sink.inputs s keeps.streams h) k) in
    join_one (stretch_of s k) p.queue.read (place_of p ∷ []) ends.0 ends.1 refl tt

begins_with : (samples : Samples) (sink : Sink) (e : Entry) (history : List Entry) (i : ℕ) (t : Stream) (rest : List Stretch) → stream_at i sink.inputs ≡ Some t → Begins t.queue.read (track_of samples sink (e ∷ history) i ++ rest)
begins_with samples sink e history i t rest h =
    subst (λ o. Begins t.queue.read ((stretches_from o (forward_by sink e) ++ track_of samples (sink_after samples sink e) history i) ++ rest)) (sym h) refl

-- one stretch in front of a track that ends where the parcel stands
goes_before : (samples : Samples) (sink : Sink) (e f : Entry) (history : List Entry) (i : ℕ) (p s : Stream) → IsSink sink → stream_at i sink.inputs ≡ Some s → all_opens i (messages_of e) ≡ 0 → history_opens i (f ∷ history) ≡ 0
    → LeavesIn samples i p (sink_after samples sink e) (f ∷ history) → IsJoined (track_of samples (sink_after samples sink e) (f ∷ history) i ++ place_of p ∷ [])
    → IsJoined (stretch_of s (forward_by sink e) ∷ (track_of samples (sink_after samples sink e) (f ∷ history) i ++ place_of p ∷ []))
goes_before samples sink e f history i p s keeps h o later l j =
    go (stream_at i (sink_after samples sink e).inputs) refl
    (subst (λ q. KeepsRead (gone (forward_by sink e) q) (stream_at i (sink_after samples sink e).inputs)) h (entry_reads samples sink e i o))
  where
    go : (q : Option Stream) → stream_at i (sink_after samples sink e).inputs ≡ q → KeepsRead (Some (after s (forward_by sink e))) q
        → IsJoined (stretch_of s (forward_by sink e) ∷ (track_of samples (sink_after samples sink e) (f ∷ history) i ++ place_of p ∷ []))
    go None m r = absurd (none_leaves_in samples i p (sink_after samples sink e) (f ∷ history) m later l)
    go (Some t) m r =
        let k : ℕ = forward_by sink e in
        let ends : Meets s k t = subst (λ z. ((z ≡ onward (stretch_of s k).from (stretch_of s k).count) ⊎ IsTrue (stretch_of s k).ran_on) × (onward (stretch_of s k).from (stretch_of s k).count ≤ℤ z)) (sym r) (meets s (stream_holds sink.spec i sink.inputs s keeps.streams h) k) in
        join_one (stretch_of s k) t.queue.read (track_of samples (sink_after samples sink e) (f ∷ history) i ++ place_of p ∷ []) ends.0 ends.1
        (begins_with samples (sink_after samples sink e) f history i t (place_of p ∷ []) m) j

ends_at : (samples : Samples) (i : ℕ) (p : Stream) (sink : Sink) (history : List Entry) → IsSink sink → IsHistory samples sink history → IsOrderlyHistory samples sink history
    → presence_of (stream_at i sink.inputs) + history_opens i history ≤ 1 → LeavesIn samples i p sink history → IsJoined (track_of samples sink history i ++ place_of p ∷ [])
ends_at samples i p sink [] keeps c a once l = absurd l
ends_at samples i p sink (e ∷ []) keeps c a once l = go (stream_at i sink.inputs) refl
  where
    go : (q : Option Stream) → stream_at i sink.inputs ≡ q → IsJoined ((stretches_from q (forward_by sink e) ++ []) ++ place_of p ∷ [])
    go None m = tt
    go (Some s) m = leaves_here samples sink e i p s keeps m (omega (arith, once, ap presence_of m)) l
ends_at samples i p sink (e ∷ f ∷ history) keeps c a once l =
    go (stream_at i sink.inputs) refl
    (ends_at samples i p (sink_after samples sink e) (f ∷ history) (entry_keeps samples sink keeps e c.0 a.0) c.1 a.1 (omega (arith, once, entry_count samples sink e i)) l)
  where
    go : (q : Option Stream) → stream_at i sink.inputs ≡ q → IsJoined (track_of samples (sink_after samples sink e) (f ∷ history) i ++ place_of p ∷ [])
        → IsJoined ((stretches_from q (forward_by sink e) ++ track_of samples (sink_after samples sink e) (f ∷ history) i) ++ place_of p ∷ [])
    go None m j = j
    go (Some s) m j = goes_before samples sink e f history i p s keeps m (omega (arith, once, ap presence_of m)) (omega (arith, once, ap presence_of m)) l j

-- ---- where a parcel comes, the track goes on

opens_here : (i j : ℕ) → j ≡ i → ◌≡◌ {A = ℕ} (cond (j == i) 1 0) 1
opens_here i j e = ap (λ b. cond b 1 0) (eq-eqb j i e)

-- a message brings the input by a parcel
record Brought (i mixed buffered : ℕ) (p : Stream) (m : Message Stream) (xs : List Input) : Type 0 where
  opened : opens i m ≡ 1
  silent : message_notices mixed buffered m xs ≡ []
  stands : KeepsRead (Some p) (stream_at i (inputs_with mixed m xs))

brought : (i mixed buffered : ℕ) (p : Stream) (m : Message Stream) (xs : List Input) → Comes i p m → Brought i mixed buffered p m xs
brought i mixed buffered p (Message.new n) xs c = absurd c
brought i mixed buffered p (Message.attach j q feed factors) xs c = record {
  opened = opens_here i j c.0;
  silent = refl;
  stands = subst (λ n. KeepsRead (Some p) (stream_at n (with_input j (attached q feed factors) xs))) c.0 (subst (KeepsRead (Some p)) (sym (here_with j (attached q feed factors) xs)) (ap read_of c.1));
}
brought i mixed buffered p (Message.detach j) xs c = absurd c
brought i mixed buffered p (Message.write w) xs c = absurd c
brought i mixed buffered p (Message.cork j on) xs c = absurd c
brought i mixed buffered p (Message.flush j) xs c = absurd c
brought i mixed buffered p (Message.trigger j) xs c = absurd c
brought i mixed buffered p (Message.prebuf j) xs c = absurd c
brought i mixed buffered p (Message.drain j tag) xs c = absurd c
brought i mixed buffered p (Message.attr j attr) xs c = absurd c
brought i mixed buffered p (Message.factors each) xs c = absurd c
brought i mixed buffered p (Message.query j tag) xs c = absurd c

opens_once : (i : ℕ) (p : Stream) (messages : List (Message Stream)) → HasOne (Comes i p) messages → 1 ≤ all_opens i messages
opens_once i p [] c = absurd c
opens_once i p (m ∷ messages) c =
    ⊎_elim (λ h. omega (arith, Brought.opened (brought i 0 0 p m [] h))) (λ h. omega (arith, opens_once i p messages h)) c

read_stands : (s : Stream) (o : Option Stream) → KeepsRead (Some s) o → StandsAt s.queue.read o
read_stands s None h = tt
read_stands s (Some t) h = h

abbrev BroughtBy : ℕ → ℕ → ℕ → Stream → List (Message Stream) → List Input → Type 0
BroughtBy i mixed buffered p messages xs =
    KeepsRead (Some p) (stream_at i (inputs_with_all mixed messages xs)) × All i p.queue.read (all_message_notices mixed buffered messages xs)

brought_here : (i mixed buffered : ℕ) (p : Stream) (m : Message Stream) (messages : List (Message Stream)) (xs : List Input) → Comes i p m → all_opens i (m ∷ messages) ≤ 1 → BroughtBy i mixed buffered p (m ∷ messages) xs
brought_here i mixed buffered p m messages xs d o =
    let b : Brought i mixed buffered p m xs = brought i mixed buffered p m xs d in
    let none : all_opens i messages ≡ 0 = omega (arith, o, Brought.opened b) in (
      keeps_then (Some p) (stream_at i (inputs_with mixed m xs)) (stream_at i (inputs_with_all mixed messages (inputs_with mixed m xs))) (Brought.stands b) (messages_read i mixed messages (inputs_with mixed m xs) none),
      joined i p.queue.read (message_notices mixed buffered m xs) (all_message_notices mixed buffered messages (inputs_with mixed m xs))
          (subst (All i p.queue.read) (sym (Brought.silent b)) tt)
          (messages_hand i mixed buffered p.queue.read messages (inputs_with mixed m xs) none (read_stands p (stream_at i (inputs_with mixed m xs)) (Brought.stands b))),
    )

brought_later : (i mixed buffered : ℕ) (p : Stream) (m : Message Stream) (messages : List (Message Stream)) (xs : List Input) → stream_at i xs ≡ None → HasOne (Comes i p) messages → all_opens i (m ∷ messages) ≤ 1
    → (stream_at i (inputs_with mixed m xs) ≡ None → BroughtBy i mixed buffered p messages (inputs_with mixed m xs)) → BroughtBy i mixed buffered p (m ∷ messages) xs
brought_later i mixed buffered p m messages xs h d o next =
    let unopened : opens i m ≡ 0 = omega (arith, o, opens_once i p messages d) in
    let rest : BroughtBy i mixed buffered p messages (inputs_with mixed m xs) =
    next (none_stays (stream_at i (inputs_with mixed m xs)) (subst (λ q. KeepsRead q (stream_at i (inputs_with mixed m xs))) h (message_reads i mixed m xs unopened))) in (
      rest.0,
      joined i p.queue.read (message_notices mixed buffered m xs) (all_message_notices mixed buffered messages (inputs_with mixed m xs))
          (message_hands i mixed buffered p.queue.read m xs (stands_none p.queue.read (stream_at i xs) h))
          rest.1,
    )

-- the messages that bring it leave it where its parcel stands, and hand it over there
brought_by : (i mixed buffered : ℕ) (p : Stream) (messages : List (Message Stream)) (xs : List Input) → stream_at i xs ≡ None → HasOne (Comes i p) messages → all_opens i messages ≤ 1 → BroughtBy i mixed buffered p messages xs
brought_by i mixed buffered p [] xs h c o = absurd c
brought_by i mixed buffered p (m ∷ messages) xs h c o =
    ⊎_elim (λ d. brought_here i mixed buffered p m messages xs d o)
    (λ d. brought_later i mixed buffered p m messages xs h d o (λ e. brought_by i mixed buffered p messages (inputs_with mixed m xs) e d (omega (arith, o))))
    c

absent_of : (o : Option Stream) → presence_of o ≡ 0 → o ≡ None
absent_of None e = refl
absent_of (Some s) e = absurd (omega (arith, e))

-- the input is there after the turn that brings it, or was handed over in it
record CameIn (samples : Samples) (sink : Sink) (e : Entry) (i : ℕ) (p : Stream) : Type 0 where
  absent : stream_at i sink.inputs ≡ None
  stands : KeepsRead (Some p) (stream_at i (sink_after samples sink e).inputs)
  hands : All i p.queue.read (notices_of samples sink e)

came_in : (samples : Samples) (sink : Sink) (e : Entry) (i : ℕ) (p : Stream) (later : ℕ) → HasOne (Comes i p) (messages_of e) → presence_of (stream_at i sink.inputs) + (all_opens i (messages_of e) + later) ≤ 1 → CameIn samples sink e i p
came_in samples sink e i p later c once =
    let one : 1 ≤ all_opens i (messages_of e) = opens_once i p (messages_of e) c in
    let absent : stream_at i sink.inputs ≡ None = absent_of (stream_at i sink.inputs) (omega (arith, once, one)) in
    let by = brought_by i (mixed_of sink e) (buffered_of sink e) p (messages_of e) (forward sink e) (forward_at sink e i None absent) c (omega (arith, once)) in
    record {
      absent = absent;
      stands = after_reads samples sink e i (Some p) by.0;
      hands = hands_by samples sink e i p.queue.read by.1;
    }

-- a track without its first turn, in which the input isn't there yet
without_first : (samples : Samples) (sink : Sink) (e : Entry) (history : List Entry) (i : ℕ) (rest : List Stretch) (read : ℤ) → stream_at i sink.inputs ≡ None → Begins read (track_of samples (sink_after samples sink e) history i ++ rest) → Begins read (track_of samples sink (e ∷ history) i ++ rest)
without_first samples sink e history i rest read h b =
    subst (λ o. Begins read ((stretches_from o (forward_by sink e) ++ track_of samples (sink_after samples sink e) history i) ++ rest)) (sym h) b

-- it leaves again
begins_then : (samples : Samples) (i : ℕ) (p q : Stream) (sink : Sink) (history : List Entry) → presence_of (stream_at i sink.inputs) + history_opens i history ≤ 1
    → ComesIn i p history → LeavesIn samples i q sink history → Begins p.queue.read (track_of samples sink history i ++ place_of q ∷ [])
begins_then samples i p q sink [] once c l = absurd c
begins_then samples i p q sink (e ∷ []) once c l =
    let came : CameIn samples sink e i p = came_in samples sink e i p 0 c once in
    without_first samples sink e [] i (place_of q ∷ []) p.queue.read (CameIn.absent came) (handed i p.queue.read q (notices_of samples sink e) (CameIn.hands came) l)
begins_then samples i p q sink (e ∷ f ∷ history) once c l =
    let came : CameIn samples sink e i p = came_in samples sink e i p (history_opens i (f ∷ history)) c once in
    let one : 1 ≤ all_opens i (messages_of e) = opens_once i p (messages_of e) c in
    without_first samples sink e (f ∷ history) i (place_of q ∷ []) p.queue.read (CameIn.absent came)
    (go (stream_at i (sink_after samples sink e).inputs) refl (CameIn.stands came) (omega (arith, once, one)))
  where
    go : (o : Option Stream) → stream_at i (sink_after samples sink e).inputs ≡ o → KeepsRead (Some p) o → history_opens i (f ∷ history) ≡ 0 → Begins p.queue.read (track_of samples (sink_after samples sink e) (f ∷ history) i ++ place_of q ∷ [])
    go None m r none = absurd (none_leaves_in samples i q (sink_after samples sink e) (f ∷ history) m none l)
    go (Some t) m r none =
        subst (λ z. Begins z (track_of samples (sink_after samples sink e) (f ∷ history) i ++ place_of q ∷ [])) r (begins_with samples (sink_after samples sink e) f history i t (place_of q ∷ []) m)

-- or stays
begins_last : (samples : Samples) (i : ℕ) (p : Stream) (sink : Sink) (history : List Entry) → presence_of (stream_at i sink.inputs) + history_opens i history ≤ 1 → ComesIn i p history → Begins p.queue.read (track_of samples sink history i)
begins_last samples i p sink [] once c = absurd c
begins_last samples i p sink (e ∷ history) once c =
    let came : CameIn samples sink e i p = came_in samples sink e i p (history_opens i history) c once in
    let one : 1 ≤ all_opens i (messages_of e) = opens_once i p (messages_of e) c in
    subst (λ o. Begins p.queue.read (stretches_from o (forward_by sink e) ++ track_of samples (sink_after samples sink e) history i)) (sym (CameIn.absent came))
    (go (stream_at i (sink_after samples sink e).inputs) refl (CameIn.stands came) (omega (arith, once, one)))
  where
    go : (o : Option Stream) → stream_at i (sink_after samples sink e).inputs ≡ o → KeepsRead (Some p) o → history_opens i history ≡ 0 → Begins p.queue.read (track_of samples (sink_after samples sink e) history i)
    go None m r none = subst (Begins p.queue.read) (sym (nothing_settled samples (sink_after samples sink e) history i m none)) tt
    go (Some t) m r none = subst (λ z. Begins z (track_of samples (sink_after samples sink e) history i)) r (begins_at samples (sink_after samples sink e) history i t m)

-- ---- stay after stay

joins : (p : Stream) (xs ys : List Stretch) → IsJoined (xs ++ place_of p ∷ []) → Begins p.queue.read ys → IsJoined ys → IsJoined (xs ++ ys)
joins p [] ys h b j = j
joins p (x ∷ []) ys h b j = join_one x p.queue.read ys (Follows.joined h.0) (Follows.rising h.0) b j
joins p (x ∷ y ∷ xs) ys h b j = (h.0, joins p (y ∷ xs) ys h.1 b j)

begins_through : (read : ℤ) (p : Stream) (xs ys : List Stretch) → Begins read (xs ++ place_of p ∷ []) → Begins p.queue.read ys → Begins read (xs ++ ys)
begins_through read p [] [] h b = tt
begins_through read p [] (y ∷ ys) h b = b ∙ h
begins_through read p (x ∷ xs) ys h b = h

record GoOn (samples : Samples) (i : ℕ) (a : Stay) (stays : List Stay) : Type 0 where
  joined_all : IsJoined (track_over samples i (a ∷ stays))
  begins_all : (p : Stream) → ComesIn i p a.history → Begins p.queue.read (track_over samples i (a ∷ stays))

append_none : (xs : List Stretch) → xs ++ [] ≡ xs
append_none [] = refl
append_none (x ∷ xs) = ap (λ l. x ∷ l) (append_none xs)

go_on : (samples : Samples) (i : ℕ) (a : Stay) (stays : List Stay) → AreStays samples i (a ∷ stays) → GoOn samples i a stays
go_on samples i a [] h = record {
  joined_all = subst IsJoined (sym (append_none (track_of samples a.sink a.history i))) (track_joined samples a.sink h.holds a.history h.can h.orderly i h.once);
  begins_all = λ p c. subst (Begins p.queue.read) (sym (append_none (track_of samples a.sink a.history i))) (begins_last samples i p a.sink a.history h.once c);
}
go_on samples i a (b ∷ stays) h =
    let rest : GoOn samples i b stays = go_on samples i b stays h.1.1 in
    let on : GoesOn samples i a b = h.1.0 in
    let next : Begins (GoesOn.parcel on).queue.read (track_over samples i (b ∷ stays)) = GoOn.begins_all rest (GoesOn.parcel on) (GoesOn.comes on) in
    record {
      joined_all = joins (GoesOn.parcel on) (track_of samples a.sink a.history i) (track_over samples i (b ∷ stays))
          (ends_at samples i (GoesOn.parcel on) a.sink a.history (IsStay.holds h.0) (IsStay.can h.0) (IsStay.orderly h.0) (IsStay.once h.0) (GoesOn.leaves on)) next (GoOn.joined_all rest);
      begins_all = λ p c. begins_through p.queue.read (GoesOn.parcel on) (track_of samples a.sink a.history i) (track_over samples i (b ∷ stays))
          (begins_then samples i p (GoesOn.parcel on) a.sink a.history (IsStay.once h.0) c (GoesOn.leaves on)) next;
    }

pub stays_joined : (samples : Samples) (i : ℕ) (stays : List Stay) → AreStays samples i stays → IsJoined (track_over samples i stays)
stays_joined samples i [] h = tt
stays_joined samples i (a ∷ stays) h = GoOn.joined_all (go_on samples i a stays h)

pub stays_rise : (samples : Samples) (i : ℕ) (stays : List Stay) → AreStays samples i stays → Rise (indices_of_all (track_over samples i stays))
stays_rise samples i stays h = joined_rise (track_over samples i stays) (stays_joined samples i stays h)

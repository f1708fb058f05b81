-- A turn leaves an input's stream ready to go on, at the sink or in a notice, and at no more places than it was before.
use Rattle.std.proofs.Common.{◌≡◌, append-nil, ℕ, ◌+◌, ◌-◌, ◌≤◌, arith, List, [], ◌∷◌, ◌++◌, map, Option, None, Some, Bool, true, false, cond, refl, ap, sym, subst, ◌∙◌, ⊎_elim}
use Rattle.std.specs.Prelude.{flat_map, nat_eq, nat_le}
use Rattle.std.specs.List.{AllByRecursion}
use Rattle.std.proofs.lemmas.Bool.{cases_eq, ne_eqb}
use Rattle.px_model.specs.Stream.{Stream}
use Rattle.px_model.specs.Going.{after}
use Rattle.px_model.specs.Control.{attached}
use Rattle.px_model.specs.Write.{Outcome, stored, overflow, outside}
use Rattle.px_model.specs.Message.{Message}
use Rattle.px_model.specs.Notice.{Notice}
use Rattle.px_model.specs.Mix.{Samples}
use Rattle.px_model.specs.Sink.{Sink, Input, stream_at, with_stream, with_input, without_input}
use Rattle.px_model.specs.Applied.{write_outcome}
use Rattle.px_model.specs.Turn.{going_notices, has_started, has_run_out, message_notices, all_message_notices, notices_from, refusal_of, latency_of, asked_notices, asked_stream, has_ended, missing_of, inputs_with, inputs_with_all, settled, halted, with_messages, next_horizon}
use Rattle.px_model.specs.Deciding.{Entry, turn, stop, sink_after, notices_of, messages_of}
use Rattle.px_model.specs.Track.{Stretch, presence_of, opens, all_opens, forward_by}
use Rattle.px_model.proofs.Lookups.{KeepsRead, message_reads, at_map, at_each, none_without, same_without, gone}
use Rattle.px_model.proofs.Matching.{here_with}
use Rattle.px_msg.specs.View.{notice_for}
use Rattle.px_core.specs.Parcels.{Brought, moved_stream, given_by}
use Rattle.px_world.specs.Whereabouts.{Resumes, StaysReady, MovesReady, times, given_up}

-- ---- lists

pub times-join : (i : ℕ) (xs ys : List (Brought Stream)) → times i (xs ++ ys) ≡ times i xs + times i ys
times-join i [] ys = omega arith
times-join i (x ∷ xs) ys = omega (arith, times-join i xs ys)

pub given-join : (xs ys : List (Notice Stream)) → given_up (xs ++ ys) ≡ given_up xs ++ given_up ys
given-join [] ys = refl
given-join (x ∷ xs) ys = joined (given_by (notice_for x)) (given_up xs) (given_up ys) (given_up (xs ++ ys)) (given-join xs ys)
  where
    joined : (first bs cs all : List (Brought Stream)) → all ≡ bs ++ cs → first ++ all ≡ (first ++ bs) ++ cs
    joined [] bs cs all e = e
    joined (a ∷ first) bs cs all e = ap (λ l. a ∷ l) (joined first bs cs all e)

pub ready-join : (i : ℕ) (last : Option Stretch) (xs ys : List (Brought Stream)) → AllByRecursion (MovesReady i last) xs → AllByRecursion (MovesReady i last) ys → AllByRecursion (MovesReady i last) (xs ++ ys)
ready-join i last [] ys h k = k
ready-join i last (x ∷ xs) ys h k = (h.0, ready-join i last xs ys h.1 k)

-- ---- notices that give nothing up

none-join : (xs ys : List (Notice Stream)) → given_up xs ≡ [] → given_up ys ≡ [] → given_up (xs ++ ys) ≡ []
none-join xs ys h k = given-join xs ys ∙ ap (λ l. l ++ given_up ys) h ∙ k

none-each : (f : Input → List (Notice Stream)) → ((x : Input) → given_up (f x) ≡ []) → (xs : List Input) → given_up (flat_map f xs) ≡ []
none-each f h [] = refl
none-each f h (x ∷ xs) = none-join (f x) (flat_map f xs) (h x) (none-each f h xs)

chosen : (b : Bool) (xs ys : List (Notice Stream)) → given_up xs ≡ [] → given_up ys ≡ [] → given_up (cond b xs ys) ≡ []
chosen true xs ys h k = h
chosen false xs ys h k = k

drained-none : (j : ℕ) (tags : List ℕ) → given_up (map (λ tag. Notice.drained j tag) tags) ≡ []
drained-none j [] = refl
drained-none j (tag ∷ tags) = drained-none j tags

going-none : (k : ℕ) (x : Input) → given_up (going_notices k x) ≡ []
going-none k x =
    none-join (cond (has_started x.stream k) (Notice.started x.index ∷ []) []) (cond (has_run_out x.stream k) (Notice.underflow x.index ∷ []) [])
    (chosen (has_started x.stream k) (Notice.started x.index ∷ []) [] refl refl)
    (chosen (has_run_out x.stream k) (Notice.underflow x.index ∷ []) [] refl refl)

asked-none : (mixed : ℕ) (x : Input) → given_up (asked_notices mixed x) ≡ []
asked-none mixed x =
    none-join (cond (has_ended x.stream) (map (λ tag. Notice.drained x.index tag) x.stream.draining) [])
    (cond (nat_le x.stream.minreq (missing_of x.stream mixed)) (Notice.request x.index (missing_of x.stream mixed) ∷ []) [])
    (chosen (has_ended x.stream) (map (λ tag. Notice.drained x.index tag) x.stream.draining) [] (drained-none x.index x.stream.draining) refl)
    (chosen (nat_le x.stream.minreq (missing_of x.stream mixed)) (Notice.request x.index (missing_of x.stream mixed) ∷ []) [] refl refl)

refusals-none : (j : ℕ) (o : Outcome) → given_up (refusal_of j o) ≡ []
refusals-none j stored = refl
refusals-none j overflow = refl
refusals-none j outside = refl

from-none : (o : Option Stream) (f : Stream → List (Notice Stream)) → ((s : Stream) → given_up (f s) ≡ []) → given_up (notices_from o f) ≡ []
from-none None f h = refl
from-none (Some s) f h = h s

-- what stands between such notices
between : (xs ys zs : List (Notice Stream)) → given_up xs ≡ [] → given_up zs ≡ [] → given_up ((xs ++ ys) ++ zs) ≡ given_up ys
between xs ys zs h k =
    given-join (xs ++ ys) zs ∙ ap (λ l. given_up (xs ++ ys) ++ l) k ∙ append-nil (given_up (xs ++ ys)) ∙ given-join xs ys ∙ ap (λ l. l ++ given_up ys) h

-- ---- what a message gives up

-- the stream at an index, as it is given up
abbrev left_by : ℕ → Option Stream → List (Brought Stream)
left_by j None = []
left_by j (Some s) = moved_stream j s ∷ []

abbrev left_with : Message Stream → List Input → List (Brought Stream)
left_with (Message.new n) xs = []
left_with (Message.attach j parcel feed factors) xs = []
left_with (Message.detach j) xs = left_by j (stream_at j xs)
left_with (Message.write w) xs = []
left_with (Message.cork j on) xs = []
left_with (Message.flush j) xs = []
left_with (Message.trigger j) xs = []
left_with (Message.prebuf j) xs = []
left_with (Message.drain j tag) xs = []
left_with (Message.attr j attr) xs = []
left_with (Message.factors each) xs = []
left_with (Message.query j tag) xs = []

detached-left : (j : ℕ) (o : Option Stream) → given_up (notices_from o (λ s. Notice.detached j s ∷ [])) ≡ left_by j o
detached-left j None = refl
detached-left j (Some s) = refl

message-left : (mixed buffered : ℕ) (m : Message Stream) (xs : List Input) → given_up (message_notices mixed buffered m xs) ≡ left_with m xs
message-left mixed buffered (Message.new n) xs = refl
message-left mixed buffered (Message.attach j parcel feed factors) xs = refl
message-left mixed buffered (Message.detach j) xs = detached-left j (stream_at j xs)
message-left mixed buffered (Message.write w) xs =
    from-none (stream_at w.input xs) (λ s. refusal_of w.input (write_outcome s w.seek w.offset w.frames w.bytes mixed)) (λ s. refusals-none w.input (write_outcome s w.seek w.offset w.frames w.bytes mixed))
message-left mixed buffered (Message.cork j on) xs = refl
message-left mixed buffered (Message.flush j) xs = refl
message-left mixed buffered (Message.trigger j) xs = refl
message-left mixed buffered (Message.prebuf j) xs = refl
message-left mixed buffered (Message.drain j tag) xs = refl
message-left mixed buffered (Message.attr j attr) xs = refl
message-left mixed buffered (Message.factors each) xs = refl
message-left mixed buffered (Message.query j tag) xs = from-none (stream_at j xs) (λ s. Notice.latency j tag (latency_of mixed buffered s) ∷ []) (λ s. refl)

-- ---- how often the input is anywhere after a message

keeps-less : (o p : Option Stream) → KeepsRead o p → presence_of p ≤ presence_of o
keeps-less None None h = omega arith
keeps-less None (Some t) h = absurd h
keeps-less (Some s) None h = omega arith
keeps-less (Some s) (Some t) h = omega arith

one-at-most : (o : Option Stream) → presence_of o ≤ 1
one-at-most None = omega arith
one-at-most (Some s) = omega arith

-- by a message that gives nothing up
still : (i mixed : ℕ) (m : Message Stream) (xs : List Input) → presence_of (stream_at i (inputs_with mixed m xs)) + 0 ≤ presence_of (stream_at i xs) + opens i m
still i mixed m xs =
    ⊎_elim
    (λ (e : opens i m ≡ 0). omega (arith, keeps-less (stream_at i xs) (stream_at i (inputs_with mixed m xs)) (message_reads i mixed m xs e)))
    (λ (n : opens i m ≡ 0 → ⊥). omega (arith, n, one-at-most (stream_at i (inputs_with mixed m xs))))
    (cases_eq (opens i m) 0)

left-times : (i j : ℕ) (o : Option Stream) → (j ≡ i → ⊥) → times i (left_by j o) ≡ 0
left-times i j None n = refl
left-times i j (Some s) n = ap (λ b. ◌+◌ (cond b 1 0) 0) (ne_eqb j i n)

left-once : (i j : ℕ) (o : Option Stream) → times i (left_by j o) ≤ presence_of o
left-once i j None = omega arith
left-once i j (Some s) = go (nat_eq j i)
  where
    go : (b : Bool) → cond b 1 0 + 0 ≤ 1
    go true = omega arith
    go false = omega arith

-- by one that gives the stream at an index up
leaving : (i j : ℕ) (xs : List Input) → presence_of (stream_at i (without_input j xs)) + times i (left_by j (stream_at j xs)) ≤ presence_of (stream_at i xs) + 0
leaving i j xs =
    ⊎_elim
    (λ (e : j ≡ i).
    let none : presence_of (stream_at i (without_input j xs)) ≡ 0 = ap (λ n. presence_of (stream_at n (without_input j xs))) (sym e) ∙ ap presence_of (none_without j xs) in
    let here : presence_of (stream_at j xs) ≡ presence_of (stream_at i xs) = ap (λ n. presence_of (stream_at n xs)) e in
    omega (arith, none, here, left-once i j (stream_at j xs)))
    (λ (n : j ≡ i → ⊥).
    let same : presence_of (stream_at i (without_input j xs)) ≡ presence_of (stream_at i xs) = ap presence_of (same_without i j xs (λ e. n (sym e))) in
    omega (arith, same, left-times i j (stream_at j xs) n))
    (cases_eq j i)

message-places : (i mixed : ℕ) (m : Message Stream) (xs : List Input) → presence_of (stream_at i (inputs_with mixed m xs)) + times i (left_with m xs) ≤ presence_of (stream_at i xs) + opens i m
message-places i mixed (Message.new n) xs = still i mixed (Message.new n) xs
message-places i mixed (Message.attach j parcel feed factors) xs = still i mixed (Message.attach j parcel feed factors) xs
message-places i mixed (Message.detach j) xs = leaving i j xs
message-places i mixed (Message.write w) xs = still i mixed (Message.write w) xs
message-places i mixed (Message.cork j on) xs = still i mixed (Message.cork j on) xs
message-places i mixed (Message.flush j) xs = still i mixed (Message.flush j) xs
message-places i mixed (Message.trigger j) xs = still i mixed (Message.trigger j) xs
message-places i mixed (Message.prebuf j) xs = still i mixed (Message.prebuf j) xs
message-places i mixed (Message.drain j tag) xs = still i mixed (Message.drain j tag) xs
message-places i mixed (Message.attr j attr) xs = still i mixed (Message.attr j attr) xs
message-places i mixed (Message.factors each) xs = still i mixed (Message.factors each) xs
message-places i mixed (Message.query j tag) xs = still i mixed (Message.query j tag) xs

messages-places : (i mixed buffered : ℕ) (messages : List (Message Stream)) (xs : List Input)
    → presence_of (stream_at i (inputs_with_all mixed messages xs)) + times i (given_up (all_message_notices mixed buffered messages xs)) ≤ presence_of (stream_at i xs) + all_opens i messages
messages-places i mixed buffered [] xs = omega arith
messages-places i mixed buffered (m ∷ messages) xs =
    let split : times i (given_up (all_message_notices mixed buffered (m ∷ messages) xs)) ≡ times i (left_with m xs) + times i (given_up (all_message_notices mixed buffered messages (inputs_with mixed m xs))) =
    ap (times i) (given-join (message_notices mixed buffered m xs) (all_message_notices mixed buffered messages (inputs_with mixed m xs)))
    ∙ times-join i (given_up (message_notices mixed buffered m xs)) (given_up (all_message_notices mixed buffered messages (inputs_with mixed m xs)))
    ∙ ap (λ l. times i l + times i (given_up (all_message_notices mixed buffered messages (inputs_with mixed m xs)))) (message-left mixed buffered m xs) in
    omega (arith, split, message-places i mixed m xs, messages-places i mixed buffered messages (inputs_with mixed m xs))

-- ---- where it stands after a message

-- a message that brings the input brings it ready
abbrev pub OpensReady : ℕ → Option Stretch → Message Stream → Type 0
OpensReady i last (Message.new n) = n.input ≡ i → last ≡ None
OpensReady i last (Message.attach j parcel feed factors) = j ≡ i → Resumes last parcel.queue.read
OpensReady i last (Message.detach j) = Unit {0}
OpensReady i last (Message.write w) = Unit {0}
OpensReady i last (Message.cork j on) = Unit {0}
OpensReady i last (Message.flush j) = Unit {0}
OpensReady i last (Message.trigger j) = Unit {0}
OpensReady i last (Message.prebuf j) = Unit {0}
OpensReady i last (Message.drain j tag) = Unit {0}
OpensReady i last (Message.attr j attr) = Unit {0}
OpensReady i last (Message.factors each) = Unit {0}
OpensReady i last (Message.query j tag) = Unit {0}

keeps-ready : (last : Option Stretch) (o p : Option Stream) → StaysReady last o → KeepsRead o p → StaysReady last p
keeps-ready last None None h k = tt
keeps-ready last None (Some t) h k = absurd k
keeps-ready last (Some s) None h k = tt
keeps-ready last (Some s) (Some t) h k = subst (Resumes last) (sym k) h

ready-first : (last : Option Stretch) (o : Option Stream) → last ≡ None → StaysReady last o
ready-first last o e = subst (λ l. StaysReady l o) (sym e) (go o)
  where
    go : (p : Option Stream) → StaysReady None p
    go None = tt
    go (Some s) = tt

ready-still : (i mixed : ℕ) (last : Option Stretch) (m : Message Stream) (xs : List Input) → opens i m ≡ 0 → StaysReady last (stream_at i xs) → StaysReady last (stream_at i (inputs_with mixed m xs))
ready-still i mixed last m xs e h = keeps-ready last (stream_at i xs) (stream_at i (inputs_with mixed m xs)) h (message_reads i mixed m xs e)

unopened : (i j : ℕ) → (j ≡ i → ⊥) → ◌≡◌ {A = ℕ} (cond (nat_eq j i) 1 0) 0
unopened i j n = ap (λ b. cond b 1 0) (ne_eqb j i n)

message-ready : (i mixed : ℕ) (last : Option Stretch) (m : Message Stream) (xs : List Input) → OpensReady i last m → StaysReady last (stream_at i xs) → StaysReady last (stream_at i (inputs_with mixed m xs))
message-ready i mixed last (Message.new n) xs o h =
    ⊎_elim
    (λ (e : n.input ≡ i). ready-first last (stream_at i (inputs_with mixed (Message.new n) xs)) (o e))
    (λ (d : n.input ≡ i → ⊥). ready-still i mixed last (Message.new n) xs (unopened i n.input d) h)
    (cases_eq n.input i)
message-ready i mixed last (Message.attach j parcel feed factors) xs o h =
    ⊎_elim
    (λ (e : j ≡ i).
    subst (λ k. StaysReady last (stream_at k (with_input j (attached parcel feed factors) xs))) e
    (subst (StaysReady last) (sym (here_with j (attached parcel feed factors) xs)) (o e)))
    (λ (d : j ≡ i → ⊥). ready-still i mixed last (Message.attach j parcel feed factors) xs (unopened i j d) h)
    (cases_eq j i)
message-ready i mixed last (Message.detach j) xs o h = ready-still i mixed last (Message.detach j) xs refl h
message-ready i mixed last (Message.write w) xs o h = ready-still i mixed last (Message.write w) xs refl h
message-ready i mixed last (Message.cork j on) xs o h = ready-still i mixed last (Message.cork j on) xs refl h
message-ready i mixed last (Message.flush j) xs o h = ready-still i mixed last (Message.flush j) xs refl h
message-ready i mixed last (Message.trigger j) xs o h = ready-still i mixed last (Message.trigger j) xs refl h
message-ready i mixed last (Message.prebuf j) xs o h = ready-still i mixed last (Message.prebuf j) xs refl h
message-ready i mixed last (Message.drain j tag) xs o h = ready-still i mixed last (Message.drain j tag) xs refl h
message-ready i mixed last (Message.attr j attr) xs o h = ready-still i mixed last (Message.attr j attr) xs refl h
message-ready i mixed last (Message.factors each) xs o h = ready-still i mixed last (Message.factors each) xs refl h
message-ready i mixed last (Message.query j tag) xs o h = ready-still i mixed last (Message.query j tag) xs refl h

left-ready : (i j : ℕ) (last : Option Stretch) (o : Option Stream) → (j ≡ i → StaysReady last o) → AllByRecursion (MovesReady i last) (left_by j o)
left-ready i j last None h = tt
left-ready i j last (Some s) h = (h, tt)

message-gives : (i : ℕ) (last : Option Stretch) (m : Message Stream) (xs : List Input) → StaysReady last (stream_at i xs) → AllByRecursion (MovesReady i last) (left_with m xs)
message-gives i last (Message.new n) xs h = tt
message-gives i last (Message.attach j parcel feed factors) xs h = tt
message-gives i last (Message.detach j) xs h = left-ready i j last (stream_at j xs) (λ e. subst (λ k. StaysReady last (stream_at k xs)) (sym e) h)
message-gives i last (Message.write w) xs h = tt
message-gives i last (Message.cork j on) xs h = tt
message-gives i last (Message.flush j) xs h = tt
message-gives i last (Message.trigger j) xs h = tt
message-gives i last (Message.prebuf j) xs h = tt
message-gives i last (Message.drain j tag) xs h = tt
message-gives i last (Message.attr j attr) xs h = tt
message-gives i last (Message.factors each) xs h = tt
message-gives i last (Message.query j tag) xs h = tt

messages-ready : (i mixed : ℕ) (last : Option Stretch) (messages : List (Message Stream)) (xs : List Input) → AllByRecursion (OpensReady i last) messages → StaysReady last (stream_at i xs) → StaysReady last (stream_at i (inputs_with_all mixed messages xs))
messages-ready i mixed last [] xs o h = h
messages-ready i mixed last (m ∷ messages) xs o h = messages-ready i mixed last messages (inputs_with mixed m xs) o.1 (message-ready i mixed last m xs o.0 h)

messages-give : (i mixed buffered : ℕ) (last : Option Stretch) (messages : List (Message Stream)) (xs : List Input) → AllByRecursion (OpensReady i last) messages → StaysReady last (stream_at i xs)
    → AllByRecursion (MovesReady i last) (given_up (all_message_notices mixed buffered messages xs))
messages-give i mixed buffered last [] xs o h = tt
messages-give i mixed buffered last (m ∷ messages) xs o h =
    subst (AllByRecursion (MovesReady i last)) (sym (given-join (message_notices mixed buffered m xs) (all_message_notices mixed buffered messages (inputs_with mixed m xs))))
    (ready-join i last (given_up (message_notices mixed buffered m xs)) (given_up (all_message_notices mixed buffered messages (inputs_with mixed m xs)))
    (subst (AllByRecursion (MovesReady i last)) (sym (message-left mixed buffered m xs)) (message-gives i last m xs h))
    (messages-give i mixed buffered last messages (inputs_with mixed m xs) o.1 (message-ready i mixed last m xs o.0 h)))

-- ---- a turn

abbrev mixed_in : Sink → Entry → ℕ
mixed_in sink (turn n messages) = sink.filled - next_horizon sink n
mixed_in sink (stop messages) = next_horizon sink 0 - next_horizon sink 0

abbrev buffered_in : Sink → Entry → ℕ
buffered_in sink (turn n messages) = sink.filled - (sink.consumed + n)
buffered_in sink (stop messages) = next_horizon sink 0 - (sink.consumed + 0)

-- its inputs once they have gone forward, and with the messages
abbrev forward : Sink → Entry → List Input
forward sink e = map (with_stream (λ s. after s (forward_by sink e))) sink.inputs

abbrev given : Sink → Entry → List Input
given sink e = inputs_with_all (mixed_in sink e) (messages_of e) (forward sink e)

-- only its messages give anything up
turn-left : (samples : Samples) (sink : Sink) (e : Entry) → given_up (notices_of samples sink e) ≡ given_up (all_message_notices (mixed_in sink e) (buffered_in sink e) (messages_of e) (forward sink e))
turn-left samples sink (turn n messages) =
    between (flat_map (going_notices (next_horizon sink n - sink.horizon)) sink.inputs)
    (all_message_notices (sink.filled - next_horizon sink n) (sink.filled - (sink.consumed + n)) messages (settled sink n).inputs)
    (flat_map (asked_notices (sink.consumed + n + sink.depth - next_horizon sink n)) (with_messages (settled sink n) messages).inputs)
    (none-each (going_notices (next_horizon sink n - sink.horizon)) (going-none (next_horizon sink n - sink.horizon)) sink.inputs)
    (none-each (asked_notices (sink.consumed + n + sink.depth - next_horizon sink n)) (asked-none (sink.consumed + n + sink.depth - next_horizon sink n)) (with_messages (settled sink n) messages).inputs)
turn-left samples sink (stop messages) =
    between (flat_map (going_notices (next_horizon sink 0 - sink.horizon)) sink.inputs)
    (all_message_notices (next_horizon sink 0 - next_horizon sink 0) (next_horizon sink 0 - (sink.consumed + 0)) messages (halted sink).inputs)
    (flat_map (asked_notices 0) (with_messages (halted sink) messages).inputs)
    (none-each (going_notices (next_horizon sink 0 - sink.horizon)) (going-none (next_horizon sink 0 - sink.horizon)) sink.inputs)
    (none-each (asked_notices 0) (asked-none 0) (with_messages (halted sink) messages).inputs)

asked-reads : (samples : Samples) (sink : Sink) (e : Entry) (i : ℕ) → KeepsRead (stream_at i (given sink e)) (stream_at i (sink_after samples sink e).inputs)
asked-reads samples sink (turn n messages) i = at_map i (with_stream (asked_stream (sink.consumed + n + sink.depth - next_horizon sink n))) (λ x. refl) (λ x. refl) (given sink (turn n messages))
asked-reads samples sink (stop messages) i = at_map i (with_stream (asked_stream (next_horizon sink 0 - next_horizon sink 0))) (λ x. refl) (λ x. refl) (given sink (stop messages))

gone-presence : (k : ℕ) (o : Option Stream) → presence_of (gone k o) ≡ presence_of o
gone-presence k None = refl
gone-presence k (Some s) = refl

-- the input is at no more places than it was, or was brought
pub turn-places : (samples : Samples) (sink : Sink) (e : Entry) (i : ℕ)
    → presence_of (stream_at i (sink_after samples sink e).inputs) + times i (given_up (notices_of samples sink e)) ≤ presence_of (stream_at i sink.inputs) + all_opens i (messages_of e)
turn-places samples sink e i =
    omega (
      arith,
      keeps-less (stream_at i (given sink e)) (stream_at i (sink_after samples sink e).inputs) (asked-reads samples sink e i),
      messages-places i (mixed_in sink e) (buffered_in sink e) (messages_of e) (forward sink e),
      ap (times i) (turn-left samples sink e),
      ap presence_of (at_each i (λ s. after s (forward_by sink e)) sink.inputs) ∙ gone-presence (forward_by sink e) (stream_at i sink.inputs),
    )

module _ (samples : Samples) (sink : Sink) (e : Entry) (i : ℕ) (last : Option Stretch) (o : AllByRecursion (OpensReady i last) (messages_of e)) (h : StaysReady last (gone (forward_by sink e) (stream_at i sink.inputs))) where
  went : StaysReady last (stream_at i (forward sink e))
  went = subst (StaysReady last) (sym (at_each i (λ s. after s (forward_by sink e)) sink.inputs)) h

  -- it stands ready where it has gone forward
  pub turn-ready : StaysReady last (stream_at i (sink_after samples sink e).inputs)
  turn-ready =
      keeps-ready last (stream_at i (given sink e)) (stream_at i (sink_after samples sink e).inputs)
      (messages-ready i (mixed_in sink e) last (messages_of e) (forward sink e) o went) (asked-reads samples sink e i)

  pub turn-gives : AllByRecursion (MovesReady i last) (given_up (notices_of samples sink e))
  turn-gives =
      subst (AllByRecursion (MovesReady i last)) (sym (turn-left samples sink e))
      (messages-give i (mixed_in sink e) (buffered_in sink e) last (messages_of e) (forward sink e) o went)

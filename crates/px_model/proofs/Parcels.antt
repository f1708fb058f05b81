-- A stream that leaves a sink, and one that stays, stand where they went forward to.
use Rattle.std.proofs.Common.{◌≡◌, ℕ, ◌+◌, ◌-◌, List, [], ◌∷◌, ◌++◌, map, Option, Some, None, Bool, true, false, refl, ap, sym, subst, ◌∙◌, arith, cond}
use Rattle.std.specs.Prelude.{ℤ, flat_map, nat_le, option_map}
use Rattle.std.specs.List.{AllByRecursion}
use Rattle.px_model.specs.Stream.{Stream}
use Rattle.px_model.specs.Going.{after}
use Rattle.px_model.specs.Write.{Outcome, stored, overflow, outside}
use Rattle.px_model.specs.Message.{Message}
use Rattle.px_model.specs.Notice.{Notice}
use Rattle.px_model.specs.Mix.{Samples}
use Rattle.px_model.specs.Sink.{Sink, Input, stream_at, with_stream}
use Rattle.px_model.specs.Applied.{write_outcome}
use Rattle.px_model.specs.Turn.{going_notices, has_started, has_run_out, message_notices, all_message_notices, notices_from, refusal_of, latency_of, asked_notices, has_ended, missing_of, inputs_with, inputs_with_all, settled, halted, with_messages, next_horizon}
use Rattle.px_model.specs.Deciding.{Entry, turn, stop, sink_after, notices_of, messages_of}
use Rattle.px_model.specs.Track.{StandsAt, HandsOverAt, all_opens, forward_by}
use Rattle.px_model.proofs.Lookups.{KeepsRead, message_reads, messages_read, at_each, entry_reads, gone}

-- ---- lists of notices

abbrev pub All : ℕ → ℤ → List (Notice Stream) → Type 0
All i read notices = AllByRecursion (HandsOverAt i read) notices

pub joined : (i : ℕ) (read : ℤ) (xs ys : List (Notice Stream)) → All i read xs → All i read ys → All i read (xs ++ ys)
joined i read [] ys h k = k
joined i read (x ∷ xs) ys h k = (h.0, joined i read xs ys h.1 k)

pub each_of : (i : ℕ) (read : ℤ) (f : Input → List (Notice Stream)) → ((x : Input) → All i read (f x)) → (xs : List Input) → All i read (flat_map f xs)
each_of i read f h [] = tt
each_of i read f h (x ∷ xs) = joined i read (f x) (flat_map f xs) (h x) (each_of i read f h xs)

chosen : (i : ℕ) (read : ℤ) (b : Bool) (xs ys : List (Notice Stream)) → All i read xs → All i read ys → All i read (cond b xs ys)
chosen i read true xs ys h k = h
chosen i read false xs ys h k = k

drained_tags : (i : ℕ) (read : ℤ) (j : ℕ) (tags : List ℕ) → All i read (map (λ tag. Notice.drained j tag) tags)
drained_tags i read j [] = tt
drained_tags i read j (tag ∷ tags) = (tt, drained_tags i read j tags)

pub going_hands : (i : ℕ) (read : ℤ) (k : ℕ) (x : Input) → All i read (going_notices k x)
going_hands i read k x =
    joined i read (cond (has_started x.stream k) (Notice.started x.index ∷ []) []) (cond (has_run_out x.stream k) (Notice.underflow x.index ∷ []) [])
    (chosen i read (has_started x.stream k) (Notice.started x.index ∷ []) [] (tt, tt) tt)
    (chosen i read (has_run_out x.stream k) (Notice.underflow x.index ∷ []) [] (tt, tt) tt)

pub asked_hands : (i : ℕ) (read : ℤ) (mixed : ℕ) (x : Input) → All i read (asked_notices mixed x)
asked_hands i read mixed x =
    joined i read (cond (has_ended x.stream) (map (λ tag. Notice.drained x.index tag) x.stream.draining) [])
    (cond (nat_le x.stream.minreq (missing_of x.stream mixed)) (Notice.request x.index (missing_of x.stream mixed) ∷ []) [])
    (chosen i read (has_ended x.stream) (map (λ tag. Notice.drained x.index tag) x.stream.draining) [] (drained_tags i read x.index x.stream.draining) tt)
    (chosen i read (nat_le x.stream.minreq (missing_of x.stream mixed)) (Notice.request x.index (missing_of x.stream mixed) ∷ []) [] (tt, tt) tt)

-- ---- messages

still_stands : (read : ℤ) (o p : Option Stream) → StandsAt read o → KeepsRead o p → StandsAt read p
still_stands read None None h k = tt
still_stands read None (Some t) h k = absurd k
still_stands read (Some s) None h k = tt
still_stands read (Some s) (Some t) h k = k ∙ h

refusals : (i : ℕ) (read : ℤ) (j : ℕ) (o : Outcome) → All i read (refusal_of j o)
refusals i read j stored = tt
refusals i read j overflow = (tt, tt)
refusals i read j outside = (tt, tt)

from_any : (i : ℕ) (read : ℤ) (o : Option Stream) (f : Stream → List (Notice Stream)) → ((s : Stream) → All i read (f s)) → All i read (notices_from o f)
from_any i read None f h = tt
from_any i read (Some s) f h = h s

detached_at : (i j : ℕ) (read : ℤ) (o : Option Stream) → (j ≡ i → StandsAt read o) → All i read (notices_from o (λ s. Notice.detached j s ∷ []))
detached_at i j read None h = tt
detached_at i j read (Some s) h = (h, tt)

pub message_hands : (i mixed buffered : ℕ) (read : ℤ) (m : Message Stream) (xs : List Input) → StandsAt read (stream_at i xs) → All i read (message_notices mixed buffered m xs)
message_hands i mixed buffered read (Message.new n) xs h = tt
message_hands i mixed buffered read (Message.attach j parcel feed factors) xs h = tt
message_hands i mixed buffered read (Message.detach j) xs h = detached_at i j read (stream_at j xs) (λ e. subst (λ k. StandsAt read (stream_at k xs)) (sym e) h)
message_hands i mixed buffered read (Message.write w) xs h =
    from_any i read (stream_at w.input xs) (λ s. refusal_of w.input (write_outcome s w.seek w.offset w.frames w.bytes mixed)) (λ s. refusals i read w.input (write_outcome s w.seek w.offset w.frames w.bytes mixed))
message_hands i mixed buffered read (Message.cork j on) xs h = tt
message_hands i mixed buffered read (Message.flush j) xs h = tt
message_hands i mixed buffered read (Message.trigger j) xs h = tt
message_hands i mixed buffered read (Message.prebuf j) xs h = tt
message_hands i mixed buffered read (Message.drain j tag) xs h = tt
message_hands i mixed buffered read (Message.attr j attr) xs h = tt
message_hands i mixed buffered read (Message.factors each) xs h = tt
message_hands i mixed buffered read (Message.query j tag) xs h =
    from_any i read (stream_at j xs) (λ s. Notice.latency j tag (latency_of mixed buffered s) ∷ []) (λ s. (tt, tt))

-- messages that don't open the input leave it where it stands, and hand it over there
pub messages_hand : (i mixed buffered : ℕ) (read : ℤ) (messages : List (Message Stream)) (xs : List Input) → all_opens i messages ≡ 0 → StandsAt read (stream_at i xs) → All i read (all_message_notices mixed buffered messages xs)
messages_hand i mixed buffered read [] xs e h = tt
messages_hand i mixed buffered read (m ∷ messages) xs e h =
    joined i read (message_notices mixed buffered m xs) (all_message_notices mixed buffered messages (inputs_with mixed m xs))
    (message_hands i mixed buffered read m xs h)
    (messages_hand i mixed buffered read messages (inputs_with mixed m xs) (omega (arith, e)) (still_stands read (stream_at i xs) (stream_at i (inputs_with mixed m xs)) h (message_reads i mixed m xs (omega (arith, e)))))

pub messages_stand : (i mixed : ℕ) (read : ℤ) (messages : List (Message Stream)) (xs : List Input) → all_opens i messages ≡ 0 → StandsAt read (stream_at i xs) → StandsAt read (stream_at i (inputs_with_all mixed messages xs))
messages_stand i mixed read messages xs e h = still_stands read (stream_at i xs) (stream_at i (inputs_with_all mixed messages xs)) h (messages_read i mixed messages xs e)

-- ---- a turn

forward_stands : (i k : ℕ) (s : Stream) (xs : List Input) → stream_at i xs ≡ Some s → StandsAt (after s k).queue.read (stream_at i (map (with_stream (λ t. after t k)) xs))
forward_stands i k s xs e =
    subst (λ o. StandsAt (after s k).queue.read o) (sym (at_each i (λ t. after t k) xs ∙ ap (option_map (λ t. after t k)) e)) refl

pub entry_hands : (samples : Samples) (sink : Sink) (e : Entry) (i : ℕ) (s : Stream) → all_opens i (messages_of e) ≡ 0 → stream_at i sink.inputs ≡ Some s
    → All i (after s (forward_by sink e)).queue.read (notices_of samples sink e)
entry_hands samples sink (turn n messages) i s o h =
    let read : ℤ = (after s (next_horizon sink n - sink.horizon)).queue.read in
    joined i read
    (flat_map (going_notices (next_horizon sink n - sink.horizon)) sink.inputs ++ all_message_notices (sink.filled - next_horizon sink n) (sink.filled - (sink.consumed + n)) messages (settled sink n).inputs)
    (flat_map (asked_notices (sink.consumed + n + sink.depth - next_horizon sink n)) (with_messages (settled sink n) messages).inputs)
    (joined i read (flat_map (going_notices (next_horizon sink n - sink.horizon)) sink.inputs) (all_message_notices (sink.filled - next_horizon sink n) (sink.filled - (sink.consumed + n)) messages (settled sink n).inputs)
    (each_of i read (going_notices (next_horizon sink n - sink.horizon)) (going_hands i read (next_horizon sink n - sink.horizon)) sink.inputs)
    (messages_hand i (sink.filled - next_horizon sink n) (sink.filled - (sink.consumed + n)) read messages (settled sink n).inputs o (forward_stands i (next_horizon sink n - sink.horizon) s sink.inputs h)))
    (each_of i read (asked_notices (sink.consumed + n + sink.depth - next_horizon sink n)) (asked_hands i read (sink.consumed + n + sink.depth - next_horizon sink n)) (with_messages (settled sink n) messages).inputs)
entry_hands samples sink (stop messages) i s o h =
    let read : ℤ = (after s (next_horizon sink 0 - sink.horizon)).queue.read in
    joined i read
    (flat_map (going_notices (next_horizon sink 0 - sink.horizon)) sink.inputs ++ all_message_notices (next_horizon sink 0 - next_horizon sink 0) (next_horizon sink 0 - (sink.consumed + 0)) messages (halted sink).inputs)
    (flat_map (asked_notices 0) (with_messages (halted sink) messages).inputs)
    (joined i read (flat_map (going_notices (next_horizon sink 0 - sink.horizon)) sink.inputs) (all_message_notices (next_horizon sink 0 - next_horizon sink 0) (next_horizon sink 0 - (sink.consumed + 0)) messages (halted sink).inputs)
    (each_of i read (going_notices (next_horizon sink 0 - sink.horizon)) (going_hands i read (next_horizon sink 0 - sink.horizon)) sink.inputs)
    (messages_hand i (next_horizon sink 0 - next_horizon sink 0) (next_horizon sink 0 - (sink.consumed + 0)) read messages (halted sink).inputs o (forward_stands i (next_horizon sink 0 - sink.horizon) s sink.inputs h)))
    (each_of i read (asked_notices 0) (asked_hands i read 0) (with_messages (halted sink) messages).inputs)

read_stands : (s : Stream) (o : Option Stream) → KeepsRead (Some s) o → StandsAt s.queue.read o
read_stands s None h = tt
read_stands s (Some t) h = h

pub entry_stands : (samples : Samples) (sink : Sink) (e : Entry) (i : ℕ) (s : Stream) → all_opens i (messages_of e) ≡ 0 → stream_at i sink.inputs ≡ Some s
    → StandsAt (after s (forward_by sink e)).queue.read (stream_at i (sink_after samples sink e).inputs)
entry_stands samples sink e i s o h =
    read_stands (after s (forward_by sink e)) (stream_at i (sink_after samples sink e).inputs)
    (subst (λ q. KeepsRead (gone (forward_by sink e) q) (stream_at i (sink_after samples sink e).inputs)) h (entry_reads samples sink e i o))

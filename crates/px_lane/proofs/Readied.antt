-- Messages with all the memory that they take.
use Rattle.std.proofs.Common.{◌≡◌, ℕ, List, ◌∷◌, ◌++◌, length, drop, ◌+◌, ◌≤◌, arith, length-append, Option, Some, None, refl, ap, sym, ◌∙◌, subst}
use Rattle.std.specs.Prelude.{ℤ}
use Rattle.std.proofs.Math.Seq.{drop-append_seam}
use Rattle.px_types.specs.declared.ids.InputId.{InputId}
use Rattle.px_model.specs.Stream.{Stream}
use Rattle.px_model.specs.Message.{Message, StreamMessage}
use Rattle.px_model.specs.Notice.{Notice}
use Rattle.px_model.specs.Sink.{Input as Stands, stream_at}
use Rattle.px_model.specs.Write.{Outcome, stored, overflow, outside}
use Rattle.px_model.specs.Applied.{write_outcome, is_refused}
use Rattle.px_model.specs.Turn.{refusal_of, notices_from, inputs_with, message_notices, all_message_notices}
use Rattle.px_stream.specs.declared.message.StreamMsg.TheVariants.{Write}
use Rattle.px_lane.specs.declared.ready.Ready.TheVariants.{Change as Changes}
use Rattle.px_lane.specs.declared.ready.Ready.{Ready}
use Rattle.px_lane.specs.declared.ready.Ready.TheVariants.{Insert, Join, Remove, Change, Each, Answer}
use Rattle.px_lane.specs.Taking.{IsReadyFor, HasRoomLeft, ready_notices, overflows_at, overflow_if}

refusal : (i : ℕ) (o : Outcome) → overflow_if i (is_refused o) ≡ refusal_of i o
refusal i stored = refl
refusal i overflow = refl
refusal i outside = refl

module _ (input : InputId) (seek : ℕ) (offset : ℤ) (frames : ℕ) (bytes : List ℕ) where
  write_notices : (mixed : ℕ) (o : Option Stream) → overflow_if input.0 (overflows_at mixed (StreamMessage.write seek offset frames bytes) o) ≡ notices_from o (λ s. refusal_of input.0 (write_outcome s seek offset frames bytes mixed))
  write_notices mixed None = refl
  write_notices mixed (Some s) = refusal input.0 (write_outcome s seek offset frames bytes mixed)

  write_same : IsReadyFor (Changes input (Write seek offset frames bytes)) (Message.write (record { input = input.0; seek = seek; offset = offset; frames = frames; bytes = bytes }))
  write_same = record {
    inputs = λ mixed xs. refl;
    notices = λ mixed buffered xs. write_notices mixed (stream_at input.0 xs);
    suits = λ xs h. h;
    blocks = refl;
    costs = λ mixed xs. refl;
  }

pub write_ready : (input : InputId) (seek : ℕ) (offset place : ℤ) (frames : ℕ) (bytes : List ℕ) → place ≡ offset
    → IsReadyFor (Changes input (Write seek place frames bytes)) (Message.write (record { input = input.0; seek = seek; offset = offset; frames = frames; bytes = bytes }))
write_ready input seek offset place frames bytes e =
    subst (λ (p : ℤ). IsReadyFor (Changes input (Write seek place frames bytes)) (Message.write (record { input = input.0; seek = seek; offset = p; frames = frames; bytes = bytes })))
    e (write_same input seek place frames bytes)

-- room for less
pub left_less : (r s a b : ℕ) (ready : Ready) → s ≤ r → b ≤ a → HasRoomLeft r a ready → HasRoomLeft s b ready
left_less r s a b (Insert input stream) l m h = (omega (arith, l, h.0), omega (arith, m, h.1))
left_less r s a b (Join input parcel feed factors) l m h = (omega (arith, l, h.0), omega (arith, m, h.1))
left_less r s a b (Remove input) l m h = tt
left_less r s a b (Change input change) l m h = tt
left_less r s a b (Each list) l m h = tt
left_less r s a b (Answer input tag) l m h = tt

-- what is left of a list that begins with what a message takes
pub left_over : {X : Type 0} (all here rest taken : List X) → all ≡ here ++ rest → taken ≡ drop (length here) all → taken ≡ rest
left_over all here rest taken e t = t ∙ ap (drop (length here)) e ∙ drop-append_seam here rest

-- ---- each in order

pub take_fits : (mixed buffered : ℕ) (ready : Ready) (m : Message Stream) (all rest : List (Message Stream)) (xs : List Stands) (noticed start started : List (Notice Stream)) (capacity : ℕ)
    → all ≡ m ∷ rest → IsReadyFor ready m → noticed ++ all_message_notices mixed buffered all xs ≡ start ++ started → length start + length started ≤ capacity
    → length noticed + length (ready_notices mixed buffered ready xs) ≤ capacity
take_fits mixed buffered ready m all rest xs noticed start started capacity e r same l =
    let whole : length noticed + length (all_message_notices mixed buffered all xs) ≡ length start + length started =
    sym (length-append noticed (all_message_notices mixed buffered all xs)) ∙ ap (λ (ns : List (Notice Stream)). length ns) same ∙ length-append start started in
    let split : length (all_message_notices mixed buffered all xs) ≡ length (message_notices mixed buffered m xs) + length (all_message_notices mixed buffered rest (inputs_with mixed m xs)) =
    ap (λ (ms : List (Message Stream)). length (all_message_notices mixed buffered ms xs)) e
    ∙ length-append (message_notices mixed buffered m xs) (all_message_notices mixed buffered rest (inputs_with mixed m xs)) in
    let here : length (ready_notices mixed buffered ready xs) ≡ length (message_notices mixed buffered m xs) = ap (λ (ns : List (Notice Stream)). length ns) (r.notices mixed buffered xs) in
    omega (arith, whole, split, here, l)

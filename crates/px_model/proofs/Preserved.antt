-- What a queue and a stream keep, they keep under every message and step.
use Rattle.std.proofs.Common.{◌≡◌, ℕ, ◌+◌, ◌-◌, ◌<◌, ◌≤◌, max, List, [], ◌∷◌, length, drop, Option, Bool, true, false, refl, sym, subst, arith, cond, length-drop}
use Rattle.std.specs.Prelude.{ℤ, pos, ◌-ℤ◌, nat_lt, nat_le, ◌&&◌, not, int_lt, int_le}
use Rattle.std.proofs.lemmas.Int.{ints}
use Rattle.std.proofs.lemmas.Bool.{cond_both, and_parts, false≢true, not-false, ltb-true}
use Rattle.px_model.specs.declared.data.Attr.{Attr}
use Rattle.px_model.specs.Index.{onward, above, LAST, FIRST, IsIndex, is_index}
use Rattle.px_model.specs.Frame.{Frame, SampleSpec}
use Rattle.px_model.specs.Held.{written_over, overlay}
use Rattle.px_model.specs.Queue.{Queue, IsQueue}
use Rattle.px_model.specs.Stream.{Stream, IsStream, with_queue}
use Rattle.px_model.specs.Going.{ahead_of}
use Rattle.px_model.specs.Write.{Outcome, stored, overflow, outside, passes_end, outcome_of, queue_with, requested_with, written}
use Rattle.px_model.specs.Control.{new_queue, prebuf_disabled, prebuf_forced, emptied, with_prebuf, new_stream, attached, corked_to, triggered, prebuffered, flushed, drained_by, with_attr, with_factors}
use Rattle.px_model.specs.Orderly.{IsRepaired}
use Rattle.px_model.specs.Turn.{asked_stream, missing_of}
use Rattle.px_model.proofs.Overlay.{length-overlay, write_trimmed}

-- ---- writes

index_holds : (i : ℤ) → is_index i ≡ true → IsIndex i
index_holds i e =
    let parts = and_parts (int_le FIRST i) (int_le i LAST) e in
    (omega (arith, ints, parts.0), omega (arith, ints, parts.1))

-- an outcome other than outside has both ends in the range of indices
pub outcome_by : (P : Outcome → Type 0) (q : Queue) (limit : ℤ) (p : ℤ) (l : ℕ) (a : ℤ) → P outside → (IsIndex p → IsIndex (onward p l) → P overflow) → (IsIndex p → IsIndex (onward p l) → P stored) → P (outcome_of q limit p l a)
outcome_by P q limit p l a out over store =
    cond_both (not (is_index p && is_index (onward p l))) outside
    (cond (passes_end q p l && int_lt limit (onward p l -ℤ a)) overflow stored) P
    (λ e. out)
    (λ e.
    let parts = and_parts (is_index p) (is_index (onward p l)) (not-false (is_index p && is_index (onward p l)) e) in
    cond_both (passes_end q p l && int_lt limit (onward p l -ℤ a)) overflow stored P
    (λ x. over (index_holds p parts.0) (index_holds (onward p l) parts.1))
    (λ x. store (index_holds p parts.0) (index_holds (onward p l) parts.1)))

length_written : (read p : ℤ) (frames : List Frame) (held : List (Option Frame)) → length (written_over read p frames held) ≤ max (above (onward p (length frames)) read) (length held)
length_written read p frames held = go (drop (above read p) frames) (length-drop (above read p) frames)
  where
    go : (rest : List Frame) → length rest ≡ length frames - above read p → length (overlay (above p read) rest held) ≤ max (above (onward p (length frames)) read) (length held)
    go [] e = omega arith
    go (f ∷ rest) e = omega (arith, ints, length-overlay (above p read) (f ∷ rest) held (omega arith))

same_prebuf : (o : Outcome) (q : Queue) (p : ℤ) (frames : List Frame) → q.prebuf ≡ Queue.prebuf (queue_with o q p frames)
same_prebuf stored q p frames = refl
same_prebuf overflow q p frames = refl
same_prebuf outside q p frames = refl

overflow_keeps : (q : Queue) → IsQueue q → (p : ℤ) (frames : List Frame) → IsIndex (onward p (length frames)) → IsQueue (queue_with overflow q p frames)
overflow_keeps q keeps p frames i = record {
  trimmed = keeps.trimmed;
  read_in_range = keeps.read_in_range;
  write_in_range = i;
  held_in_range = keeps.held_in_range;
  hold_has_prebuf = keeps.hold_has_prebuf;
}

stored_keeps : (q : Queue) → IsQueue q → (p : ℤ) (frames : List Frame) → IsIndex (onward p (length frames)) → IsQueue (queue_with stored q p frames)
stored_keeps q keeps p frames i = record {
  trimmed = write_trimmed q.read p frames q.held keeps.trimmed;
  read_in_range = keeps.read_in_range;
  write_in_range = i;
  held_in_range = omega (arith, ints, length_written q.read p frames q.held, keeps.held_in_range, keeps.read_in_range.1, i.1);
  hold_has_prebuf = keeps.hold_has_prebuf;
}

pub queue_written_keeps : (q : Queue) → IsQueue q → (limit : ℤ) (p : ℤ) (frames : List Frame) (a : ℤ) → IsQueue (queue_with (outcome_of q limit p (length frames) a) q p frames)
queue_written_keeps q keeps limit p frames a =
    outcome_by (λ o. IsQueue (queue_with o q p frames)) q limit p (length frames) a keeps (λ i j. overflow_keeps q keeps p frames j) (λ i j. stored_keeps q keeps p frames j)

requested_falls : (o : Outcome) (requested l : ℕ) → requested_with o requested l ≤ requested
requested_falls stored requested l = omega arith
requested_falls overflow requested l = omega arith
requested_falls outside requested l = omega arith

pub written_keeps : (s : Stream) → IsStream s → (p : ℤ) (frames : List Frame) (a : ℤ) → IsStream (written s p frames a)
written_keeps s keeps p frames a = record {
  queue_holds = queue_written_keeps s.queue keeps.queue_holds (pos s.maxlength) p frames a;
  prebuf_bounded = subst (λ n. n ≤ s.tlength) (same_prebuf (outcome_of s.queue (pos s.maxlength) p (length frames) a) s.queue p frames) keeps.prebuf_bounded;
  tlength_bounded = keeps.tlength_bounded;
  maxlength_bounded = keeps.maxlength_bounded;
  minreq_positive = keeps.minreq_positive;
  requested_bounded = omega (arith, keeps.requested_bounded, requested_falls (outcome_of s.queue (pos s.maxlength) p (length frames) a) s.requested (length frames));
}

-- ---- the queue's other steps

positive : (n : ℕ) → nat_lt 0 n ≡ true → 0 < n
positive n e = ltb-true 0 n e

new_queue_keeps : (prebuf : ℕ) → IsQueue (new_queue prebuf)
new_queue_keeps prebuf = record {
  trimmed = λ h. absurd (omega arith);
  read_in_range = (omega (arith, ints), omega (arith, ints));
  write_in_range = (omega (arith, ints), omega (arith, ints));
  held_in_range = omega (arith, ints);
  hold_has_prebuf = positive prebuf;
}

prebuf_disabled_keeps : (q : Queue) → IsQueue q → IsQueue (prebuf_disabled q)
prebuf_disabled_keeps q keeps = record {
  trimmed = keeps.trimmed;
  read_in_range = keeps.read_in_range;
  write_in_range = keeps.write_in_range;
  held_in_range = keeps.held_in_range;
  hold_has_prebuf = λ e. absurd (false≢true e);
}

prebuf_forced_keeps : (q : Queue) → IsQueue q → IsQueue (prebuf_forced q)
prebuf_forced_keeps q keeps = record {
  trimmed = keeps.trimmed;
  read_in_range = keeps.read_in_range;
  write_in_range = keeps.write_in_range;
  held_in_range = keeps.held_in_range;
  hold_has_prebuf = positive q.prebuf;
}

emptied_keeps : (q : Queue) → IsQueue q → IsQueue (emptied q)
emptied_keeps q keeps = record {
  trimmed = λ h. absurd (omega arith);
  read_in_range = keeps.read_in_range;
  write_in_range = keeps.read_in_range;
  held_in_range = omega (arith, ints, keeps.read_in_range.1);
  hold_has_prebuf = positive q.prebuf;
}

with_prebuf_keeps : (q : Queue) → IsQueue q → (prebuf : ℕ) → IsQueue (with_prebuf q prebuf)
with_prebuf_keeps q keeps prebuf = record {
  trimmed = keeps.trimmed;
  read_in_range = keeps.read_in_range;
  write_in_range = keeps.write_in_range;
  held_in_range = keeps.held_in_range;
  hold_has_prebuf = λ e. positive prebuf (and_parts q.hold (nat_lt 0 prebuf) e).1;
}

pub queue_steps_keep : (q : Queue) → IsQueue q → (prebuf : ℕ) → IsQueue (new_queue prebuf) × IsQueue (prebuf_disabled q) × IsQueue (prebuf_forced q) × IsQueue (emptied q) × IsQueue (with_prebuf q prebuf)
queue_steps_keep q keeps prebuf = (new_queue_keeps prebuf, prebuf_disabled_keeps q keeps, prebuf_forced_keeps q keeps, emptied_keeps q keeps, with_prebuf_keeps q keeps prebuf)

-- ---- the other messages

-- a stream with another queue of the same prebuf
with_queue_keeps : (s : Stream) → IsStream s → (q : Queue) → IsQueue q → q.prebuf ≡ s.queue.prebuf → IsStream (with_queue s q)
with_queue_keeps s keeps q k e = record {
  queue_holds = k;
  prebuf_bounded = subst (λ n. n ≤ s.tlength) (sym e) keeps.prebuf_bounded;
  tlength_bounded = keeps.tlength_bounded;
  maxlength_bounded = keeps.maxlength_bounded;
  minreq_positive = keeps.minreq_positive;
  requested_bounded = keeps.requested_bounded;
}

pub new_keeps : (spec : SampleSpec) (feed factors : List ℕ) (attr : Attr) (corked : Bool) → IsRepaired attr → IsStream (new_stream spec feed factors attr corked)
new_keeps spec feed factors attr corked r = record {
  queue_holds = new_queue_keeps attr.prebuf;
  prebuf_bounded = omega (arith, r.prebuf_bounded, r.minreq_positive);
  tlength_bounded = r.tlength_bounded;
  maxlength_bounded = r.maxlength_bounded;
  minreq_positive = r.minreq_positive;
  requested_bounded = omega (arith, r.tlength_bounded, r.maxlength_bounded);
}

pub attached_keeps : (s : Stream) → IsStream s → (feed factors : List ℕ) → IsStream (attached s feed factors)
attached_keeps s keeps feed factors = record {
  queue_holds = keeps.queue_holds;
  prebuf_bounded = keeps.prebuf_bounded;
  tlength_bounded = keeps.tlength_bounded;
  maxlength_bounded = keeps.maxlength_bounded;
  minreq_positive = keeps.minreq_positive;
  requested_bounded = keeps.requested_bounded;
}

pub corked_keeps : (s : Stream) → IsStream s → (on : Bool) → IsStream (corked_to s on)
corked_keeps s keeps on = record {
  queue_holds = keeps.queue_holds;
  prebuf_bounded = keeps.prebuf_bounded;
  tlength_bounded = keeps.tlength_bounded;
  maxlength_bounded = keeps.maxlength_bounded;
  minreq_positive = keeps.minreq_positive;
  requested_bounded = keeps.requested_bounded;
}

pub triggered_keeps : (s : Stream) → IsStream s → IsStream (triggered s)
triggered_keeps s keeps = with_queue_keeps s keeps (prebuf_disabled s.queue) (prebuf_disabled_keeps s.queue keeps.queue_holds) refl

pub prebuffered_keeps : (s : Stream) → IsStream s → IsStream (prebuffered s)
prebuffered_keeps s keeps = with_queue_keeps s keeps (prebuf_forced s.queue) (prebuf_forced_keeps s.queue keeps.queue_holds) refl

pub flushed_keeps : (s : Stream) → IsStream s → IsStream (flushed s)
flushed_keeps s keeps = with_queue_keeps s keeps (emptied s.queue) (emptied_keeps s.queue keeps.queue_holds) refl

pub drained_keeps : (s : Stream) → IsStream s → (tag : ℕ) → IsStream (drained_by s tag)
drained_keeps s keeps tag = record {
  queue_holds = prebuf_disabled_keeps s.queue keeps.queue_holds;
  prebuf_bounded = keeps.prebuf_bounded;
  tlength_bounded = keeps.tlength_bounded;
  maxlength_bounded = keeps.maxlength_bounded;
  minreq_positive = keeps.minreq_positive;
  requested_bounded = keeps.requested_bounded;
}

pub attr_keeps : (s : Stream) → IsStream s → (attr : Attr) → IsRepaired attr → IsStream (with_attr s attr)
attr_keeps s keeps attr r = record {
  queue_holds = with_prebuf_keeps s.queue keeps.queue_holds attr.prebuf;
  prebuf_bounded = omega (arith, r.prebuf_bounded, r.minreq_positive);
  tlength_bounded = r.tlength_bounded;
  maxlength_bounded = r.maxlength_bounded;
  minreq_positive = r.minreq_positive;
  requested_bounded = keeps.requested_bounded;
}

pub factors_keep : (s : Stream) → IsStream s → (factors : List ℕ) → IsStream (with_factors s factors)
factors_keep s keeps factors = record {
  queue_holds = keeps.queue_holds;
  prebuf_bounded = keeps.prebuf_bounded;
  tlength_bounded = keeps.tlength_bounded;
  maxlength_bounded = keeps.maxlength_bounded;
  minreq_positive = keeps.minreq_positive;
  requested_bounded = keeps.requested_bounded;
}

-- ---- the last step of a turn

request_bounded : (b : Bool) (t x r m : ℕ) → r ≤ m → t ≤ m → r + cond b (t - x - r) 0 ≤ m
request_bounded true t x r m h l = omega arith
request_bounded false t x r m h l = omega arith

pub asked_keeps : (mixed : ℕ) (s : Stream) → IsStream s → IsStream (asked_stream mixed s)
asked_keeps mixed s keeps = record {
  queue_holds = keeps.queue_holds;
  prebuf_bounded = keeps.prebuf_bounded;
  tlength_bounded = keeps.tlength_bounded;
  maxlength_bounded = keeps.maxlength_bounded;
  minreq_positive = keeps.minreq_positive;
  requested_bounded = request_bounded (nat_le s.minreq (missing_of s mixed)) s.tlength (above s.queue.write (ahead_of s mixed)) s.requested 4194304
      keeps.requested_bounded (omega (arith, keeps.tlength_bounded, keeps.maxlength_bounded));
}

-- What sounds as before.
use Rattle.std.proofs.Common.{◌≡◌, ℕ, suc, ◌+◌, ◌<◌, ◌≤◌, ◌⊎◌, List, [], ◌∷◌, length, drop, length-drop, min, refl, ap, sym, ◌∙◌, Bool, true, false, Option, None, cond, arith}
use Rattle.std.specs.Prelude.{ℤ, pos, ◌||◌, ◌&&◌, ◌==◌}
use Rattle.std.proofs.lemmas.Int.{ints}
use Rattle.std.proofs.lemmas.Bool.{false≢true, cases_lt}
use Rattle.std.proofs.lemmas.Bool.Decides.{nat_tests}
use Rattle.px_model.specs.Frame.{Frame, frame_size, frames_of}
use Rattle.px_model.specs.Held.{place, written_over}
use Rattle.px_model.specs.Index.{above}
use Rattle.px_model.specs.Queue.{Queue, is_short}
use Rattle.px_model.specs.Stream.{Stream}
use Rattle.px_model.specs.Control.{flushed, triggered, prebuffered, with_attr}
use Rattle.px_model.specs.Going.{ahead_of}
use Rattle.px_model.specs.Message.{StreamMessage}
use Rattle.px_model.specs.Applied.{applied, write_outcome}
use Rattle.px_model.specs.Write.{Outcome, stored, overflow, outside, outcome_of, queue_with, seek_of, target_of}
use Rattle.px_model.proofs.Overlay.{overlay_past}
use Rattle.px_queue.specs.Heard.{heard_of, is_other, unaltered_by}
use Rattle.px_queue.proofs.Hearing.{heard_before}
use Rattle.px_queue.proofs.Storing.{length_frames}
use Rattle.px_stream.specs.Heard.{SoundsSame, unaltered_of, unaltered_unless}

-- ---- where nothing is heard, and where what is held is

some_held : (n : ℕ) → (suc n == 0) ≡ false
some_held n = grind (arith, nat_tests)

none_where : (corked short : Bool) (held : List (Option Frame)) (k : ℕ) → (corked || (length held == 0 || short)) ≡ true → cond corked None (cond short None (place held k)) ≡ None
none_where true short held k e = refl
none_where false true held k e = refl
none_where false false [] k e = refl
none_where false false (o ∷ held) k e = absurd (false≢true (sym (ap (λ (b : Bool). b || false) (some_held (length held))) ∙ e))

held_where : (corked short : Bool) (held : List (Option Frame)) (k : ℕ) → (corked || (length held == 0 || short)) ≡ false → cond corked None (cond short None (place held k)) ≡ place held k
held_where true short held k e = absurd (false≢true (sym e))
held_where false true [] k e = absurd (false≢true (sym e))
held_where false true (o ∷ held) k e = absurd (false≢true (sym e ∙ ap (λ (b : Bool). b || true) (some_held (length held))))
held_where false false held k e = refl

-- two frames that are heard, by whether any is
heard_unless : (before after : Bool) (a b : Option Frame) (n k : ℕ) → k < unaltered_unless before after n
    → (before ≡ true → b ≡ None) → (after ≡ true → a ≡ None) → (before ≡ false → after ≡ false → a ≡ b) → a ≡ b
heard_unless true true a b n k l before after both = after refl ∙ sym (before refl)
heard_unless true false a b n k l before after both = absurd (omega (arith, l))
heard_unless false true a b n k l before after both = absurd (omega (arith, l))
heard_unless false false a b n k l before after both = both refl refl

-- the frames that are held stay
held_stay : (corked corked' short short' : Bool) (held : List (Option Frame)) (n k : ℕ)
    → k < unaltered_unless (corked || (length held == 0 || short)) (corked' || (length held == 0 || short')) n
    → cond corked' None (cond short' None (place held k)) ≡ cond corked None (cond short None (place held k))
held_stay corked corked' short short' held n k l =
    heard_unless (corked || (length held == 0 || short)) (corked' || (length held == 0 || short'))
    (cond corked' None (cond short' None (place held k))) (cond corked None (cond short None (place held k))) n k l
    (none_where corked short held k) (none_where corked' short' held k)
    (λ before after. held_where corked' short' held k after ∙ sym (held_where corked short held k before))

-- they go
all_gone : (corked short short' : Bool) (held : List (Option Frame)) (n k : ℕ) → k < unaltered_unless (corked || (length held == 0 || short)) true n
    → cond corked None (cond short' None (place [] k)) ≡ cond corked None (cond short None (place held k))
all_gone corked short short' held n k l =
    heard_unless (corked || (length held == 0 || short)) true
    (cond corked None (cond short' None (place [] k))) (cond corked None (cond short None (place held k))) n k l
    (none_where corked short held k) (λ e. none_here corked short') (λ before after. absurd (false≢true (sym after)))
  where
    none_here : (corked short : Bool) → cond corked None (cond short None (place [] k)) ≡ None
    none_here true short = refl
    none_here false true = refl
    none_here false false = refl

-- ---- a message

-- what stays once a message is applied
pub unaltered_sounds : (m : StreamMessage) (s : Stream) (n k : ℕ) → k < unaltered_of n m s → SoundsSame k s (applied n m s)
unaltered_sounds (StreamMessage.write seek offset frames bytes) s n k l = record {
  spec = refl;
  feed = refl;
  factors = refl;
  heard = ap (λ (o : Option Frame). cond s.corked None o)
      (heard_before s.queue (write_outcome s seek offset frames bytes n) (target_of s.queue (seek_of seek) offset) (frames_of (frame_size s.spec) frames bytes) n k l);
}
unaltered_sounds (StreamMessage.query tag) s n k l = record { spec = refl; feed = refl; factors = refl; heard = refl }
unaltered_sounds (StreamMessage.attach feed factors) s n k l = absurd (omega (arith, l))
unaltered_sounds (StreamMessage.cork on) s n k l = record {
  spec = refl;
  feed = refl;
  factors = refl;
  heard = held_stay s.corked on (is_short s.queue) (is_short s.queue) s.queue.held n k l;
}
unaltered_sounds StreamMessage.flush s n k l = record {
  spec = refl;
  feed = refl;
  factors = refl;
  heard = all_gone s.corked (is_short s.queue) (is_short (Stream.queue (flushed s))) s.queue.held n k l;
}
unaltered_sounds StreamMessage.trigger s n k l = record {
  spec = refl;
  feed = refl;
  factors = refl;
  heard = held_stay s.corked s.corked (is_short s.queue) (is_short (Stream.queue (triggered s))) s.queue.held n k l;
}
unaltered_sounds StreamMessage.prebuf s n k l = record {
  spec = refl;
  feed = refl;
  factors = refl;
  heard = held_stay s.corked s.corked (is_short s.queue) (is_short (Stream.queue (prebuffered s))) s.queue.held n k l;
}
unaltered_sounds (StreamMessage.drain tag) s n k l = record {
  spec = refl;
  feed = refl;
  factors = refl;
  heard = held_stay s.corked s.corked (is_short s.queue) (is_short (Stream.queue (triggered s))) s.queue.held n k l;
}
unaltered_sounds (StreamMessage.attr attr) s n k l = record {
  spec = refl;
  feed = refl;
  factors = refl;
  heard = held_stay s.corked s.corked (is_short s.queue) (is_short (Stream.queue (with_attr s attr))) s.queue.held n k l;
}
unaltered_sounds (StreamMessage.factors factors) s n k l = absurd (omega (arith, l))

-- a write, by what its queue answers
module _ (s : Stream) (seek : ℕ) (offset : ℤ) (frames : ℕ) (n : ℕ) where
  pub unwritten_is : (shift ahead limit : ℤ) (m : ℕ) → shift ≡ offset → ahead ≡ ahead_of s n → limit ≡ pos s.maxlength
      → ((written : List Frame) → length written ≡ frames → m ≡ unaltered_by (outcome_of s.queue limit (target_of s.queue (seek_of seek) shift) frames ahead) s.queue (target_of s.queue (seek_of seek) shift) written n)
      → (bytes : List ℕ) → m ≡ unaltered_of n (StreamMessage.write seek offset frames bytes) s
  unwritten_is shift ahead limit m far near bound e bytes =
      e (frames_of (frame_size s.spec) frames bytes) (length_frames (frame_size s.spec) frames bytes)
      ∙ (λ i. unaltered_by (outcome_of s.queue (bound i) (target_of s.queue (seek_of seek) (far i)) (sym (length_frames (frame_size s.spec) frames bytes) i) (near i)) s.queue (target_of s.queue (seek_of seek) (far i)) (frames_of (frame_size s.spec) frames bytes) n)

-- ---- after the frames of a write

-- a queue that is short before or after it, and not both times, holds
heard_unless_short : (after before : Bool) (a b : Option Frame) (u first : ℕ) → u ≡ cond (is_other after before) 0 first → (u ≡ 0 → after ≡ false × before ≡ false)
    → (u ≡ first → a ≡ b) → cond after None a ≡ cond before None b
heard_unless_short true true a b u first e free same = refl
heard_unless_short true false a b u first e free same = absurd (false≢true (sym (free e).0))
heard_unless_short false true a b u first e free same = absurd (false≢true (sym (free e).1))
heard_unless_short false false a b u first e free same = same e

-- what comes after the frames
module _ (q : Queue) (p : ℤ) (frames : List Frame) (n u k : ℕ) (more : u + length frames ≤ k) (less : k < n) where
  past : u ≡ min (above p q.read) n → place (written_over q.read p frames q.held) k ≡ place q.held k
  past e = overlay_past (above p q.read) (drop (above q.read p) frames) q.held k (omega (arith, ints, e, more, less, length-drop (above q.read p) frames))

  heard_past : (outcome : Outcome) → u ≡ unaltered_by outcome q p frames n → (u ≡ 0 → q.hold ≡ false) → heard_of (queue_with outcome q p frames) k ≡ heard_of q k
  heard_past outside e free = refl
  heard_past overflow e free =
      heard_unless_short (is_short (queue_with overflow q p frames)) (is_short q) (place q.held k) (place q.held k) u n e (λ none. (waits _ none, waits _ none)) (λ same. refl)
    where
      waits : (b : Bool) → u ≡ 0 → (q.hold && b) ≡ false
      waits b none = ap (λ (h : Bool). h && b) (free none)
  heard_past stored e free =
      heard_unless_short (is_short (queue_with stored q p frames)) (is_short q) (place (written_over q.read p frames q.held) k) (place q.held k) u (min (above p q.read) n) e
      (λ none. (waits _ none, waits _ none)) past
    where
      waits : (b : Bool) → u ≡ 0 → (q.hold && b) ≡ false
      waits b none = ap (λ (h : Bool). h && b) (free none)

-- where the stream resumes after a write
pub written_resumes : (s : Stream) (seek : ℕ) (offset : ℤ) (frames : ℕ) (bytes : List ℕ) (n u k : ℕ) → u ≡ unaltered_of n (StreamMessage.write seek offset frames bytes) s
    → (u ≡ 0 → Queue.hold s.queue ≡ false) → u + frames ≤ k → k < n → SoundsSame k s (applied n (StreamMessage.write seek offset frames bytes) s)
written_resumes s seek offset frames bytes n u k e free more less = record {
  spec = refl;
  feed = refl;
  factors = refl;
  heard = ap (λ (o : Option Frame). cond s.corked None o)
      (heard_past s.queue (target_of s.queue (seek_of seek) offset) (frames_of (frame_size s.spec) frames bytes) n u k (omega (arith, more, length_frames (frame_size s.spec) frames bytes)) less
      (write_outcome s seek offset frames bytes n) e free);
}

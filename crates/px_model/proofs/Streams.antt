-- A stream going by a frames and then by b goes by a + b, and keeps what it keeps.
use Rattle.std.proofs.Common.{◌≡◌, ℕ, zero, suc, ◌+◌, ◌<◌, ◌≤◌, min, map, ◌++◌, true, false, refl, ap, sym, subst, ◌∙◌, arith, ⊎_elim}
use Rattle.std.specs.List.{range_with_len}
use Rattle.std.proofs.lemmas.Bool.{cases_Bool, cond-true, cond-false, cond_both}
use Rattle.px_model.specs.declared.data.Run.{Run}
use Rattle.px_model.specs.Queue.{Queue, IsQueue, left_of, is_short, nothing, queue_frame}
use Rattle.px_model.specs.Stream.{Stream, IsStream, frame_at}
use Rattle.px_model.specs.Going.{queue_after, queue_given, run_after, given_of, frames_given, after}
use Rattle.px_model.proofs.Runs.{silence_adds, runs_add}
use Rattle.px_model.proofs.Places.{join_range}
use Rattle.px_model.proofs.Forward.{queue_after_keeps, after_short, after_by}
use Rattle.px_model.proofs.Adding.{queue_after_adds, queue_given_adds, queue_frame_ahead, gave_all as queue_gave_all, given_none as queue_given_none, given_short, given_on, given_later}

-- ---- the two kinds of stream

-- one that isn't corked, k frames on
abbrev pub stream_on : Stream → ℕ → Stream
stream_on s k = record s { queue = queue_after s.queue k; run = run_after s.run (queue_given s.queue k) k }

pub after_corked : (s : Stream) (k : ℕ) → s.corked ≡ true → after s k ≡ s
after_corked s zero c = refl
after_corked s (suc k) c = cond-true s.corked s (stream_on s (suc k)) c

pub after_open : (s : Stream) (k : ℕ) → s.corked ≡ false → 0 < k → after s k ≡ stream_on s k
after_open s zero c l = absurd (omega arith)
after_open s (suc k) c l = cond-false s.corked s (stream_on s (suc k)) c

-- a fact of the stream after k frames
pub stream_by : (P : Stream → Type 0) (s : Stream) (k : ℕ) → 0 < k → (s.corked ≡ true → P s) → (s.corked ≡ false → P (stream_on s k)) → P (after s k)
stream_by P s k l corked open_ =
    ⊎_elim
    (λ (c : s.corked ≡ true). subst P (sym (after_corked s k c)) (corked c))
    (λ (c : s.corked ≡ false). subst P (sym (after_open s k c l)) (open_ c))
    (cases_Bool s.corked)

-- ---- what it keeps

same_prebuf : (q : Queue) (n : ℕ) → q.prebuf ≡ Queue.prebuf (queue_after q n)
same_prebuf q zero = refl
same_prebuf q (suc n) = after_by (λ t. q.prebuf ≡ Queue.prebuf t) q (suc n) (omega arith) (λ h. refl) (λ h. refl)

on_keeps : (s : Stream) → IsStream s → (k : ℕ) → IsStream (stream_on s k)
on_keeps s keeps k = record {
  queue_holds = queue_after_keeps s.queue keeps.queue_holds k;
  prebuf_bounded = subst (λ n. n ≤ s.tlength) (same_prebuf s.queue k) keeps.prebuf_bounded;
  tlength_bounded = keeps.tlength_bounded;
  maxlength_bounded = keeps.maxlength_bounded;
  minreq_positive = keeps.minreq_positive;
  requested_bounded = keeps.requested_bounded;
}

pub after_keeps : (s : Stream) → IsStream s → (k : ℕ) → IsStream (after s k)
after_keeps s keeps zero = keeps
after_keeps s keeps (suc k) = stream_by IsStream s (suc k) (omega arith) (λ c. keeps) (λ c. on_keeps s keeps (suc k))

-- ---- going by a and then by b

pub given_corked : (s : Stream) (k : ℕ) → s.corked ≡ true → given_of s k ≡ 0
given_corked s k c = cond-true s.corked 0 (queue_given s.queue k) c

pub given_open : (s : Stream) (k : ℕ) → s.corked ≡ false → given_of s k ≡ queue_given s.queue k
given_open s k c = cond-false s.corked 0 (queue_given s.queue k) c

pub given_none : (s : Stream) → given_of s 0 ≡ 0
given_none s = cond_both s.corked 0 (queue_given s.queue 0) (λ x. x ≡ 0) (λ e. refl) (λ e. queue_given_none s.queue)

none_more : (x y : ℕ) → x ≡ 0 → y ≡ x + y
none_more x y e = omega arith

pub given_adds : (s : Stream) → IsStream s → (a b : ℕ) → given_of s (a + b) ≡ given_of s a + given_of (after s a) b
given_adds s keeps zero b = let e : 0 + b ≡ b = omega arith in ap (given_of s) e ∙ none_more (given_of s 0) (given_of s b) (given_none s)
given_adds s keeps (suc a) b =
    stream_by (λ t. given_of s (suc a + b) ≡ given_of s (suc a) + given_of t b) s (suc a) (omega arith)
    (λ c. given_corked s (suc a + b) c ∙ (λ i. sym (given_corked s (suc a) c) i + sym (given_corked s b c) i))
    (λ c. given_open s (suc a + b) c ∙ queue_given_adds s.queue keeps.queue_holds (suc a) b
    ∙ (λ i. sym (given_open s (suc a) c) i + sym (given_open (stream_on s (suc a)) b c) i))

frame_corked : (s : Stream) (k : ℕ) → s.corked ≡ true → frame_at s k ≡ nothing
frame_corked s k c = cond-true s.corked nothing (queue_frame s.queue k) c

frame_open : (s : Stream) (k : ℕ) → s.corked ≡ false → frame_at s k ≡ queue_frame s.queue k
frame_open s k c = cond-false s.corked nothing (queue_frame s.queue k) c

pub frame_ahead : (s : Stream) → IsStream s → (a k : ℕ) → frame_at (after s a) k ≡ frame_at s (a + k)
frame_ahead s keeps zero k = let e : k ≡ 0 + k = omega arith in ap (frame_at s) e
frame_ahead s keeps (suc a) k =
    stream_by (λ t. frame_at t k ≡ frame_at s (suc a + k)) s (suc a) (omega arith)
    (λ c. frame_corked s k c ∙ sym (frame_corked s (suc a + k) c))
    (λ c. frame_open (stream_on s (suc a)) k c ∙ queue_frame_ahead s.queue keeps.queue_holds (suc a) k ∙ sym (frame_open s (suc a + k) c))

gave_all : (s : Stream) → IsStream s → (a b k : ℕ) → k < given_of (after s a) b → given_of s a ≡ a
gave_all s keeps zero b k l = given_none s
gave_all s keeps (suc a) b k l =
    stream_by (λ t. k < given_of t b → given_of s (suc a) ≡ suc a) s (suc a) (omega arith)
    (λ c m. let none : given_of s b ≡ 0 = given_corked s b c in absurd (omega arith))
    (λ c m. given_open s (suc a) c ∙ queue_gave_all s.queue keeps.queue_holds (suc a) b k (subst (λ n. k < n) (given_open (stream_on s (suc a)) b c) m))
    l

pub frames_join : (s : Stream) → IsStream s → (a b : ℕ) → frames_given s (a + b) ≡ frames_given s a ++ frames_given (after s a) b
frames_join s keeps a b =
    ap (λ n. map (frame_at s) (range_with_len 0 n)) (given_adds s keeps a b)
    ∙ join_range (frame_at s) (frame_at (after s a)) (given_of s a) (given_of (after s a) b)
    (λ k h. frame_ahead s keeps a k ∙ ap (λ n. frame_at s (n + k)) (sym (gave_all s keeps a b k h)))

-- the run, by whether the queue is short
runs_join : (r : Run) (q : Queue) → IsQueue q → (a b : ℕ) → 0 < a → 0 < b → run_after (run_after r (queue_given q a) a) (queue_given (queue_after q a) b) b ≡ run_after r (queue_given q (a + b)) (a + b)
runs_join r q keeps a b l m =
    ⊎_elim
    (λ (h : is_short q ≡ true).
    ap (λ n. run_after (run_after r n a) (queue_given (queue_after q a) b) b) (given_short q a h)
    ∙ ap (λ t. run_after (run_after r 0 a) (queue_given t b) b) (after_short q a h)
    ∙ ap (λ n. run_after (run_after r 0 a) n b) (given_short q b h)
    ∙ silence_adds r a b l m
    ∙ ap (λ n. run_after r n (a + b)) (sym (given_short q (a + b) h)))
    (λ (h : is_short q ≡ false).
    ap (λ n. run_after (run_after r n a) (queue_given (queue_after q a) b) b) (given_on q a h)
    ∙ ap (λ n. run_after (run_after r (min a (left_of q)) a) n b) (given_later q keeps a b h l)
    ∙ runs_add r (left_of q) a b l m
    ∙ ap (λ n. run_after r n (a + b)) (sym (given_on q (a + b) h)))
    (cases_Bool (is_short q))

pub after_adds : (s : Stream) → IsStream s → (a b : ℕ) → after (after s a) b ≡ after s (a + b)
after_adds s keeps zero b = let e : b ≡ 0 + b = omega arith in ap (after s) e
after_adds s keeps (suc a) zero = let e : suc a ≡ suc a + 0 = omega arith in ap (after s) e
after_adds s keeps (suc a) (suc b) =
    ⊎_elim
    (λ (c : s.corked ≡ true). ap (λ t. after t (suc b)) (after_corked s (suc a) c) ∙ after_corked s (suc b) c ∙ sym (after_corked s (suc a + suc b) c))
    (λ (c : s.corked ≡ false).
    ap (λ t. after t (suc b)) (after_open s (suc a) c (omega arith))
    ∙ after_open (stream_on s (suc a)) (suc b) c (omega arith)
    ∙ (λ i. record s {
      queue = queue_after_adds s.queue keeps.queue_holds (suc a) (suc b) i;
      run = runs_join s.run s.queue keeps.queue_holds (suc a) (suc b) (omega arith) (omega arith) i;
    })
    ∙ sym (after_open s (suc a + suc b) c (omega arith)))
    (cases_Bool s.corked)

-- What a stream keeps that can be mixed, from one state to another.
use Rattle.std.proofs.Common.{◌≡◌, ℕ, zero, suc, ◌<◌, List, length, refl, sym, subst, All, arith, w64, SFits}
use Rattle.px_model.specs.Frame.{SampleSpec}
use Rattle.px_model.specs.Orderly.{IsPlayable}
use Rattle.std.specs.Prelude.{ℤ}
use Rattle.std.proofs.lemmas.Bool.{cond_both}
use Rattle.std.proofs.lemmas.Int.{ints}
use Rattle.px_model.specs.Index.{IsIndex}
use Rattle.px_model.proofs.Streams.{after_keeps}
use Rattle.px_model.specs.Frame.{Frame}
use Rattle.px_model.specs.Queue.{Queue, is_short}
use Rattle.px_model.specs.Going.{queue_after, queue_on, ahead_of}
use Rattle.px_model.specs.Write.{Outcome, stored, overflow, outside, queue_with}
use Rattle.px_model.specs.Stream.{Stream, IsStream}
use Rattle.px_stream.specs.HeldStream.{IsMixable}

-- with the same spec, feed and factors
pub mixable_as : (s t : Stream) → IsMixable s → IsStream t → t.spec ≡ s.spec → t.feed ≡ s.feed → t.factors ≡ s.factors → IsMixable t
mixable_as s t h holds spec feed factors = record {
  holds = holds;
  playable = subst (λ x. IsPlayable x) (sym spec) h.playable;
  feed_fits = subst (λ (xs : List ℕ). All (λ channel. channel < t.spec.channels) xs) (sym feed)
      (subst (λ (x : SampleSpec). All (λ channel. channel < x.channels) s.feed) (sym spec) h.feed_fits);
  factors_fit = subst (λ (xs : List ℕ). length t.factors ≡ length xs) (sym feed) (subst (λ (xs : List ℕ). length xs ≡ length s.feed) (sym factors) h.factors_fit);
}

-- going forward and a write leave prebuf as it is
pub after_prebuf : (q : Queue) (k : ℕ) → Queue.prebuf (queue_after q k) ≡ q.prebuf
after_prebuf q zero = refl
after_prebuf q (suc k) = cond_both (is_short q) q (queue_on q (suc k)) (λ (x : Queue). x.prebuf ≡ q.prebuf) (λ e. refl) (λ e. refl)

pub written_prebuf : (o : Outcome) (q : Queue) (p : ℤ) (frames : List Frame) → Queue.prebuf (queue_with o q p frames) ≡ q.prebuf
written_prebuf stored q p frames = refl
written_prebuf overflow q p frames = refl
written_prebuf outside q p frames = refl

-- the ahead index is one, so it is a number of 64 bits
index_fits : (z : ℤ) → IsIndex z → SFits w64 z
index_fits z range = let low = range.0 in let high = range.1 in omega (arith, ints)

pub ahead_fits : (s : Stream) → IsStream s → (k : ℕ) → SFits w64 (ahead_of s k)
ahead_fits s keeps k = index_fits (ahead_of s k) (IsStream.queue_holds (after_keeps s keeps k)).read_in_range

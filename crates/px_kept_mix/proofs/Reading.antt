-- What is read of a stream is its share.
use Rattle.std.proofs.Common.{◌≡◌, ℕ, ◌+◌, ◌-◌, ◌*◌, ◌/◌, ◌^◌, ◌<◌, ◌≤◌, List, length, take, drop, get_or, Option, Some, None, Bool, true, false, cond, refl, ap, sym, ◌∙◌, arith, ⊎_elim, ℤ, pos, length-take}
use Rattle.std.proofs.Math.IntN.{zero-*ℤ}
use Rattle.std.specs.Prelude.{nat_lt, slice_index}
use Rattle.std.specs.Int.{int_div_euclid}
use Rattle.std.proofs.lemmas.Bool.{cases_lt, false≢true, cond-true, cond-false, lt-ltb, le-ltb}
use Rattle.std.proofs.lemmas.Bool.Decides.{nat_tests}
use Rattle.std.proofs.lemmas.List.{get_or-take, get_or_past}
use Rattle.px_kernel.specs.Kernel.{at}
use Rattle.px_mixcache.specs.Cache.{run_of, part_at}
use Rattle.px_sample.specs.declared.format.Format.{Format}
use Rattle.px_sample.specs.declared.format.Width.{Width}
use Rattle.px_sample.specs.declared.spec.Spec.{Spec}
use Rattle.px_sample.specs.Format.{width_of}
use Rattle.px_model.specs.Frame.{Frame, sample_of}
use Rattle.px_model.specs.Held.{place}
use Rattle.px_model.specs.Queue.{FrameAhead, nothing, silence, sound, sound_of, left_of, is_short}
use Rattle.px_model.specs.Stream.{Stream, frame_at}
use Rattle.px_model.specs.Mix.{scaled, share_of}
use Rattle.px_msg.specs.View.{sample_spec}
use Rattle.px_stream.specs.Samples.{samples, bit_width}
use Rattle.px_stream.specs.Values.{value_at, GivesValues}
use Rattle.px_stream.proofs.Reading.{is_some}
use Rattle.px_stream.proofs.Sounds.{format_known}
use Rattle.px_kept_mix.specs.Kept.{from_on, between}
use Rattle.px_kept_mix.specs.Keeping.{share_in}
use Rattle.px_kept_mix.proofs.Putting.{place_within, run_value, part_is}

-- ---- where no frame is given, none is given later

sound_some : (o : Option Frame) → sound_of o ≡ nothing → ⊥
sound_some None e = false≢true (sym (ap is_some e))
sound_some (Some f) e = false≢true (sym (ap is_some e))

inside : (k n : ℕ) (x y : FrameAhead) → k < n → cond (nat_lt k n) x y ≡ x
inside k n x y less = grind (arith, nat_tests)

outside : (k n : ℕ) (x y : FrameAhead) → n ≤ k → cond (nat_lt k n) x y ≡ y
outside k n x y past = grind (arith, nat_tests)

none_past : (corked short : Bool) (a b n : ℕ) (x y : FrameAhead) → (x ≡ nothing → ⊥) → a ≤ b
    → cond corked nothing (cond short nothing (cond (nat_lt a n) x nothing)) ≡ nothing
    → cond corked nothing (cond short nothing (cond (nat_lt b n) y nothing)) ≡ nothing
none_past true short a b n x y some far none = refl
none_past false true a b n x y some far none = refl
none_past false false a b n x y some far none =
    ⊎_elim
    (λ (less : b < n). absurd (some (sym (inside a n x nothing (omega (arith, less, far))) ∙ none)))
    (λ (past : n ≤ b). outside b n y nothing past)
    (cases_lt b n)

nothing_past : (s : Stream) (a b : ℕ) → frame_at s a ≡ nothing → a ≤ b → frame_at s b ≡ nothing
nothing_past s a b none far =
    none_past s.corked (is_short s.queue) a b (left_of s.queue) (sound_of (place s.queue.held a)) (sound_of (place s.queue.held b)) (sound_some (place s.queue.held a)) far none

-- behind the frames that are given there are none
pub none_behind : (width : Width) (s : Stream) (k n g : ℕ) (old new : List ℤ) → GivesValues width s k n g old new → k + n < 2 ^ 32
    → (j : ℕ) → g ≤ j → j < n → frame_at s (k + j) ≡ nothing
none_behind width s k n g old new gives near j past few =
    nothing_past s (k + g) (k + j) (gives.greatest (omega (arith, past, few)) (omega (arith, past, few, near))) (omega (arith, past))

-- whose value is 0
pub value_none : (width : Width) (s : Stream) (channel : ℕ) (a : FrameAhead) → a ≡ nothing → pos 0 ≡ value_at width s channel a
value_none width s channel a none = sym (ap (λ (b : FrameAhead). value_at width s channel b) none)

-- ---- its share

-- nothing and silence add nothing
scaled_zero : (factor : ℕ) → scaled (pos 0) factor ≡ pos 0
scaled_zero factor = ap (λ (z : ℤ). int_div_euclid z (pos 65536)) (zero-*ℤ (pos factor))

-- what it adds to a channel is its value there by its factor
share_is : (sink : Spec) (s : Stream) (c : ℕ) (a : FrameAhead)
    → scaled (value_at (width_of sink.format) s c a) (slice_index s.factors c) ≡ share_of samples (sample_spec sink) s c a
share_is sink s c nothing = scaled_zero (slice_index s.factors c)
share_is sink s c silence = scaled_zero (slice_index s.factors c)
share_is sink s c (sound frame) =
    ap (λ (g : Format). scaled (samples.to (samples.width s.spec.format) (bit_width (width_of g)) (samples.work s.spec.format (sample_of s.spec frame (slice_index s.feed c)))) (slice_index s.factors c))
    (sym (format_known sink.format))

-- two numbers that are the same from a place on
from_same : (from k : ℕ) (x y : ℤ) → (from ≤ k → x ≡ y) → from_on from k x ≡ from_on from k y
from_same from k x y same =
    ⊎_elim
    (λ (low : k < from). cond-true (nat_lt k from) (pos 0) x (lt-ltb k from low) ∙ sym (cond-true (nat_lt k from) (pos 0) y (lt-ltb k from low)))
    (λ (high : from ≤ k). cond-false (nat_lt k from) (pos 0) x (le-ltb k from high) ∙ same high ∙ sym (cond-false (nat_lt k from) (pos 0) y (le-ltb k from high)))
    (cases_lt k from)

pub from_high : (from k : ℕ) (x : ℤ) → from ≤ k → from_on from k x ≡ x
from_high from k x high = cond-false (nat_lt k from) (pos 0) x (le-ltb k from high)

-- a number between two places
pub inside_both : (from to k : ℕ) (x : ℤ) → from ≤ k → k < to → between from to k x ≡ x
inside_both from to k x high low = cond-true (nat_lt k to) (from_on from k x) (pos 0) (lt-ltb k to low) ∙ from_high from k x high

-- the values of the frames that are given, a run for each channel, are all that the stream adds up to a place
module _ (sink : Spec) (s : Stream) (width : Width) (same : width ≡ width_of sink.format) (from len given places : ℕ) (values : List ℤ) (factors : List ℕ) (gains : factors ≡ s.factors)
    (size : places ≡ length s.feed * given) (heard : (c j : ℕ) → c < length s.feed → j < given → get_or values (c * given + j) (pos 0) ≡ value_at width s c (frame_at s (from + j)))
    (end : (j : ℕ) → given ≤ j → j < len → frame_at s (from + j) ≡ nothing) where
  run_heard : (c j : ℕ) → c < length s.feed → j < len → at (run_of given (take places values) c) j ≡ value_at width s c (frame_at s (from + j))
  run_heard c j fed few =
      ⊎_elim
      (λ (there : j < given).
      run_value (take places values) c given j there
      ∙ get_or-take places values (c * given + j) (pos 0) (omega (arith, size, place_within c given (length s.feed) j fed there))
      ∙ heard c j fed there)
      (λ (past : given ≤ j).
      get_or_past (run_of given (take places values) c) j (pos 0) (omega (arith, past, length-take given (drop (c * given) (take places values))))
      ∙ value_none width s c (frame_at s (from + j)) (end j past few))
      (cases_lt j given)

  value_shared : (c k : ℕ) → c < length s.feed → from ≤ k → k < from + len → scaled (at (run_of given (take places values) c) (k - from)) (slice_index factors c) ≡ share_in sink s c k
  value_shared c k fed high less =
      let place : from + (k - from) ≡ k = omega (arith, high) in
      ap (λ (x : ℤ). scaled x (slice_index factors c)) (run_heard c (k - from) fed (omega (arith, high, less)))
      ∙ ap (λ (n : ℕ). scaled (value_at width s c (frame_at s n)) (slice_index factors c)) place
      ∙ ap (λ (w : Width). scaled (value_at w s c (frame_at s k)) (slice_index factors c)) same
      ∙ ap (λ (fs : List ℕ). scaled (value_at (width_of sink.format) s c (frame_at s k)) (slice_index fs c)) gains
      ∙ share_is sink s c (frame_at s k)

  part_shared : (c k : ℕ) → c < length s.feed → k < from + len → part_at from given (take places values) factors c k ≡ from_on from k (share_in sink s c k)
  part_shared c k fed less =
      part_is (take places values) factors from given c k
      ∙ from_same from k (scaled (at (run_of given (take places values) c) (k - from)) (slice_index factors c)) (share_in sink s c k) (λ high. value_shared c k fed high less)

  -- past the frames nothing is added
  part_past : (c k : ℕ) → given ≤ len → from + len ≤ k → part_at from given (take places values) factors c k ≡ pos 0
  part_past c k few past =
      part_is (take places values) factors from given c k
      ∙ from_high from k (scaled (at (run_of given (take places values) c) (k - from)) (slice_index factors c)) (omega (arith, past))
      ∙ ap (λ (x : ℤ). scaled x (slice_index factors c))
      (get_or_past (run_of given (take places values) c) (k - from) (pos 0) (omega (arith, few, past, length-take given (drop (c * given) (take places values)))))
      ∙ scaled_zero (slice_index factors c)

  part_between : (c k : ℕ) → given ≤ len → c < length s.feed → part_at from given (take places values) factors c k ≡ between from (from + len) k (share_in sink s c k)
  part_between c k few fed =
      ⊎_elim
      (λ (less : k < from + len).
      part_shared c k fed less ∙ sym (cond-true (nat_lt k (from + len)) (from_on from k (share_in sink s c k)) (pos 0) (lt-ltb k (from + len) less)))
      (λ (past : from + len ≤ k).
      part_past c k few past ∙ sym (cond-false (nat_lt k (from + len)) (from_on from k (share_in sink s c k)) (pos 0) (le-ltb k (from + len) past)))
      (cases_lt k (from + len))

  -- where as many of the first values as these runs have are that many for each
  pub part_taken : (runs : ℕ) → length (take places values) / runs ≡ given → given ≤ len
      → (c k : ℕ) → c < length s.feed → part_at from (length (take places values) / runs) (take places values) factors c k ≡ between from (from + len) k (share_in sink s c k)
  part_taken runs run few c k fed = ap (λ (n : ℕ). part_at from n (take places values) factors c k) run ∙ part_between c k few fed

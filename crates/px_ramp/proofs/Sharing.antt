-- A stream's share of one frame, by factors of its own.
use Rattle.std.proofs.Common.{◌≡◌, ℕ, ◌+◌, ◌-◌, ◌*◌, ◌/◌, ◌<◌, ◌≤◌, List, drop, length-take, get_or, refl, ap, sym, ◌∙◌, subst, arith, ℤ, ◌^◌, pos, ◌+ℤ◌}
use Rattle.std.specs.Prelude.{slice_index, nat_le}
use Rattle.std.specs.Int.{int_div_euclid}
use Rattle.std.proofs.lemmas.Int.{ints}
use Rattle.std.proofs.lemmas.Bool.{cond-true, cond-false, le-leb, lt-leb}
use Rattle.std.proofs.lemmas.List.{get_or_past}
use Rattle.std.proofs.Math.IntN.{zero-*ℤ}
use Rattle.px_sample.specs.declared.format.Format.{Format}
use Rattle.px_sample.specs.declared.format.Width.{Width}
use Rattle.px_sample.specs.declared.spec.Spec.{Spec}
use Rattle.px_sample.specs.Format.{width_of}
use Rattle.px_model.specs.Frame.{sample_of}
use Rattle.px_model.specs.Queue.{FrameAhead, nothing, silence, sound}
use Rattle.px_model.specs.Stream.{Stream, frame_at}
use Rattle.px_model.specs.Control.{with_factors}
use Rattle.px_model.specs.Mix.{scaled, share_of}
use Rattle.px_msg.specs.View.{sample_spec}
use Rattle.px_stream.specs.Samples.{samples, bit_width}
use Rattle.px_stream.specs.Values.{value_at, GivesValues}
use Rattle.px_stream.proofs.Sounds.{format_known}
use Rattle.px_stream.proofs.Runs.{run_is}
use Rattle.px_kernel.specs.Kernel.{at}
use Rattle.px_mixcache.specs.Cache.{part_at, run_of}
use Rattle.px_kept_mix.specs.Kept.{IsSumOf}
use Rattle.px_kept_mix.specs.Keeping.{share_in}
use Rattle.px_kept_mix.proofs.Putting.{run_value}

-- nothing and silence add nothing
scaled_zero : (factor : ℕ) → scaled (pos 0) factor ≡ pos 0
scaled_zero factor = ap (λ (z : ℤ). int_div_euclid z (pos 65536)) (zero-*ℤ (pos factor))

-- what a stream adds to a channel is its value there by its factor
share_is : (sink : Spec) (s : Stream) (c : ℕ) (a : FrameAhead)
    → scaled (value_at (width_of sink.format) s c a) (slice_index s.factors c) ≡ share_of samples (sample_spec sink) s c a
share_is sink s c nothing = scaled_zero (slice_index s.factors c)
share_is sink s c silence = scaled_zero (slice_index s.factors c)
share_is sink s c (sound frame) =
    ap (λ (g : Format). scaled (samples.to (samples.width s.spec.format) (bit_width (width_of g)) (samples.work s.spec.format (sample_of s.spec frame (slice_index s.feed c)))) (slice_index s.factors c))
    (sym (format_known sink.format))

-- where the stream has no frame
pub share_none : (sink : Spec) (s : Stream) (factors : List ℕ) (c k : ℕ) → frame_at s k ≡ nothing → share_in sink (with_factors s factors) c k ≡ pos 0
share_none sink s factors c k none = ap (λ (a : FrameAhead). share_of samples (sample_spec sink) (with_factors s factors) c a) none

pub not_given : (width : Width) (s : Stream) (k g : ℕ) (old new : List ℤ) → GivesValues width s k 1 g old new → g ≡ 0 → k + 1 < 2 ^ 32 → frame_at s k ≡ nothing
not_given width s k g old new gives none near =
    let here : k + g ≡ k = omega (arith, none) in
    subst (λ (n : ℕ). frame_at s n ≡ nothing) here (gives.greatest (omega (arith, none)) (omega (arith, none, near)))

pub none_added : (z x : ℤ) → x ≡ pos 0 → z ≡ z +ℤ x
none_added z x none = omega (arith, ints, none)

pub none_little : (x : ℤ) → x ≡ pos 0 → IsSumOf 1 x
none_little x none = record { low = omega (arith, ints, none); high = omega (arith, ints, none) }

-- one value for each channel
pub one_each : (total runs : ℕ) → 1 ≤ runs → total ≡ runs → total / runs ≡ 1
one_each total runs some same =
    let whole : total ≡ 1 * runs = omega (arith, same) in
    run_is total 1 runs (omega (arith, some)) whole

-- its factors are the stream's own
pub own_factors : (s : Stream) (factors : List ℕ) → factors ≡ s.factors → with_factors s factors ≡ s
own_factors s factors same = ap (λ (fs : List ℕ). with_factors s fs) same

-- one value of a channel adds to the sum of its frame alone
part_here : (values : List ℤ) (factors : List ℕ) (c k : ℕ) → part_at k 1 values factors c k ≡ scaled (at (run_of 1 values c) 0) (slice_index factors c)
part_here values factors c k =
    let none : k - k ≡ 0 = omega arith in
    cond-true (nat_le k k) (scaled (at (run_of 1 values c) (k - k)) (slice_index factors c)) (pos 0) (le-leb k k (omega arith))
    ∙ ap (λ (n : ℕ). scaled (at (run_of 1 values c) n) (slice_index factors c)) none

pub part_before : (values : List ℤ) (factors : List ℕ) (c from k : ℕ) → k < from → part_at from 1 values factors c k ≡ pos 0
part_before values factors c from k less = cond-false (nat_le from k) (scaled (at (run_of 1 values c) (k - from)) (slice_index factors c)) (pos 0) (lt-leb from k less)

pub part_after : (values : List ℤ) (factors : List ℕ) (c from k : ℕ) → from < k → part_at from 1 values factors c k ≡ pos 0
part_after values factors c from k past =
    cond-true (nat_le from k) (scaled (at (run_of 1 values c) (k - from)) (slice_index factors c)) (pos 0) (le-leb from k (omega (arith, past)))
    ∙ ap (λ (z : ℤ). scaled z (slice_index factors c)) (get_or_past (run_of 1 values c) (k - from) (pos 0) (omega (arith, past, length-take 1 (drop (c * 1) values))))
    ∙ scaled_zero (slice_index factors c)

-- the part that it puts is its share
pub part_is_share : (sink : Spec) (s : Stream) (width : Width) (values : List ℤ) (factors : List ℕ) (c k : ℕ) → width ≡ width_of sink.format
    → get_or values (c * 1 + 0) (pos 0) ≡ value_at width s c (frame_at s (k + 0))
    → part_at k 1 values factors c k ≡ share_in sink (with_factors s factors) c k
part_is_share sink s width values factors c k same heard =
    let here : k + 0 ≡ k = omega arith in
    part_here values factors c k
    ∙ ap (λ (x : ℤ). scaled x (slice_index factors c)) (run_value values c 1 0 (omega arith) ∙ heard)
    ∙ ap (λ (n : ℕ). scaled (value_at width s c (frame_at s n)) (slice_index factors c)) here
    ∙ ap (λ (w : Width). scaled (value_at w s c (frame_at s k)) (slice_index factors c)) same
    ∙ again (frame_at s k)
    ∙ share_is sink (with_factors s factors) c (frame_at s k)
  where
    again : (a : FrameAhead) → scaled (value_at (width_of sink.format) s c a) (slice_index factors c) ≡ scaled (value_at (width_of sink.format) (with_factors s factors) c a) (slice_index factors c)
    again nothing = refl
    again silence = refl
    again (sound frame) = refl

-- A sink of which the frames past those that stay are mixed.
use Rattle.std.proofs.Common.{◌≡◌, ℕ, ◌+◌, ◌-◌, ◌*◌, ◌≤◌, List, ◌++◌, Bool, map, length, take, drop, refl, subst, ap, sym, ◌∙◌, arith, append_assoc, length-take}
use Rattle.std.proofs.Math.Nat.{mul-le-mul_right}
use Rattle.std.specs.List.{concat, range_with_len}
use Rattle.std.proofs.lemmas.List.{take-take, take-append-le}
use Rattle.std.proofs.lemmas.List.FromFn.{length-map-range_with_len}
use Rattle.px_sample.specs.declared.spec.Spec.{Spec}
use Rattle.px_sample.specs.Format.{frame_size_of, IsLinear}
use Rattle.px_msg.specs.View.{sample_spec}
use Rattle.px_model.specs.Frame.{Frame, frames_of}
use Rattle.px_model.specs.Sink.{Sink, Input, streams_of}
use Rattle.px_model.specs.Mix.{mix_of}
use Rattle.px_model.specs.Turn.{remixed, fresh_mix}
use Rattle.px_lane.specs.Mixing.{Counts, AreInOrder, sink_of}
use Rattle.px_lane.specs.Unaltered.{IsUnaltered, IsResumed}
use Rattle.px_stream.specs.Samples.{samples}
use Rattle.px_lane.proofs.Buffers.{frames_renewed, frames_replaced, length_frames}
use Rattle.px_lane.proofs.Runs.{range_parts}
use Rattle.px_lane.proofs.Shares.{mixes_sized}
use Rattle.px_lane.proofs.Staying.{unaltered_front, remixed_stays, renewed_stays}

-- the front of what is taken and what comes behind it
same_front : (k : ℕ) (old more : List Frame) → k ≤ length old → take k (take k old ++ more) ≡ take k old
same_front k old more fit = take-append-le k (take k old) more (omega (arith, length-take k old, fit)) ∙ take-take k k old (omega arith)

module _ (spec : Spec) (linear : IsLinear spec.format) (counts : Counts) (order : AreInOrder counts) (stopped : Bool) (old : List ℕ) (inputs : List Input) (n : ℕ)
    (full : length old ≡ counts.depth * frame_size_of spec) (stays : IsUnaltered n (sink_of spec counts stopped old inputs)) where
  abbrev before : Sink
  before = sink_of spec counts stopped old inputs

  abbrev below : ℕ
  below = counts.horizon - counts.consumed

  abbrev more : ℕ
  more = counts.depth - (below + n)

  abbrev mix : ℕ → Frame
  mix = mix_of samples (sample_spec spec) (streams_of inputs)

  long : length before.buffer ≡ counts.filled - counts.consumed
  long = length_frames (frame_size_of spec) (counts.filled - counts.consumed) old

  joined : (zero_on : 0 + n ≡ n) (all : n + more ≡ counts.consumed + counts.depth - counts.horizon) → map mix (range_with_len 0 n) ++ map mix (range_with_len n more) ≡ map mix (range_with_len 0 (counts.consumed + counts.depth - counts.horizon))
  joined zero_on all =
      ap (λ (a : ℕ). map mix (range_with_len 0 n) ++ map mix (range_with_len a more)) (sym zero_on)
      ∙ sym (range_parts mix 0 n more)
      ∙ ap (λ (m : ℕ). map mix (range_with_len 0 m)) all

  pub remixed_is : (new : List ℕ) → new ≡ take ((below + n) * frame_size_of spec) old ++ concat (map mix (range_with_len n more))
      → sink_of spec (record counts { filled = counts.consumed + counts.depth }) stopped new inputs ≡ remixed samples before
  remixed_is new made =
      let size = frame_size_of spec in
      let count : length (map mix (range_with_len n more)) ≡ more = length-map-range_with_len mix n more in
      let all : (below + n) + more ≡ counts.consumed + counts.depth - counts.consumed = omega (arith, order.consumed_first, order.horizon_first, order.filled_bounded, stays.within) in
      let few : below + n ≤ counts.depth = omega (arith, order.consumed_first, order.horizon_first, order.filled_bounded, stays.within) in
      let was : (below + n) + (counts.filled - counts.horizon - n) ≡ counts.filled - counts.consumed = omega (arith, order.consumed_first, order.horizon_first, stays.within) in
      ap (λ (b : List Frame). let s : Sink = record (remixed samples before) { buffer = b } in s)
      (ap (λ (m : ℕ). frames_of (frame_size_of spec) m new) (sym (ap (λ (m : ℕ). (below + n) + m) count ∙ all))
      ∙ frames_renewed (frame_size_of spec) (below + n) (counts.filled - counts.horizon - n) old new (map mix (range_with_len n more)) made
      (omega (arith, full, mul-le-mul_right (frame_size_of spec) few)) (mixes_sized spec linear (streams_of inputs) n more)
      ∙ ap (λ (m : ℕ). take (below + n) (frames_of (frame_size_of spec) m old) ++ map mix (range_with_len n more)) was
      ∙ ap (λ (fs : List Frame). fs ++ map mix (range_with_len n more)) (unaltered_front before n order.consumed_first long stays)
      ∙ append_assoc (take below before.buffer) (map mix (range_with_len 0 n)) (map mix (range_with_len n more))
      ∙ ap (λ (fs : List Frame). take below before.buffer ++ fs) (joined (omega arith) (omega (arith, order.consumed_first, order.horizon_first, order.filled_bounded, stays.within))))

  pub front_stays : (new : List ℕ) → new ≡ take ((below + n) * frame_size_of spec) old ++ concat (map mix (range_with_len n more))
      → take (below + n) (Sink.buffer (sink_of spec (record counts { filled = counts.consumed + counts.depth }) stopped new inputs)) ≡ take (below + n) before.buffer
  front_stays new made =
      let size = frame_size_of spec in
      let few : below + n ≤ counts.depth = omega (arith, order.consumed_first, order.horizon_first, order.filled_bounded, stays.within) in
      let count : length (map mix (range_with_len n more)) ≡ more = length-map-range_with_len mix n more in
      let all : (below + n) + more ≡ counts.consumed + counts.depth - counts.consumed = omega (arith, order.consumed_first, order.horizon_first, order.filled_bounded, stays.within) in
      let was : (below + n) + (counts.filled - counts.horizon - n) ≡ counts.filled - counts.consumed = omega (arith, order.consumed_first, order.horizon_first, stays.within) in
      ap (take (below + n))
      (ap (λ (m : ℕ). frames_of (frame_size_of spec) m new) (sym (ap (λ (m : ℕ). (below + n) + m) count ∙ all))
      ∙ frames_renewed (frame_size_of spec) (below + n) (counts.filled - counts.horizon - n) old new (map mix (range_with_len n more)) made
      (omega (arith, full, mul-le-mul_right (frame_size_of spec) few)) (mixes_sized spec linear (streams_of inputs) n more)
      ∙ ap (λ (m : ℕ). take (below + n) (frames_of (frame_size_of spec) m old) ++ map mix (range_with_len n more)) was)
      ∙ same_front (below + n) before.buffer (map mix (range_with_len n more)) (omega (arith, long, order.consumed_first, order.horizon_first, stays.within))

  pub all_stays : IsUnaltered (counts.depth - below) (remixed samples before)
  all_stays = remixed_stays before order.consumed_first order.horizon_first order.filled_bounded long

-- the altered frames are packed, up to where the sink resumes
module _ (spec : Spec) (linear : IsLinear spec.format) (counts : Counts) (order : AreInOrder counts) (stopped : Bool) (old new : List ℕ) (inputs : List Input) (n end to : ℕ)
    (full : length old ≡ counts.depth * frame_size_of spec) (low : n ≤ end) (high : to ≤ end) (within : end ≤ counts.filled - counts.horizon)
    (made : new ≡ take (((counts.horizon - counts.consumed) + n) * frame_size_of spec) old
    ++ (concat (map (mix_of samples (sample_spec spec) (streams_of inputs)) (range_with_len n (end - n))) ++ drop (((counts.horizon - counts.consumed) + end) * frame_size_of spec) old)) where
  abbrev was : Sink
  was = sink_of spec counts stopped old inputs

  abbrev at : ℕ
  at = (counts.horizon - counts.consumed) + n

  abbrev fresh : List Frame
  fresh = map (mix_of samples (sample_spec spec) (streams_of inputs)) (range_with_len n (end - n))

  abbrev rest : ℕ
  rest = counts.filled - counts.horizon - end

  count : length fresh ≡ end - n
  count = length-map-range_with_len (mix_of samples (sample_spec spec) (streams_of inputs)) n (end - n)

  placed : new ≡ take (at * frame_size_of spec) old ++ (concat fresh ++ drop ((at + length fresh) * frame_size_of spec) old)
  placed =
      let last : (counts.horizon - counts.consumed) + end ≡ at + length fresh = omega (arith, count, low) in
      made ∙ ap (λ (m : ℕ). take (at * frame_size_of spec) old ++ (concat fresh ++ drop (m * frame_size_of spec) old)) last

  pub renewed_buffer : frames_of (frame_size_of spec) (counts.filled - counts.consumed) new ≡ take at was.buffer ++ (fresh ++ drop (at + length fresh) was.buffer)
  renewed_buffer =
      let few : at ≤ counts.depth = omega (arith, order.consumed_first, order.horizon_first, order.filled_bounded, low, within) in
      let all : at + (length fresh + rest) ≡ counts.filled - counts.consumed = omega (arith, count, order.consumed_first, order.horizon_first, low, within) in
      subst (λ (m : ℕ). frames_of (frame_size_of spec) m new ≡ take at (frames_of (frame_size_of spec) m old) ++ (fresh ++ drop (at + length fresh) (frames_of (frame_size_of spec) m old))) all
      (frames_replaced (frame_size_of spec) at rest old new fresh placed (omega (arith, full, mul-le-mul_right (frame_size_of spec) few)) (mixes_sized spec linear (streams_of inputs) n (end - n)))

  pub renewed_unaltered : IsUnaltered n was → IsResumed to was → IsUnaltered (counts.filled - counts.horizon) (sink_of spec counts stopped new inputs)
  renewed_unaltered stays again =
      subst (λ (b : List Frame). let s : Sink = record was { buffer = b } in IsUnaltered (counts.filled - counts.horizon) s) (sym renewed_buffer)
      (renewed_stays was n end to fresh order.consumed_first (length_frames (frame_size_of spec) (counts.filled - counts.consumed) old) low high within refl stays again)

  pub renewed_front : take at (frames_of (frame_size_of spec) (counts.filled - counts.consumed) new) ≡ take at was.buffer
  renewed_front =
      ap (λ (b : List Frame). take at b) renewed_buffer
      ∙ same_front at was.buffer (fresh ++ drop (at + length fresh) was.buffer)
      (omega (arith, length_frames (frame_size_of spec) (counts.filled - counts.consumed) old, order.consumed_first, order.horizon_first, low, within))

-- ---- both

pub shorter : (a b : ℕ) (xs ys : List Frame) → a ≤ b → take b xs ≡ take b ys → take a xs ≡ take a ys
shorter a b xs ys few same = sym (take-take a b xs few) ∙ ap (λ (zs : List Frame). take a zs) same ∙ take-take a b ys few

-- another buffer with the same front is mixed to the same
pub remixed_by_front : (sink : Sink) (n : ℕ) (buffer : List Frame) → take ((sink.horizon - sink.consumed) + n) buffer ≡ take ((sink.horizon - sink.consumed) + n) sink.buffer
    → remixed samples (record sink { buffer = buffer }) ≡ remixed samples sink
remixed_by_front sink n buffer same =
    ap (λ (front : List Frame). let s : Sink = record (remixed samples sink) { buffer = front ++ fresh_mix samples sink (sink.consumed + sink.depth - sink.horizon) } in s)
    (shorter (sink.horizon - sink.consumed) ((sink.horizon - sink.consumed) + n) buffer sink.buffer (omega arith) same)

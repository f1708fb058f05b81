-- What a ramped turn puts to a device fits it, and ties it to the sink again.
use Rattle.std.proofs.Common.{◌≡◌, ℕ, zero, suc, ◌+◌, ◌-◌, ◌*◌, ◌/◌, ◌^◌, ◌≤◌, List, [], ◌∷◌, ◌++◌, length, map, take, drop, Option, Some, None, refl, ap, sym, ◌∙◌, subst, arith, length-drop, length-take}
use Rattle.std.proofs.Math.Nat.{mul-div_cancel}
use Rattle.std.specs.List.{concat, range_with_len}
use Rattle.std.proofs.lemmas.List.{take-append-drop, take-append-le, take-take}
use Rattle.std.proofs.lemmas.List.Folds.{concat-append}
use Rattle.px_ends.specs.Visible.{WhereVisible}
use Rattle.px_ends.specs.Device.{DeviceState, IsPut, put_at, put_from, frames_in}
use Rattle.px_model.specs.Frame.{Frame, frame_size}
use Rattle.px_model.specs.Stream.{Stream}
use Rattle.px_model.specs.Message.{Message}
use Rattle.px_model.specs.Sink.{Sink, IsSink}
use Rattle.px_model.specs.Turn.{next_horizon, settled, turned}
use Rattle.px_stream.specs.Samples.{samples}
use Rattle.px_lane.specs.Whole.{AreFramesOf}
use Rattle.px_lane.specs.Lane.{IsLane, IsAttached}
use Rattle.px_lane.proofs.Attached.{length_concat, concat_taken}
use Rattle.px_ramp.specs.Ramp.{ramps_with_all}
use Rattle.px_ramp.specs.RampMix.{RampSink, ramp_mixed, ramp_turned}

past_whole : (size n : ℕ) (frames : List Frame) → AreFramesOf size frames → AreFramesOf size (drop n frames)
past_whole size zero frames all = all
past_whole size (suc n) [] all = all
past_whole size (suc n) (f ∷ frames) all = past_whole size n frames all.1

-- what is kept and what is put after it
visible_stays : (size k : ℕ) (old new : List Frame) → AreFramesOf size old → take k new ≡ take k old → (o : Option (List ℕ)) → WhereVisible o (λ bytes. bytes ≡ concat old)
    → WhereVisible (put_from (k * size) (concat (drop k new)) o) (λ bytes. bytes ≡ concat new)
visible_stays size k old new are same None h = tt
visible_stays size k old new are same (Some bytes) h =
    ap (λ (xs : List ℕ). xs ++ concat (drop k new))
    (ap (take (k * size)) h ∙ concat_taken size k old are ∙ ap concat (sym same))
    ∙ sym (concat-append (take k new) (drop k new))
    ∙ ap concat (take-append-drop k new)

put_fits : (d : DeviceState) (sink : Sink) (n size : ℕ) (new : List Frame) → size ≡ frame_size sink.spec → IsSink sink → sink.depth ≤ 65536 → 1 ≤ size
    → n ≤ sink.filled - sink.consumed → sink.filled ≤ 2 ^ 60 → AreFramesOf size new → length new ≡ sink.depth → IsAttached d (settled sink n)
    → IsPut d (next_horizon sink n) (concat (drop (next_horizon sink n - (sink.consumed + n)) new))
    × (next_horizon sink n + frames_in d (concat (drop (next_horizon sink n - (sink.consumed + n)) new)) ≡ sink.consumed + n + sink.depth)
put_fits d sink n size new width keeps low some there few are full at =
    let k : ℕ = next_horizon sink n - (sink.consumed + n) in
    let frame : d.frame ≡ size = at.frame ∙ sym width in
    let long : length (concat (drop k new)) ≡ length (drop k new) * size = length_concat size (drop k new) (past_whole size k new are) in
    let count : length (concat (drop k new)) / d.frame ≡ length (drop k new) =
    ap (λ (x : ℕ). x / d.frame) long ∙ ap (λ (f : ℕ). length (drop k new) * size / f) frame ∙ mul-div_cancel (length (drop k new)) some in
    let left = length-drop k new in
    let first : sink.consumed ≤ sink.filled = omega (arith, keeps.consumed_first, keeps.horizon_first) in
    let end : next_horizon sink n + length (concat (drop k new)) / d.frame ≡ sink.consumed + n + sink.depth =
    omega (arith, count, left, full, first, there, keeps.filled_bounded) in (
      record {
        whole = long ∙ sym (ap (λ (x : ℕ). x * d.frame) count ∙ ap (λ (f : ℕ). length (drop k new) * f) frame);
        not_near = omega (arith, at.filled, at.consumed, at.guard);
        no_gap = omega (arith, at.filled, first, there);
        fit = omega (arith, end, at.consumed, at.depth);
        countable = omega (arith, end, there, first, few, low);
      },
      end,
    )

-- frames are put after those that stay, and the device has the ramped sink's buffer then
pub put_there : (d : DeviceState) (rs : RampSink) (r n : ℕ) (messages : List (Message Stream)) → IsLane rs.sink → IsLane (RampSink.sink (ramp_turned samples r rs n messages))
    → n ≤ rs.sink.filled - rs.sink.consumed → rs.sink.filled ≤ 2 ^ 60 → IsAttached d (settled rs.sink n)
    → IsPut d (next_horizon rs.sink n) (concat (drop (next_horizon rs.sink n - (rs.sink.consumed + n)) (ramp_turned samples r rs n messages).sink.buffer))
    × IsAttached (put_at (next_horizon rs.sink n) (concat (drop (next_horizon rs.sink n - (rs.sink.consumed + n)) (ramp_turned samples r rs n messages).sink.buffer)) d) (ramp_turned samples r rs n messages).sink
put_there d rs r n messages lane after there few at =
    let k : ℕ = next_horizon rs.sink n - (rs.sink.consumed + n) in
    let new : List Frame = (ramp_turned samples r rs n messages).sink.buffer in
    let fresh : List Frame = map (ramp_mixed samples r (ramps_with_all r (next_horizon rs.sink n) messages rs.ramps) (turned samples rs.sink n messages)) (range_with_len 0 (rs.sink.consumed + n + rs.sink.depth - next_horizon rs.sink n)) in
    let first : rs.sink.consumed ≤ rs.sink.filled = omega (arith, lane.holds.consumed_first, lane.holds.horizon_first) in
    let full : length new ≡ rs.sink.depth = IsSink.buffer_full after.holds ∙ omega arith in
    let held : k ≤ length (drop n rs.sink.buffer) = omega (arith, length-drop n rs.sink.buffer, lane.holds.buffer_full, lane.holds.consumed_first, lane.holds.horizon_first, there) in
    let same : take k new ≡ take k (drop n rs.sink.buffer) =
    take-append-le k (take k (drop n rs.sink.buffer)) fresh (omega (arith, length-take k (drop n rs.sink.buffer), held)) ∙ take-take k k (drop n rs.sink.buffer) (omega arith) in
    let place : next_horizon rs.sink n - d.consumed ≡ k = omega (arith, at.consumed) in
    let fits = put_fits d rs.sink n (frame_size rs.sink.spec) new refl lane.holds lane.low_depth lane.some_bytes there few after.whole full at in (
      fits.0,
      record {
        frame = at.frame;
        guard = at.guard;
        depth = at.depth;
        consumed = at.consumed;
        filled = fits.1;
        buffer = subst (λ (c : ℕ). WhereVisible (put_from (c * d.frame) (concat (drop k new)) d.buffer) (λ bytes. bytes ≡ concat new)) (sym place)
            (subst (λ (w : ℕ). WhereVisible (put_from (k * w) (concat (drop k new)) d.buffer) (λ bytes. bytes ≡ concat new)) (sym at.frame)
            (visible_stays (frame_size rs.sink.spec) k (drop n rs.sink.buffer) new (past_whole (frame_size rs.sink.spec) n rs.sink.buffer lane.whole) same d.buffer at.buffer));
      },
    )

-- Frames that stay what the mix of their streams is.
use Rattle.std.proofs.Common.{◌≡◌, ℕ, ◌+◌, ◌-◌, ◌<◌, ◌≤◌, List, ◌++◌, map, length, take, drop, ⊎_elim, Some, refl, ap, sym, ◌∙◌, arith, length-take, length-drop}
use Rattle.std.specs.Prelude.{slice_get}
use Rattle.std.specs.List.{range_with_len, AllByRecursion}
use Rattle.std.proofs.lemmas.Bool.{cases_lt}
use Rattle.std.proofs.Math.Seq.{take-add}
use Rattle.std.proofs.lemmas.List.FromFn.{length-map-range_with_len}
use Rattle.px_model.specs.Frame.{Frame}
use Rattle.px_model.specs.Mix.{mix_of}
use Rattle.px_model.specs.Sink.{Sink, Input, IsStreamOf, streams_of}
use Rattle.px_model.specs.Turn.{next_horizon, settled, remixed, fresh_mix}
use Rattle.px_model.proofs.Places.{get-drop, get-take, get_left, get_right, get-range, same_gets}
use Rattle.px_stream.specs.Samples.{samples}
use Rattle.px_lane.specs.Unaltered.{MixesSame, MixesSameFrom, IsUnaltered, IsResumed}
use Rattle.px_lane.proofs.Sounding.{mix_gone}

pub none_stays : (sink : Sink) → IsUnaltered 0 sink
none_stays sink = record { within = omega arith; mixed = λ k l. absurd (omega (arith, l)) }

-- the sink goes forward
pub settled_stays : (sink : Sink) (n m : ℕ) → sink.consumed ≤ sink.horizon → sink.horizon ≤ sink.filled → sink.horizon ≤ sink.consumed + sink.guard → m ≤ sink.filled - sink.consumed
    → AllByRecursion (λ x. IsStreamOf sink.spec (Input.stream x)) sink.inputs → IsUnaltered n sink → IsUnaltered (n - (next_horizon sink m - sink.horizon)) (settled sink m)
settled_stays sink n m first second near there streams h = record {
  within = omega (arith, first, second, near, there, h.within);
  mixed = λ k l.
      let d : ℕ = next_horizon sink m - sink.horizon in
      get-drop m sink.buffer ((next_horizon sink m - (sink.consumed + m)) + k) ((sink.horizon - sink.consumed) + ((next_horizon sink m - sink.horizon) + k)) (omega (arith, first, second, near, there))
      ∙ h.mixed ((next_horizon sink m - sink.horizon) + k) (omega (arith, l))
      ∙ ap (λ (f : Frame). Some f) (sym (mix_gone sink.spec (next_horizon sink m - sink.horizon) k sink.inputs streams));
}

-- its streams change, and mix fewer frames as before
pub unaltered_stays : (sink : Sink) (n j i : ℕ) (inputs : List Input) → IsUnaltered n sink → MixesSame sink.spec j sink.inputs inputs → i ≤ n → i ≤ j → IsUnaltered i (record sink { inputs = inputs })
unaltered_stays sink n j i inputs h same few fewer = record {
  within = omega (arith, h.within, few);
  mixed = λ k l. h.mixed k (omega (arith, l, few)) ∙ ap (λ (f : Frame). Some f) (sym (same k (omega (arith, l, fewer))));
}

-- and from a frame on as before
pub resumed_stays : (sink : Sink) (n to : ℕ) (inputs : List Input) → IsUnaltered n sink → n ≡ sink.filled - sink.horizon → MixesSameFrom sink.spec to n sink.inputs inputs → IsResumed to (record sink { inputs = inputs })
resumed_stays sink n to inputs h all same k past less =
    h.mixed k (omega (arith, all, less)) ∙ ap (λ (f : Frame). Some f) (sym (same k past (omega (arith, all, less))))

-- the altered frames are mixed again, up to where it resumes
pub renewed_stays : (sink : Sink) (n end to : ℕ) (fresh : List Frame) → sink.consumed ≤ sink.horizon → length sink.buffer ≡ sink.filled - sink.consumed → n ≤ end → to ≤ end → end ≤ sink.filled - sink.horizon
    → fresh ≡ map (mix_of samples sink.spec (streams_of sink.inputs)) (range_with_len n (end - n)) → IsUnaltered n sink → IsResumed to sink
    → IsUnaltered (sink.filled - sink.horizon) (record sink {
      buffer = take ((sink.horizon - sink.consumed) + n) sink.buffer ++ (fresh ++ drop ((sink.horizon - sink.consumed) + n + length fresh) sink.buffer);
    })
renewed_stays sink n end to fresh first full low high inside made h again = record {
  within = omega arith;
  mixed = λ k l.
      let below : ℕ = sink.horizon - sink.consumed in
      let a : ℕ = (sink.horizon - sink.consumed) + n in
      let rest : List Frame = drop ((sink.horizon - sink.consumed) + n + length fresh) sink.buffer in
      let long : length (take ((sink.horizon - sink.consumed) + n) sink.buffer) ≡ (sink.horizon - sink.consumed) + n = omega (arith, length-take ((sink.horizon - sink.consumed) + n) sink.buffer, full, first, h.within) in
      let count : length fresh ≡ end - n = ap (λ (fs : List Frame). length fs) made ∙ length-map-range_with_len (mix_of samples sink.spec (streams_of sink.inputs)) n (end - n) in
      ⊎_elim
      (λ (front : k < n).
      get_left (take ((sink.horizon - sink.consumed) + n) sink.buffer) (fresh ++ rest) ((sink.horizon - sink.consumed) + k) (omega (arith, long, front))
      ∙ get-take ((sink.horizon - sink.consumed) + n) sink.buffer ((sink.horizon - sink.consumed) + k) (omega (arith, front))
      ∙ h.mixed k front)
      (λ (later : n ≤ k).
      get_right (take ((sink.horizon - sink.consumed) + n) sink.buffer) (fresh ++ rest) (k - n) ((sink.horizon - sink.consumed) + k) (omega (arith, long, later))
      ∙ ⊎_elim
      (λ (among : k < end).
      get_left fresh rest (k - n) (omega (arith, count, among, later))
      ∙ ap (λ (fs : List Frame). slice_get fs (k - n)) made
      ∙ get-range (mix_of samples sink.spec (streams_of sink.inputs)) n (end - n) (k - n) k (omega (arith, among, later)) (omega (arith, later)))
      (λ (past : end ≤ k).
      get_right fresh rest (k - end) (k - n) (omega (arith, count, past, low))
      ∙ get-drop ((sink.horizon - sink.consumed) + n + length fresh) sink.buffer (k - end) ((sink.horizon - sink.consumed) + k) (omega (arith, count, past, low))
      ∙ again k (omega (arith, past, high)) l)
      (cases_lt k end))
      (cases_lt k n);
}

-- ---- mixing

-- what stays is the front of the mix
pub unaltered_front : (sink : Sink) (n : ℕ) → sink.consumed ≤ sink.horizon → length sink.buffer ≡ sink.filled - sink.consumed → IsUnaltered n sink
    → take ((sink.horizon - sink.consumed) + n) sink.buffer ≡ take (sink.horizon - sink.consumed) sink.buffer ++ fresh_mix samples sink n
unaltered_front sink n first full h =
    let below : ℕ = sink.horizon - sink.consumed in
    let mix : ℕ → Frame = mix_of samples sink.spec (streams_of sink.inputs) in
    take-add (sink.horizon - sink.consumed) n sink.buffer
    ∙ ap (λ (fs : List Frame). take (sink.horizon - sink.consumed) sink.buffer ++ fs)
    (same_gets (take n (drop (sink.horizon - sink.consumed) sink.buffer)) (map (mix_of samples sink.spec (streams_of sink.inputs)) (range_with_len 0 n))
    (omega (
      arith,
      length-take n (drop (sink.horizon - sink.consumed) sink.buffer),
      length-drop (sink.horizon - sink.consumed) sink.buffer,
      full,
      first,
      h.within,
      length-map-range_with_len (mix_of samples sink.spec (streams_of sink.inputs)) 0 n,
    ))
    (λ k l.
    let inside : k < n = omega (arith, l, length-take n (drop (sink.horizon - sink.consumed) sink.buffer)) in
    get-take n (drop (sink.horizon - sink.consumed) sink.buffer) k inside
    ∙ get-drop (sink.horizon - sink.consumed) sink.buffer k ((sink.horizon - sink.consumed) + k) refl
    ∙ h.mixed k inside
    ∙ sym (get-range (mix_of samples sink.spec (streams_of sink.inputs)) 0 n k k inside (omega arith))))

pub remixed_stays : (sink : Sink) → sink.consumed ≤ sink.horizon → sink.horizon ≤ sink.filled → sink.filled ≤ sink.consumed + sink.depth → length sink.buffer ≡ sink.filled - sink.consumed
    → IsUnaltered (sink.depth - (sink.horizon - sink.consumed)) (remixed samples sink)
remixed_stays sink first second bounded full = record {
  within = omega (arith, first, second, bounded);
  mixed = λ k l.
      let fresh : List Frame = fresh_mix samples sink (sink.consumed + sink.depth - sink.horizon) in
      get_right (take (sink.horizon - sink.consumed) sink.buffer) fresh k ((sink.horizon - sink.consumed) + k) (omega (arith, length-take (sink.horizon - sink.consumed) sink.buffer, full, first, second))
      ∙ get-range (mix_of samples sink.spec (streams_of sink.inputs)) 0 (sink.consumed + sink.depth - sink.horizon) k k (omega (arith, l, first, second, bounded)) (omega arith);
}

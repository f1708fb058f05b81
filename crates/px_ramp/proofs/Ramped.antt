-- Ramps at their start and past their end, and ramped turns beside plain ones.
use Rattle.std.proofs.Common.{◌≡◌, ℕ, zero, suc, ◌+◌, ◌-◌, ◌*◌, ◌/◌, ◌<◌, ◌≤◌, min, List, [], ◌∷◌, ◌++◌, map, take, drop, refl, ap, sym, ◌∙◌, arith, pos, ◌+ℤ◌, ◌-ℤ◌, ⊎_elim}
use Rattle.std.specs.Prelude.{◌*ℤ◌, unsigned_abs}
use Rattle.std.specs.Int.{int_div_euclid}
use Rattle.std.specs.List.{range_with_len, AllByRecursion}
use Rattle.std.proofs.lemmas.Bool.{cases_lt}
use Rattle.std.proofs.Math.Nat.{zero-div, mul-add-div_right, div-eq_of_lt, mul-zero, zero-mul}
use Rattle.px_model.specs.Frame.{Frame}
use Rattle.px_model.specs.Stream.{Stream}
use Rattle.px_model.specs.Message.{Message}
use Rattle.px_model.specs.Mix.{Samples, mix_of}
use Rattle.px_model.specs.Sink.{Sink, Input, streams_of}
use Rattle.px_model.specs.Turn.{next_horizon, settled, with_messages, turned}
use Rattle.px_model.proofs.Rounds.{mix_asked}
use Rattle.px_ramp.specs.declared.ramp.Ramp.{Ramp}
use Rattle.px_ramp.specs.declared.ramps.InputRamps.{InputRamps}
use Rattle.px_ramp.specs.Ramp.{value_at, flat, ramps_with_all}
use Rattle.px_ramp.specs.RampMix.{RampSink, ramped_inputs, ramp_mixed, ramp_turned, StandAt}
use Rattle.px_ramp.proofs.Between.{risen, fallen}

abbrev value_of : ℕ → ℕ → ℕ → ℕ → ℕ
value_of from to w n = unsigned_abs (pos from +ℤ int_div_euclid ((pos to -ℤ pos from) *ℤ pos w) (pos n))

-- none of the way
start_of : (from to n : ℕ) → 1 ≤ n → value_of from to 0 n ≡ from
start_of from to n some =
    ⊎_elim
    (λ (down : to < from).
    let none : (from - to) * 0 + (n - 1) ≡ n - 1 = omega (arith, mul-zero (from - to)) in
    let small : (n - 1) / n ≡ 0 = div-eq_of_lt (omega (arith, some)) in
    let same : from - 0 ≡ from = omega arith in
    sym (fallen from to 0 n down some (omega arith)) ∙ ap (λ (x : ℕ). from - x / n) none ∙ ap (λ (x : ℕ). from - x) small ∙ same)
    (λ (up : from ≤ to).
    let none : (to - from) * 0 + 0 ≡ 0 = omega (arith, mul-zero (to - from)) in
    let same : from + 0 ≡ from = omega arith in
    sym (risen from to 0 n up) ∙ ap (λ (x : ℕ). from + x / n) none ∙ ap (λ (x : ℕ). from + x) (zero-div n) ∙ same)
    (cases_lt to from)

-- all of it
end_of : (from to n : ℕ) → 1 ≤ n → value_of from to n n ≡ to
end_of from to n some =
    ⊎_elim
    (λ (down : to < from).
    let small : (n - 1) / n ≡ 0 = div-eq_of_lt (omega (arith, some)) in
    let whole : ((from - to) * n + (n - 1)) / n ≡ (from - to) + (n - 1) / n = mul-add-div_right some (from - to) (n - 1) in
    let same : from - ((from - to) + 0) ≡ to = omega (arith, down) in
    sym (fallen from to n n down some (omega arith)) ∙ ap (λ (x : ℕ). from - x) (whole ∙ ap (λ (x : ℕ). (from - to) + x) small) ∙ same)
    (λ (up : from ≤ to).
    let whole : ((to - from) * n + 0) / n ≡ (to - from) + 0 / n = mul-add-div_right some (to - from) 0 in
    let same : from + ((to - from) + 0) ≡ to = omega (arith, up) in
    sym (risen from to n n up) ∙ ap (λ (x : ℕ). from + x) (whole ∙ ap (λ (x : ℕ). (to - from) + x) (zero-div n)) ∙ same)
    (cases_lt to from)

pub ramp_starts : (n : ℕ) (r : Ramp) → 1 ≤ n → value_at n r r.start ≡ r.from
ramp_starts n r some =
    let none : min (r.start - r.start) n ≡ 0 = omega arith in
    ap (λ (w : ℕ). value_of r.from r.to w n) none ∙ start_of r.from r.to n some

pub ramp_ends : (n : ℕ) (r : Ramp) (j : ℕ) → 1 ≤ n → r.start + n ≤ j → value_at n r j ≡ r.to
ramp_ends n r j some past =
    let all : min (j - r.start) n ≡ n = omega (arith, past) in
    ap (λ (w : ℕ). value_of r.from r.to w n) all ∙ end_of r.from r.to n some

-- no way to go
stays_at : (n f w : ℕ) → value_of f f w n ≡ f
stays_at n f w =
    let whole : f + 0 ≡ f = omega arith in
    sym (risen f f w n (omega arith)) ∙ ap (λ (x : ℕ). f + x / n) (none w) ∙ ap (λ (x : ℕ). f + x) (zero-div n) ∙ whole
  where
    same : f - f ≡ 0
    same = omega arith

    nothing : (m : ℕ) → 0 * m + 0 ≡ 0
    nothing m = omega (arith, zero-mul m)

    none : (m : ℕ) → (f - f) * m + 0 ≡ 0
    none m = ap (λ (d : ℕ). d * m + 0) same ∙ nothing m

pub ramp_stays : (n : ℕ) (r : Ramp) (j : ℕ) → r.from ≡ r.to → value_at n r j ≡ r.to
ramp_stays n r j same = ap (λ (x : ℕ). value_of x r.to (min (j - r.start) n) n) same ∙ stays_at n r.to (min (j - r.start) n)

-- a factor that stays
pub flat_stays : (n f j : ℕ) → value_at n (flat f) j ≡ f
flat_stays n f j = stays_at n f (min (j - 0) n)

-- ---- turns

pub inputs_stand : (n f : ℕ) (ramps : List InputRamps) (inputs : List Input) → AllByRecursion (StandAt n f ramps) inputs → ramped_inputs n f ramps inputs ≡ inputs
inputs_stand n f ramps [] h = refl
inputs_stand n f ramps (x ∷ inputs) h = λ i. record { index = x.index; stream = h.0 i } ∷ inputs_stand n f ramps inputs h.1 i

pub map_same : (f g : ℕ → Frame) (a n : ℕ) → ((k : ℕ) → a ≤ k → k < a + n → f k ≡ g k) → map f (range_with_len a n) ≡ map g (range_with_len a n)
map_same f g a zero same = refl
map_same f g a (suc n) same = λ i. same a (omega arith) (omega arith) i ∷ map_same f g (a + 1) n (λ k high less. same k (omega (arith, high)) (omega (arith, less))) i

-- where all ramps stand, a turn is the plain one
pub turn_stands : (samples : Samples) (n : ℕ) (rs : RampSink) (k : ℕ) (messages : List (Message Stream))
    → ((j : ℕ) → j < (turned samples rs.sink k messages).filled - (turned samples rs.sink k messages).horizon
    → AllByRecursion (StandAt n ((turned samples rs.sink k messages).horizon + j) (ramp_turned samples n rs k messages).ramps) (turned samples rs.sink k messages).inputs)
    → (ramp_turned samples n rs k messages).sink ≡ turned samples rs.sink k messages
turn_stands samples n rs k messages h =
    let t : Sink = turned samples rs.sink k messages in
    let ramps : List InputRamps = ramps_with_all n (next_horizon rs.sink k) messages rs.ramps in
    ap (λ (frames : List Frame). record (turned samples rs.sink k messages) { buffer = take (next_horizon rs.sink k - (rs.sink.consumed + k)) (drop k rs.sink.buffer) ++ frames })
    (map_same (ramp_mixed samples n ramps t) (mix_of samples rs.sink.spec (streams_of (with_messages (settled rs.sink k) messages).inputs)) 0 (rs.sink.consumed + k + rs.sink.depth - next_horizon rs.sink k)
    (λ j high less.
    ap (λ (inputs : List Input). mix_of samples rs.sink.spec (streams_of inputs) j) (inputs_stand n (next_horizon rs.sink k + j) ramps t.inputs (h j (omega (arith, less))))
    ∙ mix_asked samples rs.sink.spec (rs.sink.consumed + k + rs.sink.depth - next_horizon rs.sink k) j (with_messages (settled rs.sink k) messages).inputs))

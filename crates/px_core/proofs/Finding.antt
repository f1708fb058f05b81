-- An input found by halves, in inputs of rising index.
use Rattle.std.proofs.Common.{◌≡◌, ℕ, zero, suc, ◌<◌, ◌≤◌, List, [], ◌∷◌, length, Bool, true, false, Option, Some, None, refl, ap, sym, ◌∙◌, arith, nat_eq}
use Rattle.std.specs.Prelude.{slice_index_or, ◌&&◌, if◌then◌else◌}
use Rattle.std.specs.List.Sorted.{IsNonDecreasingBy}
use Rattle.std.proofs.lemmas.Bool.{ne_eqb}
use Rattle.px_types.specs.declared.ids.InputId.{InputId}
use Rattle.px_types.specs.declared.ids.SinkId.{SinkId}
use Rattle.px_outcome.specs.declared.input.Input.{Input}
use Rattle.px_core.specs.Consistency.{AllAbove, IsRising}
use Rattle.px_core.specs.Places.{AreBelow}
use Rattle.px_core.specs.Notice.{is_on, input_on}

above_at : (j k : ℕ) (inputs : List Input) (d : Input) → AllAbove j inputs → k < length inputs → j < (Input.index (slice_index_or inputs k d)).0
above_at j k [] d h few = absurd (omega (arith, few))
above_at j zero (x ∷ inputs) d h few = h.0
above_at j (suc k) (x ∷ inputs) d h few = above_at j k inputs d h.1 (omega (arith, few))

-- indices that rise don't fall
pub rising_by : (inputs : List Input) → IsRising inputs → IsNonDecreasingBy (λ x. (Input.index x).0) inputs
rising_by [] rising i j d l few = absurd (omega (arith, few))
rising_by (x ∷ inputs) rising zero zero d l few = omega arith
rising_by (x ∷ inputs) rising zero (suc j) d l few = omega (arith, above_at x.index.0 j inputs d rising.0 (omega (arith, few)))
rising_by (x ∷ inputs) rising (suc i) zero d l few = absurd (omega (arith, l))
rising_by (x ∷ inputs) rising (suc i) (suc j) d l few = rising_by inputs rising.1 i j d (omega (arith, l)) (omega (arith, few))

-- the first k lie below i, where each does
pub each_below : (i k : ℕ) (inputs : List Input) → k ≤ length inputs → ((j : ℕ) (d : Input) → j < k → (Input.index (slice_index_or inputs j d)).0 < i) → AreBelow i k inputs
each_below i zero inputs few each = tt
each_below i (suc k) [] few each = absurd (omega (arith, few))
each_below i (suc k) (x ∷ inputs) few each = (each 0 x (omega arith), each_below i k inputs (omega (arith, few)) (λ j d l. each (suc j) d (omega (arith, l))))

-- ---- what is found

-- another index is another input
other_index : (sink : SinkId) (index : InputId) (x : Input) → (x.index.0 ≡ index.0 → ⊥) → is_on sink index x ≡ false
other_index sink index x other = ap (λ (b : Bool). b && nat_eq x.sink.0 sink.0) (ne_eqb x.index.0 index.0 other)

next_found : (sink : SinkId) (index : InputId) (x : Input) (inputs : List Input) → is_on sink index x ≡ false → input_on (x ∷ inputs) sink index ≡ input_on inputs sink index
next_found sink index x inputs e = ap (λ (b : Bool). if b then Some x else input_on inputs sink index) e

none_above : (sink : SinkId) (index : InputId) (inputs : List Input) → AllAbove index.0 inputs → input_on inputs sink index ≡ None
none_above sink index [] h = refl
none_above sink index (x ∷ inputs) h = next_found sink index x inputs (other_index sink index x (λ e. omega (arith, e, h.0))) ∙ none_above sink index inputs h.1

above_more : (i j : ℕ) (xs : List Input) → i ≤ j → AllAbove j xs → AllAbove i xs
above_more i j [] l h = tt
above_more i j (x ∷ xs) l h = (omega (arith, l, h.0), above_more i j xs l h.1)

-- behind those that lie below nothing is found at the end
pub none_at_end : (sink : SinkId) (index : InputId) (k : ℕ) (inputs : List Input) → AreBelow index.0 k inputs → length inputs ≤ k → input_on inputs sink index ≡ None
none_at_end sink index zero [] h few = refl
none_at_end sink index zero (x ∷ inputs) h few = absurd (omega (arith, few))
none_at_end sink index (suc k) [] h few = refl
none_at_end sink index (suc k) (x ∷ inputs) h few =
    next_found sink index x inputs (other_index sink index x (λ e. omega (arith, e, h.0))) ∙ none_at_end sink index k inputs h.1 (omega (arith, few))

-- and else the one that stands there, where it is on the sink
found_there : (sink : SinkId) (index : InputId) (k : ℕ) (inputs : List Input) (d : Input) → IsRising inputs → AreBelow index.0 k inputs → k < length inputs
    → index.0 ≤ (Input.index (slice_index_or inputs k d)).0 → input_on inputs sink index ≡ (if is_on sink index (slice_index_or inputs k d) then Some (slice_index_or inputs k d) else None)
found_there sink index k [] d rising h few l = absurd (omega (arith, few))
found_there sink index zero (x ∷ inputs) d rising h few l =
    ap (λ (o : Option Input). if is_on sink index x then Some x else o) (none_above sink index inputs (above_more index.0 x.index.0 inputs l rising.0))
found_there sink index (suc k) (x ∷ inputs) d rising h few l =
    next_found sink index x inputs (other_index sink index x (λ e. omega (arith, e, h.0))) ∙ found_there sink index k inputs d rising.1 h.1 (omega (arith, few)) l

-- by whether it is
by_place : (sink : SinkId) (index : InputId) (k : ℕ) (inputs : List Input) (x : Input) (b : Bool) → IsRising inputs → AreBelow index.0 k inputs → k < length inputs
    → index.0 ≤ (Input.index (slice_index_or inputs k x)).0 → x ≡ slice_index_or inputs k x → is_on sink index x ≡ b → (if b then Some x else None) ≡ input_on inputs sink index
by_place sink index k inputs x b rising below few l is on = sym (
    found_there sink index k inputs x rising below few l
    ∙ ap (λ (y : Input). if is_on sink index y then Some y else None) (sym is)
    ∙ ap (λ (c : Bool). if c then Some x else None) on)

pub is_found : (sink : SinkId) (index : InputId) (k : ℕ) (inputs : List Input) (x : Input) → IsRising inputs → AreBelow index.0 k inputs → k < length inputs
    → index.0 ≤ (Input.index (slice_index_or inputs k x)).0 → x ≡ slice_index_or inputs k x → is_on sink index x ≡ true → Some x ≡ input_on inputs sink index
is_found sink index k inputs x rising below few l is on = by_place sink index k inputs x true rising below few l is on

pub is_none : (sink : SinkId) (index : InputId) (k : ℕ) (inputs : List Input) (x : Input) → IsRising inputs → AreBelow index.0 k inputs → k < length inputs
    → index.0 ≤ (Input.index (slice_index_or inputs k x)).0 → x ≡ slice_index_or inputs k x → is_on sink index x ≡ false → None ≡ input_on inputs sink index
is_none sink index k inputs x rising below few l is on = by_place sink index k inputs x false rising below few l is on

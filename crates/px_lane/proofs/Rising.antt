-- Inputs stay in rising index.
use Rattle.std.proofs.Common.{◌≡◌, ℕ, ◌+◌, ◌<◌, List, [], ◌∷◌, map, length, drop, ap, sym, ◌∙◌}
use Rattle.std.specs.Prelude.{⊤, slice_index_or}
use Rattle.std.specs.List.{AllByRecursion}
use Rattle.std.proofs.lemmas.List.{drop_more}
use Rattle.px_model.specs.Stream.{Stream}
use Rattle.px_model.specs.Control.{with_factors}
use Rattle.px_model.specs.Sink.{Input as Stands, IsRising, with_input, without_input, with_stream, with_change}
use Rattle.px_model.specs.Turn.{with_each_factors}
use Rattle.px_model.proofs.Inputs.{AreInputs, each_keeps, change_keeps, without_keeps, with_keeps}
use Rattle.px_msg.specs.declared.factors.InputFactors.{InputFactors}
use Rattle.px_msg.specs.View.{gains}

true_of_all : (xs : List Stands) → AllByRecursion (λ x. ⊤) xs
true_of_all [] = tt
true_of_all (x ∷ xs) = (tt, true_of_all xs)

are_inputs : (xs : List Stands) → IsRising xs → AreInputs (λ s. ⊤) xs
are_inputs xs h = record { rising = h; streams = true_of_all xs }

pub rising_each : (f : Stream → Stream) (xs : List Stands) → IsRising xs → IsRising (map (with_stream f) xs)
rising_each f xs h = AreInputs.rising (each_keeps (λ s. ⊤) f (λ s t. t) xs (are_inputs xs h))

pub rising_change : (i : ℕ) (f : Stream → Stream) (xs : List Stands) → IsRising xs → IsRising (with_change i f xs)
rising_change i f xs h = AreInputs.rising (change_keeps (λ s. ⊤) i f (λ s t. t) xs (are_inputs xs h))

pub rising_without : (i : ℕ) (xs : List Stands) → IsRising xs → IsRising (without_input i xs)
rising_without i xs h = AreInputs.rising (without_keeps (λ s. ⊤) i xs (are_inputs xs h))

pub rising_with : (i : ℕ) (s : Stream) (xs : List Stands) → IsRising xs → IsRising (with_input i s xs)
rising_with i s xs h = AreInputs.rising (with_keeps (λ t. ⊤) i s xs tt (are_inputs xs h))

pub rising_factors : (each : List InputFactors) (xs : List Stands) → IsRising xs → IsRising (with_each_factors (map gains each) xs)
rising_factors [] xs h = h
rising_factors (f ∷ each) xs h =
    rising_factors each (with_change f.input.0 (λ s. with_factors s f.factors) xs) (rising_change f.input.0 (λ s. with_factors s f.factors) xs h)

-- the factors of one input more
pub each_more : (each : List InputFactors) (i : ℕ) (f : InputFactors) (xs ys : List Stands) → i < length each → f ≡ slice_index_or each i f
    → ys ≡ with_change f.input.0 (λ s. with_factors s f.factors) xs
    → with_each_factors (map gains (drop (i + 1) each)) ys ≡ with_each_factors (map gains (drop i each)) xs
each_more each i f xs ys l is e =
    ap (with_each_factors (map gains (drop (i + 1) each))) e
    ∙ sym (ap (λ (fs : List InputFactors). with_each_factors (map gains fs) xs) (drop_more each i f l ∙ ap (λ (g : InputFactors). g ∷ drop (i + 1) each) (sym is)))

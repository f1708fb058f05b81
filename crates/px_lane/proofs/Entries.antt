-- Factors set to the inputs that a message names.
use Rattle.std.proofs.Common.{◌≡◌, ℕ, zero, suc, ◌+◌, ◌<◌, List, [], ◌∷◌, map, length, drop, ◌≤◌, Bool, true, false, cond, Option, Some, refl, ap, sym, ◌∙◌, subst, arith, ⊎_elim, true≢false}
use Rattle.std.specs.Prelude.{not, ◌||◌, ◌==◌, bytes_eq, slice_index_or}
use Rattle.std.specs.List.{list_any}
use Rattle.std.proofs.lemmas.Bool.{cases_Bool, cond-true, cond-false, eqb-true}
use Rattle.std.proofs.lemmas.Bool.Decides.{nat_tests}
use Rattle.std.proofs.lemmas.List.{drop_more}
use Rattle.std.proofs.lemmas.Slice.Eq.{bytes_eq-Decides}
use Rattle.px_model.specs.Stream.{Stream}
use Rattle.px_model.specs.Control.{with_factors}
use Rattle.px_model.specs.Message.{InputFactors as Gains}
use Rattle.px_model.specs.Sink.{Input as Stands, IsRising, AllAbove, stream_at, with_stream, with_change}
use Rattle.px_model.specs.Turn.{with_each_factors}
use Rattle.px_msg.specs.declared.factors.InputFactors.{InputFactors}
use Rattle.px_msg.specs.View.{gains}
use Rattle.px_lane.specs.Costs.{has_others, others_at, is_named, count_others}

-- an entry for an index among the entries of the code
pub named_is : (i : ℕ) (each : List InputFactors) → list_any (λ f. (InputFactors.input f).0 == i) each ≡ is_named i (map gains each)
named_is i [] = refl
named_is i (f ∷ each) = ap (λ (b : Bool). f.input.0 == i || b) (named_is i each)

-- ---- the same factors

above_stay : (i : ℕ) (f : Stream → Stream) (xs : List Stands) → AllAbove i xs → with_change i f xs ≡ xs
above_stay i f [] h = refl
above_stay i f (x ∷ xs) h = λ k. cond-false (x.index == i) (with_stream f x) x (other x.index i h.0) k ∷ above_stay i f xs h.1 k
  where
    other : (a b : ℕ) → b < a → (a == b) ≡ false
    other a b l = grind (arith, nat_tests)

same_factors : (factors : List ℕ) (s : Stream) → has_others factors (Some s) ≡ false → with_factors s factors ≡ s
same_factors factors s h = ap (λ (fs : List ℕ). record s { factors = fs }) ((bytes_eq-Decides factors s.factors).0 (even (bytes_eq factors s.factors) h))
  where
    even : (b : Bool) → not b ≡ false → b ≡ true
    even true e = refl
    even false e = sym e

-- where the stream of an index has these factors, or isn't there, nothing changes
pub factors_stay : (factors : List ℕ) (i : ℕ) (xs : List Stands) → IsRising xs → has_others factors (stream_at i xs) ≡ false → with_change i (λ s. with_factors s factors) xs ≡ xs
factors_stay factors i [] rising h = refl
factors_stay factors i (x ∷ xs) rising h =
    ⊎_elim
    (λ (yes : (x.index == i) ≡ true). λ k.
    (cond-true (x.index == i) (with_stream (λ s. with_factors s factors) x) x yes
    ∙ ap (λ (s : Stream). record x { stream = s }) (same_factors factors x.stream (ap (has_others factors) (sym (cond-true (x.index == i) (Some x.stream) (stream_at i xs) yes)) ∙ h))) k
    ∷ above_stay i (λ s. with_factors s factors) xs (subst (λ (j : ℕ). AllAbove j xs) (eqb-true x.index i yes) rising.0) k)
    (λ (no : (x.index == i) ≡ false). λ k.
    cond-false (x.index == i) (with_stream (λ s. with_factors s factors) x) x no k
    ∷ factors_stay factors i xs rising.1 (ap (has_others factors) (sym (cond-false (x.index == i) (Some x.stream) (stream_at i xs) no)) ∙ h) k)
    (cases_Bool (x.index == i))

-- ---- entries for one index

-- of two the later decides
twice : (i : ℕ) (before factors : List ℕ) (xs : List Stands) → with_change i (λ s. with_factors s factors) (with_change i (λ s. with_factors s before) xs) ≡ with_change i (λ s. with_factors s factors) xs
twice i before factors [] = refl
twice i before factors (x ∷ xs) = λ k. one (x.index == i) refl k ∷ twice i before factors xs k
  where
    one : (b : Bool) → (x.index == i) ≡ b
        → cond (Stands.index (cond b (with_stream (λ s. with_factors s before) x) x) == i) (with_stream (λ s. with_factors s factors) (cond b (with_stream (λ s. with_factors s before) x) x)) (cond b (with_stream (λ s. with_factors s before) x) x)
        ≡ cond b (with_stream (λ s. with_factors s factors) x) x
    one true e = cond-true (x.index == i) (with_stream (λ s. with_factors s factors) x) (with_stream (λ s. with_factors s before) x) e
    one false e = cond-false (x.index == i) (with_stream (λ s. with_factors s factors) x) x e

-- two for two indices don't meet
swapped : (i j : ℕ) (first second : List ℕ) (xs : List Stands) → (j == i) ≡ false
    → with_change j (λ s. with_factors s second) (with_change i (λ s. with_factors s first) xs) ≡ with_change i (λ s. with_factors s first) (with_change j (λ s. with_factors s second) xs)
swapped i j first second [] other = refl
swapped i j first second (x ∷ xs) other = λ k. one (x.index == i) (x.index == j) refl refl k ∷ swapped i j first second xs other k
  where
    f : Stands → Stands
    f = with_stream (λ s. with_factors s first)

    g : Stands → Stands
    g = with_stream (λ s. with_factors s second)

    never : (x.index == i) ≡ true → (x.index == j) ≡ true → (j == i) ≡ true
    never e d = ap (λ (n : ℕ). n == i) (sym (eqb-true x.index j d)) ∙ e

    one : (a b : Bool) → (x.index == i) ≡ a → (x.index == j) ≡ b
        → cond (Stands.index (cond a (with_stream (λ s. with_factors s first) x) x) == j) (with_stream (λ s. with_factors s second) (cond a (with_stream (λ s. with_factors s first) x) x)) (cond a (with_stream (λ s. with_factors s first) x) x)
        ≡ cond (Stands.index (cond b (with_stream (λ s. with_factors s second) x) x) == i) (with_stream (λ s. with_factors s first) (cond b (with_stream (λ s. with_factors s second) x) x)) (cond b (with_stream (λ s. with_factors s second) x) x)
    one true true e d = absurd (true≢false (sym (never e d) ∙ other))
    one true false e d =
        cond-false (x.index == j) (with_stream (λ s. with_factors s second) (with_stream (λ s. with_factors s first) x)) (with_stream (λ s. with_factors s first) x) d
        ∙ sym (cond-true (x.index == i) (with_stream (λ s. with_factors s first) x) x e)
    one false true e d =
        cond-true (x.index == j) (with_stream (λ s. with_factors s second) x) x d
        ∙ sym (cond-false (x.index == i) (with_stream (λ s. with_factors s first) (with_stream (λ s. with_factors s second) x)) (with_stream (λ s. with_factors s second) x) e)
    one false false e d =
        cond-false (x.index == j) (with_stream (λ s. with_factors s second) x) x d
        ∙ sym (cond-false (x.index == i) (with_stream (λ s. with_factors s first) x) x e)

-- an entry before another for its input does nothing
pub named_over : (i : ℕ) (factors : List ℕ) (rest : List Gains) (xs : List Stands) → is_named i rest ≡ true
    → with_each_factors rest (with_change i (λ s. with_factors s factors) xs) ≡ with_each_factors rest xs
named_over i factors [] xs h = absurd (true≢false (sym h))
named_over i factors (g ∷ rest) xs h =
    ⊎_elim
    (λ (yes : (g.input == i) ≡ true).
    ap (with_each_factors rest)
    (subst (λ (j : ℕ). with_change j (λ s. with_factors s g.factors) (with_change i (λ s. with_factors s factors) xs) ≡ with_change j (λ s. with_factors s g.factors) xs) (sym (eqb-true g.input i yes))
    (twice i factors g.factors xs)))
    (λ (no : (g.input == i) ≡ false).
    ap (with_each_factors rest) (swapped i g.input factors g.factors xs no)
    ∙ named_over i factors rest (with_change g.input (λ s. with_factors s g.factors) xs) (ap (λ (b : Bool). b || is_named i rest) (sym no) ∙ h))
    (cases_Bool (g.input == i))

-- ---- how many get others

-- the stream of another index
other_stream : (i j : ℕ) (f : Stream → Stream) (xs : List Stands) → (j == i) ≡ false → stream_at j (with_change i f xs) ≡ stream_at j xs
other_stream i j f [] other = refl
other_stream i j f (x ∷ xs) other =
    ⊎_elim
    (λ (yes : (x.index == i) ≡ true).
    ap (λ (y : Stands). cond (y.index == j) (Some y.stream) (stream_at j (with_change i f xs))) (cond-true (x.index == i) (with_stream f x) x yes)
    ∙ cond-false (x.index == j) (Some (f x.stream)) (stream_at j (with_change i f xs)) (apart yes)
    ∙ other_stream i j f xs other
    ∙ sym (cond-false (x.index == j) (Some x.stream) (stream_at j xs) (apart yes)))
    (λ (no : (x.index == i) ≡ false).
    ap (λ (y : Stands). cond (y.index == j) (Some y.stream) (stream_at j (with_change i f xs))) (cond-false (x.index == i) (with_stream f x) x no)
    ∙ ap (λ (o : Option Stream). cond (x.index == j) (Some x.stream) o) (other_stream i j f xs other))
    (cases_Bool (x.index == i))
  where
    swap : (a b c : ℕ) → (a == b) ≡ true → (c == b) ≡ false → (a == c) ≡ false
    swap a b c e d = grind (arith, nat_tests)

    apart : (x.index == i) ≡ true → (x.index == j) ≡ false
    apart here = swap x.index i j here other

-- those that entries behind count, where none of them names this input
pub count_past : (i : ℕ) (factors : List ℕ) (rest : List Gains) (xs : List Stands) → is_named i rest ≡ false → count_others rest (with_change i (λ s. with_factors s factors) xs) ≡ count_others rest xs
count_past i factors [] xs h = refl
count_past i factors (g ∷ rest) xs h =
    ap (λ (o : Option Stream). cond (is_named g.input rest) 0 (others_at g.factors o) + count_others rest (with_change i (λ s. with_factors s factors) xs)) (other_stream i g.input (λ s. with_factors s factors) xs (here (g.input == i) (is_named i rest) h))
    ∙ ap (λ (n : ℕ). cond (is_named g.input rest) 0 (others_at g.factors (stream_at g.input xs)) + n) (count_past i factors rest xs (behind (g.input == i) (is_named i rest) h))
  where
    here : (a b : Bool) → (a || b) ≡ false → a ≡ false
    here true b e = e
    here false b e = refl

    behind : (a b : Bool) → (a || b) ≡ false → b ≡ false
    behind true b e = absurd (true≢false e)
    behind false b e = e

-- ---- entry by entry

pub no_more : (each : List InputFactors) (i : ℕ) (xs : List Stands) → length each ≤ i → count_others (map gains (drop i each)) xs ≡ 0
no_more [] zero xs l = refl
no_more [] (suc i) xs l = refl
no_more (f ∷ each) zero xs l = absurd (omega (arith, l))
no_more (f ∷ each) (suc i) xs l = no_more each i xs (omega (arith, l))

pub entry_more : (each : List InputFactors) (i : ℕ) (f : InputFactors) (xs : List Stands) → i < length each → f ≡ slice_index_or each i f
    → with_each_factors (gains f ∷ map gains (drop (i + 1) each)) xs ≡ with_each_factors (map gains (drop i each)) xs
entry_more each i f xs l is = sym (ap (λ (fs : List InputFactors). with_each_factors (map gains fs) xs) (drop_more each i f l ∙ ap (λ (g : InputFactors). g ∷ drop (i + 1) each) (sym is)))

pub count_more : (each : List InputFactors) (i : ℕ) (f : InputFactors) (xs : List Stands) → i < length each → f ≡ slice_index_or each i f
    → count_others (gains f ∷ map gains (drop (i + 1) each)) xs ≡ count_others (map gains (drop i each)) xs
count_more each i f xs l is = sym (ap (λ (fs : List InputFactors). count_others (map gains fs) xs) (drop_more each i f l ∙ ap (λ (g : InputFactors). g ∷ drop (i + 1) each) (sym is)))

-- Loops over ramps, place by place.
use Rattle.std.proofs.Common.{◌≡◌, ℕ, zero, suc, ◌+◌, ◌<◌, List, [], ◌∷◌, ◌++◌, length, map, take, get_or, slice_set, refl, ap, sym, ◌∙◌, arith}
use Rattle.std.proofs.lemmas.List.{take_more, take_more_set, map-append}
use Rattle.px_ramp.specs.declared.ramp.Ramp.{Ramp}
use Rattle.px_ramp.specs.Ramp.{aimed, all_aimed}

-- a list that is filled from another, one place on
pub filled_more : {X Y : Type 0} (f : X → Y) (xs : List X) (ys : List Y) (i : ℕ) (d : X) (y : Y) → i < length xs → i < length ys → take i ys ≡ map f (take i xs) → y ≡ f (get_or xs i d)
    → take (i + 1) (slice_set ys i y) ≡ map f (take (i + 1) xs)
filled_more f xs ys i d y here room so made =
    take_more_set ys i y room
    ∙ (λ j. so j ++ (made j ∷ []))
    ∙ sym (map-append f (take i xs) (get_or xs i d ∷ []))
    ∙ ap (map f) (sym (take_more xs i d here))

-- one more ramp is aimed
aimed_next : (n h : ℕ) (factors : List ℕ) (ramps : List Ramp) (i e : ℕ) (d : Ramp) → i < length factors → i < length ramps
    → slice_set (all_aimed n h (take i factors) ramps) i (aimed n h (get_or factors i e) (get_or (all_aimed n h (take i factors) ramps) i d)) ≡ all_aimed n h (take (suc i) factors) ramps
aimed_next n h [] ramps i e d a b = absurd (omega (arith, a))
aimed_next n h (f ∷ factors) [] i e d a b = absurd (omega (arith, b))
aimed_next n h (f ∷ factors) (r ∷ ramps) zero e d a b = refl
aimed_next n h (f ∷ factors) (r ∷ ramps) (suc i) e d a b = λ j. aimed n h f r ∷ aimed_next n h factors ramps i e d (omega (arith, a)) (omega (arith, b)) j

pub aimed_more : (n h : ℕ) (factors : List ℕ) (ramps now : List Ramp) (i e : ℕ) (d : Ramp) → i < length factors → i < length ramps → now ≡ all_aimed n h (take i factors) ramps
    → slice_set now i (aimed n h (get_or factors i e) (get_or now i d)) ≡ all_aimed n h (take (i + 1) factors) ramps
aimed_more n h factors ramps now i e d a b so =
    let next : suc i ≡ i + 1 = omega arith in
    ap (λ (rs : List Ramp). slice_set rs i (aimed n h (get_or factors i e) (get_or rs i d))) so
    ∙ aimed_next n h factors ramps i e d a b
    ∙ ap (λ (k : ℕ). all_aimed n h (take k factors) ramps) next

pub aimed_length : (n h : ℕ) (factors : List ℕ) (ramps : List Ramp) → length (all_aimed n h factors ramps) ≡ length ramps
aimed_length n h [] ramps = refl
aimed_length n h (f ∷ factors) [] = refl
aimed_length n h (f ∷ factors) (r ∷ ramps) = ap suc (aimed_length n h factors ramps)

-- all factors, or all ramps
pub aimed_all : (n h : ℕ) (factors : List ℕ) (ramps : List Ramp) (i : ℕ) → (i < length factors → i < length ramps → ⊥) → all_aimed n h (take i factors) ramps ≡ all_aimed n h factors ramps
aimed_all n h [] ramps zero end = refl
aimed_all n h [] ramps (suc i) end = refl
aimed_all n h (f ∷ factors) [] zero end = refl
aimed_all n h (f ∷ factors) [] (suc i) end = refl
aimed_all n h (f ∷ factors) (r ∷ ramps) zero end = absurd (end (omega arith) (omega arith))
aimed_all n h (f ∷ factors) (r ∷ ramps) (suc i) end = λ j. aimed n h f r ∷ aimed_all n h factors ramps i (λ a b. end (omega (arith, a)) (omega (arith, b))) j

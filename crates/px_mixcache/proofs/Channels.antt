-- Sums that stand frame by frame, and one channel of them.
use Rattle.std.proofs.Common.{◌≡◌, ◌≢◌, inl, inr, ℕ, zero, suc, ◌+◌, ◌*◌, ◌/◌, ◌%◌, ◌<◌, ◌≤◌, List, length, get_or, arith, ap, sym, ◌∙◌, subst, below_more, mul_comm, ℤ, pos}
use Rattle.std.proofs.Math.Nat.{add-mul, mul-le-mul_right, div-add-mod, div-lt_iff_lt-mul}
use Rattle.std.proofs.Math.ListN.{set}
use Rattle.px_sample.specs.declared.format.Width.{Width}
use Rattle.px_sample.specs.WorkValue.{IsWithin}
use Rattle.px_mixcache.proofs.Part.{lt-or-le}
use Rattle.std.proofs.lemmas.Nat.{mod-mul-add, mod_below}
use Rattle.std.proofs.lemmas.List.{get_or-set_other, get_or-set_same, length-set}

-- the place of a channel of frame j lies within all of them
pub place_inside : (j count channels c : ℕ) → j < count → c < channels → j * channels + c < channels * count
place_inside j count channels c less inside =
    let next : j + 1 ≤ count = omega (arith, less) in
    omega (arith, inside, mul-le-mul_right channels next, add-mul j 1 channels, mul_comm channels count)

-- those of two frames differ
pub places_differ : (k j channels c : ℕ) → k < j → c < channels → k * channels + c < j * channels + c
places_differ k j channels c less inside =
    let next : k + 1 ≤ j = omega (arith, less) in omega (arith, inside, mul-le-mul_right channels next, add-mul k 1 channels)

-- what holds of a channel's place in each frame so far holds with one more written
pub each_frame : (P : ℕ → ℤ → Type 0) (xs : List ℤ) (channels c j : ℕ) (y : ℤ) → c < channels → j * channels + c < length xs
    → ((k : ℕ) → k < j → P k (get_or xs (k * channels + c) (pos 0))) → P j y
    → (k : ℕ) → k < j + 1 → P k (get_or (set xs (j * channels + c) y) (k * channels + c) (pos 0))
each_frame P xs channels c j y inside room before here k below =
    below_more (λ i. P i (get_or (set xs (j * channels + c) y) (i * channels + c) (pos 0))) j
    (λ i less. let other : i * channels + c ≢ j * channels + c = omega (arith, places_differ i j channels c less inside) in
    subst (P i) (sym (get_or-set_other xs (j * channels + c) (i * channels + c) y (pos 0) other)) (before i less))
    (subst (P j) (sym (get_or-set_same xs (j * channels + c) y (pos 0) room)) here)
    k below

-- its places in later frames stay
pub later_stay : (xs old : List ℤ) (channels c j : ℕ) (y : ℤ) → c < channels
    → ((k : ℕ) → j ≤ k → get_or xs (k * channels + c) (pos 0) ≡ get_or old (k * channels + c) (pos 0))
    → (k : ℕ) → j + 1 ≤ k → get_or (set xs (j * channels + c) y) (k * channels + c) (pos 0) ≡ get_or old (k * channels + c) (pos 0)
later_stay xs old channels c j y inside before k past =
    let less : j < k = omega (arith, past) in
    let other : k * channels + c ≢ j * channels + c = omega (arith, places_differ j k channels c less inside) in
    get_or-set_other xs (j * channels + c) (k * channels + c) y (pos 0) other ∙ before k (omega (arith, past))

-- and so do other channels
pub others_stay : (xs old : List ℤ) (channels c j : ℕ) (y : ℤ) → c < channels
    → ((i : ℕ) → i % channels ≢ c → get_or xs i (pos 0) ≡ get_or old i (pos 0))
    → (i : ℕ) → i % channels ≢ c → get_or (set xs (j * channels + c) y) i (pos 0) ≡ get_or old i (pos 0)
others_stay xs old channels c j y inside before i away =
    get_or-set_other xs (j * channels + c) i y (pos 0) (λ e. away (ap (λ (n : ℕ). n % channels) e ∙ mod-mul-add j channels c inside)) ∙ before i away

some_channels : (channels count i : ℕ) → i < channels * count → 0 < channels
some_channels zero count i less = absurd (omega (arith, less))
some_channels (suc channels) count i less = omega arith

-- what holds of each channel's place in each frame holds of all places
pub each_place_of : (P : ℕ → Type 0) (channels count i : ℕ) → i < channels * count → ((c j : ℕ) → c < channels → j < count → P (j * channels + c)) → P i
each_place_of P channels count i less each =
    let some = some_channels channels count i less in
    let split : i / channels * channels + i % channels ≡ i = omega (arith, div-add-mod i channels, mul_comm (i / channels) channels) in
    let few : i / channels < count = (div-lt_iff_lt-mul {k = channels} {x = i} {y = count} some).1 (omega (arith, less, mul_comm channels count)) in
    subst P split (each (i % channels) (i / channels) (mod_below i channels some) few)

-- values that fit a width do so with one more written
pub kept_within : (width : Width) (xs : List ℤ) (i : ℕ) (y : ℤ) → i < length xs → ((k : ℕ) → k < length xs → IsWithin width (get_or xs k (pos 0))) → IsWithin width y
    → (k : ℕ) → k < length (set xs i y) → IsWithin width (get_or (set xs i y) k (pos 0))
kept_within width xs i y room before here k less =
    let inside : k < length xs = omega (arith, less, length-set xs i y) in
    let other : k ≢ i → IsWithin width (get_or (set xs i y) k (pos 0)) = λ e. subst (IsWithin width) (sym (get_or-set_other xs i k y (pos 0) e)) (before k inside) in
    elim (lt-or-le k i) [
      | inl below ↦ other (omega (arith, below))
      | inr above ↦ elim (lt-or-le i k) [
        | inl past ↦ other (omega (arith, past))
        | inr same ↦ let e : i ≡ k = omega (arith, above, same) in
            subst (λ (n : ℕ). IsWithin width (get_or (set xs i y) n (pos 0))) e (subst (IsWithin width) (sym (get_or-set_same xs i y (pos 0) room)) here)
      ]
    ]

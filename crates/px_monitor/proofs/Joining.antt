-- Fragments, one after the other.
use Rattle.std.proofs.Common.{◌≡◌, ℕ, zero, suc, ◌<◌, ◌≤◌, ◌-◌, min, List, [], ◌∷◌, ◌++◌, length, take, drop, map, Bool, true, false, ltb, refl, sym, ap, ◌∙◌, append_assoc, arith}
use Rattle.std.specs.List.{flat_map}
use Rattle.std.proofs.lemmas.List.{append-nil, length-drop, take_min, take_all, take-append-drop}
use Rattle.std.proofs.lemmas.Bool.{ltb-true, ltb-false}
use Rattle.std.proofs.lemmas.List.Concat.{flat_map-cons}
use Rattle.px_state.specs.declared.effect.Effect.{Effect}
use Rattle.px_monitor.specs.declared.recording.Recording.{Recording}
use Rattle.px_monitor.specs.Fragments.{fragments_in, fragments, data_frame, data_of}

-- more fragments than there are bytes are none
enough : (m n size : ℕ) (bytes : List ℕ) → 0 < size → length bytes ≤ m → length bytes ≤ n → fragments_in m size bytes ≡ fragments_in n size bytes
enough zero zero size bytes some fits fits_too = refl
enough zero (suc n) size [] some fits fits_too = refl
enough zero (suc n) size (b ∷ bytes) some fits fits_too = absurd (omega (arith, fits))
enough (suc m) zero size [] some fits fits_too = refl
enough (suc m) zero size (b ∷ bytes) some fits fits_too = absurd (omega (arith, fits_too))
enough (suc m) (suc n) size [] some fits fits_too = refl
enough (suc m) (suc n) size (b ∷ bytes) some fits fits_too =
    let rest : length (drop size (b ∷ bytes)) ≡ length (b ∷ bytes) - size = length-drop size (b ∷ bytes) in
    ap (λ (parts : List (List ℕ)). take size (b ∷ bytes) ∷ parts) (enough m n size (drop size (b ∷ bytes)) some (omega (arith, rest, some, fits)) (omega (arith, rest, some, fits_too)))

-- the first fragment, and those of the rest
first : (size : ℕ) (b : ℕ) (bytes : List ℕ) → 0 < size → fragments size (b ∷ bytes) ≡ take size (b ∷ bytes) ∷ fragments size (drop size (b ∷ bytes))
unfolding fragments
first size b bytes some =
    let rest : length (drop size (b ∷ bytes)) ≡ length (b ∷ bytes) - size = length-drop size (b ∷ bytes) in
    ap (λ (parts : List (List ℕ)). take size (b ∷ bytes) ∷ parts) (enough (length bytes) (length (drop size (b ∷ bytes))) size (drop size (b ∷ bytes)) some (omega (arith, rest, some)) (omega arith))

nothing_left : (n : ℕ) (bytes : List ℕ) → length bytes ≤ n → drop n bytes ≡ []
nothing_left zero [] le = refl
nothing_left zero (b ∷ bytes) le = absurd (omega (arith, le))
nothing_left (suc n) [] le = refl
nothing_left (suc n) (b ∷ bytes) le = nothing_left n bytes (omega (arith, le))

-- the bytes after the first fragment, which has `len` bytes
rest_of : (size len : ℕ) (bytes : List ℕ) → len ≡ min size (length bytes) → drop len bytes ≡ drop size bytes
rest_of size len bytes e = by (ltb (length bytes) size) refl
  where
    by : (b : Bool) → ltb (length bytes) size ≡ b → drop len bytes ≡ drop size bytes
    by true is = let gt : length bytes < size = ltb-true _ _ is in nothing_left len bytes (omega (arith, e, gt)) ∙ sym (nothing_left size bytes (omega (arith, gt)))
    by false is = let le : size ≤ length bytes = ltb-false _ _ is in let same : len ≡ size = omega (arith, e, le) in ap (λ (n : ℕ). drop n bytes) same

first_of : (size len : ℕ) (bytes : List ℕ) → len ≡ min size (length bytes) → take len bytes ≡ take size bytes
first_of size len bytes e = rw e (take_min size bytes)

whole : (n : ℕ) (bytes : List ℕ) → length bytes ≤ n → take n bytes ≡ bytes
whole n bytes le = take_all n bytes le

pub next : (size len : ℕ) (bytes : List ℕ) → 0 < size → 0 < length bytes → len ≡ min size (length bytes)
    → fragments size bytes ≡ take len bytes ∷ fragments size (take (length bytes - len) (drop len bytes))
next size len [] some there e = absurd (omega (arith, there))
next size len (b ∷ bytes) some there e =
    let xs = b ∷ bytes in
    let rest : take (length xs - len) (drop len xs) ≡ drop size xs = whole (length xs - len) (drop len xs) (omega (arith, length-drop len xs)) ∙ rest_of size len xs e in
    first size b bytes some ∙ rw (first_of size len xs e, rest) refl

-- a frame for the first fragment was appended
pub preserved : (r : Recording) (before now : List Effect) (d : Effect) (bytes part rest : List ℕ) (all : List Effect)
    → fragments r.fragsize bytes ≡ part ∷ fragments r.fragsize rest → d ≡ data_frame r part → now ≡ before ++ d ∷ [] → before ++ data_of bytes r ≡ all
    → now ++ data_of rest r ≡ all
preserved r before now d bytes part rest all parts is added e =
    ap (λ (xs : List Effect). xs ++ data_of rest r) added
    ∙ append_assoc before (d ∷ []) (data_of rest r)
    ∙ ap (λ (x : Effect). before ++ x ∷ data_of rest r) is
    ∙ ap (λ (xs : List (List ℕ)). before ++ map (data_frame r) xs) (sym parts)
    ∙ e

-- no bytes are left
pub none_left : (r : Recording) (now : List Effect) (bytes : List ℕ) (all : List Effect) → length bytes ≡ 0 → now ++ data_of bytes r ≡ all → now ≡ all
unfolding fragments
none_left r now [] all none e = sym (append-nil now) ∙ e
none_left r now (b ∷ bytes) all none e = absurd cc

joined_in : (most size : ℕ) (bytes : List ℕ) → 0 < size → length bytes ≤ most → flat_map (λ part. part) (fragments_in most size bytes) ≡ bytes
joined_in zero size [] some fits = refl
joined_in zero size (b ∷ bytes) some fits = absurd (omega (arith, fits))
joined_in (suc most) size [] some fits = refl
joined_in (suc most) size (b ∷ bytes) some fits =
    let xs = b ∷ bytes in
    let rest : length (drop size xs) ≡ length xs - size = length-drop size xs in
    flat_map-cons (λ part. part) (take size xs) (fragments_in most size (drop size xs))
    ∙ ap (λ (more : List ℕ). take size xs ++ more) (joined_in most size (drop size xs) some (omega (arith, rest, some, fits)))
    ∙ take-append-drop size xs

-- the fragments, joined, are the bytes
pub joined : (size : ℕ) (bytes : List ℕ) → 0 < size → flat_map (λ part. part) (fragments size bytes) ≡ bytes
unfolding fragments
joined size bytes some = joined_in (length bytes) size bytes some (omega arith)

-- A string and its zero byte.
use Rattle.std.proofs.Common.{◌≡◌, ℕ, suc, ◌+◌, ◌<◌, Bool, true, false, not, ◌&&◌, ltb, eqb, List, [], ◌∷◌, ◌++◌, length, get_or, take, drop, position, Option, None, Some, Ok, refl, sym, ap, subst, ◌∙◌, append_assoc, add-one, drop-cons, arith}
use Rattle.std.specs.List.{prefix_len}
use Rattle.std.proofs.lemmas.Bool.{eqb-true, lt-ltb}
use Rattle.std.proofs.lemmas.List.{take_at, drop_at, take-append-drop, length-append, length-take, get_or-take}
use Rattle.std.proofs.lemmas.List.Sums.{list_all-from_AllPass}
use Rattle.std.proofs.lemmas.List.Quantifiers.{position-Some}
use Rattle.px_tag.specs.Place.{Place, past}
use Rattle.px_tag.specs.Law.{AreBytes, Stands}
use Rattle.px_tag.specs.Item.{is_text}
use Rattle.px_tag.specs.Reading.{ended_at, string_at}
use Rattle.px_tag.proofs.Steps.{AreBytes-drop, ok_is}

abbrev is_zero : ℕ → Bool
is_zero b = eqb b 0

both : (x y : Bool) → (x && y) ≡ true → (x ≡ true) × (y ≡ true)
both true y e = (refl, e)
both false y e = absurd cc

cut_at_zero : (bytes : List ℕ) (n : ℕ) → position is_zero bytes ≡ Some n → (bytes ≡ take n bytes ++ 0 ∷ drop (n + 1) bytes) × (is_text (take n bytes) ≡ true)
cut_at_zero bytes n e =
    let h = position-Some is_zero bytes n 0 e in
    let zero_there : get_or bytes n 0 ≡ 0 = eqb-true _ _ h.1 in
    let behind : drop n bytes ≡ 0 ∷ drop (n + 1) bytes = rw add-one (drop-cons bytes n 0 h.0 ∙ ap (λ (b : ℕ). b ∷ drop (suc n) bytes) zero_there) in
    let none : is_text (take n bytes) ≡ true = list_all-from_AllPass (λ b. not (is_zero b)) (take n bytes) (λ k d lt.
    let below : k < n = omega (arith, length-take n bytes) in
    rw (get_or-take n bytes k d below, (position-Some is_zero bytes n d e).2 k below) refl) in
    (sym (take-append-drop n bytes) ∙ ap (λ (r : List ℕ). take n bytes ++ r) behind, none)

ended_found : (found : Option ℕ) (place : Place) (bytes : List ℕ) (after : Place) → position is_zero place.rest ≡ found → AreBytes place.rest → ended_at found place ≡ Ok (bytes, after) → Stands (bytes ++ 0 ∷ []) place after × (is_text bytes ≡ true)
ended_found None place bytes after is fits e = absurd cc
ended_found (Some n) place bytes after is fits e =
    let cut = cut_at_zero place.rest n is in
    let stands : Stands (take n place.rest ++ 0 ∷ []) place (past (n + 1) place) = record { bytes = cut.0 ∙ sym (append_assoc (take n place.rest) (0 ∷ []) (drop (n + 1) place.rest)); size = refl; are_bytes = AreBytes-drop (n + 1) place.rest fits } in
    subst (λ (p : List ℕ × Place). Stands (p.0 ++ 0 ∷ []) place p.1 × (is_text p.0 ≡ true)) (ok_is (take n place.rest, past (n + 1) place) (bytes, after) e) (stands, cut.1)

pub string_found : (place : Place) (bytes : List ℕ) (after : Place) → AreBytes place.rest → string_at place ≡ Ok (bytes, after) → Stands (bytes ++ 0 ∷ []) place after × (is_text bytes ≡ true)
unfolding string_at
string_found place bytes after fits e = ended_found (position is_zero place.rest) place bytes after refl fits e

front_is : (bytes behind : List ℕ) → is_text bytes ≡ true → prefix_len (λ b. not (is_zero b)) (bytes ++ 0 ∷ behind) ≡ length bytes
front_is [] behind e = refl
front_is (b ∷ bytes) behind e =
    let h = both (not (is_zero b)) (is_text bytes) e in
    rw (h.0, front_is bytes behind h.1) (omega arith)

zero_is_at : (bytes behind : List ℕ) → is_text bytes ≡ true → position is_zero (bytes ++ 0 ∷ behind) ≡ Some (length bytes)
zero_is_at bytes behind e =
    let within : ltb (length bytes) (length (bytes ++ 0 ∷ behind)) ≡ true = lt-ltb _ _ (omega (arith, length-append bytes (0 ∷ behind))) in
    rw (front_is bytes behind e, within) refl

pub string_again : (bytes : List ℕ) (size : ℕ) (behind : List ℕ) → is_text bytes ≡ true → string_at (record { size = size; rest = (bytes ++ 0 ∷ []) ++ behind }) ≡ Ok (bytes, record { size = size; rest = behind })
unfolding string_at
string_again bytes size behind e =
    let regrouped : (bytes ++ 0 ∷ []) ++ behind ≡ bytes ++ 0 ∷ behind = append_assoc bytes (0 ∷ []) behind in
    let front : take (length bytes) (bytes ++ 0 ∷ behind) ≡ bytes = take_at bytes (0 ∷ behind) (length bytes) refl in
    let end : drop (length bytes + 1) (bytes ++ 0 ∷ behind) ≡ behind = ap (drop (length bytes + 1)) (sym regrouped) ∙ drop_at (bytes ++ 0 ∷ []) behind (length bytes + 1) (omega (arith, length-append bytes (0 ∷ []))) in
    ap (λ (r : List ℕ). ended_at (position is_zero r) (record { size = size; rest = r })) regrouped ∙ rw (zero_is_at bytes behind e, front, end) refl

-- Reading one thing after another, as a loop does.
use Rattle.std.proofs.Common.{◌≡◌, ℕ, suc, ◌-◌, ◌+◌, ◌≤◌, ◌<◌, List, [], ◌∷◌, ◌++◌, Result, Ok, Err, refl, sym, ap, ◌∙◌, append_assoc, arith}
use Rattle.std.specs.Int.{w32}
use Rattle.std.proofs.lemmas.List.{append-nil}
use Rattle.px_tag.specs.declared.fault.TagFault.{TagFault}
use Rattle.px_tag.specs.Place.{Place, ◌>>=◌}
use Rattle.px_tag.specs.Reading.{field_at, fields_at}

-- what was read before, and what is still read
abbrev pub with_front : {A : Type 0} → List A → Result (List A × Place) TagFault → Result (List A × Place) TagFault
with_front front read = read >>= λ others. Ok (front ++ others.0, others.1)

pub regroup : {A : Type 0} (front : List A) (value : A) (read : Result (List A × Place) TagFault) → with_front front (read >>= λ others. Ok (value ∷ others.0, others.1)) ≡ with_front (front ++ value ∷ []) read
regroup {A} front value (Ok others) = ap (λ (values : List A). Ok (values, others.1)) (simp append_assoc)
regroup front value (Err fault) = refl

pub goes_on : (front : List ℕ) (count i : ℕ) (place : Place) (value : ℕ) (behind : Place) (total : Result (List ℕ × Place) TagFault) → i < count → field_at w32 place ≡ Ok (value, behind)
    → with_front front (fields_at (count - i) place) ≡ total → with_front (front ++ value ∷ []) (fields_at (count - (i + 1)) behind) ≡ total
unfolding fields_at
goes_on front count i place value behind total lt h so_far =
    let k : count - i ≡ suc (count - (i + 1)) = omega arith in
    let one : with_front front (fields_at (count - i) place) ≡ with_front (front ++ value ∷ []) (fields_at (count - (i + 1)) behind) = rw (k, h) (regroup front value (fields_at (count - (i + 1)) behind)) in
    sym one ∙ so_far

pub ends : (fault : TagFault) (front : List ℕ) (count i : ℕ) (place : Place) (total : Result (List ℕ × Place) TagFault) → i < count → field_at w32 place ≡ Err fault
    → with_front front (fields_at (count - i) place) ≡ total → total ≡ Err fault
unfolding fields_at
ends fault front count i place total lt h so_far =
    let k : count - i ≡ suc (count - (i + 1)) = omega arith in
    let one : with_front front (fields_at (count - i) place) ≡ Err fault = rw (k, h) refl in
    sym so_far ∙ one

pub is_done : (front : List ℕ) (count i : ℕ) (place : Place) (total : Result (List ℕ × Place) TagFault) → count ≤ i → with_front front (fields_at (count - i) place) ≡ total → total ≡ Ok (front, place)
unfolding fields_at
is_done front count i place total le so_far =
    let k : count - i ≡ 0 = omega arith in
    let one : with_front front (fields_at (count - i) place) ≡ Ok (front, place) = rw k (ap (λ (values : List ℕ). Ok (values, place)) (append-nil front)) in
    sym so_far ∙ one

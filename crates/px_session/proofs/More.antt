-- Items that are read one after the other, as a loop does.
use Rattle.std.proofs.Common.{◌≡◌, ℕ, suc, ◌-◌, ◌+◌, ◌≤◌, ◌<◌, List, [], ◌∷◌, ◌++◌, Result, Ok, Err, refl, sym, ◌∙◌, arith}
use Rattle.px_session.specs.declared.fault.ReadError.{ReadError}
use Rattle.px_session.specs.declared.fault.ReadError.TheVariants as error
use Rattle.px_session.specs.Place.{Place, Reading, Refusal, Fails, and_then}
use Rattle.px_session.specs.HeaderReading.{more_at}

pub goes_on : {A : Type 0} (item_at : List A → Reading A) (earlier : List A) (count i : ℕ) (place : Place) (item : A) (after : Place) (total : Result (List A × Place) Refusal) → i < count → item_at earlier place ≡ Ok (item, after)
    → more_at item_at earlier (count - i) place ≡ total → more_at item_at (earlier ++ item ∷ []) (count - (i + 1)) after ≡ total
unfolding more_at and_then
goes_on item_at earlier count i place item after total lt read so_far =
    let k : count - i ≡ suc (count - (i + 1)) = omega arith in
    let one : more_at item_at earlier (count - i) place ≡ more_at item_at (earlier ++ item ∷ []) (count - (i + 1)) after = rw (k, read) refl in
    sym one ∙ so_far

pub ends : {A : Type 0} (e : ReadError) (item_at : List A → Reading A) (earlier : List A) (count i : ℕ) (place : Place) (total : Result (List A × Place) Refusal) → i < count → Fails e (item_at earlier place)
    → more_at item_at earlier (count - i) place ≡ total → Fails e total
unfolding more_at and_then
ends (error.Refused at cause) item_at earlier count i place total lt read so_far =
    let k : count - i ≡ suc (count - (i + 1)) = omega arith in
    let one : more_at item_at earlier (count - i) place ≡ Err (record { at = at; cause = cause }) = rw (k, read) refl in
    sym so_far ∙ one
ends error.Failed item_at earlier count i place total lt read so_far = absurd read
ends error.NoMemory item_at earlier count i place total lt read so_far = tt

pub is_done : {A : Type 0} (item_at : List A → Reading A) (earlier : List A) (count i : ℕ) (place : Place) (total : Result (List A × Place) Refusal) → count ≤ i → more_at item_at earlier (count - i) place ≡ total → total ≡ Ok (earlier, place)
unfolding more_at
is_done item_at earlier count i place total le so_far =
    let k : count - i ≡ 0 = omega arith in
    let one : more_at item_at earlier (count - i) place ≡ Ok (earlier, place) = rw k refl in
    sym so_far ∙ one

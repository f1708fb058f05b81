-- What a reading that succeeded, or was refused, says of its steps.
use Rattle.std.proofs.Common.{◌≡◌, Bool, true, false, cond, Result, Ok, Err, refl, ◌⊎◌, inl, inr}
use Rattle.px_session.specs.Place.{Place, Reading, Refusal, done, go_on, and_then}

-- the steps of two readings in a row that succeeded
pub go_on_ok : {A B : Type 0} (first : Result (A × Place) Refusal) (next : A → Reading B) (y : B × Place) → go_on first next ≡ Ok y → (x : A × Place) × (first ≡ Ok x) × (next x.0 x.1 ≡ Ok y)
go_on_ok (Ok x) next y e = (x, refl, e)
go_on_ok (Err f) next y e = absurd cc

-- two readings in a row that were refused: the first was, or the next behind it
pub go_on_err : {A B : Type 0} (first : Result (A × Place) Refusal) (next : A → Reading B) (f : Refusal) → go_on first next ≡ Err f → (first ≡ Err f) ⊎ ((x : A × Place) × (first ≡ Ok x) × (next x.0 x.1 ≡ Err f))
go_on_err {A} (Ok x) next f e = inr (x, refl, e)
go_on_err {A} (Err d) next f e = let same : d ≡ f = cc in let r : Result (A × Place) Refusal = Err d in inl cc

pub then_ok : {A B : Type 0} (first : Reading A) (next : A → Reading B) (place : Place) (y : B × Place) → and_then first next place ≡ Ok y → (x : A × Place) × (first place ≡ Ok x) × (next x.0 x.1 ≡ Ok y)
unfolding and_then
then_ok first next place y e = go_on_ok (first place) next y e

pub then_err : {A B : Type 0} (first : Reading A) (next : A → Reading B) (place : Place) (f : Refusal) → and_then first next place ≡ Err f → (first place ≡ Err f) ⊎ ((x : A × Place) × (first place ≡ Ok x) × (next x.0 x.1 ≡ Err f))
unfolding and_then
then_err first next place f e = go_on_err (first place) next f e

-- what was refused in other words was refused
pub as_refused : {A B : Type 0} (read : Reading A) (mark : A → B) (place : Place) (f : Refusal) → and_then read (λ x. done (mark x)) place ≡ Err f → read place ≡ Err f
as_refused {A} {B} read mark place f e =
    elim (then_err read (λ x. done (mark x)) place f e) [
      | inl first ↦ first
      | inr s ↦ absurd (no_ok (mark s.0.0, s.0.1) f s.2)
    ]
  where
    no_ok : (x : B × Place) (f : Refusal) → (let r : Result (B × Place) Refusal = Ok x in r) ≡ Err f → ⊥
    no_ok x f e = cc

-- a test that passed
pub test_ok : {X Y : Type 0} (b : Bool) (d : Y) (x y : X) → cond {A = Result X Y} b (Ok x) (Err d) ≡ Ok y → (b ≡ true) × (x ≡ y)
test_ok true d x y e = (refl, cc)
test_ok false d x y e = absurd cc

-- a test that failed
pub test_err : {X Y : Type 0} (b : Bool) (d : Y) (x : X) (f : Y) → cond {A = Result X Y} b (Ok x) (Err d) ≡ Err f → (b ≡ false) × (d ≡ f)
test_err true d x f e = absurd cc
test_err false d x f e = (refl, cc)

-- a test that did not refuse
pub guard_ok : {X Y : Type 0} (b : Bool) (d : Y) (r : Result X Y) (y : X) → cond b (Err d) r ≡ Ok y → (b ≡ false) × (r ≡ Ok y)
guard_ok true d r y e = absurd cc
guard_ok false d r y e = (refl, e)

-- a refusal by a test, or behind it
pub guard_err : {X Y : Type 0} (b : Bool) (d : Y) (r : Result X Y) (f : Y) → cond b (Err d) r ≡ Err f → ((b ≡ true) × (d ≡ f)) ⊎ ((b ≡ false) × (r ≡ Err f))
guard_err true d r f e = inl (refl, cc)
guard_err false d r f e = inr (refl, e)

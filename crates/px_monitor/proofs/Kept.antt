-- What holds of all sources and record streams holds of those that are found or stay.
use Rattle.std.proofs.Common.{◌≡◌, ℕ, zero, suc, ◌<◌, Bool, true, false, List, [], ◌∷◌, cond, filter, length, get_or, All, slice_get, find, bytes_eq, nat_eq, Option, None, Some, Result, Ok, Err, MatchResult, ap, sym, subst, option_map, ◌∙◌, arith}
use Rattle.std.specs.List.{AllByRecursion}
use Rattle.px_types.specs.declared.error_code.ErrorCode.{ErrorCode}
use Rattle.px_types.specs.declared.error_code.ErrorCode.TheVariants.{Invalid, NoEntity}
use Rattle.px_outcome.specs.declared.refusal.Refusal.{Refusal}
use Rattle.px_outcome.specs.declared.target.Target.{Target}
use Rattle.px_outcome.specs.Target.{IsTarget}
use Rattle.px_outcome.specs.Handled.{Handled, ◌>>=◌, check, present}
use Rattle.px_monitor.specs.Create.{NO_INDEX, place_of, named}

module _ {X : Type 0} (P : X → Type 0) where
  chosen : (b : Bool) (x : X) (rest : List X) → P x → AllByRecursion P rest → AllByRecursion P (cond b (x ∷ rest) rest)
  chosen true x rest is all = (is, all)
  chosen false x rest is all = all

  pub kept : (test : X → Bool) (xs : List X) → AllByRecursion P xs → AllByRecursion P (filter test xs)
  kept test [] all = tt
  kept test (x ∷ xs) all = chosen (test x) x (filter test xs) all.0 (kept test xs all.1)

  pub each : (xs : List X) (i : ℕ) (d : X) → AllByRecursion P xs → i < length xs → P (get_or xs i d)
  each [] i d all lt = absurd (omega (arith, lt))
  each (x ∷ xs) zero d all lt = all.0
  each (x ∷ xs) (suc i) d all lt = each xs i d all.1 (omega (arith, lt))

  all_of : (xs : List X) → All P xs → AllByRecursion P xs
  all_of [] all = tt
  all_of (x ∷ xs) all = (all zero x (omega arith), all_of xs (λ i d lt. all (suc i) d (omega (arith, lt))))

  pub placed : (xs : List X) (i : ℕ) (x : X) → AllByRecursion P xs → slice_get xs i ≡ Some x → P x
  placed [] i x all e = absurd cc
  placed (y ∷ ys) zero x all e = let is : y ≡ x = cc in subst P is all.0
  placed (y ∷ ys) (suc i) x all e = placed ys i x all.1 e

  one_of : (b : Bool) (y x : X) (rest : Option X) → P y → (rest ≡ Some x → P x) → cond b (Some y) rest ≡ Some x → P x
  one_of true y x rest is other e = let same : y ≡ x = cc in subst P same is
  one_of false y x rest is other e = other e

  pub found : (test : X → Bool) (xs : List X) (x : X) → AllByRecursion P xs → find test xs ≡ Some x → P x
  found test [] x all e = absurd cc
  found test (y ∷ ys) x all e = one_of (test y) y x (find test ys) all.0 (λ f. found test ys x all.1 f) e

pub present_ok : (value : Option Target) (code : ErrorCode) (t : Target) → present value code ≡ Ok t → value ≡ Some t
present_ok None code t e = absurd cc
present_ok (Some x) code t e = let is : x ≡ t = cc in ap (λ (y : Target). Some y) is

pub checked : (b : Bool) (code : ErrorCode) (rest : Handled Target) (t : Target) → (check b code >>= λ one. rest) ≡ Ok t → rest ≡ Ok t
checked true code rest t e = e
checked false code rest t e = absurd cc

-- the source that is named is one of the sources
pub named_is : (sources : List Target) (index : ℕ) (name : Option (List ℕ)) (t : Target) → All IsTarget sources → named sources index name ≡ Ok t → IsTarget t
named_is sources index None t all e = placed IsTarget sources (place_of index) t (all_of IsTarget sources all) (present_ok (slice_get sources (place_of index)) NoEntity t e)
named_is sources index (Some name) t all e =
    let called = find (λ source. bytes_eq (Target.name source) name) sources in
    found IsTarget (λ source. bytes_eq (Target.name source) name) sources t (all_of IsTarget sources all) (present_ok called NoEntity t (checked (nat_eq index NO_INDEX) Invalid (present called NoEntity) t e))

-- the source that was looked for by a name alone
pub named_found : {B : Type 0} (v : B → Target) (sources : List Target) (index : ℕ) (name : Option (List ℕ)) (text : List ℕ) (value : Option B) (result : Result B Refusal)
    → name ≡ Some text → check (nat_eq index NO_INDEX) Invalid ≡ Ok tt → option_map v value ≡ find (λ source. bytes_eq (Target.name source) text) sources
    → MatchResult result (λ s. present (option_map v value) NoEntity ≡ Ok (v s)) (λ refusal. present (option_map v value) NoEntity ≡ Err refusal)
    → MatchResult result (λ s. named sources index name ≡ Ok (v s)) (λ refusal. named sources index name ≡ Err refusal)
named_found v sources index name text value result n alone f is = by result is
  where
    looked : named sources index name ≡ present (option_map v value) NoEntity
    looked =
        ap (named sources index) n
        ∙ ap (λ (r : Handled (Unit {0})). r >>= λ one. present (find (λ source. bytes_eq (Target.name source) text) sources) NoEntity) alone
        ∙ ap (λ (o : Option Target). present o NoEntity) (sym f)

    by : (r : Result _ Refusal) → MatchResult r (λ s. present (option_map v value) NoEntity ≡ Ok (v s)) (λ refusal. present (option_map v value) NoEntity ≡ Err refusal) → MatchResult r (λ s. named sources index name ≡ Ok (v s)) (λ refusal. named sources index name ≡ Err refusal)
    by (Ok s) e = looked ∙ e
    by (Err refusal) e = looked ∙ e

-- Sums that are changed one after the other.
use Rattle.std.proofs.Common.{◌≡◌, ◌≢◌, ◌⊎◌, inl, inr, ℕ, zero, suc, ◌+◌, ◌<◌, ◌≤◌, Bool, List, length, get_or, arith, ◌∙◌, ap, sym, refl, subst, ℤ, pos, w64, FitsSigned, below_more}
use Rattle.std.proofs.Math.ListN.{set}
use Rattle.std.proofs.lemmas.List.{get_or-set_other, get_or-set_same, length-set}
use Rattle.px_kernel.specs.Kernel.{AreReady, Changes, at, changed, changed_at, scaled}

lt-or-le : (a b : ℕ) → (a < b) ⊎ (b ≤ a)
lt-or-le a zero = inr (omega arith)
lt-or-le zero (suc b) = inl (omega arith)
lt-or-le (suc a) (suc b) = elim (lt-or-le a b) [ inl less ↦ inl (omega arith) | inr more ↦ inr (omega arith) ]

pub none_changed : (add : Bool) (old values : List ℤ) (factor from : ℕ) → Changes add old values factor from from old
none_changed add old values factor from = record {
  long = refl;
  inside = λ k above below. absurd (omega (arith, above, below));
  before = λ k below. refl;
  behind = λ k above. refl;
}

-- one more
pub more_changed : (add : Bool) (old values : List ℤ) (factor from to : ℕ) (new : List ℤ) (y : ℤ)
    → Changes add old values factor from to new → from ≤ to → to < length new → y ≡ changed_at add old values factor to
    → Changes add old values factor from (to + 1) (set new to y)
more_changed add old values factor from to new y so_far rises room value =
    let others : (k : ℕ) → k ≢ to → get_or (set new to y) k (pos 0) ≡ get_or new k (pos 0) = λ k other. get_or-set_other new to k y (pos 0) other in record {
      long = length-set new to y ∙ so_far.long;
      inside = λ k above below. below_more (λ j. from ≤ j → get_or (set new to y) j (pos 0) ≡ changed_at add old values factor j) to
          (λ j less from_on. others j (omega (arith, less)) ∙ so_far.inside j from_on less)
          (λ from_on. get_or-set_same new to y (pos 0) room ∙ value) k below above;
      before = λ k below. others k (omega (arith, below, rises)) ∙ so_far.before k below;
      behind = λ k above. others k (omega (arith, above)) ∙ so_far.behind k (omega (arith, above));
    }

-- a stretch, and then the next
pub both_changed : (add : Bool) (old values : List ℤ) (factor from mid to : ℕ) (between new : List ℤ)
    → Changes add old values factor from mid between → Changes add between values factor mid to new → from ≤ mid → mid ≤ to
    → Changes add old values factor from to new
both_changed add old values factor from mid to between new first second rises goes_on = record {
  long = second.long ∙ first.long;
  inside = λ k above below. by_place k above below;
  before = λ k below. second.before k (omega (arith, below, rises)) ∙ first.before k below;
  behind = λ k above. second.behind k above ∙ first.behind k (omega (arith, above, goes_on));
} where
  by_place : (k : ℕ) → from ≤ k → k < to → get_or new k (pos 0) ≡ changed_at add old values factor k
  by_place k above below = elim (lt-or-le k mid) [
    | inl less ↦ second.before k less ∙ first.inside k above less
    | inr more ↦ second.inside k more below ∙ ap (λ (s : ℤ). changed add s (scaled (at values k) factor)) (first.behind k more)
  ]

-- what lies behind a stretch is as ready as before
pub ready_behind : (add : Bool) (old values : List ℤ) (factor from to : ℕ) (new : List ℤ)
    → AreReady add old values factor from → Changes add old values factor from to new → from ≤ to → AreReady add new values factor to
ready_behind add old values factor from to new ready changes rises =
    let inside : (k : ℕ) → k < length new → k < length old = λ k less. omega (arith, less, changes.long) in record {
      room = λ k above less. subst (FitsSigned w64) (sym (changes.behind k above)) (ready.room k (omega (arith, above, rises)) (inside k less));
      words = λ k above less. ready.words k (omega (arith, above, rises)) (inside k less);
      fit = λ k above less. subst (λ (s : ℤ). FitsSigned w64 (changed add s (scaled (at values k) factor))) (sym (changes.behind k above))
          (ready.fit k (omega (arith, above, rises)) (inside k less));
    }

-- eight behind a front that is changed, and eight more
pub ready_after_eight : (add : Bool) (old values : List ℤ) (factor from : ℕ) (front first : List ℤ)
    → AreReady add old values factor 0 → Changes add old values factor 0 from front → Changes add front values factor from (from + 8) first
    → AreReady add first values factor (from + 8)
ready_after_eight add old values factor from front first ready so_far next =
    ready_behind add front values factor from (from + 8) first (ready_behind add old values factor 0 from front ready so_far (omega arith)) next (omega arith)

pub sixteen_changed : (add : Bool) (old values : List ℤ) (factor from : ℕ) (front first second : List ℤ)
    → Changes add old values factor 0 from front → Changes add front values factor from (from + 8) first → Changes add first values factor (from + 8) (from + 8 + 8) second
    → Changes add old values factor 0 (from + 16) second
sixteen_changed add old values factor from front first second so_far next last =
    let same : from + 8 + 8 ≡ from + 16 = omega arith in
    both_changed add old values factor 0 from (from + 16) front second so_far
    (both_changed add front values factor from (from + 8) (from + 16) first second next (subst (λ (to : ℕ). Changes add first values factor (from + 8) to second) same last) (omega arith) (omega arith))
    (omega arith) (omega arith)

-- four that are set to the same
pub four_set : (xs : List ℤ) (from : ℕ) {a b c d a' b' c' d' : ℤ} → a ≡ a' → b ≡ b' → c ≡ c' → d ≡ d'
    → set (set (set (set xs from a) (from + 1) b) (from + 2) c) (from + 3) d ≡ set (set (set (set xs from a') (from + 1) b') (from + 2) c') (from + 3) d'
four_set xs from {a} {b} {c} {d} {a'} {b'} {c'} {d'} p q r s =
    ap (λ (x : ℤ). set (set (set (set xs from x) (from + 1) b) (from + 2) c) (from + 3) d) p
    ∙ ap (λ (x : ℤ). set (set (set (set xs from a') (from + 1) x) (from + 2) c) (from + 3) d) q
    ∙ ap (λ (x : ℤ). set (set (set (set xs from a') (from + 1) b') (from + 2) x) (from + 3) d) r
    ∙ ap (λ (x : ℤ). set (set (set (set xs from a') (from + 1) b') (from + 2) c') (from + 3) x) s

-- four more
pub four_changed : (add : Bool) (old values : List ℤ) (factor from : ℕ) (a b c d : ℤ) → from + 4 ≤ length old
    → a ≡ changed_at add old values factor from → b ≡ changed_at add old values factor (from + 1)
    → c ≡ changed_at add old values factor (from + 2) → d ≡ changed_at add old values factor (from + 3)
    → Changes add old values factor from (from + 4) (set (set (set (set old from a) (from + 1) b) (from + 2) c) (from + 3) d)
four_changed add old values factor from a b c d inside at0 at1 at2 at3 =
    let none : Changes add old values factor from from old = none_changed add old values factor from in
    let one : Changes add old values factor from (from + 1) (set old from a) =
    more_changed add old values factor from from old a none (omega arith) (omega (arith, inside)) at0 in
    let two : Changes add old values factor from (from + 2) (set (set old from a) (from + 1) b) =
    step from 1 _ (more_changed add old values factor from (from + 1) (set old from a) b one (omega arith) (omega (arith, inside, one.long)) at1) in
    let three : Changes add old values factor from (from + 3) (set (set (set old from a) (from + 1) b) (from + 2) c) =
    step from 2 _ (more_changed add old values factor from (from + 2) (set (set old from a) (from + 1) b) c two (omega arith) (omega (arith, inside, two.long)) at2) in
    step from 3 _ (more_changed add old values factor from (from + 3) (set (set (set old from a) (from + 1) b) (from + 2) c) d three (omega arith) (omega (arith, inside, three.long)) at3) where
      step : (from k : ℕ) (new : List ℤ) → Changes add old values factor from (from + k + 1) new → Changes add old values factor from (from + (k + 1)) new
      step from k new changes = subst (λ (to : ℕ). Changes add old values factor from to new) (omega arith) changes

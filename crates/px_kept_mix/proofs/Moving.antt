-- Values that are moved together.
use Rattle.std.proofs.Common.{◌≡◌, ℕ, ◌+◌, ◌-◌, ◌*◌, ◌<◌, ◌≤◌, List, length, get_or, ap, sym, subst, arith, ⊎_elim, ℤ, pos, All, w32, SFits}
use Rattle.std.specs.List.{CopiedTo, SameBelow, SameFrom}
use Rattle.std.proofs.lemmas.Bool.{cases_lt}
use Rattle.std.proofs.lemmas.List.Elements.{All-get_or, All-from_get_or}

module _ (old new : List ℤ) (from to n : ℕ) (size : length new ≡ length old) (inside : from + n ≤ length old) (copied : CopiedTo old new from to n) (below : SameBelow old new to) (behind : SameFrom old new (to + n))
    (words : All (SFits w32) old) where
  word : (i : ℕ) → i < length new → SFits w32 (get_or new i (pos 0))
  word i less =
      ⊎_elim
      (λ (low : i < to). subst (SFits w32) (sym (below i (pos 0) low)) (All-get_or (SFits w32) old i (pos 0) (omega (arith, less, size)) words))
      (λ (high : to ≤ i).
      ⊎_elim
      (λ (there : i < to + n).
      subst (SFits w32) (sym (copied i (pos 0) high there)) (All-get_or (SFits w32) old (from + (i - to)) (pos 0) (omega (arith, high, there, inside)) words))
      (λ (past : to + n ≤ i). subst (SFits w32) (sym (behind i (pos 0) past)) (All-get_or (SFits w32) old i (pos 0) (omega (arith, less, size)) words))
      (cases_lt i (to + n)))
      (cases_lt i to)

  pub words_moved : All (SFits w32) new
  words_moved = All-from_get_or (SFits w32) new (pos 0) word

-- the first run stays where it is
pub first_stays : (values : List ℤ) (c j given run : ℕ) → c < 1 → get_or values (c * given + j) (pos 0) ≡ get_or values (c * run + j) (pos 0)
first_stays values c j given run first =
    let is : c ≡ 0 = omega (arith, first) in
    let place : 0 * given + j ≡ 0 * run + j = omega arith in
    subst (λ (n : ℕ). get_or values (n * given + j) (pos 0) ≡ get_or values (n * run + j) (pos 0)) (sym is) (ap (λ (i : ℕ). get_or values i (pos 0)) place)

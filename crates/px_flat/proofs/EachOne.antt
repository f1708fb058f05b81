-- A loop that changes each member.
use Rattle.std.proofs.Common.{◌≡◌, ℕ, zero, suc, ◌+◌, ◌<◌, ◌≤◌, List, [], ◌∷◌, ◌++◌, map, length, take, drop, get_or, ap, sym, subst, ◌∙◌, arith}
use Rattle.std.specs.Prelude.{slice_set}
use Rattle.std.specs.List.{AllByRecursion}
use Rattle.std.proofs.lemmas.List.{take_more, take_more_set, drop-set-lt, drop-drop, get_or-drop, take_all, map-append}
use Rattle.px_flat.specs.declared.member.Member.{Member}

-- the first i members are changed
pub record Done (f : Member → Member) (old now : List Member) (i : ℕ) : Type 0 where
  pub front : take i now ≡ map f (take i old)
  pub rest : drop i now ≡ drop i old

-- the member that is next
same_next : (old now : List Member) (i : ℕ) (d : Member) → drop i now ≡ drop i old → get_or old i d ≡ get_or now i d
same_next old now i d e =
    let n : i + 0 ≡ i = omega arith in
    sym (ap (λ (k : ℕ). get_or old k d) n) ∙ sym (get_or-drop i old 0 d) ∙ sym (ap (λ (xs : List Member). get_or xs 0 d) e)
    ∙ get_or-drop i now 0 d ∙ ap (λ (k : ℕ). get_or now k d) n

after_one : (xs : List Member) (i : ℕ) → drop (i + 1) xs ≡ drop 1 (drop i xs)
after_one xs i = sym (drop-drop 1 i xs)

pub done_more : (f : Member → Member) (old now : List Member) (i : ℕ) (d y : Member) → Done f old now i → i < length now
    → length now ≡ length old → y ≡ f (get_or now i d) → Done f old (slice_set now i y) (i + 1)
done_more f old now i d y done l n e = record {
  front = take_more_set now i y l
      ∙ (λ k. done.front k ++ (e ∙ ap f (sym (same_next old now i d done.rest))) k ∷ [])
      ∙ sym (ap (map f) (take_more old i d (omega (arith, l, n))) ∙ map-append f (take i old) (get_or old i d ∷ []));
  rest = drop-set-lt (i + 1) now i y (omega arith) ∙ after_one now i ∙ ap (drop 1) done.rest ∙ sym (after_one old i);
}

pub done_all : (f : Member → Member) (old now : List Member) (i : ℕ) → Done f old now i → length now ≡ length old → length now ≤ i
    → now ≡ map f old
done_all f old now i done n all =
    sym (take_all i now all) ∙ done.front ∙ ap (map f) (take_all i old (omega (arith, n, all)))

-- what holds of the next member holds of each that is left
pub next_is : (P : Member → Type 0) (xs : List Member) (i : ℕ) (d : Member) → i < length xs → AllByRecursion P xs → P (get_or xs i d)
next_is P [] i d l h = absurd (omega arith)
next_is P (x ∷ xs) zero d l h = h.0
next_is P (x ∷ xs) (suc i) d l h = next_is P xs i d (omega (arith, l)) h.1

-- what held of each member before the loop holds of the next one
pub next_was : (P : Member → Type 0) (f : Member → Member) (old now : List Member) (i : ℕ) (d : Member) → Done f old now i → i < length now
    → length now ≡ length old → AllByRecursion P old → P (get_or now i d)
next_was P f old now i d done l n all =
    subst P (same_next old now i d done.rest) (next_is P old i d (omega (arith, l, n)) all)

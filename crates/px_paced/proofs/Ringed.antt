-- The bytes of a ring in two slices, one behind the other, as they are written.
use Rattle.std.proofs.Common.{◌≡◌, ℕ, ◌+◌, ◌-◌, ◌<◌, ◌≤◌, min, List, ◌++◌, length, take, Option, ap, ap₂, sym, ◌∙◌, arith, ⊎_elim, append_assoc, append-nil}
use Rattle.std.proofs.Math.Seq.{take-append-add}
use Rattle.std.proofs.lemmas.Bool.{cases_lt}
use Rattle.std.proofs.lemmas.List.{take_all, take-append-le}
use Rattle.px_ends.specs.Visible.{after_adding}
use Rattle.px_ends.specs.Whole.{AddsFront}
use Rattle.px_ends.proofs.VisibleBytes.{adding_both}

-- the first bytes of both: as many as there are from the front, and the rest from the back
pub front_of_both : (front back : List ℕ) (count : ℕ) → take (min count (length front)) front ++ take (count - min count (length front)) back ≡ take count (front ++ back)
front_of_both front back count =
    ⊎_elim
    (λ (few : count < length front).
    let here : min count (length front) ≡ count = omega (arith, few) in
    let none : count - min count (length front) ≡ 0 = omega (arith, few) in
    ap₂ (λ (n k : ℕ). take n front ++ take k back) here none
    ∙ append-nil (take count front)
    ∙ sym (take-append-le count front back (omega (arith, few))))
    (λ (many : length front ≤ count).
    let all : min count (length front) ≡ length front = omega (arith, many) in
    let whole : length front + (count - length front) ≡ count = omega (arith, many) in
    ap (λ (n : ℕ). take n front ++ take (count - n) back) all
    ∙ ap (λ (bytes : List ℕ). bytes ++ take (count - length front) back) (take_all (length front) front (omega arith))
    ∙ sym (take-append-add front back (count - length front))
    ∙ ap (λ (n : ℕ). take n (front ++ back)) whole)
    (cases_lt count (length front))

-- both parts were added
pub both_added : (whole first second : List ℕ) (old mid new : Option (List ℕ)) → first ++ second ≡ whole
    → mid ≡ after_adding old first → new ≡ after_adding mid second → new ≡ after_adding old whole
both_added whole first second old mid new both one two =
    two ∙ ap (λ (held : Option (List ℕ)). after_adding held second) one ∙ adding_both first second old ∙ ap (after_adding old) both

-- a front of the first part is one of the whole
pub cut_in_first : (whole first second : List ℕ) (old new : Option (List ℕ)) → first ++ second ≡ whole → AddsFront first old new → AddsFront whole old new
cut_in_first whole first second old new both cut = record {
  front = cut.front;
  rest = cut.rest ++ second;
  joined = sym both ∙ ap (λ (bytes : List ℕ). bytes ++ second) cut.joined ∙ append_assoc cut.front cut.rest second;
  held = cut.held;
}

-- the first part and a front of the second are one
pub cut_in_second : (whole first second : List ℕ) (old mid new : Option (List ℕ)) → first ++ second ≡ whole → mid ≡ after_adding old first
    → AddsFront second mid new → AddsFront whole old new
cut_in_second whole first second old mid new both one cut = record {
  front = first ++ cut.front;
  rest = cut.rest;
  joined = sym both ∙ ap (λ (bytes : List ℕ). first ++ bytes) cut.joined ∙ sym (append_assoc first cut.front cut.rest);
  held = cut.held ∙ ap (λ (held : Option (List ℕ)). after_adding held cut.front) one ∙ adding_both first cut.front old;
}

-- the first bytes of a ring, where so many of them are in front
pub whole_of : (front back items : List ℕ) (count first : ℕ) → first ≡ min count (length front) → front ++ back ≡ items
    → take first front ++ take (count - first) back ≡ take count items
whole_of front back items count first few both =
    ap (λ (n : ℕ). take n front ++ take (count - n) back) few ∙ front_of_both front back count ∙ ap (take count) both

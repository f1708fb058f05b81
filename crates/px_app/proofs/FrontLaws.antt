-- Fronts of what is written in two parts.
use Rattle.std.proofs.Common.{◌≡◌, ℕ, List, [], ◌++◌, Option, refl, sym, ap, ◌∙◌, append_assoc}
use Rattle.std.proofs.lemmas.List.{append-nil}
use Rattle.px_ends.specs.Visible.{after_adding}
use Rattle.px_ends.specs.Whole.{AddsFront}
use Rattle.px_ends.proofs.VisibleBytes.{adding_nothing, adding_both}

-- a front of the first part was added
pub first_cut : (a b : List ℕ) (old now : Option (List ℕ)) → AddsFront a old now → AddsFront (a ++ b) old now
first_cut a b old now cut = record {
  front = cut.front;
  rest = cut.rest ++ b;
  joined = ap (λ (t : List ℕ). t ++ b) cut.joined ∙ append_assoc cut.front cut.rest b;
  held = cut.held;
}

-- the first part was added, and a front of the second
pub second_cut : (a b : List ℕ) (old mid now : Option (List ℕ)) → mid ≡ after_adding old a → AddsFront b mid now → AddsFront (a ++ b) old now
second_cut a b old mid now first cut = record {
  front = a ++ cut.front;
  rest = cut.rest;
  joined = ap (λ (t : List ℕ). a ++ t) cut.joined ∙ sym (append_assoc a cut.front cut.rest);
  held = cut.held ∙ ap (λ (m : Option (List ℕ)). after_adding m cut.front) first ∙ adding_both a cut.front old;
}

-- all of it was added
pub whole_front : (a : List ℕ) (old now : Option (List ℕ)) → now ≡ after_adding old a → AddsFront a old now
whole_front a old now same = record { front = a; rest = []; joined = sym (append-nil a); held = same }

-- nothing was added
pub no_front : (a : List ℕ) (old now : Option (List ℕ)) → now ≡ old → AddsFront a old now
no_front a old now same = record { front = []; rest = a; joined = refl; held = same ∙ sym (adding_nothing old) }

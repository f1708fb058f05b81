-- The words of the command line, one by one.
use Rattle.std.proofs.Common.{◌≡◌, List, [], ◌∷◌, length, map, string_bytes, String, Global, None, refl}
use Rattle.px_app.specs.Words.{meaning_in}

pub other_words : (words : List (String Global)) → (length words ≡ 1 → ⊥) → (length words ≡ 2 → ⊥) → (length words ≡ 3 → ⊥) → meaning_in (map string_bytes words) ≡ None
other_words [] one two three = refl
other_words (x ∷ []) one two three = absurd (one refl)
other_words (x ∷ y ∷ []) one two three = absurd (two refl)
other_words (x ∷ y ∷ z ∷ []) one two three = absurd (three refl)
other_words (x ∷ y ∷ z ∷ w ∷ more) one two three = refl

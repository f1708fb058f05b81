-- Loops that make one change after the other.
use Rattle.std.proofs.Common.{◌≡◌, ℕ, ◌+◌, ◌<◌, ◌∷◌, List, length, get_or, drop, ap, sym, ◌∙◌}
use Rattle.std.proofs.lemmas.List.{at_drop_more}
use Rattle.px_flat.specs.FlatVolume.{FlatGroup}
use Rattle.px_msg.specs.declared.message.Msg.{Msg}
use Rattle.px_outcome.specs.declared.change.Change.{Change}
use Rattle.px_subscribe.specs.Scene.{Scene, scene_after}

-- the changes that are left make of the scene so far what all make, also where one more is made
pub one_made : {P : Type 0} (old new all : Scene) (changes : List (Change (Msg P) FlatGroup)) (i : ℕ) (c : Change (Msg P) FlatGroup) → i < length changes → c ≡ get_or changes i c
    → ((more : List (Change (Msg P) FlatGroup)) → scene_after new more ≡ scene_after old (c ∷ more)) → scene_after old (drop i changes) ≡ all → scene_after new (drop (i + 1) changes) ≡ all
one_made {P} old new all changes i c below e one before =
    one (drop (i + 1) changes) ∙ ap (λ y. scene_after old (y ∷ drop (i + 1) changes)) e
    ∙ sym (at_drop_more (λ (ys : List (Change (Msg P) FlatGroup)). scene_after old ys) changes i c below) ∙ before

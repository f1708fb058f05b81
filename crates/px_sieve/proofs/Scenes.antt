-- Lists of items join.
use Rattle.std.proofs.Common.{◌≡◌, List, [], ◌∷◌, ◌++◌, refl, ap, sym, subst, ◌∙◌}
use Rattle.std.proofs.lemmas.List.{append_assoc}
use Rattle.px_world.specs.World.{World}
use Rattle.px_world.specs.Event.{world_after, effects_after}
use Rattle.px_world.specs.Output.{world_by, AreAdmitted}
use Rattle.px_world.proofs.Runs.{world-joins, admitted-join}
use Rattle.px_sieve.specs.Scene.{Item, Inner, Reply, inner, shown_by, shifted}

pub events-join : (earlier later : List Item) → inner (earlier ++ later) ≡ inner earlier ++ inner later
events-join [] later = refl
events-join (Inner e shift ∷ earlier) later = ap (λ l. e ∷ l) (events-join earlier later)
events-join (Reply effects ∷ earlier) later = events-join earlier later

pub worlds-join : (w : World) (earlier later : List Item) → world_by w (inner (earlier ++ later)) ≡ world_by (world_by w (inner earlier)) (inner later)
worlds-join w earlier later = ap (world_by w) (events-join earlier later) ∙ world-joins w (inner earlier) (inner later)

pub shown-join : (w : World) (earlier later : List Item) → shown_by w (earlier ++ later) ≡ shown_by w earlier ++ shown_by (world_by w (inner earlier)) later
shown-join w [] later = refl
shown-join w (Inner e shift ∷ earlier) later =
    ap (λ l. shifted shift (effects_after w e) ++ l) (shown-join (world_after w e) earlier later)
    ∙ sym (append_assoc (shifted shift (effects_after w e)) (shown_by (world_after w e) earlier) (shown_by (world_by (world_after w e) (inner earlier)) later))
shown-join w (Reply effects ∷ earlier) later =
    ap (λ l. effects ++ l) (shown-join w earlier later)
    ∙ sym (append_assoc effects (shown_by w earlier) (shown_by (world_by w (inner earlier)) later))

pub admitted-joins : (w : World) (earlier later : List Item) → AreAdmitted w (inner earlier) → AreAdmitted (world_by w (inner earlier)) (inner later) → AreAdmitted w (inner (earlier ++ later))
admitted-joins w earlier later first then = subst (AreAdmitted w) (sym (events-join earlier later)) (admitted-join w (inner earlier) (inner later) first then)

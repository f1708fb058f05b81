-- A run goes on event by event.
use Rattle.std.proofs.Common.{◌≡◌, List, [], ◌∷◌, ◌++◌, None, refl, ap, sym, ◌∙◌, append_assoc, append-nil}
use Rattle.px_session.specs.declared.event.Event.{Event}
use Rattle.px_world.specs.World.{World}
use Rattle.px_world.specs.Admission.{refusal_of}
use Rattle.px_world.specs.Event.{world_after, effects_after}
use Rattle.px_world.specs.Output.{records_of, world_by, records_by, effects_by_run, AreAdmitted}

pub world-joins : (w : World) (earlier later : List Event) → world_by w (earlier ++ later) ≡ world_by (world_by w earlier) later
world-joins w [] later = refl
world-joins w (e ∷ earlier) later = world-joins (world_after w e) earlier later

pub records-join : (w : World) (earlier later : List Event) → records_by w (earlier ++ later) ≡ records_by w earlier ++ records_by (world_by w earlier) later
records-join w [] later = refl
records-join w (e ∷ earlier) later =
    ap (λ l. records_of w e ++ l) (records-join (world_after w e) earlier later)
    ∙ sym (append_assoc (records_of w e) (records_by (world_after w e) earlier) (records_by (world_by (world_after w e) earlier) later))

pub effects-join : (w : World) (earlier later : List Event) → effects_by_run w (earlier ++ later) ≡ effects_by_run w earlier ++ effects_by_run (world_by w earlier) later
effects-join w [] later = refl
effects-join w (e ∷ earlier) later =
    ap (λ l. effects_after w e ++ l) (effects-join (world_after w e) earlier later)
    ∙ sym (append_assoc (effects_after w e) (effects_by_run (world_after w e) earlier) (effects_by_run (world_by (world_after w e) earlier) later))

pub admitted-join : (w : World) (earlier later : List Event) → AreAdmitted w earlier → AreAdmitted (world_by w earlier) later → AreAdmitted w (earlier ++ later)
admitted-join w [] later a b = b
admitted-join w (e ∷ earlier) later a b = (a.0, admitted-join (world_after w e) earlier later a.1 b)

pub admitted-split : (w : World) (earlier later : List Event) → AreAdmitted w (earlier ++ later) → AreAdmitted w earlier × AreAdmitted (world_by w earlier) later
admitted-split w [] later a = (tt, a)
admitted-split w (e ∷ earlier) later a =
    let rest = admitted-split (world_after w e) earlier later a.1 in
    ((a.0, rest.0), rest.1)

-- ---- one event more

pub world-push : (w : World) (events : List Event) (e : Event) → world_by w (events ++ e ∷ []) ≡ world_after (world_by w events) e
world-push w events e = world-joins w events (e ∷ [])

pub records-push : (w : World) (events : List Event) (e : Event) → records_by w (events ++ e ∷ []) ≡ records_by w events ++ records_of (world_by w events) e
records-push w events e =
    records-join w events (e ∷ []) ∙ ap (λ l. records_by w events ++ l) (append-nil (records_of (world_by w events) e))

pub effects-push : (w : World) (events : List Event) (e : Event) → effects_by_run w (events ++ e ∷ []) ≡ effects_by_run w events ++ effects_after (world_by w events) e
effects-push w events e =
    effects-join w events (e ∷ []) ∙ ap (λ l. effects_by_run w events ++ l) (append-nil (effects_after (world_by w events) e))

pub admitted-push : (w : World) (events : List Event) (e : Event) → AreAdmitted w events → refusal_of (world_by w events) e ≡ None → AreAdmitted w (events ++ e ∷ [])
admitted-push w events e a lawful = admitted-join w events (e ∷ []) a (lawful, tt)

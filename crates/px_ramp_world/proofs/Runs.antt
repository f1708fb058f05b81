-- A run of a world with ramps goes on event by event.
use Rattle.std.proofs.Common.{◌≡◌, List, [], ◌∷◌, ◌++◌, None, refl, ap, sym, ◌∙◌, append_assoc, append-nil}
use Rattle.px_session.specs.declared.event.Event.{Event}
use Rattle.px_world.specs.Admission.{refusal_of}
use Rattle.px_world.specs.Event.{effects_after}
use Rattle.px_world.specs.Output.{records_of}
use Rattle.px_ramp_world.specs.World.{RampWorld, plain_of}
use Rattle.px_ramp_world.specs.Event.{ramp_world_after}
use Rattle.px_ramp_world.specs.Output.{ramp_world_by, ramp_records_by, ramp_effects_by, AreRampAdmitted}

pub world-joins : (w : RampWorld) (earlier later : List Event) → ramp_world_by w (earlier ++ later) ≡ ramp_world_by (ramp_world_by w earlier) later
world-joins w [] later = refl
world-joins w (e ∷ earlier) later = world-joins (ramp_world_after w e) earlier later

pub records-join : (w : RampWorld) (earlier later : List Event) → ramp_records_by w (earlier ++ later) ≡ ramp_records_by w earlier ++ ramp_records_by (ramp_world_by w earlier) later
records-join w [] later = refl
records-join w (e ∷ earlier) later =
    ap (λ l. records_of (plain_of w) e ++ l) (records-join (ramp_world_after w e) earlier later)
    ∙ sym (append_assoc (records_of (plain_of w) e) (ramp_records_by (ramp_world_after w e) earlier) (ramp_records_by (ramp_world_by (ramp_world_after w e) earlier) later))

pub effects-join : (w : RampWorld) (earlier later : List Event) → ramp_effects_by w (earlier ++ later) ≡ ramp_effects_by w earlier ++ ramp_effects_by (ramp_world_by w earlier) later
effects-join w [] later = refl
effects-join w (e ∷ earlier) later =
    ap (λ l. effects_after (plain_of w) e ++ l) (effects-join (ramp_world_after w e) earlier later)
    ∙ sym (append_assoc (effects_after (plain_of w) e) (ramp_effects_by (ramp_world_after w e) earlier) (ramp_effects_by (ramp_world_by (ramp_world_after w e) earlier) later))

pub admitted-join : (w : RampWorld) (earlier later : List Event) → AreRampAdmitted w earlier → AreRampAdmitted (ramp_world_by w earlier) later → AreRampAdmitted w (earlier ++ later)
admitted-join w [] later a b = b
admitted-join w (e ∷ earlier) later a b = (a.0, admitted-join (ramp_world_after w e) earlier later a.1 b)

-- ---- one event more

pub world-push : (w : RampWorld) (events : List Event) (e : Event) → ramp_world_by w (events ++ e ∷ []) ≡ ramp_world_after (ramp_world_by w events) e
world-push w events e = world-joins w events (e ∷ [])

pub records-push : (w : RampWorld) (events : List Event) (e : Event) → ramp_records_by w (events ++ e ∷ []) ≡ ramp_records_by w events ++ records_of (plain_of (ramp_world_by w events)) e
records-push w events e =
    records-join w events (e ∷ []) ∙ ap (λ l. ramp_records_by w events ++ l) (append-nil (records_of (plain_of (ramp_world_by w events)) e))

pub effects-push : (w : RampWorld) (events : List Event) (e : Event) → ramp_effects_by w (events ++ e ∷ []) ≡ ramp_effects_by w events ++ effects_after (plain_of (ramp_world_by w events)) e
effects-push w events e =
    effects-join w events (e ∷ []) ∙ ap (λ l. ramp_effects_by w events ++ l) (append-nil (effects_after (plain_of (ramp_world_by w events)) e))

pub admitted-push : (w : RampWorld) (events : List Event) (e : Event) → AreRampAdmitted w events → refusal_of (plain_of (ramp_world_by w events)) e ≡ None → AreRampAdmitted w (events ++ e ∷ [])
admitted-push w events e a lawful = admitted-join w events (e ∷ []) a (lawful, tt)

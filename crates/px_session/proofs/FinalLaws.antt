-- A refusal is the one of its bytes, and but for an early end stays whatever follows them.
use Rattle.std.proofs.Common.{◌≡◌, ◌≢◌, ℕ, List, [], ◌∷◌, ◌++◌, sym, subst, ◌∙◌}
use Rattle.px_session.specs.declared.event.Event.{Event}
use Rattle.px_session.specs.declared.event.Step.TheVariants as step
use Rattle.px_session.specs.declared.fault.Cause.TheVariants as cause
use Rattle.px_session.specs.declared.form.Form.{Form}
use Rattle.px_session.specs.Place.{Place, Refusal, start_of}
use Rattle.px_session.specs.Session.{Ended, Broken, Stand, Session, NoHeader, Events, IsSession}
use Rattle.px_session.specs.SessionLaw.{IsRefusedBy}
use Rattle.px_session.proofs.Steady.{more}
use Rattle.px_session.proofs.SteadySession.{header_steady, event_steady}
use Rattle.px_session.proofs.SessionLaws.{one_reading}

refused_once : (s : Session) (f g : Refusal) → IsRefusedBy s f → IsRefusedBy s g → f ≡ g
refused_once (NoHeader refusal) f g a b = sym a ∙ b
refused_once (Events form header events (Broken refusal)) f g a b = sym a ∙ b
refused_once (Events form header events Ended) f g a b = absurd a

pub one_refusal : (bytes : List ℕ) (s t : Session) (f g : Refusal) → IsSession bytes s → IsSession bytes t → IsRefusedBy s f → IsRefusedBy t g → f ≡ g
one_refusal bytes s t f g is other a b = refused_once s f g a (subst (λ (u : Session). IsRefusedBy u g) (sym (one_reading bytes s t is other)) b)

stand_more : (form : Form) (events : List Event) (refusal : Refusal) (place : Place) (behind : List ℕ) → refusal.cause ≢ cause.Truncated → Stand form events (Broken refusal) place → Stand form events (Broken refusal) (more place behind)
stand_more form [] refusal place behind late stand = (event_steady form).final place refusal behind stand late
stand_more form (event ∷ events) refusal place behind late stand =
    (more stand.0 behind, (event_steady form).ok place (step.Event event, stand.0) behind stand.1 tt, stand_more form events refusal stand.0 behind late stand.2)

pub final_refusal : (bytes behind : List ℕ) (s : Session) (f : Refusal) → IsSession bytes s → IsRefusedBy s f → f.cause ≢ cause.Truncated → IsSession (bytes ++ behind) s
final_refusal bytes behind (NoHeader refusal) f is same late =
    header_steady.final (start_of bytes) refusal behind is (λ early. late (subst (λ (r : Refusal). r.cause ≡ cause.Truncated) same early))
final_refusal bytes behind (Events form header events (Broken refusal)) f is same late =
    (more is.0 behind, header_steady.ok (start_of bytes) ((form, header), is.0) behind is.1 tt, stand_more form events refusal is.0 behind (λ early. late (subst (λ (r : Refusal). r.cause ≡ cause.Truncated) same early)) is.2)
final_refusal bytes behind (Events form header events Ended) f is same late = absurd same

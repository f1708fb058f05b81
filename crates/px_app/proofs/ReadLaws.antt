-- What a reader gives first is a header, and after it no header.
use Rattle.std.proofs.Common.{◌≡◌, List, ℕ, ◌++◌, Ok, Option, None, Some, IsSome, refl, sym, subst}
use Rattle.px_header.specs.declared.header.Header.{Header}
use Rattle.px_session.specs.declared.event.Step.{Step}
use Rattle.px_session.specs.declared.event.Step.TheVariants as step
use Rattle.px_session.specs.declared.form.Form.{Form}
use Rattle.px_session.specs.Place.{Place}
use Rattle.px_session.specs.Session.{step_at}
use Rattle.px_session.specs.Reader.{Reader, place_with, Takes}
use Rattle.px_session.proofs.LastByte.{event_no_header}
use Rattle.px_session.proofs.StepLaws.{first_read, later_read}

abbrev IsHeaderStep : Step → Type 0
IsHeaderStep (step.Header h) = Unit {0}
IsHeaderStep (step.Event e) = ⊥
IsHeaderStep step.End = ⊥

-- a header was read, since none was before
pub took_header : (old new : Reader) (s : Step) (before after : Option (List ℕ)) → old.begun ≡ None → Takes (Ok s) old new before after → IsHeaderStep s
took_header old new s before after begun t =
    let place = place_with old (old.ahead ++ t.taken) in
    let read = subst (λ (b : Option Form). step_at b place ≡ Ok ((t.stepped.0, s), place_with new new.ahead)) begun t.stepped.1 in
    let first = first_read place ((t.stepped.0, s), place_with new new.ahead) read in
    subst IsHeaderStep (sym first.2) tt

-- and no header, since one was
pub took_no_header : (old new : Reader) (h : Header) (before after : Option (List ℕ)) → IsSome old.begun → Takes (Ok (step.Header h)) old new before after → ⊥
took_no_header old new h before after begun t = by old.begun refl begun
  where
    place : Place
    place = place_with old (old.ahead ++ t.taken)

    by : (b : Option Form) → old.begun ≡ b → IsSome b → ⊥
    by None is some = absurd cc
    by (Some form) is some = (let read = subst (λ (b : Option Form). step_at b place ≡ Ok ((t.stepped.0, step.Header h), place_with new new.ahead)) is t.stepped.1 in
        event_no_header form place (step.Header h, place_with new new.ahead) h (later_read form place ((t.stepped.0, step.Header h), place_with new new.ahead) read).0 refl)

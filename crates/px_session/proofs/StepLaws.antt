-- What comes next by the form that is known: the header and its form, or an event of this form.
use Rattle.std.proofs.Common.{◌≡◌, Result, Ok, Err, sym, ap, ◌∙◌}
use Rattle.px_header.specs.declared.header.Header.{Header}
use Rattle.px_session.specs.declared.event.Step.{Step}
use Rattle.px_session.specs.declared.event.Step.TheVariants as step
use Rattle.px_session.specs.declared.form.Form.{Form}
use Rattle.px_session.specs.Place.{Place, Refusal, done}
use Rattle.px_session.specs.HeaderReading.{header_at}
use Rattle.px_session.specs.EventReading.{event_at}
use Rattle.px_session.specs.Session.{first_at, later_at}
use Rattle.px_session.proofs.Steps.{then_ok, as_refused}
use Rattle.px_session.proofs.Steady.{answer, ok_is}

abbrev headed : (Form × Header) × Place → Result ((Form × Header) × Place) Refusal
headed x = Ok x

-- what is read first is a header, and its form
pub first_read : (place : Place) (x : (Form × Step) × Place) → first_at place ≡ Ok x → (h : Header) × (header_at place ≡ Ok ((x.0.0, h), x.1)) × (x.0.1 ≡ step.Header h)
unfolding first_at
first_read place x e =
    let s = then_ok header_at (λ first. done (first.0, step.Header first.1)) place x e in
    let same = ok_is ((s.0.0.0, step.Header s.0.0.1), s.0.1) x s.2 in
    let form : s.0.0.0 ≡ x.0.0 = ap (λ (z : (Form × Step) × Place). z.0.0) same in
    let after : s.0.1 ≡ x.1 = ap (λ (z : (Form × Step) × Place). z.1) same in
    (s.0.0.1, s.1 ∙ ap (λ (f : Form). headed ((f, s.0.0.1), s.0.1)) form ∙ ap (λ (p : Place). headed ((x.0.0, s.0.0.1), p)) after, sym (ap (λ (z : (Form × Step) × Place). z.0.1) same))

pub first_refused : (place : Place) (f : Refusal) → first_at place ≡ Err f → header_at place ≡ Err f
unfolding first_at
first_refused place f e = as_refused header_at (λ first. (first.0, step.Header first.1)) place f e

-- what is read next is an event, or the end, and the form stays
pub later_read : (form : Form) (place : Place) (x : (Form × Step) × Place) → later_at form place ≡ Ok x → (event_at form place ≡ Ok (x.0.1, x.1)) × (x.0.0 ≡ form)
unfolding later_at
later_read form place x e =
    let s = then_ok (event_at form) (λ step. done (form, step)) place x e in
    let same = ok_is ((form, s.0.0), s.0.1) x s.2 in
    (s.1 ∙ ap (λ (z : (Form × Step) × Place). answer (z.0.1, z.1)) same, sym (ap (λ (z : (Form × Step) × Place). z.0.0) same))

pub later_refused : (form : Form) (place : Place) (f : Refusal) → later_at form place ≡ Err f → event_at form place ≡ Err f
unfolding later_at
later_refused form place f e = as_refused (event_at form) (λ step. (form, step)) place f e

-- What begins a session stays so whatever follows, and goes on event by event.
use Rattle.std.proofs.Common.{◌≡◌, ◌⊎◌, inl, inr, ℕ, List, [], ◌∷◌, ◌++◌, None, Ok, Err, refl, ap, subst, ◌∙◌}
use Rattle.std.proofs.lemmas.List.{append-nil}
use Rattle.px_header.specs.declared.header.Header.{Header}
use Rattle.px_session.specs.declared.event.Event.{Event}
use Rattle.px_session.specs.declared.event.Step.TheVariants as step
use Rattle.px_session.specs.declared.fault.Cause.{Cause}
use Rattle.px_session.specs.declared.fault.Cause.TheVariants as cause
use Rattle.px_session.specs.declared.form.Form.{Form}
use Rattle.px_session.specs.Place.{Place, Reading, Refusal as Broken, start_of}
use Rattle.px_session.specs.HeaderReading.{header_at}
use Rattle.px_session.specs.EventReading.{event_at}
use Rattle.px_session.specs.Session.{Ended, Stand}
use Rattle.px_session.specs.SessionLaw.{Lead}
use Rattle.px_session.proofs.Steady.{more, IsSteady}
use Rattle.px_session.proofs.SteadySession.{header_steady, event_steady}
use Rattle.px_session.proofs.SessionLaws.{lead_stand}
use Rattle.px_app.specs.Mode.{Course, state_after}
use Rattle.px_app.specs.Session.{IsPlayed, Begins}
use Rattle.px_app.proofs.ModeLaws.{admitted-push}

-- ---- more bytes behind

pub header_more : (place : Place) (h : Form × Header) (after : Place) (behind : List ℕ) → header_at place ≡ Ok (h, after) → header_at (more place behind) ≡ Ok (h, more after behind)
header_more place h after behind e = header_steady.ok place (h, after) behind e tt

pub event_more : (form : Form) (place : Place) (e : Event) (after : Place) (behind : List ℕ) → event_at form place ≡ Ok (step.Event e, after) → event_at form (more place behind) ≡ Ok (step.Event e, more after behind)
event_more form place e after behind read = (event_steady form).ok place (step.Event e, after) behind read tt

pub lead_more : (form : Form) (events : List Event) (start here : Place) (behind : List ℕ) → Lead form events start here → Lead form events (more start behind) (more here behind)
lead_more form [] start here behind lead = ap (λ (z : Place). more z behind) lead
lead_more form (e ∷ events) start here behind lead = (more lead.0 behind, event_more form start e lead.0 behind lead.1, lead_more form events lead.0 here behind lead.2)

pub lead_next : (form : Form) (events : List Event) (e : Event) (start here after : Place) → Lead form events start here → event_at form here ≡ Ok (step.Event e, after) → Lead form (events ++ e ∷ []) start after
lead_next form [] e start here after lead read = (after, subst (λ (z : Place). event_at form z ≡ Ok (step.Event e, after)) lead read, refl)
lead_next form (d ∷ events) e start here after lead read = (lead.0, lead.1, lead_next form events e lead.0 here after lead.2 read)

module _ {W : Type 0} (course : Course W) where
  abbrev pub begins_more : (bytes : List ℕ) (header : Header) (events : List Event) (here : Place) (behind : List ℕ) → Begins course bytes header events here → Begins course (bytes ++ behind) header events (more here behind)
  begins_more bytes header events here behind b = record {
    form = b.form;
    start = more b.start behind;
    head = header_more (start_of bytes) (b.form, header) b.start behind b.head;
    lead = lead_more b.form events b.start here behind b.lead;
    admitted = b.admitted;
  }

  -- one more event
  abbrev pub begins_next : (bytes : List ℕ) (header : Header) (events : List Event) (here after : Place) (e : Event) (b : Begins course bytes header events here) → event_at b.form here ≡ Ok (step.Event e, after) → course.refuses (state_after course header events) e ≡ None → Begins course bytes header (events ++ e ∷ []) after
  begins_next bytes header events here after e b read admits = record {
    form = b.form;
    start = b.start;
    head = b.head;
    lead = lead_next b.form events e b.start here after b.lead read;
    admitted = admitted-push course (course.first header) events e b.admitted admits;
  }

  -- the end
  pub ends_played : (bytes : List ℕ) (header : Header) (events : List Event) (here after : Place) (b : Begins course bytes header events here) → event_at b.form here ≡ Ok (step.End, after) → IsPlayed course bytes header events
  ends_played bytes header events here after b read = record {
    form = b.form;
    session = (b.start, b.head, subst (λ (es : List Event). Stand b.form es Ended b.start) (append-nil events) (lead_stand b.form events [] Ended b.start here b.lead (after, read)));
    admitted = b.admitted;
  }

-- ---- refusals

abbrev IsEarlier : Cause → Type 0
IsEarlier c = (c ≡ cause.Truncated) ⊎ (c ≡ cause.Truncated → ⊥)

early_or_late : (c : Cause) → IsEarlier c
early_or_late cause.Magic = inr (λ e. cc)
early_or_late cause.Header = inr (λ e. cc)
early_or_late cause.Truncated = inl refl
early_or_late cause.Endless = inr (λ e. cc)
early_or_late cause.Trailing = inr (λ e. cc)
early_or_late (cause.Kind kind) = inr (λ e. cc)
early_or_late (cause.TooLong size) = inr (λ e. cc)

nothing_more : (place : Place) → more place [] ≡ place
nothing_more place = ap (λ (bytes : List ℕ). record { at = place.at; rest = bytes }) (append-nil place.rest)

-- what is refused stays so, where nothing follows an early end
pub broken_more : {A : Type 0} (closed : A → Type 0) (read : Reading A) → IsSteady closed read → (place : Place) (f : Broken) (behind : List ℕ) → read place ≡ Err f → (f.cause ≡ cause.Truncated → behind ≡ []) → read (more place behind) ≡ Err f
broken_more closed read steady place f behind e ends =
    elim (early_or_late f.cause) [
      | inl early ↦ ap (λ (b : List ℕ). read (more place b)) (ends early) ∙ ap read (nothing_more place) ∙ e
      | inr late ↦ steady.final place f behind e late
    ]

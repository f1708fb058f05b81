-- Each list of bytes is a session that is played, or is refused.
use Rattle.std.proofs.Common.{◌≡◌, ◌⊎◌, inl, inr, ℕ, List, [], ◌∷◌, ◌++◌, Option, None, Some, Ok, refl}
use Rattle.px_header.specs.declared.header.Header.{Header}
use Rattle.px_session.specs.declared.event.Event.{Event}
use Rattle.px_session.specs.declared.form.Form.{Form}
use Rattle.px_session.specs.Place.{Place, start_of}
use Rattle.px_session.specs.HeaderReading.{header_at}
use Rattle.px_session.specs.Session.{Ending, Ended, Broken, Stand, Session, NoHeader, Events, IsSession}
use Rattle.px_session.proofs.SessionLaws.{some_reading, one_reading}
use Rattle.px_world.specs.declared.fault.WorldFault.{WorldFault}
use Rattle.px_app.specs.declared.refusal.Refusal.{Refusal}
use Rattle.px_app.specs.Refusal.{of_bytes, of_event}
use Rattle.px_app.specs.Mode.{Course, state_after}
use Rattle.px_app.specs.Session.{IsPlayed, Begins, Before, IsRefused}
use Rattle.px_app.proofs.BeginLaws.{begins_next, ends_played}

same_events : (f k : Form) (g h : Header) (ds es : List Event) → Events f g ds Ended ≡ Events k h es Ended → (g ≡ h) × (ds ≡ es)
same_events f k g h ds es e = (cc, cc)

module _ {W : Type 0} (course : Course W) where
  abbrev IsPlayedSo : List ℕ → Type 0
  IsPlayedSo bytes = (header : Header) × (events : List Event) × IsPlayed course bytes header events

  abbrev IsRefusedSo : List ℕ → Type 0
  IsRefusedSo bytes = (refusal : Refusal) × (before : Before) × IsRefused course bytes refusal before

  -- event by event
  module _ (bytes : List ℕ) (header : Header) where
    goes : (before rest : List Event) (ending : Ending) (here : Place) (b : Begins course bytes header before here) → Stand b.form rest ending here → IsPlayedSo bytes ⊎ IsRefusedSo bytes
    goes before [] Ended here b s = inl (header, before, ends_played course bytes header before here s.0 b s.1)
    goes before [] (Broken f) here b s = inr (of_bytes f, Some (header, before), inr (header, before, here, b, inl (f, s, refl), refl))
    goes before (e ∷ rest) ending here b s = decided (course.refuses (state_after course header before) e) refl (λ admitted. goes (before ++ e ∷ []) rest ending s.0 (begins_next course bytes header before here s.0 e b s.1 admitted) s.2)
      where
        decided : (o : Option WorldFault) → course.refuses (state_after course header before) e ≡ o → (course.refuses (state_after course header before) e ≡ None → IsPlayedSo bytes ⊎ IsRefusedSo bytes) → IsPlayedSo bytes ⊎ IsRefusedSo bytes
        decided None is on = on is
        decided (Some fault) is on = inr (of_event here.at e fault, Some (header, before), inr (header, before, here, b, inr (e, s.0, fault, s.1, is, refl), refl))

    from_header : (form : Form) (start : Place) (events : List Event) (ending : Ending) → header_at (start_of bytes) ≡ Ok ((form, header), start) → Stand form events ending start → IsPlayedSo bytes ⊎ IsRefusedSo bytes
    from_header form start events ending head s = goes [] events ending start (record { form = form; start = start; head = head; lead = refl; admitted = tt }) s

  by_session : (bytes : List ℕ) (s : Session) → IsSession bytes s → IsPlayedSo bytes ⊎ IsRefusedSo bytes
  by_session bytes (NoHeader f) is = inr (of_bytes f, None, inl ((f, is, refl), refl))
  by_session bytes (Events form header events ending) is = from_header bytes header form is.0 events ending is.1 is.2

  pub either : (bytes : List ℕ) → IsPlayedSo bytes ⊎ IsRefusedSo bytes
  either bytes = let s = some_reading bytes in by_session bytes s.0 s.1

  -- in one way
  pub one_way : (bytes : List ℕ) (header other : Header) (events others : List Event) → IsPlayed course bytes header events → IsPlayed course bytes other others → (header ≡ other) × (events ≡ others)
  one_way bytes header other events others p q = same_events p.form q.form header other events others (one_reading bytes (Events p.form header events Ended) (Events q.form other others Ended) p.session q.session)

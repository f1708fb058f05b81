-- What is refused is so at one place, for one cause and behind the same events.
use Rattle.std.proofs.Common.{◌≡◌, ◌≢◌, inl, inr, ℕ, List, [], ◌∷◌, ◌++◌, None, Some, Ok, refl, sym, ap, subst, ◌∙◌}
use Rattle.std.proofs.lemmas.Option.{same_Some}
use Rattle.px_header.specs.declared.header.Header.{Header}
use Rattle.px_session.specs.declared.event.Event.{Event}
use Rattle.px_session.specs.declared.event.Step.{Step}
use Rattle.px_session.specs.declared.event.Step.TheVariants as step
use Rattle.px_session.specs.declared.fault.Cause.TheVariants as cause
use Rattle.px_session.specs.declared.form.Form.{Form}
use Rattle.px_session.specs.Place.{Place, start_of}
use Rattle.px_session.specs.HeaderReading.{header_at}
use Rattle.px_session.specs.EventReading.{event_at}
use Rattle.px_session.specs.SessionLaw.{Lead}
use Rattle.px_session.proofs.Steady.{err_is}
use Rattle.px_app.specs.declared.refusal.Refusal.{Refusal}
use Rattle.px_app.specs.declared.refusal.Why.TheVariants as why
use Rattle.px_app.specs.Refusal.{of_bytes, of_event}
use Rattle.px_app.specs.Mode.{Course, AreAdmitted, state_by}
use Rattle.px_app.specs.Session.{Begins, NoneBegins, StopsHere, StopsIn, Before, IsRefused}
use Rattle.px_app.proofs.CompleteLaws.{not_both, same_answer, event_is, none_no_some, headers_are}
use Rattle.px_app.proofs.RefuseLaws.{refused_more}

-- one event is read
same_event : (form : Form) (place : Place) (d e : Event) (a b : Place) → event_at form place ≡ Ok (step.Event d, a) → event_at form place ≡ Ok (step.Event e, b) → (d ≡ e) × (a ≡ b)
same_event form place d e a b p q =
    let same = same_answer (event_at form place) (step.Event d, a) (step.Event e, b) p q in
    (event_is d e (ap (λ (z : Step × Place). z.0) same), ap (λ (z : Step × Place). z.1) same)

none_once : (bytes : List ℕ) (r s : Refusal) → NoneBegins bytes r → NoneBegins bytes s → r ≡ s
none_once bytes r s a b = a.2 ∙ ap of_bytes (err_is a.0 b.0 (sym a.1 ∙ b.1)) ∙ sym b.2

abbrev SameRefusal : Refusal → Refusal → Before → Before → Type 0
SameRefusal r s before others = (r ≡ s) × (before ≡ others)

behind_are : (g h : Header) (xs ys : List Event) → g ≡ h → xs ≡ ys → (let b : Before = Some (g, xs) in b) ≡ Some (h, ys)
behind_are g h xs ys same events = cc

module _ {W : Type 0} (course : Course W) where
  -- where events stop none that is admitted is read
  stops_no_more : (form : Form) (w : W) (e : Event) (here after : Place) (refusal : Refusal) → event_at form here ≡ Ok (step.Event e, after) → course.refuses w e ≡ None → StopsIn course form w here refusal → ⊥
  stops_no_more form w e here after refusal read admitted (inl none) = not_both (event_at form here) (step.Event e, after) none.0 read none.1
  stops_no_more form w e here after refusal read admitted (inr barred) =
      none_no_some barred.2 (sym admitted ∙ ap (course.refuses w) (same_event form here e barred.0 after barred.1 read barred.3).0 ∙ barred.4)

  stops_once : (form : Form) (w : W) (here : Place) (r s : Refusal) → StopsIn course form w here r → StopsIn course form w here s → r ≡ s
  stops_once form w here r s (inl a) (inl b) = a.2 ∙ ap of_bytes (err_is a.0 b.0 (sym a.1 ∙ b.1)) ∙ sym b.2
  stops_once form w here r s (inl a) (inr b) = absurd (not_both (event_at form here) (step.Event b.0, b.1) a.0 b.3 a.1)
  stops_once form w here r s (inr a) (inl b) = absurd (not_both (event_at form here) (step.Event a.0, a.1) b.0 a.3 b.1)
  stops_once form w here r s (inr a) (inr b) =
      let e = (same_event form here a.0 b.0 a.1 b.1 a.3 b.3).0 in
      let fault = same_Some a.2 b.2 (sym a.4 ∙ ap (course.refuses w) e ∙ b.4) in
      a.5 ∙ ap (λ (d : Event). of_event here.at d a.2) e ∙ ap (of_event here.at b.0) fault ∙ sym b.5

  -- the same events lead to where they stop
  leads_once : (form : Form) (w : W) (xs ys : List Event) (start a b : Place) (r s : Refusal) → Lead form xs start a → Lead form ys start b → AreAdmitted course w xs → AreAdmitted course w ys → StopsIn course form (state_by course w xs) a r → StopsIn course form (state_by course w ys) b s → (xs ≡ ys) × (a ≡ b)
  leads_once form w [] [] start a b r s la lb aa ab sa sb = (refl, la ∙ sym lb)
  leads_once form w [] (y ∷ ys) start a b r s la lb aa ab sa sb = absurd (stops_no_more form w y start lb.0 r lb.1 ab.0 (subst (λ (z : Place). StopsIn course form w z r) la sa))
  leads_once form w (x ∷ xs) [] start a b r s la lb aa ab sa sb = absurd (stops_no_more form w x start la.0 s la.1 aa.0 (subst (λ (z : Place). StopsIn course form w z s) lb sb))
  leads_once form w (x ∷ xs) (y ∷ ys) start a b r s la lb aa ab sa sb =
      let same = same_event form start x y la.0 lb.0 la.1 lb.1 in
      let rest = leads_once form (course.after w x) xs ys la.0 a b r s la.2
      (subst (λ (z : Place). Lead form ys z b) (sym same.1) lb.2) aa.1
      (subst (λ (e : Event). AreAdmitted course (course.after w e) ys) (sym same.0) ab.1) sa
      (subst (λ (e : Event). StopsIn course form (state_by course (course.after w e) ys) b s) (sym same.0) sb) in
      (ap (λ (e : Event). e ∷ xs) same.0 ∙ ap (λ (es : List Event). y ∷ es) rest.0, rest.1)

  begins_no_none : (bytes : List ℕ) (header : Header) (events : List Event) (here : Place) (refusal : Refusal) → Begins course bytes header events here → NoneBegins bytes refusal → ⊥
  begins_no_none bytes header events here refusal b none = not_both (header_at (start_of bytes)) ((b.form, header), b.start) none.0 b.head none.1

  begun_once : (bytes : List ℕ) (g h : Header) (xs ys : List Event) (a b : Place) (r s : Refusal) → (p : Begins course bytes g xs a) → StopsHere course p.form g xs a r → (q : Begins course bytes h ys b) → StopsHere course q.form h ys b s
      → SameRefusal r s (Some (g, xs)) (Some (h, ys))
  begun_once bytes g h xs ys a b r s p sa q sb =
      let form = p.form in
      let same = headers_are form q.form g h p.start q.start (same_answer (header_at (start_of bytes)) ((form, g), p.start) ((q.form, h), q.start) p.head q.head) in
      let stops : StopsIn course form (state_by course (course.first g) ys) b s =
      subst (λ (f : Form). StopsIn course f (state_by course (course.first g) ys) b s) (sym same.0) (subst (λ (k : Header). StopsIn course q.form (state_by course (course.first k) ys) b s) (sym same.1) sb) in
      let lead : Lead form ys p.start b = subst (λ (z : Place). Lead form ys z b) (sym same.2) (subst (λ (f : Form). Lead f ys q.start b) (sym same.0) q.lead) in
      let rest = leads_once form (course.first g) xs ys p.start a b r s p.lead lead p.admitted
      (subst (λ (k : Header). AreAdmitted course (course.first k) ys) (sym same.1) q.admitted) sa stops in (
        stops_once form (state_by course (course.first g) xs) a r s sa
            (subst (λ (es : List Event). StopsIn course form (state_by course (course.first g) es) a s) (sym rest.0) (subst (λ (z : Place). StopsIn course form (state_by course (course.first g) ys) z s) (sym rest.1) stops)),
        behind_are g h xs ys same.1 rest.0,
      )

  pub one_refusal : (bytes : List ℕ) (r s : Refusal) (before others : Before) → IsRefused course bytes r before → IsRefused course bytes s others → SameRefusal r s before others
  one_refusal bytes r s before others (inl a) (inl b) = (none_once bytes r s a.0 b.0, a.1 ∙ sym b.1)
  one_refusal bytes r s before others (inl a) (inr b) = absurd (begins_no_none bytes b.0 b.1 b.2 r b.3 a.0)
  one_refusal bytes r s before others (inr a) (inl b) = absurd (begins_no_none bytes a.0 a.1 a.2 s a.3 b.0)
  one_refusal bytes r s before others (inr a) (inr b) =
      let same = begun_once bytes a.0 b.0 a.1 b.1 a.2 b.2 r s a.3 a.4 b.3 b.4 in
      (same.0, a.5 ∙ same.1 ∙ sym b.5)

  pub final_refusal : (bytes behind : List ℕ) (refusal : Refusal) (before : Before) → IsRefused course bytes refusal before → refusal.why ≢ why.Session cause.Truncated → IsRefused course (bytes ++ behind) refusal before
  final_refusal bytes behind refusal before is late = refused_more course bytes refusal before behind is (λ early. absurd (late early))

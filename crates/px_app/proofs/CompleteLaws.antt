-- A session that is played isn't refused, and what isn't played is refused.
use Rattle.std.proofs.Common.{◌≡◌, ◌≢◌, inl, inr, ℕ, List, [], ◌∷◌, ◌++◌, Option, None, Some, Result, Ok, Err, refl, sym, ap, subst, ◌∙◌}
use Rattle.std.proofs.lemmas.List.{append-nil}
use Rattle.px_types.specs.declared.status.Status.{Status}
use Rattle.px_types.specs.declared.status.Status.TheVariants as status
use Rattle.px_ends.specs.Visible.{before_taking, IsAtEnd, WhereVisible}
use Rattle.px_header.specs.declared.header.Header.{Header}
use Rattle.px_session.specs.declared.event.Event.{Event}
use Rattle.px_session.specs.declared.event.Step.{Step}
use Rattle.px_session.specs.declared.event.Step.TheVariants as step
use Rattle.px_session.specs.declared.form.Form.{Form}
use Rattle.px_session.specs.Place.{Place, Refusal as Broken, start_of}
use Rattle.px_session.specs.HeaderReading.{header_at}
use Rattle.px_session.specs.EventReading.{event_at}
use Rattle.px_session.specs.Session.{Ended, Stand}
use Rattle.px_session.proofs.Steady.{answer, refused, ok_is}
use Rattle.px_session.proofs.SessionLaws.{lead_one}
use Rattle.px_world.specs.declared.fault.WorldFault.{WorldFault}
use Rattle.px_app.specs.declared.refusal.Refusal.{Refusal}
use Rattle.px_app.specs.Session.{IsPlayed, Begins, NoneBegins, StopsHere, Before, IsRefused, HasHeader}
use Rattle.px_app.specs.declared.ending.Ending.{Ending}
use Rattle.px_app.specs.declared.ending.Ending.TheVariants as ending
use Rattle.px_app.specs.Ends.{Ends}
use Rattle.px_app.specs.Ending.{status_of, IsReplayStatus}
use Rattle.px_app.specs.Mode.{Course, Mode, AreAdmitted, state_by}
use Rattle.px_app.specs.Played.{PlayedWhole, GivenBefore, WasRefused, WasUnnamed, IsUnnamed, Completes}
use Rattle.px_app.proofs.ModeLaws.{admitted-split}

-- ---- one answer

pub not_both : {A : Type 0} (r : Result (A × Place) Broken) (x : A × Place) (f : Broken) → r ≡ Ok x → r ≡ Err f → ⊥
not_both r x f a b = never x f (sym a ∙ b)
  where
    never : {A : Type 0} (x : A × Place) (f : Broken) → answer x ≡ refused f → ⊥
    never x f e = cc

pub same_answer : {A : Type 0} (r : Result (A × Place) Broken) (x y : A × Place) → r ≡ Ok x → r ≡ Ok y → x ≡ y
same_answer r x y a b = ok_is x y (sym a ∙ b)

end_no_event : (e : Event) → step.End ≡ step.Event e → ⊥
end_no_event e same = cc

pub event_is : (d e : Event) → step.Event d ≡ step.Event e → d ≡ e
event_is d e same = cc

pub none_no_some : (fault : WorldFault) → (let r : Option WorldFault = None in r) ≡ Some fault → ⊥
none_no_some fault e = cc

pub headers_are : (f k : Form) (g h : Header) (a b : Place) → (let x : (Form × Header) × Place = ((f, g), a) in x) ≡ ((k, h), b) → (f ≡ k) × (g ≡ h) × (a ≡ b)
headers_are f k g h a b same = (ap (λ (z : (Form × Header) × Place). z.0.0) same, ap (λ (z : (Form × Header) × Place). z.0.1) same, ap (λ (z : (Form × Header) × Place). z.1) same)

-- ---- played, and not refused

module _ {W : Type 0} (course : Course W) where
  -- the event behind the first ones is admitted
  admitted_there : (w : W) (before : List Event) (e : Event) (rest : List Event) → AreAdmitted course w (before ++ e ∷ rest) → course.refuses (state_by course w before) e ≡ None
  admitted_there w before e rest are = (admitted-split course w before (e ∷ rest) are).1.0

  stands_no_refusal : (form : Form) (rest : List Event) (here : Place) (f : Broken) → Stand form rest Ended here → event_at form here ≡ Err f → ⊥
  stands_no_refusal form [] here f s e = not_both (event_at form here) (step.End, s.0) f s.1 e
  stands_no_refusal form (d ∷ rest) here f s e = not_both (event_at form here) (step.Event d, s.0) f s.1 e

  admits_next : (form : Form) (w : W) (before rest : List Event) (here after : Place) (e : Event) (fault : WorldFault) → AreAdmitted course w (before ++ rest) → Stand form rest Ended here → event_at form here ≡ Ok (step.Event e, after) → course.refuses (state_by course w before) e ≡ Some fault → ⊥
  admits_next form w before [] here after e fault are s read refuses = end_no_event e (ap (λ (z : Step × Place). z.0) (same_answer (event_at form here) (step.End, s.0) (step.Event e, after) s.1 read))
  admits_next form w before (d ∷ rest) here after e fault are s read refuses =
      let same = event_is d e (ap (λ (z : Step × Place). z.0) (same_answer (event_at form here) (step.Event d, s.0) (step.Event e, after) s.1 read)) in
      none_no_some fault (sym (admitted_there w before d rest are) ∙ ap (course.refuses (state_by course w before)) same ∙ refuses)

  goes_past : (form : Form) (header : Header) (before events : List Event) (start here : Place) (refusal : Refusal) → AreAdmitted course (course.first header) events → (rest : List Event) × (events ≡ before ++ rest) × Stand form rest Ended here → StopsHere course form header before here refusal → ⊥
  goes_past form header before events start here refusal are split (inl none) = stands_no_refusal form split.0 here none.0 split.2 none.1
  goes_past form header before events start here refusal are split (inr barred) =
      admits_next form (course.first header) before split.0 here barred.1 barred.0 barred.2 (subst (AreAdmitted course (course.first header)) split.1 are) split.2 barred.3 barred.4

  begins_none : (bytes : List ℕ) (header : Header) (events : List Event) (refusal : Refusal) → IsPlayed course bytes header events → NoneBegins bytes refusal → ⊥
  begins_none bytes header events refusal p none = not_both (header_at (start_of bytes)) ((p.form, header), p.session.0) none.0 p.session.1 none.1

  begins_same : (bytes : List ℕ) (header : Header) (events : List Event) (h : Header) (before : List Event) (here : Place) (refusal : Refusal) → IsPlayed course bytes header events → (b : Begins course bytes h before here) → StopsHere course b.form h before here refusal → ⊥
  begins_same bytes header events h before here refusal p b stops =
      let same = headers_are p.form b.form header h p.session.0 b.start (same_answer (header_at (start_of bytes)) ((p.form, header), p.session.0) ((b.form, h), b.start) p.session.1 b.head) in
      let stand : Stand b.form events Ended b.start = subst (Stand b.form events Ended) same.2 (subst (λ (f : Form). Stand f events Ended p.session.0) same.0 p.session.2) in
      let split = lead_one b.form before events Ended b.start here b.lead stand in
      goes_past b.form h before events b.start here refusal (subst (λ (g : Header). AreAdmitted course (course.first g) events) same.1 p.admitted) split stops

  pub not_refused : (bytes : List ℕ) (header : Header) (events : List Event) (refusal : Refusal) (before : Before) → IsPlayed course bytes header events → IsRefused course bytes refusal before → ⊥
  not_refused bytes header events refusal before p (inl none) = begins_none bytes header events refusal p none.0
  not_refused bytes header events refusal before p (inr s) = begins_same bytes header events s.0 s.1 s.2 refusal p s.3 s.4

-- ---- one header

one_header : (bytes : List ℕ) (g h : Header) → HasHeader bytes g → HasHeader bytes h → g ≡ h
one_header bytes g h a b = (headers_are a.0 b.0 g h a.1 b.1 (same_answer (header_at (start_of bytes)) ((a.0, g), a.1) ((b.0, h), b.1) a.2 b.2)).1

none_no_look : {L : Type 0} (l : L) → (let o : Option L = None in o) ≡ Some l → ⊥
none_no_look l e = cc

-- ---- where the source tells

at_end_is : (bytes left : List ℕ) → left ≡ [] → bytes ≡ bytes ++ left
at_end_is bytes left end = sym (append-nil bytes) ∙ ap (λ (l : List ℕ). bytes ++ l) (sym end)

module _ {W : Type 0} (course : Course W) where
  -- all that the source had is played
  played_visible : (bytes : List ℕ) (header : Header) (events : List Event) (before after : Option (List ℕ)) → before ≡ before_taking bytes after → IsAtEnd after → IsPlayed course bytes header events → WhereVisible before (λ all. IsPlayed course all header events)
  played_visible bytes header events before None same end p = subst (λ (b : Option (List ℕ)). WhereVisible b (λ all. IsPlayed course all header events)) (sym same) tt
  played_visible bytes header events before (Some left) same end p = subst (λ (b : Option (List ℕ)). WhereVisible b (λ all. IsPlayed course all header events)) (sym same) (subst (λ (all : List ℕ). IsPlayed course all header events) (at_end_is bytes left end) p)

visible_by : (left : Option (List ℕ)) (fact : List ℕ → Type 0) → ((bytes : List ℕ) → left ≡ Some bytes → fact bytes) → WhereVisible left fact
visible_by None fact by = tt
visible_by (Some bytes) fact by = by bytes refl

module _ {W A L : Type 0} (mode : Mode W A L) where
  -- it has what is asked for, or hasn't
  named_so : (asked : A) (bytes : List ℕ) (header : Header) (l : L) → HasHeader bytes header → mode.looks asked header ≡ Some l → IsUnnamed mode asked bytes → ⊥
  named_so asked bytes header l has looks u = none_no_look l (sym u.2 ∙ ap (λ (h : Header). mode.looks asked h) (one_header bytes u.0 header u.1 has) ∙ looks)

  played_named : (asked : A) (bytes : List ℕ) (header : Header) (events : List Event) (l : L) → IsPlayed mode.course bytes header events → mode.looks asked header ≡ Some l → IsUnnamed mode asked bytes → ⊥
  played_named asked bytes header events l p looks u = named_so asked bytes header l (p.form, p.session.0, p.session.1) looks u

  refused_named : (asked : A) (bytes : List ℕ) (refusal : Refusal) (before : Before) (given : List ℕ) → IsRefused mode.course bytes refusal before → GivenBefore mode asked before given → IsUnnamed mode asked bytes → ⊥
  refused_named asked bytes refusal before given (inl none) gives u = not_both (header_at (start_of bytes)) ((u.1.0, u.0), u.1.1) none.0.0 u.1.2 none.0.1
  refused_named asked bytes refusal before given (inr s) gives u =
      let g = subst (λ (b : Before). GivenBefore mode asked b given) s.5 gives in
      named_so asked bytes s.0 g.0 (s.3.form, s.3.start, s.3.head) g.1 u

  abbrev OkFor : A → Status → List ℕ → Type 0
  OkFor asked answered bytes = answered ≡ status.Ok → (header : Header) × (events : List Event) × (l : L) × IsPlayed mode.course bytes header events × (mode.looks asked header ≡ Some l)

  abbrev RefusedFor : A → Status → List ℕ → Type 0
  RefusedFor asked answered bytes = answered ≡ status.Refused → (refusal : Refusal) × (before : Before) × (given : List ℕ) × IsRefused mode.course bytes refusal before × GivenBefore mode asked before given

  abbrev UnnamedFor : A → Status → List ℕ → Type 0
  UnnamedFor asked answered bytes = answered ≡ status.NoSuchSink → IsUnnamed mode asked bytes

  completes : (asked : A) (ended : Ending) (bytes : List ℕ) → OkFor asked (status_of ended) bytes → RefusedFor asked (status_of ended) bytes → UnnamedFor asked (status_of ended) bytes
      → (status_of ended ≡ status.ReadFault → ⊥) → (status_of ended ≡ status.WriteFault → ⊥) → ended ≢ ending.Usage → Completes mode asked (status_of ended) bytes
  completes asked ending.Done bytes ok refused unnamed read write other = (let s = ok refl in record {
    unnamed = λ u. absurd (played_named asked bytes s.0 s.1 s.2 s.3 s.4 u);
    played = λ named header events p. inl refl;
    not_played = λ named none. absurd (none s.0 s.1 s.3);
  })
  completes asked (ending.Refused refusal) bytes ok refused unnamed read write other = (let s = refused refl in record {
    unnamed = λ u. absurd (refused_named asked bytes s.0 s.1 s.2 s.3 s.4 u);
    played = λ named header events p. absurd (not_refused mode.course bytes header events s.0 s.1 p s.3);
    not_played = λ named none. inl refl;
  })
  completes asked ending.NoSuchSink bytes ok refused unnamed read write other = record {
    unnamed = λ u. inl refl;
    played = λ named header events p. absurd (named (unnamed refl));
    not_played = λ named none. absurd (named (unnamed refl));
  }
  completes asked ending.Memory bytes ok refused unnamed read write other = record { unnamed = λ u. inr refl; played = λ named header events p. inr refl; not_played = λ named none. inr refl }
  completes asked ending.ReadFault bytes ok refused unnamed read write other = absurd (read refl)
  completes asked ending.WriteFault bytes ok refused unnamed read write other = absurd (write refl)
  completes asked ending.Usage bytes ok refused unnamed read write other = absurd (other refl)

  ok_visible : (asked : A) (answered : Status) (bytes : List ℕ) (before after : Ends) → before.left ≡ Some bytes → (answered ≡ status.Ok → PlayedWhole mode asked before after) → OkFor asked answered bytes
  ok_visible asked answered bytes before after visible ok is =
      let w = ok is in
      (w.header, w.events, w.look, subst (λ (b : Option (List ℕ)). WhereVisible b (λ all. IsPlayed mode.course all w.header w.events)) visible (played_visible mode.course w.bytes w.header w.events before.left after.left w.departed w.at_end w.played), w.looks)

  refused_visible : (asked : A) (answered : Status) (bytes : List ℕ) (before after : Ends) → before.left ≡ Some bytes → (answered ≡ status.Refused → (refusal : Refusal) × WasRefused mode asked refusal before after) → RefusedFor asked answered bytes
  refused_visible asked answered bytes before after visible refused is =
      let s = refused is in
      (s.0, s.1.behind, s.1.given, subst (λ (b : Option (List ℕ)). WhereVisible b (λ all. IsRefused mode.course all s.0 s.1.behind)) visible s.1.whole, s.1.gives)

  unnamed_visible : (asked : A) (answered : Status) (bytes : List ℕ) (before after : Ends) → before.left ≡ Some bytes → (answered ≡ status.NoSuchSink → WasUnnamed mode asked before after) → UnnamedFor asked answered bytes
  unnamed_visible asked answered bytes before after visible unnamed is =
      let u = unnamed is in
      (u.header, subst (λ (b : Option (List ℕ)). WhereVisible b (λ all. HasHeader all u.header)) visible u.whole, u.unnamed)

  pub complete : (asked : A) (answered : Status) (before after : Ends) → (answered ≡ status.Ok → PlayedWhole mode asked before after) → (answered ≡ status.Refused → (refusal : Refusal) × WasRefused mode asked refusal before after)
      → (answered ≡ status.NoSuchSink → WasUnnamed mode asked before after)
      → (answered ≡ status.ReadFault → ⊥) → (answered ≡ status.WriteFault → ⊥) → IsReplayStatus answered → WhereVisible before.left (Completes mode asked answered)
  complete asked answered before after ok refused unnamed read write among =
      visible_by before.left (Completes mode asked answered) (λ bytes visible.
      (let e = among.0 in
      let is = among.2 in
      let ok_there = subst (λ (s : Status). OkFor asked s bytes) is (ok_visible asked answered bytes before after visible ok) in
      let refused_there = subst (λ (s : Status). RefusedFor asked s bytes) is (refused_visible asked answered bytes before after visible refused) in
      let unnamed_there = subst (λ (s : Status). UnnamedFor asked s bytes) is (unnamed_visible asked answered bytes before after visible unnamed) in
      subst (λ (s : Status). Completes mode asked s bytes) (sym is) (completes asked e bytes ok_there refused_there unnamed_there (λ f. read (is ∙ f)) (λ f. write (is ∙ f)) among.1)))

-- What a reader's answer over the bytes that it took says of all bytes that were ahead of it.
use Rattle.std.proofs.Common.{◌≡◌, ◌<◌, ◌≤◌, ℕ, length, List, [], ◌∷◌, ◌++◌, arith, Option, None, Some, Result, Ok, Err, refl, sym, ap, subst, ◌∙◌, append_assoc}
use Rattle.std.proofs.lemmas.List.{append-nil}
use Rattle.px_header.specs.declared.header.Header.{Header}
use Rattle.px_session.specs.declared.event.Step.{Step}
use Rattle.px_session.specs.declared.event.Step.TheVariants as step
use Rattle.px_session.specs.declared.fault.Cause.{Cause}
use Rattle.px_session.specs.declared.fault.Cause.TheVariants as cause
use Rattle.px_session.specs.declared.fault.ReadError.{ReadError}
use Rattle.px_session.specs.declared.fault.ReadError.TheVariants as error
use Rattle.px_session.specs.declared.form.Form.{Form}
use Rattle.px_session.specs.declared.form.Form.TheVariants as forms
use Rattle.px_session.specs.Form.{IsCount, most_bytes}
use Rattle.px_session.specs.Place.{Place}
use Rattle.px_session.specs.EventReading.{event_at}
use Rattle.std.specs.List.{AllByRecursion}
use Rattle.px_session.specs.declared.event.Event.{Event}
use Rattle.px_session.specs.declared.event.Event.TheVariants as event
use Rattle.px_header.specs.declared.header.SinkSpec.{SinkSpec}
use Rattle.px_session.specs.EventRules.{IsEvent, IsStep, IsStepBy}
use Rattle.px_session.specs.Writing.{FitsSink, FitsEvent, FitsStep, FitsStepBy}
use Rattle.px_header.specs.HeaderRules.{AreSinks, IsHeader}
use Rattle.px_session.specs.Law.{AreBytes}
use Rattle.px_session.specs.Session.{step_at}
use Rattle.px_session.specs.Reader.{Reader, place_with, all_ahead, Stepped, EndsWith, Takes, Gives}
use Rattle.px_session.proofs.Steady.{more, answer, behind_end}
use Rattle.px_session.proofs.SteadySession.{Closed, event_steady, step_steady}
use Rattle.px_session.proofs.SessionLaws.{event_shorter}
use Rattle.px_session.specs.Spelling.{header}
use Rattle.px_session.proofs.LastByte.{event_no_header}
use Rattle.px_session.proofs.StepLaws.{first_read, later_read}
use Rattle.px_session.proofs.SinkLaws.{header_law}
use Rattle.px_session.proofs.EventLaws.{event_found}

-- ---- what a reader gives is lawful

event_lawful : (form : Form) (place : Place) (s : Step) (after : Place) → AreBytes place.rest → event_at form place ≡ Ok (s, after) → IsStep form s
event_lawful form place (step.Header h) after fits e = absurd (event_no_header form place (step.Header h, after) h e refl)
event_lawful form place (step.Event d) after fits e = (event_found form place d after fits e).0
event_lawful form place step.End after fits e = tt

pub step_lawful : (begun : Option Form) (place : Place) (form : Form) (s : Step) (after : Place) → AreBytes place.rest → step_at begun place ≡ Ok ((form, s), after) → IsStep form s
step_lawful None place form s after fits e =
    let h = first_read place ((form, s), after) e in
    let lawful : IsHeader h.0 = (header_law.found place ((form, h.0), after) fits h.1).1.0 in
    subst (IsStep form) (sym h.2) lawful
step_lawful (Some begun) place form s after fits e =
    let l = later_read begun place ((form, s), after) e in
    subst (λ (f : Form). IsStep f s) (sym l.1) (event_lawful begun place s after fits l.0)

-- ---- each step has a byte

header_long : (form : Form) (h : Header) → 1 ≤ length (header form h)
unfolding header
header_long form h = omega arith

event_forward : (form : Form) (place : Place) (x : Step × Place) → event_at form place ≡ Ok x → place.at < x.1.at
event_forward form place x e =
    omega (arith, event_shorter form place x e, behind_end place x.1 ((event_steady form).stays_behind place x e))

pub step_forward : (begun : Option Form) (place : Place) (form : Form) (s : Step) (after : Place) → AreBytes place.rest → step_at begun place ≡ Ok ((form, s), after) → place.at < after.at
step_forward None place form s after fits e =
    let h = first_read place ((form, s), after) e in
    let found = header_law.found place ((form, h.0), after) fits h.1 in
    omega (arith, found.2.at, ap (length {A = ℕ}) found.1.1, header_long form h.0)
step_forward (Some begun) place form s after fits e = event_forward begun place (s, after) (later_read begun place ((form, s), after) e).0

-- ---- what is lawful can be written

sinks_fit : (earlier sinks : List SinkSpec) → AreSinks earlier sinks → AllByRecursion FitsSink sinks
sinks_fit earlier [] lawful = tt
sinks_fit earlier (s ∷ sinks) lawful = (omega (arith, lawful.0.name_size.1), sinks_fit (earlier ++ s ∷ []) sinks lawful.1)

pub event_fits : (form : Form) (e : Event) → IsEvent form e → FitsEvent form e
event_fits form (event.Connect conn) h = tt
event_fits form (event.Bytes conn bytes) h = h.1
event_fits form (event.Close conn) h = tt
event_fits form (event.Cut conn) h = tt
event_fits form (event.Turn sink frames messages) h = (h.1, h.2)
event_fits form (event.Collect sink notices) h = h.1
event_fits form (event.Stop sink) h = h.1

pub step_fits : (form : Form) (s : Step) → IsStep form s → FitsStep form s
step_fits form (step.Header h) lawful = record { count = omega (arith, lawful.count.1); names = sinks_fit [] h.sinks lawful.sinks }
step_fits form (step.Event e) lawful = event_fits form e lawful
step_fits form step.End lawful = tt

pub given_fits : (begun : Option Form) (s : Step) → IsStepBy begun s → FitsStepBy begun s
given_fits None s lawful = lawful
given_fits (Some form) s lawful = step_fits form s lawful

-- ---- the second form has every event

longer_counts : (form : Form) (n : ℕ) → IsCount form n → IsCount forms.Two n
longer_counts forms.One n few = omega (arith, few)
longer_counts forms.Two n few = few

longer_bytes : (form : Form) (n : ℕ) → n ≤ most_bytes form → n ≤ most_bytes forms.Two
longer_bytes forms.One n few = omega (arith, few)
longer_bytes forms.Two n few = few

pub event_in_second : (form : Form) (e : Event) → IsEvent form e → IsEvent forms.Two e
event_in_second form (event.Connect conn) h = h
event_in_second form (event.Bytes conn bytes) h = (h.0, longer_bytes form (length bytes) h.1)
event_in_second form (event.Close conn) h = h
event_in_second form (event.Cut conn) h = h
event_in_second form (event.Turn sink frames messages) h = (h.0, longer_counts form frames h.1, longer_counts form messages h.2)
event_in_second form (event.Collect sink notices) h = (h.0, longer_counts form notices h.1)
event_in_second form (event.Stop sink) h = (h.0, refl)

pub written_in_second : (form : Form) (e : Event) → IsEvent form e → FitsEvent forms.Two e
written_in_second form e h = event_fits forms.Two e (event_in_second form e h)

-- ---- the bytes that were taken, and those that follow

-- all bytes that were ahead are those that were seen, and more behind them
whole_is : (old : Reader) (taken left : List ℕ) → more (place_with old (old.ahead ++ taken)) left ≡ place_with old (old.ahead ++ (taken ++ left))
whole_is old taken left = ap (λ (bytes : List ℕ). place_with old bytes) (append_assoc old.ahead taken left)

-- nothing follows
whole_at_end : (old : Reader) (taken left : List ℕ) → left ≡ [] → place_with old (old.ahead ++ taken) ≡ place_with old (old.ahead ++ (taken ++ left))
whole_at_end old taken left end =
    ap (λ (bytes : List ℕ). place_with old (old.ahead ++ bytes)) (sym (append-nil taken))
    ∙ ap (λ (bytes : List ℕ). place_with old (old.ahead ++ (taken ++ bytes))) (sym end)

behind_at_end : (new : Reader) (left : List ℕ) → left ≡ [] → place_with new new.ahead ≡ place_with new (new.ahead ++ left)
behind_at_end new left end =
    ap (λ (bytes : List ℕ). place_with new bytes) (sym (append-nil new.ahead))
    ∙ ap (λ (bytes : List ℕ). place_with new (new.ahead ++ bytes)) (sym end)

closed_step : (old new : Reader) (taken left : List ℕ) (s : Step) → Closed s → Stepped (Ok s) new new.ahead (step_at old.begun (place_with old (old.ahead ++ taken))) → Stepped (Ok s) new (new.ahead ++ left) (step_at old.begun (place_with old (old.ahead ++ (taken ++ left))))
closed_step old new taken left s closed stepped =
    (stepped.0, ap (step_at old.begun) (sym (whole_is old taken left)) ∙ (step_steady old.begun).ok (place_with old (old.ahead ++ taken)) ((stepped.0, s), place_with new new.ahead) left stepped.1 closed, stepped.2)

given : (old new : Reader) (taken left : List ℕ) (s : Step) → Stepped (Ok s) new new.ahead (step_at old.begun (place_with old (old.ahead ++ taken))) → EndsWith (Ok s) (Some left) → Stepped (Ok s) new (new.ahead ++ left) (step_at old.begun (place_with old (old.ahead ++ (taken ++ left))))
given old new taken left (step.Header h) stepped ends = closed_step old new taken left (step.Header h) tt stepped
given old new taken left (step.Event e) stepped ends = closed_step old new taken left (step.Event e) tt stepped
given old new taken left step.End stepped ends =
    (stepped.0, ap (step_at old.begun) (sym (whole_at_end old taken left ends)) ∙ stepped.1 ∙ ap (λ (z : Place). answer ((stepped.0, step.End), z)) (behind_at_end new left ends), stepped.2)

refused_late : (old : Reader) (taken left : List ℕ) (at : ℕ) (c : Cause) → (c ≡ cause.Truncated → ⊥) → step_at old.begun (place_with old (old.ahead ++ taken)) ≡ Err (record { at = at; cause = c }) → step_at old.begun (place_with old (old.ahead ++ (taken ++ left))) ≡ Err (record { at = at; cause = c })
refused_late old taken left at c late e =
    ap (step_at old.begun) (sym (whole_is old taken left)) ∙ (step_steady old.begun).final (place_with old (old.ahead ++ taken)) (record { at = at; cause = c }) left e late

refused : (old : Reader) (taken left : List ℕ) (at : ℕ) (c : Cause) → step_at old.begun (place_with old (old.ahead ++ taken)) ≡ Err (record { at = at; cause = c }) → EndsWith (Err (error.Refused at c)) (Some left) → step_at old.begun (place_with old (old.ahead ++ (taken ++ left))) ≡ Err (record { at = at; cause = c })
refused old taken left at cause.Magic e ends = refused_late old taken left at cause.Magic (λ same. cc) e
refused old taken left at cause.Header e ends = refused_late old taken left at cause.Header (λ same. cc) e
refused old taken left at cause.Truncated e ends = ap (step_at old.begun) (sym (whole_at_end old taken left ends)) ∙ e
refused old taken left at cause.Endless e ends = refused_late old taken left at cause.Endless (λ same. cc) e
refused old taken left at cause.Trailing e ends = refused_late old taken left at cause.Trailing (λ same. cc) e
refused old taken left at (cause.Kind k) e ends = refused_late old taken left at (cause.Kind k) (λ same. cc) e
refused old taken left at (cause.TooLong n) e ends = refused_late old taken left at (cause.TooLong n) (λ same. cc) e

stepped_on : (old new : Reader) (taken left : List ℕ) (r : Result Step ReadError) → Stepped r new new.ahead (step_at old.begun (place_with old (old.ahead ++ taken))) → EndsWith r (Some left) → Stepped r new (new.ahead ++ left) (step_at old.begun (place_with old (old.ahead ++ (taken ++ left))))
stepped_on old new taken left (Ok s) stepped ends = given old new taken left s stepped ends
stepped_on old new taken left (Err (error.Refused at c)) stepped ends = refused old taken left at c stepped ends
stepped_on old new taken left (Err error.Failed) stepped ends = tt
stepped_on old new taken left (Err error.NoMemory) stepped ends = tt

some_is : (x y : List ℕ) → (let o : Option (List ℕ) = Some x in o) ≡ Some y → x ≡ y
some_is x y e = cc

-- the answer over the bytes that were taken is the answer over all bytes that were ahead
pub gives_all : (r : Result Step ReadError) (old new : Reader) (before after : Option (List ℕ)) → Takes r old new before after → Gives r old new (all_ahead old before) (all_ahead new after)
gives_all r old new None after t = tt
gives_all r old new (Some bytes) None t = absurd (nothing_posted t.departed)
  where
    nothing_posted : (let o : Option (List ℕ) = Some bytes in o) ≡ None → ⊥
    nothing_posted e = cc
gives_all r old new (Some bytes) (Some left) t =
    let same : bytes ≡ t.taken ++ left = some_is bytes (t.taken ++ left) t.departed in
    (new.ahead ++ left, refl, subst (λ (b : List ℕ). Stepped r new (new.ahead ++ left) (step_at old.begun (place_with old (old.ahead ++ b)))) (sym same) (stepped_on old new t.taken left r t.stepped t.ended))

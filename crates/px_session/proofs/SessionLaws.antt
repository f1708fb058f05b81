-- A list of bytes has exactly one reading, and what is spelled is read.
use Rattle.std.proofs.Common.{◌≡◌, ℕ, zero, suc, ◌+◌, ◌<◌, ◌≤◌, ltb, List, [], ◌∷◌, ◌++◌, length, take, drop, Result, Ok, Err, refl, sym, ap, subst, ◌∙◌, arith, append_assoc, length-append, length-drop, get_or}
use Rattle.std.specs.List.{flat_map, AllByRecursion}
use Rattle.std.proofs.lemmas.Bool.{ltb-false}
use Rattle.std.proofs.lemmas.List.{drop_at}
use Rattle.px_header.specs.declared.header.Header.{Header}
use Rattle.px_session.specs.declared.event.Event.{Event}
use Rattle.px_session.specs.declared.event.Step.{Step}
use Rattle.px_session.specs.declared.event.Step.TheVariants as step
use Rattle.px_session.specs.declared.fault.Cause.TheVariants as cause
use Rattle.px_session.specs.declared.form.Form.{Form}
use Rattle.px_session.specs.Place.{Place, Refusal, past, limit, available, short_at, start_of, bytes_at, done}
use Rattle.px_session.specs.Field.{byte_at}
use Rattle.px_session.specs.HeaderReading.{header_at}
use Rattle.px_session.specs.EventReading.{end_at, fields_at, event_at}
use Rattle.px_header.specs.HeaderRules.{IsHeader}
use Rattle.px_session.specs.EventRules.{IsEvent}
use Rattle.px_session.specs.Session.{Ending, Ended, Broken, EndsSo, Stand, Session, NoHeader, Events, IsSession}
use Rattle.px_session.specs.SessionLaw.{IsSpelled, IsRefusedBy, Lead}
use Rattle.px_session.specs.Spelling as spelling
use Rattle.px_session.specs.Law.{AreBytes, Stands, behind}
use Rattle.px_session.proofs.Steps.{go_on_ok, then_ok, guard_ok}
use Rattle.px_session.proofs.Steady.{answer, ok_is, end_of, behind_end, behind_fewer}
use Rattle.px_session.proofs.SteadySession.{header_steady, event_steady, fields_steady}
use Rattle.px_session.proofs.LastByte.{event_no_header}
use Rattle.px_session.proofs.FieldLaws.{AreBytes-drop, byte_law, Stands-nothing, Stands-then}
use Rattle.px_session.proofs.SinkLaws.{header_law}
use Rattle.px_session.proofs.EventLaws.{end_found, event_found, event_again}

-- ---- exactly one reading

-- two answers of one reading are one
answers : {A : Type 0} (r x y : Result A Refusal) → r ≡ x → r ≡ y → x ≡ y
answers r x y a b = sym a ∙ b

ok_is_err : {A : Type 0} (x : A) (f : Refusal) → (let r : Result A Refusal = Ok x in r) ≡ Err f → ⊥
ok_is_err x f e = cc

refusals : {A : Type 0} (f g : Refusal) → (let r : Result A Refusal = Err f in r) ≡ Err g → f ≡ g
refusals f g e = cc

event_is_end : (e : Event) (a b : Place) → answer (step.Event e, a) ≡ answer (step.End, b) → ⊥
event_is_end e a b same = no_end e (ap (λ (z : Step × Place). z.0) (ok_is (step.Event e, a) (step.End, b) same))
  where
    no_end : (e : Event) → step.Event e ≡ step.End → ⊥
    no_end e is = cc

events_are : (d e : Event) (a b : Place) → answer (step.Event d, a) ≡ answer (step.Event e, b) → (d ≡ e) × (a ≡ b)
events_are d e a b same = let s = ok_is (step.Event d, a) (step.Event e, b) same in (inner d e (ap (λ (z : Step × Place). z.0) s), ap (λ (z : Step × Place). z.1) s)
  where
    inner : (d e : Event) → step.Event d ≡ step.Event e → d ≡ e
    inner d e same = cc

ends_one : (form : Form) (a b : Ending) (place : Place) → EndsSo form a place → EndsSo form b place → a ≡ b
ends_one form Ended Ended place x y = refl
ends_one form Ended (Broken g) place x y = absurd (ok_is_err (step.End, x.0) g (answers (event_at form place) _ _ x.1 y))
ends_one form (Broken f) Ended place x y = absurd (ok_is_err (step.End, y.0) f (answers (event_at form place) _ _ y.1 x))
ends_one form (Broken f) (Broken g) place x y = ap Broken (refusals {A = Step × Place} f g (answers (event_at form place) _ _ x y))

no_end_there : (form : Form) (ending : Ending) (place : Place) (e : Event) (after : Place) → EndsSo form ending place → event_at form place ≡ Ok (step.Event e, after) → ⊥
no_end_there form Ended place e after x y = event_is_end e after x.0 (answers (event_at form place) _ _ y x.1)
no_end_there form (Broken f) place e after x y = ok_is_err (step.Event e, after) f (answers (event_at form place) _ _ y x)

stand_one : (form : Form) (ds es : List Event) (a b : Ending) (place : Place) → Stand form ds a place → Stand form es b place → (ds ≡ es) × (a ≡ b)
stand_one form [] [] a b place x y = (refl, ends_one form a b place x y)
stand_one form [] (e ∷ es) a b place x y = absurd (no_end_there form a place e y.0 x y.1)
stand_one form (d ∷ ds) [] a b place x y = absurd (no_end_there form b place d x.0 y x.1)
stand_one form (d ∷ ds) (e ∷ es) a b place x y =
    let same = events_are d e x.0 y.0 (answers (event_at form place) _ _ x.1 y.1) in
    let r = stand_one form ds es a b x.0 x.2 (subst (Stand form es b) (sym same.1) y.2) in
    (ap (λ (z : Event). z ∷ ds) same.0 ∙ ap (λ (zs : List Event). e ∷ zs) r.0, r.1)

pub headers_are : (f g : Form) (h k : Header) (a b : Place) → (let r : Result ((Form × Header) × Place) Refusal = Ok ((f, h), a) in r) ≡ Ok ((g, k), b) → (f ≡ g) × (h ≡ k) × (a ≡ b)
headers_are f g h k a b same =
    let s = ok_is ((f, h), a) ((g, k), b) same in
    (ap (λ (z : (Form × Header) × Place). z.0.0) s, ap (λ (z : (Form × Header) × Place). z.0.1) s, ap (λ (z : (Form × Header) × Place). z.1) s)

pub one_reading : (bytes : List ℕ) (a b : Session) → IsSession bytes a → IsSession bytes b → a ≡ b
one_reading bytes (NoHeader f) (NoHeader g) x y = ap NoHeader (refusals {A = (Form × Header) × Place} f g (answers (header_at (start_of bytes)) _ _ x y))
one_reading bytes (NoHeader f) (Events j h es b) x y = absurd (ok_is_err ((j, h), y.0) f (answers (header_at (start_of bytes)) _ _ y.1 x))
one_reading bytes (Events i g ds a) (NoHeader f) x y = absurd (ok_is_err ((i, g), x.0) f (answers (header_at (start_of bytes)) _ _ x.1 y))
one_reading bytes (Events i g ds a) (Events j h es b) x y =
    let same = headers_are i j g h x.0 y.0 (answers (header_at (start_of bytes)) _ _ x.1 y.1) in
    let other : Stand i es b x.0 = subst (λ (p : Place). Stand i es b p) (sym same.2) (subst (λ (f : Form). Stand f es b y.0) (sym same.0) y.2) in
    let r = stand_one i ds es a b x.0 x.2 other in
    ap (λ (f : Form). Events f g ds a) same.0 ∙ ap (λ (z : Header). Events j z ds a) same.1 ∙ ap (λ (zs : List Event). Events j h zs a) r.0 ∙ ap (Events j h es) r.1

-- ---- each list of bytes has a reading

byte_shorter : (place : Place) (x : ℕ × Place) → byte_at place ≡ Ok x → length x.1.rest < length place.rest
unfolding byte_at bytes_at
byte_shorter place x e =
    let s = then_ok (bytes_at 1) (λ bytes. done (get_or bytes 0 0)) place x e in
    let g = guard_ok (ltb (available place) 1) (short_at place) (answer (take 1 place.rest, past 1 place)) s.0 s.1 in
    let there : 1 ≤ available place = ltb-false _ _ g.0 in
    let mid : past 1 place ≡ s.0.1 = ap (λ (z : List ℕ × Place). z.1) (ok_is (take 1 place.rest, past 1 place) s.0 g.1) in
    let last : s.0.1 ≡ x.1 = ap (λ (z : ℕ × Place). z.1) (ok_is (get_or s.0.0 0 0, s.0.1) x s.2) in
    omega (arith, there, ap (λ (z : Place). length z.rest) (mid ∙ last), length-drop 1 place.rest)

pub event_shorter : (form : Form) (place : Place) (x : Step × Place) → event_at form place ≡ Ok x → length x.1.rest < length place.rest
unfolding event_at
event_shorter form place x e =
    let s = go_on_ok (byte_at place) (fields_at form place.at) x e in
    omega (arith, byte_shorter place s.0 s.1, behind_fewer s.0.1 x.1 ((fields_steady form place.at s.0.0).stays_behind s.0.1 x s.2))

module _ (form : Form) where
  stand_by : (place : Place) → ((after : Place) → length after.rest < length place.rest → (events : List Event) × (ending : Ending) × Stand form events ending after) → (r : Result (Step × Place) Refusal) → event_at form place ≡ r → (events : List Event) × (ending : Ending) × Stand form events ending place
  stand_by place later (Err f) e = ([], Broken f, e)
  stand_by place later (Ok (step.End, after)) e = ([], Ended, (after, e))
  stand_by place later (Ok (step.Event event, after)) e = let r = later after (event_shorter form place (step.Event event, after) e) in (event ∷ r.0, r.1, (after, e, r.2))
  stand_by place later (Ok (step.Header h, after)) e = absurd (event_no_header form place (step.Header h, after) h e refl)

  stand_exists : (n : ℕ) (place : Place) → length place.rest < n → (events : List Event) × (ending : Ending) × Stand form events ending place
  stand_exists zero place few = absurd (omega (arith, few))
  stand_exists (suc n) place few = stand_by place (λ after fewer. stand_exists n after (omega (arith, few, fewer))) (event_at form place) refl

session_by : (bytes : List ℕ) (r : Result ((Form × Header) × Place) Refusal) → header_at (start_of bytes) ≡ r → (s : Session) × IsSession bytes s
session_by bytes (Err f) e = (NoHeader f, e)
session_by bytes (Ok ((form, h), after)) e = let r = stand_exists form (suc (length after.rest)) after (omega arith) in (Events form h r.0 r.1, (after, e, r.2))

pub some_reading : (bytes : List ℕ) → (s : Session) × IsSession bytes s
some_reading bytes = session_by bytes (header_at (start_of bytes)) refl

-- ---- what was spelled is read

end_again : (form : Form) (at : ℕ) → at + 1 ≤ limit → event_at form (record { at = at; rest = 0 ∷ [] }) ≡ Ok (step.End, record { at = at + 1; rest = [] })
unfolding event_at fields_at end_at
end_again form at fits =
    let first : byte_at (record { at = at; rest = 0 ∷ [] }) ≡ answer (0, record { at = at + 1; rest = [] }) = byte_law.again 0 (0 ∷ []) at [] (omega arith, refl) fits in
    rw first refl

module _ (form : Form) where
  stand_again : (events : List Event) (at : ℕ) → AllByRecursion (IsEvent form) events → at + length (flat_map (spelling.event form) events ++ (0 ∷ [])) ≤ limit → Stand form events Ended (record { at = at; rest = flat_map (spelling.event form) events ++ (0 ∷ []) })
  stand_again [] at lawful fits = (record { at = at + 1; rest = [] }, end_again form at fits)
  stand_again (e ∷ events) at lawful fits =
      let text = spelling.event form e in
      let rest = flat_map (spelling.event form) events ++ (0 ∷ []) in
      let regrouped : (text ++ flat_map (spelling.event form) events) ++ (0 ∷ []) ≡ text ++ rest = append_assoc text (flat_map (spelling.event form) events) (0 ∷ []) in
      let long : length ((text ++ flat_map (spelling.event form) events) ++ (0 ∷ [])) ≡ length text + length rest = ap (length {A = ℕ}) regrouped ∙ length-append text rest in
      let read : event_at form (record { at = at; rest = text ++ rest }) ≡ Ok (step.Event e, behind at text rest) = event_again form e at rest lawful.0 (omega (arith, fits, long)) in
      (behind at text rest, ap (λ (b : List ℕ). event_at form (record { at = at; rest = b })) regrouped ∙ read, stand_again events (at + length text) lawful.1 (omega (arith, fits, long)))

  pub session_again : (h : Header) (events : List Event) → IsHeader h → AllByRecursion (IsEvent form) events → length (spelling.spelled form h events) ≤ limit → IsSession (spelling.spelled form h events) (Events form h events Ended)
  session_again h events lawful all fits =
      let text = spelling.header form h in
      let rest = flat_map (spelling.event form) events ++ (0 ∷ []) in
      let regrouped : spelling.spelled form h events ≡ text ++ rest = append_assoc text (flat_map (spelling.event form) events) (0 ∷ []) in
      let long : length (spelling.spelled form h events) ≡ length text + length rest = ap (length {A = ℕ}) regrouped ∙ length-append text rest in
      let read : header_at (start_of (text ++ rest)) ≡ Ok ((form, h), behind 0 text rest) = header_law.again (form, h) text 0 rest (lawful, refl) (omega (arith, fits, long)) in
      (behind 0 text rest, ap (λ (b : List ℕ). header_at (start_of b)) regrouped ∙ read, stand_again events (0 + length text) all (omega (arith, fits, long)))

  -- ---- what was read is spelled so

  stand_found : (events : List Event) (ending : Ending) (place : Place) → AreBytes place.rest → Stand form events ending place → AllByRecursion (IsEvent form) events × ((after : Place) × Stands (flat_map (spelling.event form) events) place after × EndsSo form ending after)
  stand_found [] ending place h s = (tt, (place, Stands-nothing place h, s))
  stand_found (e ∷ events) ending place h s =
      let first = event_found form place e s.0 h s.1 in
      let later = stand_found events ending s.0 first.1.are_bytes s.2 in
      ((first.0, later.0), (later.1.0, Stands-then (spelling.event form e) (flat_map (spelling.event form) events) place s.0 later.1.0 first.1 later.1.1, later.1.2))

pub session_found : (bytes : List ℕ) (form : Form) (h : Header) (events : List Event) (ending : Ending) → AreBytes bytes → IsSession bytes (Events form h events ending) → IsSpelled bytes form h events ending
session_found bytes form h events ending fits s =
    let head = header_law.found (start_of bytes) ((form, h), s.0) fits s.1 in
    let later = stand_found form events ending s.0 head.2.are_bytes s.2 in
    let after = later.1.0 in
    let text = spelling.header form h in
    let all = flat_map (spelling.event form) events in
    let here : Stands text (start_of bytes) s.0 = subst (λ (b : List ℕ). Stands b (start_of bytes) s.0) head.1.1 head.2 in
    let stands : Stands (text ++ all) (start_of bytes) after = Stands-then text all (start_of bytes) s.0 after here later.1.1 in
    record {
      header_lawful = head.1.0;
      events_lawful = later.0;
      rest = after.rest;
      at = after.at;
      joined = stands.joined ∙ append_assoc text all after.rest;
      place = omega (arith, stands.at, ap (length {A = ℕ}) stands.joined, length-append (text ++ all) after.rest);
      ends = later.1.2;
    }

pub session_whole : (bytes : List ℕ) (form : Form) (h : Header) (events : List Event) → AreBytes bytes → IsSession bytes (Events form h events Ended) → bytes ≡ spelling.spelled form h events
session_whole bytes form h events fits s =
    let found = session_found bytes form h events Ended fits s in
    let front = spelling.header form h ++ flat_map (spelling.event form) events in
    let joined : bytes ≡ front ++ found.rest = found.joined ∙ sym (append_assoc (spelling.header form h) (flat_map (spelling.event form) events) found.rest) in
    let behind_front : drop (length front) bytes ≡ found.rest = ap (drop (length front)) joined ∙ drop_at front found.rest (length front) refl in
    let after : Place = record { at = found.at; rest = found.rest } in
    let last : found.rest ≡ 0 ∷ [] = end_found form after found.ends.0 (subst AreBytes behind_front (AreBytes-drop (length front) bytes fits)) found.ends.1 in
    joined ∙ ap (λ (rest : List ℕ). front ++ rest) last

-- ---- where an early end and an endless session are refused

stand_early : (form : Form) (events : List Event) (f : Refusal) (place : Place) → Stand form events (Broken f) place → f.cause ≡ cause.Truncated → (f.at ≡ end_of place) × (f.at < limit)
stand_early form [] f place s early = (event_steady form).short place f s early
stand_early form (e ∷ events) f place s early =
    let r = stand_early form events f s.0 s.2 early in
    (r.0 ∙ behind_end place s.0 ((event_steady form).stays_behind place (step.Event e, s.0) s.1), r.1)

stand_endless : (form : Form) (events : List Event) (f : Refusal) (place : Place) → Stand form events (Broken f) place → f.cause ≡ cause.Endless → (f.at ≡ limit) × (limit ≤ end_of place)
stand_endless form [] f place s goes = (event_steady form).endless place f s goes
stand_endless form (e ∷ events) f place s goes =
    let r = stand_endless form events f s.0 s.2 goes in
    let same = behind_end place s.0 ((event_steady form).stays_behind place (step.Event e, s.0) s.1) in
    (r.0, omega (arith, r.1, same))

pub session_early : (bytes : List ℕ) (s : Session) (f : Refusal) → IsSession bytes s → IsRefusedBy s f → f.cause ≡ cause.Truncated → (f.at ≡ length bytes) × (length bytes < limit)
session_early bytes (NoHeader g) f s is early =
    let r = header_steady.short (start_of bytes) g s (ap (λ (h : Refusal). h.cause) is ∙ early) in
    let at : f.at ≡ g.at = ap (λ (h : Refusal). h.at) (sym is) in
    (omega (arith, at, r.0), omega (arith, r.0, r.1))
session_early bytes (Events form h events (Broken g)) f s is early =
    let r = stand_early form events g s.0 s.2 (ap (λ (h : Refusal). h.cause) is ∙ early) in
    let same = behind_end (start_of bytes) s.0 (header_steady.stays_behind (start_of bytes) ((form, h), s.0) s.1) in
    let at : f.at ≡ g.at = ap (λ (h : Refusal). h.at) (sym is) in
    (omega (arith, at, r.0, same), omega (arith, r.0, r.1, same))
session_early bytes (Events form h events Ended) f s is early = absurd is

pub session_endless : (bytes : List ℕ) (s : Session) (f : Refusal) → IsSession bytes s → IsRefusedBy s f → f.cause ≡ cause.Endless → (f.at ≡ limit) × (limit ≤ length bytes)
session_endless bytes (NoHeader g) f s is goes =
    let r = header_steady.endless (start_of bytes) g s (ap (λ (h : Refusal). h.cause) is ∙ goes) in
    (ap (λ (h : Refusal). h.at) (sym is) ∙ r.0, omega (arith, r.1))
session_endless bytes (Events form h events (Broken g)) f s is goes =
    let r = stand_endless form events g s.0 s.2 (ap (λ (h : Refusal). h.cause) is ∙ goes) in
    let same = behind_end (start_of bytes) s.0 (header_steady.stays_behind (start_of bytes) ((form, h), s.0) s.1) in
    (ap (λ (h : Refusal). h.at) (sym is) ∙ r.0, omega (arith, r.1, same))
session_endless bytes (Events form h events Ended) f s is goes = absurd is

-- ---- a reading in steps

pub lead_stand : (form : Form) (given rest : List Event) (ending : Ending) (place after : Place) → Lead form given place after → Stand form rest ending after → Stand form (given ++ rest) ending place
lead_stand form [] rest ending place after l s = subst (Stand form rest ending) l s
lead_stand form (e ∷ given) rest ending place after l s = (l.0, l.1, lead_stand form given rest ending l.0 after l.2 s)

pub lead_one : (form : Form) (given whole : List Event) (ending : Ending) (place after : Place) → Lead form given place after → Stand form whole ending place → (rest : List Event) × (whole ≡ given ++ rest) × Stand form rest ending after
lead_one form [] whole ending place after l s = (whole, refl, subst (Stand form whole ending) (sym l) s)
lead_one form (d ∷ given) [] ending place after l s = absurd (no_end_there form ending place d l.0 s l.1)
lead_one form (d ∷ given) (e ∷ whole) ending place after l s =
    let same = events_are d e l.0 s.0 (answers (event_at form place) _ _ l.1 s.1) in
    let r = lead_one form given whole ending l.0 after l.2 (subst (Stand form whole ending) (sym same.1) s.2) in
    (r.0, ap (λ (z : Event). z ∷ whole) (sym same.0) ∙ ap (λ (zs : List Event). d ∷ zs) r.1, r.2)

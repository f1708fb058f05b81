-- Where the end is read nothing is left, so a reading that more bytes may change lies within the limit.
use Rattle.std.proofs.Common.{◌≡◌, ℕ, ◌+◌, ◌≤◌, ◌<◌, Bool, true, false, cond, ◌-◌, ◌^◌, List, [], ◌∷◌, ◌++◌, length, length-append, drop, Option, None, Some, Result, Ok, Err, IfOk, refl, sym, ap, subst, ◌∙◌, arith}
use Rattle.std.specs.Prelude.{◌==◌, ◌&&◌}
use Rattle.px_types.specs.declared.ids.ConnId.{ConnId}
use Rattle.px_header.specs.declared.header.Header.{Header}
use Rattle.px_session.specs.declared.event.Event.{Event}
use Rattle.px_session.specs.declared.event.Event.TheVariants as event
use Rattle.px_session.specs.declared.event.Step.{Step}
use Rattle.px_session.specs.declared.event.Step.TheVariants as step
use Rattle.px_session.specs.declared.fault.Cause.TheVariants as cause
use Rattle.px_session.specs.declared.fault.ReadError.{ReadError}
use Rattle.px_session.specs.declared.fault.ReadError.TheVariants as error
use Rattle.px_session.specs.declared.found.Found.{Found}
use Rattle.px_session.specs.declared.form.Form.{Form}
use Rattle.px_session.specs.Form.{has_stop}
use Rattle.px_session.specs.Place.{Place, Reading, limit, done, and_then}
use Rattle.px_session.specs.Field.{byte_at}
use Rattle.px_session.specs.EventReading.{ended_by, end_at, conn_at, data_at, turn_at, collect_at, stop_at, no_event_at, fields_at, event_at}
use Rattle.px_session.specs.Session.{step_at}
use Rattle.px_session.specs.Found.{place_at, Finds, IsOpen}
use Rattle.px_session.proofs.Steps.{go_on_ok, then_ok}
use Rattle.px_session.proofs.StepLaws.{first_read, later_read}
use Rattle.px_session.proofs.Steady.{end_of, behind_end, ok_is}
use Rattle.px_session.proofs.SteadySession.{step_steady}

-- the end is read only where nothing is left behind it
abbrev IsLast : Reading Step → Type 0
IsLast read = (place : Place) (x : Step × Place) → read place ≡ Ok x → x.0 ≡ step.End → x.1.rest ≡ []

then_last : {A : Type 0} (first : Reading A) (next : A → Reading Step) → ((x : A) → IsLast (next x)) → IsLast (and_then first next)
then_last first next h place x e ends =
    let s = then_ok first next place x e in
    h s.0.0 s.0.1 x s.2 ends

no_end : (e : Event) → step.Event e ≡ step.End → ⊥
no_end e same = cc

header_is_no_end : (h : Header) → step.Header h ≡ step.End → ⊥
header_is_no_end h same = cc

event_last : (e : Event) → IsLast (done (step.Event e))
event_last e place x read ends = absurd (no_end e (ap (λ (z : Step × Place). z.0) (ok_is (step.Event e, place) x read) ∙ ends))

choose_last : (b : Bool) (x y : Reading Step) → IsLast x → IsLast y → IsLast (cond b x y)
choose_last true x y hx hy = hx
choose_last false x y hx hy = hy

ended_last : (rest : List ℕ) (place : Place) (x : Step × Place) → rest ≡ place.rest → ended_by rest place ≡ Ok x → x.1.rest ≡ []
ended_last [] place x same e = ap (λ (z : Step × Place). z.1.rest) (sym (ok_is (step.End, place) x e)) ∙ sym same
ended_last (byte ∷ rest) place x same e = absurd cc

end_last : IsLast end_at
unfolding end_at
end_last place x e ends = ended_last place.rest place x refl e

conn_last : (made : ConnId → Event) → IsLast (conn_at made)
unfolding conn_at
conn_last made = then_last _ _ (λ conn. event_last _)

data_last : (form : Form) (kind_at : ℕ) → IsLast (data_at form kind_at)
unfolding data_at
data_last form kind_at = then_last _ _ (λ conn. then_last _ _ (λ size. then_last _ _ (λ bytes. event_last _)))

turn_last : (form : Form) → IsLast (turn_at form)
unfolding turn_at
turn_last form = then_last _ _ (λ sink. then_last _ _ (λ frames. then_last _ _ (λ messages. event_last _)))

collect_last : (form : Form) → IsLast (collect_at form)
unfolding collect_at
collect_last form = then_last _ _ (λ sink. then_last _ _ (λ notices. event_last _))

stop_last : IsLast stop_at
unfolding stop_at
stop_last = then_last _ _ (λ sink. event_last _)

no_event_last : (kind_at kind : ℕ) → IsLast (no_event_at kind_at kind)
no_event_last kind_at kind place x e ends = absurd cc

fields_last : (form : Form) (kind_at kind : ℕ) → IsLast (fields_at form kind_at kind)
unfolding fields_at
fields_last form kind_at kind =
    choose_last (kind == 0) _ _ end_last
    (choose_last (kind == 1) _ _ (conn_last event.Connect)
    (choose_last (kind == 2) _ _ (data_last form kind_at)
    (choose_last (kind == 3) _ _ (conn_last event.Close)
    (choose_last (kind == 4) _ _ (conn_last event.Cut)
    (choose_last (kind == 5) _ _ (turn_last form)
    (choose_last (kind == 6) _ _ (collect_last form)
    (choose_last (has_stop form && kind == 7) _ _ stop_last (no_event_last kind_at kind))))))))

pub event_at_last : (form : Form) → IsLast (event_at form)
unfolding event_at
event_at_last form place x e ends =
    let s = go_on_ok (byte_at place) (fields_at form place.at) x e in
    fields_last form place.at s.0.0 s.0.1 x s.2 ends

-- ---- no event is a header

abbrev NoHeader : Reading Step → Type 0
NoHeader read = (place : Place) (x : Step × Place) (h : Header) → read place ≡ Ok x → x.0 ≡ step.Header h → ⊥

then_no_header : {A : Type 0} (first : Reading A) (next : A → Reading Step) → ((x : A) → NoHeader (next x)) → NoHeader (and_then first next)
then_no_header first next n place x h e is = let s = then_ok first next place x e in n s.0.0 s.0.1 x h s.2 is

event_is_no_header : (e : Event) (h : Header) → step.Event e ≡ step.Header h → ⊥
event_is_no_header e h same = cc

end_is_no_header : (h : Header) → step.End ≡ step.Header h → ⊥
end_is_no_header h same = cc

event_header : (e : Event) → NoHeader (done (step.Event e))
event_header e place x h read is = event_is_no_header e h (ap (λ (z : Step × Place). z.0) (ok_is (step.Event e, place) x read) ∙ is)

choose_header : (b : Bool) (x y : Reading Step) → NoHeader x → NoHeader y → NoHeader (cond b x y)
choose_header true x y hx hy = hx
choose_header false x y hx hy = hy

ended_header : (rest : List ℕ) → NoHeader (ended_by rest)
ended_header [] place x h e is = end_is_no_header h (ap (λ (z : Step × Place). z.0) (ok_is (step.End, place) x e) ∙ is)
ended_header (byte ∷ rest) place x h e is = absurd cc

end_header : NoHeader end_at
unfolding end_at
end_header place x h e is = ended_header place.rest place x h e is

conn_header : (made : ConnId → Event) → NoHeader (conn_at made)
unfolding conn_at
conn_header made = then_no_header _ _ (λ conn. event_header _)

data_header : (form : Form) (kind_at : ℕ) → NoHeader (data_at form kind_at)
unfolding data_at
data_header form kind_at = then_no_header _ _ (λ conn. then_no_header _ _ (λ size. then_no_header _ _ (λ bytes. event_header _)))

turn_header : (form : Form) → NoHeader (turn_at form)
unfolding turn_at
turn_header form = then_no_header _ _ (λ sink. then_no_header _ _ (λ frames. then_no_header _ _ (λ messages. event_header _)))

collect_header : (form : Form) → NoHeader (collect_at form)
unfolding collect_at
collect_header form = then_no_header _ _ (λ sink. then_no_header _ _ (λ notices. event_header _))

stop_header : NoHeader stop_at
unfolding stop_at
stop_header = then_no_header _ _ (λ sink. event_header _)

no_event_header : (kind_at kind : ℕ) → NoHeader (no_event_at kind_at kind)
no_event_header kind_at kind place x h e is = absurd cc

fields_header : (form : Form) (kind_at kind : ℕ) → NoHeader (fields_at form kind_at kind)
unfolding fields_at
fields_header form kind_at kind =
    choose_header (kind == 0) _ _ end_header
    (choose_header (kind == 1) _ _ (conn_header event.Connect)
    (choose_header (kind == 2) _ _ (data_header form kind_at)
    (choose_header (kind == 3) _ _ (conn_header event.Close)
    (choose_header (kind == 4) _ _ (conn_header event.Cut)
    (choose_header (kind == 5) _ _ (turn_header form)
    (choose_header (kind == 6) _ _ (collect_header form)
    (choose_header (has_stop form && kind == 7) _ _ stop_header (no_event_header kind_at kind))))))))

pub event_no_header : (form : Form) (place : Place) (x : Step × Place) (h : Header) → event_at form place ≡ Ok x → x.0 ≡ step.Header h → ⊥
unfolding event_at
event_no_header form place x h e is =
    let s = go_on_ok (byte_at place) (fields_at form place.at) x e in
    fields_header form place.at s.0.0 s.0.1 x h s.2 is

-- ---- what more bytes may change

step_last : (begun : Option Form) (place : Place) (x : (Form × Step) × Place) → step_at begun place ≡ Ok x → x.0.1 ≡ step.End → x.1.rest ≡ []
step_last None place x e ends =
    let s = first_read place x e in
    absurd (header_is_no_end s.0 (sym s.2 ∙ ends))
step_last (Some form) place x e ends = event_at_last form place (x.0.1, x.1) (later_read form place x e).0 ends

-- what more bytes may change lies within the limit
pub open_within : (begun : Option Form) (at : ℕ) (held : List ℕ) (read : Result Found ReadError) → Finds read held (step_at begun (place_at at held)) → IsOpen read → IfOk read (λ found. found.at ≤ limit) → at + length held ≤ limit
open_within begun at held (Ok found) finds opened within =
    let place = place_at at held in
    let after = place_at found.at (drop found.used held) in
    let none_left : drop found.used held ≡ [] = step_last begun place ((found.form, found.step), after) finds.0 opened in
    let same : end_of after ≡ end_of place = behind_end place after ((step_steady begun).stays_behind place ((found.form, found.step), after) finds.0) in
    omega (arith, same, ap (length {A = ℕ}) none_left, within)
open_within begun at held (Err e) finds opened within =
    let read : Finds (Err (error.Refused opened.0 cause.Truncated)) held (step_at begun (place_at at held)) = subst (λ (x : ReadError). Finds (Err x) held (step_at begun (place_at at held))) opened.1 finds in
    let short = (step_steady begun).short (place_at at held) (record { at = opened.0; cause = cause.Truncated }) read refl in
    omega (arith, short.0, short.1)

-- a byte that comes leaves fewer to come
pub falls : (at : ℕ) (old new bytes : List ℕ) → at + length old ≤ limit → new ≡ old ++ bytes → 1 ≤ length bytes → (2 ^ 40 + 1) - (at + length new) < (2 ^ 40 + 1) - (at + length old)
falls at old new bytes within joined some = omega (arith, ap (length {A = ℕ}) joined, length-append old bytes)

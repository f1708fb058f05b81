-- The fields, the header and the events stay so whatever follows the bytes, but the end byte.
use Rattle.std.proofs.Common.{◌≡◌, ℕ, zero, suc, Bool, true, false, cond, List, [], ◌∷◌, ◌++◌, Option, Some, None, Err, Ok, refl, sym, ap, subst, ◌∙◌, nat_lt, nat_le, slice_index}
use Rattle.std.specs.Prelude.{◌&&◌, ◌==◌}
use Rattle.std.specs.Int.{Width, w32, byte_len, from_be_bytes}
use Rattle.px_types.specs.declared.ids.ConnId.{ConnId}
use Rattle.px_sample.specs.declared.format.Format.{Format}
use Rattle.px_header.specs.declared.header.SinkSpec.{SinkSpec}
use Rattle.px_session.specs.declared.event.Event.{Event}
use Rattle.px_session.specs.declared.event.Event.TheVariants as event
use Rattle.px_session.specs.declared.event.Step.{Step}
use Rattle.px_session.specs.declared.event.Step.TheVariants as step
use Rattle.px_session.specs.declared.fault.Cause.TheVariants as cause
use Rattle.px_session.specs.Place.{Place, Reading, Refusal, bytes_at, done}
use Rattle.px_session.specs.declared.form.Form.{Form}
use Rattle.px_session.specs.Form.{width, most_bytes, has_stop}
use Rattle.px_session.specs.Field.{byte_at, number_at, word_at, count_at, broken_at, checked, ruled}
use Rattle.px_header.specs.HeaderRules.{is_from_to, is_name, is_new, format_of, is_depth}
use Rattle.px_session.specs.HeaderReading.{no_magic, compared, letter_at, form_of, formed, last_at, letters_at, magic_at, name_at, known, format_at, spec_at, more_at, position_at, room_at, sink_at, header_at}
use Rattle.px_session.specs.EventReading.{ended_by, end_at, conn_at, sized_at, data_at, turn_at, collect_at, stop_at, fields_at, event_at}
use Rattle.px_session.specs.Session.{first_at, later_at, step_at}
use Rattle.px_session.proofs.Steady.{more, IsBehind, behind_self, any, refused, ok_is, err_is, IsEarlyEnd, IsEndless, IsSteady, done_steady, refuse_steady, choice_steady, go_on_steady, then_steady, as_steady, bytes_steady}

pub byte_steady : IsSteady any byte_at
unfolding byte_at
byte_steady = then_steady any (bytes_at 1) (λ bytes. done (slice_index bytes 0)) (bytes_steady 1) (λ bytes. done_steady any (slice_index bytes 0))

number_steady : (w : Width) → IsSteady any (number_at w)
unfolding number_at
number_steady w = then_steady any (bytes_at (byte_len w)) (λ bytes. done (from_be_bytes w bytes)) (bytes_steady (byte_len w)) (λ bytes. done_steady any (from_be_bytes w bytes))

word_steady : IsSteady any word_at
word_steady = number_steady w32

count_steady : (form : Form) → IsSteady any (count_at form)
count_steady form = number_steady (width form)

ruled_steady : {A : Type 0} (rule : A → Bool) (read : Reading A) → IsSteady any read → IsSteady any (ruled rule read)
unfolding ruled
ruled_steady rule read h =
    go_on_steady any read (checked rule) h
    (λ place x. choice_steady any (rule x) (done x) (λ after. refused (broken_at place)) (done_steady any x) (refuse_steady any (broken_at place) (λ e. cc) (λ e. cc)))
    (λ place behind x after. refl)

at_steady : {A : Type 0} (closed : A → Type 0) (read : ℕ → Reading A) → ((at : ℕ) → IsSteady closed (read at)) → IsSteady closed (λ place. read place.at place)
at_steady closed read h = record {
  ok = λ place x behind e c. (h place.at).ok place x behind e c;
  final = λ place f behind e late. (h place.at).final place f behind e late;
  stays_behind = λ place x e. (h place.at).stays_behind place x e;
  short = λ place f e early. (h place.at).short place f e early;
  endless = λ place f e goes. (h place.at).endless place f e goes;
}

letter_steady : (start letter : ℕ) → IsSteady any (letter_at start letter)
unfolding letter_at
letter_steady start letter =
    go_on_steady any byte_at (λ place. compared start letter) byte_steady
    (λ place x. choice_steady any (x == letter) (done x) (λ after. refused (no_magic start)) (done_steady any x) (refuse_steady any (no_magic start) (λ e. cc) (λ e. cc)))
    (λ place behind x after. refl)

formed_steady : (start : ℕ) (found : Option Form) → IsSteady any (formed start found)
formed_steady start None = refuse_steady any (no_magic start) (λ e. cc) (λ e. cc)
formed_steady start (Some form) = done_steady any form

last_steady : (start : ℕ) → IsSteady any (last_at start)
unfolding last_at
last_steady start = go_on_steady any byte_at (λ place byte. formed start (form_of byte)) byte_steady (λ place byte. formed_steady start (form_of byte)) (λ place behind byte after. refl)

letters_steady : (start : ℕ) → IsSteady any (letters_at start)
unfolding letters_at
letters_steady start =
    then_steady any _ _ (letter_steady start 0x50) (λ p. then_steady any _ _ (letter_steady start 0x52) (λ r. then_steady any _ _ (letter_steady start 0x53) (λ s. last_steady start)))

magic_steady : IsSteady any magic_at
unfolding magic_at
magic_steady = at_steady any letters_at letters_steady

name_steady : (earlier : List SinkSpec) → IsSteady any (name_at earlier)
unfolding name_at
name_steady earlier = then_steady any _ _ (ruled_steady (is_from_to 1 64) byte_at byte_steady) (λ size. ruled_steady (λ name. is_name name && is_new earlier name) (bytes_at size) (bytes_steady size))

known_steady : (place : Place) (found : Option Format) → IsSteady any (known place found)
known_steady place None = refuse_steady any (broken_at place) (λ e. cc) (λ e. cc)
known_steady place (Some format) = done_steady any format

known_same : (place : Place) (behind : List ℕ) (found : Option Format) (after : Place) → known (more place behind) found after ≡ known place found after
known_same place behind None after = refl
known_same place behind (Some format) after = refl

format_steady : IsSteady any format_at
unfolding format_at
format_steady =
    go_on_steady any byte_at (λ place code. known place (format_of code)) byte_steady
    (λ place code. known_steady place (format_of code))
    (λ place behind code after. known_same place behind (format_of code) after)

spec_steady : IsSteady any spec_at
unfolding spec_at
spec_steady =
    then_steady any _ _ format_steady (λ format.
    then_steady any _ _ (ruled_steady (is_from_to 1 32) byte_at byte_steady) (λ channels.
    then_steady any _ _ (ruled_steady (is_from_to 1 192000) word_at word_steady) (λ rate. done_steady any _)))

more_steady : {A : Type 0} (item_at : List A → Reading A) → ((earlier : List A) → IsSteady any (item_at earlier)) → (earlier : List A) (n : ℕ) → IsSteady any (more_at item_at earlier n)
unfolding more_at
more_steady item_at h earlier zero = done_steady any earlier
more_steady item_at h earlier (suc n) = then_steady any _ _ (h earlier) (λ item. more_steady item_at h (earlier ++ item ∷ []) n)

room_steady : IsSteady any room_at
unfolding room_at
room_steady = then_steady any _ _ word_steady (λ guard. then_steady any _ _ (ruled_steady (is_depth guard) word_at word_steady) (λ depth. done_steady any _))

sink_steady : (earlier : List SinkSpec) → IsSteady any (sink_at earlier)
unfolding sink_at
sink_steady earlier =
    then_steady any _ _ (name_steady earlier) (λ name.
    then_steady any _ _ spec_steady (λ spec.
    then_steady any _ _ (more_steady position_at (λ ps. ruled_steady (λ p. nat_le p 50) byte_at byte_steady) [] spec.channels) (λ map.
    then_steady any _ _ room_steady (λ room. done_steady any _))))

pub header_steady : IsSteady any header_at
unfolding header_at
header_steady =
    then_steady any _ _ magic_steady (λ form.
    then_steady any _ _ (bytes_steady 256) (λ cookie.
    then_steady any _ _ (ruled_steady (is_from_to 1 16) byte_at byte_steady) (λ count.
    then_steady any _ _ (more_steady sink_at sink_steady [] count) (λ sinks. done_steady any _))))

-- ---- events

-- more bytes may yet follow the end byte
abbrev pub Closed : Step → Type 0
Closed (step.Header h) = Unit {0}
Closed (step.Event e) = Unit {0}
Closed step.End = ⊥

choose_steady : {A : Type 0} (closed : A → Type 0) (b : Bool) (x y : Reading A) → IsSteady closed x → IsSteady closed y → IsSteady closed (cond b x y)
choose_steady closed true x y hx hy = hx
choose_steady closed false x y hx hy = hy

abbrev trailing : Place → Refusal
trailing place = record { at = place.at; cause = cause.Trailing }

end_is_open : (rest : List ℕ) (place : Place) (x : Step × Place) → ended_by rest place ≡ Ok x → Closed x.0 → ⊥
end_is_open [] place x e c = subst (λ (z : Step × Place). Closed z.0) (sym (ok_is (step.End, place) x e)) c
end_is_open (byte ∷ rest) place x e c = absurd cc

end_stays_behind : (rest : List ℕ) (place : Place) (x : Step × Place) → ended_by rest place ≡ Ok x → IsBehind place x.1
end_stays_behind [] place x e = subst (λ (z : Place). IsBehind place z) (ap (λ (z : Step × Place). z.1) (ok_is (step.End, place) x e)) (behind_self place)
end_stays_behind (byte ∷ rest) place x e = absurd cc

end_is_final : (rest : List ℕ) (place : Place) (behind : List ℕ) (f : Refusal) → ended_by rest place ≡ Err f → ended_by (rest ++ behind) (more place behind) ≡ Err f
end_is_final [] place behind f e = absurd cc
end_is_final (byte ∷ rest) place behind f e = e

trailing_is_late : cause.Trailing ≡ cause.Truncated → ⊥
trailing_is_late e = cc

end_is_late : (rest : List ℕ) (place : Place) (f : Refusal) → ended_by rest place ≡ Err f → IsEarlyEnd f → ⊥
end_is_late [] place f e early = absurd cc
end_is_late (byte ∷ rest) place f e early = trailing_is_late (ap (λ (h : Refusal). h.cause) (err_is {A = Step} (trailing place) f e) ∙ early)

trailing_is_finite : cause.Trailing ≡ cause.Endless → ⊥
trailing_is_finite e = cc

end_is_finite : (rest : List ℕ) (place : Place) (f : Refusal) → ended_by rest place ≡ Err f → IsEndless f → ⊥
end_is_finite [] place f e goes = absurd cc
end_is_finite (byte ∷ rest) place f e goes = trailing_is_finite (ap (λ (h : Refusal). h.cause) (err_is {A = Step} (trailing place) f e) ∙ goes)

end_steady : IsSteady Closed end_at
unfolding end_at
end_steady = record {
  ok = λ place x behind e c. absurd (end_is_open place.rest place x e c);
  final = λ place f behind e late. end_is_final place.rest place behind f e;
  stays_behind = λ place x e. end_stays_behind place.rest place x e;
  short = λ place f e early. absurd (end_is_late place.rest place f e early);
  endless = λ place f e goes. absurd (end_is_finite place.rest place f e goes);
}

conn_steady : (made : ConnId → Event) → IsSteady Closed (conn_at made)
unfolding conn_at
conn_steady made = then_steady Closed _ _ word_steady (λ conn. done_steady Closed _)

sized_steady : (form : Form) (kind_at size : ℕ) → IsSteady any (sized_at form kind_at size)
unfolding sized_at
sized_steady form kind_at size = choice_steady any (nat_lt (most_bytes form) size) (λ place. refused (record { at = kind_at; cause = cause.TooLong size })) (bytes_at size) (refuse_steady any _ (λ e. cc) (λ e. cc)) (bytes_steady size)

data_steady : (form : Form) (kind_at : ℕ) → IsSteady Closed (data_at form kind_at)
unfolding data_at
data_steady form kind_at =
    then_steady Closed _ _ word_steady (λ conn. then_steady Closed _ _ (count_steady form) (λ size. then_steady Closed _ _ (sized_steady form kind_at size) (λ bytes. done_steady Closed _)))

turn_steady : (form : Form) → IsSteady Closed (turn_at form)
unfolding turn_at
turn_steady form = then_steady Closed _ _ byte_steady (λ sink. then_steady Closed _ _ (count_steady form) (λ frames. then_steady Closed _ _ (count_steady form) (λ messages. done_steady Closed _)))

collect_steady : (form : Form) → IsSteady Closed (collect_at form)
unfolding collect_at
collect_steady form = then_steady Closed _ _ byte_steady (λ sink. then_steady Closed _ _ (count_steady form) (λ notices. done_steady Closed _))

stop_steady : IsSteady Closed stop_at
unfolding stop_at
stop_steady = then_steady Closed _ _ byte_steady (λ sink. done_steady Closed _)

pub fields_steady : (form : Form) (kind_at kind : ℕ) → IsSteady Closed (fields_at form kind_at kind)
unfolding fields_at
fields_steady form kind_at kind =
    choose_steady Closed (kind == 0) _ _ end_steady
    (choose_steady Closed (kind == 1) _ _ (conn_steady event.Connect)
    (choose_steady Closed (kind == 2) _ _ (data_steady form kind_at)
    (choose_steady Closed (kind == 3) _ _ (conn_steady event.Close)
    (choose_steady Closed (kind == 4) _ _ (conn_steady event.Cut)
    (choose_steady Closed (kind == 5) _ _ (turn_steady form)
    (choose_steady Closed (kind == 6) _ _ (collect_steady form)
    (choose_steady Closed (has_stop form && kind == 7) _ _ stop_steady
    (refuse_steady Closed _ (λ e. cc) (λ e. cc)))))))))

pub event_steady : (form : Form) → IsSteady Closed (event_at form)
unfolding event_at
event_steady form = go_on_steady Closed byte_at (λ place. fields_at form place.at) byte_steady (λ place kind. fields_steady form place.at kind) (λ place behind kind after. refl)

-- the same of a step and its form
abbrev pub ClosedStep : Form × Step → Type 0
ClosedStep x = Closed x.1

first_steady : IsSteady ClosedStep first_at
unfolding first_at
first_steady = then_steady ClosedStep _ _ header_steady (λ first. done_steady ClosedStep _)

later_steady : (form : Form) → IsSteady ClosedStep (later_at form)
unfolding later_at
later_steady form = as_steady ClosedStep (λ step. (form, step)) (event_at form) (event_steady form)

-- what stands next stays so whatever follows, but the end and an early end
pub step_steady : (begun : Option Form) → IsSteady ClosedStep (step_at begun)
step_steady None = first_steady
step_steady (Some form) = later_steady form

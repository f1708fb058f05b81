-- An event has one spelling.
use Rattle.std.proofs.Common.{◌≡◌, ℕ, suc, ◌+◌, ◌<◌, ◌≤◌, Bool, true, false, cond, List, [], ◌∷◌, ◌++◌, length, Result, Ok, refl, sym, ap, subst, ◌∙◌, ◌⊎◌, inl, inr, arith, nat_lt}
use Rattle.std.specs.Prelude.{◌==◌, ◌&&◌}
use Rattle.std.proofs.lemmas.Bool.{ltb-false, le-ltb, eqb-true}
use Rattle.std.proofs.lemmas.List.{append-nil}
use Rattle.px_types.specs.declared.ids.ConnId.{ConnId}
use Rattle.px_types.specs.declared.ids.SinkId.{SinkId}
use Rattle.px_session.specs.declared.form.Form.{Form}
use Rattle.px_session.specs.declared.form.Form.TheVariants.{One, Two}
use Rattle.px_session.specs.Form.{IsCount, most_bytes, has_stop}
use Rattle.px_session.specs.declared.event.Event.{Event}
use Rattle.px_session.specs.declared.event.Event.TheVariants as event
use Rattle.px_session.specs.declared.event.Step.{Step}
use Rattle.px_session.specs.declared.event.Step.TheVariants as step
use Rattle.px_session.specs.declared.fault.Cause.TheVariants as cause
use Rattle.px_session.specs.Place.{Place, Reading, Refusal, limit, bytes_at, go_on}
use Rattle.px_session.specs.Field.{byte_at, word_at, count_at}
use Rattle.px_session.specs.EventReading.{ended_by, end_at, conn_of, conn_at, sized_at, data_at, turn_at, collect_at, sink_of, stop_at, no_event_at, fields_at, event_at}
use Rattle.px_session.specs.EventRules.{IsConn, IsEvent}
use Rattle.px_session.specs.Spelling.{word, count}
use Rattle.px_session.specs.Spelling as spelling
use Rattle.px_session.specs.Law.{AreBytes, Stands, behind, IsLaw}
use Rattle.px_session.proofs.Steps.{go_on_ok, guard_ok}
use Rattle.px_session.proofs.Steady.{answer, ok_is}
use Rattle.px_session.proofs.HeaderLaws.{both_true}
use Rattle.px_session.proofs.FieldLaws.{Stands-then, done_law, then_law, law_as, Raw, bytes_law, byte_law, word_law, count_law}

-- the fields behind the kind byte spell an event
abbrev pub Fields : Form → ℕ → Step → List ℕ → Type 0
Fields form kind (step.Header h) bytes = ⊥
Fields form kind (step.Event e) bytes = IsEvent form e × (spelling.event form e ≡ kind ∷ bytes)
Fields form kind step.End bytes = ⊥

-- ---- the kinds

abbrev Carrying : (ConnId → Event) → Step → List ℕ → Type 0
Carrying made s bytes = (conn : ConnId) × IsConn conn × (s ≡ step.Event (made conn)) × (bytes ≡ word conn.0)

conn_law : (made : ConnId → Event) → IsLaw (conn_at made) (Carrying made)
unfolding conn_at
conn_law made = law_as (conn_at made)
    (λ s bytes p. (conn_of p.front, p.first.0, p.next.0, p.joined ∙ ap (λ (b : List ℕ). p.front_bytes ++ b) p.next.1 ∙ append-nil p.front_bytes ∙ p.first.1))
    (λ s bytes p. record { front = p.0.0; front_bytes = word p.0.0; back_bytes = []; first = (p.1, refl); next = (p.2, refl); joined = p.3 ∙ sym (append-nil (word p.0.0)) })
    (then_law word_at _ word_law (λ conn. done_law _))

-- the longest Bytes event has a length that fits its field
longest_counts : (form : Form) (n : ℕ) → n ≤ most_bytes form → IsCount form n
longest_counts One n few = omega (arith, few)
longest_counts Two n few = omega (arith, few)

module _ (form : Form) where
  abbrev Sized : ℕ → List ℕ → List ℕ → Type 0
  Sized size value bytes = Raw size value bytes × (size ≤ most_bytes form)

  sized_law : (kind_at size : ℕ) → IsLaw (sized_at form kind_at size) (Sized size)
  unfolding sized_at
  sized_law kind_at size = record {
    found = λ place y h e. (
        let g = guard_ok (nat_lt (most_bytes form) size) (record { at = kind_at; cause = cause.TooLong size }) (bytes_at size place) y e in
        let a = (bytes_law size).found place y h g.1 in
        (a.0, (a.1, ltb-false _ _ g.0), a.2));
    again = λ value bytes at rest s fits. (
        let few : nat_lt (most_bytes form) size ≡ false = le-ltb (most_bytes form) size s.1 in
        rw few ((bytes_law size).again value bytes at rest s.0 fits));
  }

  abbrev Data : Step → List ℕ → Type 0
  Data s bytes = (conn : ConnId) × (sent : List ℕ) × IsEvent form (event.Bytes conn sent) × (s ≡ step.Event (event.Bytes conn sent)) × (bytes ≡ word conn.0 ++ (count form (length sent) ++ sent))

  data_law : (kind_at : ℕ) → IsLaw (data_at form kind_at) Data
  unfolding data_at
  data_law kind_at = law_as (data_at form kind_at)
      (λ s bytes p. (
      let size = p.next in
      let sent = p.next.next in
      let long : length sent.front ≡ size.front = sent.first.0.0 in (
        conn_of p.front,
        sent.front,
        (p.first.0, omega (arith, long, sent.first.1)),
        sent.next.0,
        p.joined ∙ ap (λ (b : List ℕ). b ++ p.back_bytes) p.first.1
            ∙ ap (λ (b : List ℕ). word p.front ++ b) (size.joined ∙ ap (λ (b : List ℕ). b ++ size.back_bytes) (size.first.1 ∙ ap (count form) (sym long))
            ∙ ap (λ (b : List ℕ). count form (length sent.front) ++ b) (sent.joined ∙ ap (λ (b : List ℕ). sent.front_bytes ++ b) sent.next.1 ∙ append-nil sent.front_bytes ∙ sent.first.0.1)),
      )))
      (λ s bytes p. record {
        front = p.0.0;
        front_bytes = word p.0.0;
        back_bytes = count form (length p.1) ++ p.1;
        first = (p.2.0, refl);
        joined = p.4;
        next = record {
          front = length p.1;
          front_bytes = count form (length p.1);
          back_bytes = p.1;
          first = (longest_counts form (length p.1) p.2.1, refl);
          joined = refl;
          next = record { front = p.1; front_bytes = p.1; back_bytes = []; first = ((refl, refl), p.2.1); joined = sym (append-nil p.1); next = (p.3, refl) };
        };
      })
      (then_law word_at _ word_law (λ conn. then_law (count_at form) _ (count_law form) (λ size. then_law (sized_at form kind_at size) _ (sized_law kind_at size) (λ bytes. done_law _))))

  abbrev Turned : Step → List ℕ → Type 0
  Turned s bytes = (sink frames messages : ℕ) × IsEvent form (event.Turn sink frames messages) × (s ≡ step.Event (event.Turn sink frames messages)) × (bytes ≡ sink ∷ (count form frames ++ count form messages))

  turn_law : IsLaw (turn_at form) Turned
  unfolding turn_at
  turn_law = law_as (turn_at form)
      (λ s bytes p. (
      let f = p.next in
      let m = p.next.next in (
        p.front,
        f.front,
        m.front,
        (p.first.0, f.first.0, m.first.0),
        m.next.0,
        p.joined ∙ ap (λ (b : List ℕ). b ++ p.back_bytes) p.first.1
            ∙ ap (λ (b : List ℕ). p.front ∷ b) (f.joined ∙ ap (λ (b : List ℕ). b ++ f.back_bytes) f.first.1
            ∙ ap (λ (b : List ℕ). count form f.front ++ b) (m.joined ∙ ap (λ (b : List ℕ). m.front_bytes ++ b) m.next.1 ∙ append-nil m.front_bytes ∙ m.first.1)),
      )))
      (λ s bytes p. record {
        front = p.0;
        front_bytes = p.0 ∷ [];
        back_bytes = count form p.1 ++ count form p.2;
        first = (p.3.0, refl);
        joined = p.5;
        next = record {
          front = p.1;
          front_bytes = count form p.1;
          back_bytes = count form p.2;
          first = (p.3.1, refl);
          joined = refl;
          next = record { front = p.2; front_bytes = count form p.2; back_bytes = []; first = (p.3.2, refl); joined = sym (append-nil (count form p.2)); next = (p.4, refl) };
        };
      })
      (then_law byte_at _ byte_law (λ sink. then_law (count_at form) _ (count_law form) (λ frames. then_law (count_at form) _ (count_law form) (λ messages. done_law _))))

  abbrev Collected : Step → List ℕ → Type 0
  Collected s bytes = (sink notices : ℕ) × IsEvent form (event.Collect sink notices) × (s ≡ step.Event (event.Collect sink notices)) × (bytes ≡ sink ∷ count form notices)

  collect_law : IsLaw (collect_at form) Collected
  unfolding collect_at
  collect_law = law_as (collect_at form)
      (λ s bytes p. (
      let n = p.next in (
        p.front,
        n.front,
        (p.first.0, n.first.0),
        n.next.0,
        p.joined ∙ ap (λ (b : List ℕ). b ++ p.back_bytes) p.first.1
            ∙ ap (λ (b : List ℕ). p.front ∷ b) (n.joined ∙ ap (λ (b : List ℕ). n.front_bytes ++ b) n.next.1 ∙ append-nil n.front_bytes ∙ n.first.1),
      )))
      (λ s bytes p. record {
        front = p.0;
        front_bytes = p.0 ∷ [];
        back_bytes = count form p.1;
        first = (p.2.0, refl);
        joined = p.4;
        next = record { front = p.1; front_bytes = count form p.1; back_bytes = []; first = (p.2.1, refl); joined = sym (append-nil (count form p.1)); next = (p.3, refl) };
      })
      (then_law byte_at _ byte_law (λ sink. then_law (count_at form) _ (count_law form) (λ notices. done_law _)))

abbrev Stopped : Step → List ℕ → Type 0
Stopped s bytes = (sink : SinkId) × (sink.0 < 256) × (s ≡ step.Event (event.Stop sink)) × (bytes ≡ sink.0 ∷ [])

stop_law : IsLaw stop_at Stopped
unfolding stop_at
stop_law = law_as stop_at
    (λ s bytes p. (sink_of p.front, p.first.0, p.next.0, p.joined ∙ ap (λ (b : List ℕ). p.front_bytes ++ b) p.next.1 ∙ append-nil p.front_bytes ∙ p.first.1))
    (λ s bytes p. record { front = p.0.0; front_bytes = p.0.0 ∷ []; back_bytes = []; first = (p.1, refl); next = (p.2, refl); joined = p.3 })
    (then_law byte_at _ byte_law (λ sink. done_law _))

-- ---- an event by its kind

module _ (form : Form) where
  module _ (made : ConnId → Event) (kind : ℕ) (lawful : (conn : ConnId) → IsConn conn → IsEvent form (made conn)) (spelled : (conn : ConnId) → spelling.event form (made conn) ≡ kind ∷ word conn.0) where
    conn_fields : (s : Step) (bytes : List ℕ) → Carrying made s bytes → Fields form kind s bytes
    conn_fields s bytes p = subst (λ (z : Step). Fields form kind z bytes) (sym p.2) (lawful p.0 p.1, spelled p.0 ∙ ap (λ (b : List ℕ). kind ∷ b) (sym p.3))

  connect_spelled : (conn : ConnId) → spelling.event form (event.Connect conn) ≡ 1 ∷ word conn.0
  unfolding spelling.event
  connect_spelled conn = refl

  close_spelled : (conn : ConnId) → spelling.event form (event.Close conn) ≡ 3 ∷ word conn.0
  unfolding spelling.event
  close_spelled conn = refl

  cut_spelled : (conn : ConnId) → spelling.event form (event.Cut conn) ≡ 4 ∷ word conn.0
  unfolding spelling.event
  cut_spelled conn = refl

  data_spelled : (conn : ConnId) (sent : List ℕ) → spelling.event form (event.Bytes conn sent) ≡ 2 ∷ (word conn.0 ++ (count form (length sent) ++ sent))
  unfolding spelling.event
  data_spelled conn sent = refl

  turn_spelled : (sink frames messages : ℕ) → spelling.event form (event.Turn sink frames messages) ≡ 5 ∷ sink ∷ (count form frames ++ count form messages)
  unfolding spelling.event
  turn_spelled sink frames messages = refl

  collect_spelled : (sink notices : ℕ) → spelling.event form (event.Collect sink notices) ≡ 6 ∷ sink ∷ count form notices
  unfolding spelling.event
  collect_spelled sink notices = refl

  stop_spelled : (sink : SinkId) → spelling.event form (event.Stop sink) ≡ 7 ∷ sink.0 ∷ []
  unfolding spelling.event
  stop_spelled sink = refl

  data_fields : (s : Step) (bytes : List ℕ) → Data form s bytes → Fields form 2 s bytes
  data_fields s bytes p = subst (λ (z : Step). Fields form 2 z bytes) (sym p.3) (p.2, data_spelled p.0 p.1 ∙ ap (λ (b : List ℕ). 2 ∷ b) (sym p.4))

  turn_fields : (s : Step) (bytes : List ℕ) → Turned form s bytes → Fields form 5 s bytes
  turn_fields s bytes p = subst (λ (z : Step). Fields form 5 z bytes) (sym p.4) (p.3, turn_spelled p.0 p.1 p.2 ∙ ap (λ (b : List ℕ). 5 ∷ b) (sym p.5))

  collect_fields : (s : Step) (bytes : List ℕ) → Collected form s bytes → Fields form 6 s bytes
  collect_fields s bytes p = subst (λ (z : Step). Fields form 6 z bytes) (sym p.3) (p.2, collect_spelled p.0 p.1 ∙ ap (λ (b : List ℕ). 6 ∷ b) (sym p.4))

  stop_fields : has_stop form ≡ true → (s : Step) (bytes : List ℕ) → Stopped s bytes → Fields form 7 s bytes
  stop_fields has s bytes p = subst (λ (z : Step). Fields form 7 z bytes) (sym p.2) ((p.1, has), stop_spelled p.0 ∙ ap (λ (b : List ℕ). 7 ∷ b) (sym p.3))

connect_law : IsLaw (conn_at event.Connect) (Carrying event.Connect)
connect_law = conn_law event.Connect

close_law : IsLaw (conn_at event.Close) (Carrying event.Close)
close_law = conn_law event.Close

cut_law : IsLaw (conn_at event.Cut) (Carrying event.Cut)
cut_law = conn_law event.Cut

-- ---- what is read is an event that is spelled so, or the end

chosen : {A : Type 0} (b : Bool) (x y : Reading A) (place : Place) (r : Result (A × Place) Refusal) → cond b x y place ≡ r → ((b ≡ true) × (x place ≡ r)) ⊎ ((b ≡ false) × (y place ≡ r))
chosen true x y place r e = inl (refl, e)
chosen false x y place r e = inr (refl, e)

abbrev FoundBy : Form → ℕ → Place → Step × Place → Type 0
FoundBy form kind place y = ((y.0 ≡ step.End) × (kind ≡ 0) × (place.rest ≡ [])) ⊎ ((bytes : List ℕ) × Fields form kind y.0 bytes × Stands bytes place y.1)

ended_found : (rest : List ℕ) (place : Place) (y : Step × Place) → ended_by rest place ≡ Ok y → (y.0 ≡ step.End) × (rest ≡ [])
ended_found [] place y e = (ap (λ (z : Step × Place). z.0) (sym (ok_is (step.End, place) y e)), refl)
ended_found (byte ∷ rest) place y e = absurd cc

last_found : (place : Place) (y : Step × Place) → end_at place ≡ Ok y → (y.0 ≡ step.End) × (place.rest ≡ [])
unfolding end_at
last_found place y e = ended_found place.rest place y e

module _ (form : Form) where
  by_kind : {Spells : Step → List ℕ → Type 0} (read : Reading Step) (k kind : ℕ) (place : Place) (y : Step × Place) → IsLaw read Spells → ((s : Step) (bytes : List ℕ) → Spells s bytes → Fields form k s bytes) → (kind == k) ≡ true → AreBytes place.rest → read place ≡ Ok y → FoundBy form kind place y
  by_kind read k kind place y law spelled is h e =
      let a = law.found place y h e in
      let same : kind ≡ k = eqb-true _ _ is in
      inr (a.0, subst (λ (n : ℕ). Fields form n y.0 a.0) (sym same) (spelled y.0 a.0 a.1), a.2)

  -- the kinds after the end byte and the connection's
  sinks_found : (kind_at kind : ℕ) (place : Place) (y : Step × Place) → AreBytes place.rest
      → cond (kind == 5) (turn_at form) (cond (kind == 6) (collect_at form) (cond (has_stop form && kind == 7) stop_at (no_event_at kind_at kind))) place ≡ Ok y → FoundBy form kind place y
  sinks_found kind_at kind place y h e =
      elim (chosen (kind == 5) (turn_at form) _ place (Ok y) e) [
        | inl p ↦ by_kind (turn_at form) 5 kind place y (turn_law form) (turn_fields form) p.0 h p.1
        | inr n ↦ elim (chosen (kind == 6) (collect_at form) _ place (Ok y) n.1) [
          | inl p ↦ by_kind (collect_at form) 6 kind place y (collect_law form) (collect_fields form) p.0 h p.1
          | inr n ↦ elim (chosen (has_stop form && kind == 7) stop_at _ place (Ok y) n.1) [
            | inl p ↦ (let b = both_true (has_stop form) (kind == 7) p.0 in by_kind stop_at 7 kind place y stop_law (stop_fields form b.0) b.1 h p.1)
            | inr n ↦ absurd (no_event kind_at kind place y n.1)
          ]
        ]
      ]
    where
      no_event : (kind_at kind : ℕ) (place : Place) (y : Step × Place) → no_event_at kind_at kind place ≡ Ok y → ⊥
      no_event kind_at kind place y e = cc

  fields_found : (kind_at kind : ℕ) (place : Place) (y : Step × Place) → AreBytes place.rest → fields_at form kind_at kind place ≡ Ok y → FoundBy form kind place y
  unfolding fields_at
  fields_found kind_at kind place y h e =
      elim (chosen (kind == 0) end_at _ place (Ok y) e) [
        | inl p ↦ (let last = last_found place y p.1 in inl (last.0, eqb-true _ _ p.0, last.1))
        | inr n ↦ elim (chosen (kind == 1) (conn_at event.Connect) _ place (Ok y) n.1) [
          | inl p ↦ by_kind (conn_at event.Connect) 1 kind place y connect_law (conn_fields form event.Connect 1 (λ conn h. h) (connect_spelled form)) p.0 h p.1
          | inr n ↦ elim (chosen (kind == 2) (data_at form kind_at) _ place (Ok y) n.1) [
            | inl p ↦ by_kind (data_at form kind_at) 2 kind place y (data_law form kind_at) (data_fields form) p.0 h p.1
            | inr n ↦ elim (chosen (kind == 3) (conn_at event.Close) _ place (Ok y) n.1) [
              | inl p ↦ by_kind (conn_at event.Close) 3 kind place y close_law (conn_fields form event.Close 3 (λ conn h. h) (close_spelled form)) p.0 h p.1
              | inr n ↦ elim (chosen (kind == 4) (conn_at event.Cut) _ place (Ok y) n.1) [
                | inl p ↦ by_kind (conn_at event.Cut) 4 kind place y cut_law (conn_fields form event.Cut 4 (λ conn h. h) (cut_spelled form)) p.0 h p.1
                | inr n ↦ sinks_found kind_at kind place y h n.1
              ]
            ]
          ]
        ]
      ]

end_is_no_event : (e : Event) → step.Event e ≡ step.End → ⊥
end_is_no_event e same = cc

module _ (form : Form) where
  -- an event that was read is lawful, and its spelling stands there
  pub event_found : (place : Place) (e : Event) (after : Place) → AreBytes place.rest → event_at form place ≡ Ok (step.Event e, after) → IsEvent form e × Stands (spelling.event form e) place after
  unfolding event_at
  event_found place e after h read =
      let s = go_on_ok (byte_at place) (fields_at form place.at) (step.Event e, after) read in
      let kind = byte_law.found place s.0 h s.1 in
      elim (fields_found form place.at s.0.0 s.0.1 (step.Event e, after) kind.2.are_bytes s.2) [
        | inl ends ↦ absurd (end_is_no_event e ends.0)
        | inr f ↦ (f.1.0, subst (λ (b : List ℕ). Stands b place after) (ap (λ (b : List ℕ). b ++ f.0) kind.1.1 ∙ sym f.1.1) (Stands-then kind.0 f.0 place s.0.1 after kind.2 f.2))
      ]

  -- where the end was read the end byte stands, and nothing more
  pub end_found : (place after : Place) → AreBytes place.rest → event_at form place ≡ Ok (step.End, after) → place.rest ≡ 0 ∷ []
  unfolding event_at
  end_found place after h read =
      let s = go_on_ok (byte_at place) (fields_at form place.at) (step.End, after) read in
      let kind = byte_law.found place s.0 h s.1 in
      elim (fields_found form place.at s.0.0 s.0.1 (step.End, after) kind.2.are_bytes s.2) [
        | inl ends ↦ kind.2.joined ∙ ap (λ (b : List ℕ). b ++ s.0.1.rest) kind.1.1 ∙ ap (λ (b : List ℕ). s.0.0 ∷ b) ends.2 ∙ ap (λ (n : ℕ). n ∷ []) ends.1
        | inr f ↦ absurd f.1
      ]

  -- ---- what was spelled is read, whatever follows it

  again_by : (kind : ℕ) (e : Event) (bytes : List ℕ) (at : ℕ) (rest : List ℕ) → kind < 256 → spelling.event form e ≡ kind ∷ bytes → at + length (spelling.event form e) ≤ limit → fields_at form at kind (record { at = at + 1; rest = bytes ++ rest }) ≡ Ok (step.Event e, behind (at + 1) bytes rest) → event_at form (record { at = at; rest = spelling.event form e ++ rest }) ≡ Ok (step.Event e, behind at (spelling.event form e) rest)
  unfolding event_at
  again_by kind e bytes at rest small spelled fits read =
      let text = spelling.event form e in
      let long : length text ≡ suc (length bytes) = ap (length {A = ℕ}) spelled in
      let first : byte_at (record { at = at; rest = kind ∷ (bytes ++ rest) }) ≡ answer (kind, record { at = at + 1; rest = bytes ++ rest }) = byte_law.again kind (kind ∷ []) at (bytes ++ rest) (small, refl) (omega (arith, long)) in
      let whole : go_on (byte_at (record { at = at; rest = kind ∷ (bytes ++ rest) })) (fields_at form at) ≡ answer (step.Event e, behind (at + 1) bytes rest) = rw first read in
      ap (λ (b : List ℕ). go_on (byte_at (record { at = at; rest = b ++ rest })) (fields_at form at)) spelled
      ∙ whole
      ∙ ap (λ (n : ℕ). answer (step.Event e, record { at = n; rest = rest })) (omega (arith, long))

  -- the bytes after the kind byte fit where the whole spelling does
  tail_fits : (kind : ℕ) (bytes : List ℕ) (at : ℕ) (text : List ℕ) → text ≡ kind ∷ bytes → at + length text ≤ limit → (at + 1) + length bytes ≤ limit
  tail_fits kind bytes at text spelled fits = omega (arith, fits, ap (length {A = ℕ}) spelled)

  stop_again : (sink : SinkId) (at : ℕ) (rest : List ℕ) → sink.0 < 256 → has_stop form ≡ true → (at + 1) + length (sink.0 ∷ []) ≤ limit → fields_at form at 7 (record { at = at + 1; rest = (sink.0 ∷ []) ++ rest }) ≡ Ok (step.Event (event.Stop sink), behind (at + 1) (sink.0 ∷ []) rest)
  unfolding fields_at
  stop_again sink at rest small has fits = rw has (stop_law.again (step.Event (event.Stop sink)) (sink.0 ∷ []) (at + 1) rest (sink, small, refl, refl) fits)

  pub event_again : (e : Event) (at : ℕ) (rest : List ℕ) → IsEvent form e → at + length (spelling.event form e) ≤ limit → event_at form (record { at = at; rest = spelling.event form e ++ rest }) ≡ Ok (step.Event e, behind at (spelling.event form e) rest)
  unfolding fields_at
  event_again (event.Connect conn) at rest h fits =
      again_by 1 (event.Connect conn) (word conn.0) at rest (omega arith) (connect_spelled form conn) fits
      (connect_law.again (step.Event (event.Connect conn)) (word conn.0) (at + 1) rest (conn, h, refl, refl) (tail_fits 1 (word conn.0) at _ (connect_spelled form conn) fits))
  event_again (event.Bytes conn sent) at rest h fits =
      let bytes = word conn.0 ++ (count form (length sent) ++ sent) in
      let spelled = data_spelled form conn sent in
      again_by 2 (event.Bytes conn sent) bytes at rest (omega arith) spelled fits
      ((data_law form at).again (step.Event (event.Bytes conn sent)) bytes (at + 1) rest (conn, sent, h, refl, refl) (tail_fits 2 bytes at _ spelled fits))
  event_again (event.Close conn) at rest h fits =
      again_by 3 (event.Close conn) (word conn.0) at rest (omega arith) (close_spelled form conn) fits
      (close_law.again (step.Event (event.Close conn)) (word conn.0) (at + 1) rest (conn, h, refl, refl) (tail_fits 3 (word conn.0) at _ (close_spelled form conn) fits))
  event_again (event.Cut conn) at rest h fits =
      again_by 4 (event.Cut conn) (word conn.0) at rest (omega arith) (cut_spelled form conn) fits
      (cut_law.again (step.Event (event.Cut conn)) (word conn.0) (at + 1) rest (conn, h, refl, refl) (tail_fits 4 (word conn.0) at _ (cut_spelled form conn) fits))
  event_again (event.Turn sink frames messages) at rest h fits =
      let bytes = sink ∷ (count form frames ++ count form messages) in
      let spelled = turn_spelled form sink frames messages in
      again_by 5 (event.Turn sink frames messages) bytes at rest (omega arith) spelled fits
      ((turn_law form).again (step.Event (event.Turn sink frames messages)) bytes (at + 1) rest (sink, frames, messages, h, refl, refl) (tail_fits 5 bytes at _ spelled fits))
  event_again (event.Collect sink notices) at rest h fits =
      let bytes = sink ∷ count form notices in
      let spelled = collect_spelled form sink notices in
      again_by 6 (event.Collect sink notices) bytes at rest (omega arith) spelled fits
      ((collect_law form).again (step.Event (event.Collect sink notices)) bytes (at + 1) rest (sink, notices, h, refl, refl) (tail_fits 6 bytes at _ spelled fits))
  event_again (event.Stop sink) at rest h fits =
      let spelled = stop_spelled form sink in
      again_by 7 (event.Stop sink) (sink.0 ∷ []) at rest (omega arith) spelled fits
      (stop_again sink at rest h.0 h.1 (tail_fits 7 (sink.0 ∷ []) at _ spelled fits))

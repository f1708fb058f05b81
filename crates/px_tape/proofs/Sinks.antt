-- The turns and stops of a sink among the events of a tape.
use Rattle.std.proofs.Common.{◌≡◌, ℕ, Bool, true, false, cond, nat_eq, List, [], ◌∷◌, ◌++◌, Option, None, Some, IfSome, refl, ap, sym, ◌∙◌, append_assoc, rules}
use Rattle.std.proofs.lemmas.List.{append-nil}
use Rattle.std.proofs.lemmas.Grind.{flat_map-append}
use Rattle.px_session.specs.declared.event.Event.{Event}
use Rattle.px_session.specs.declared.event.Event.TheVariants.{Connect, Bytes, Close, Cut, Turn, Collect, Stop}
use Rattle.px_tape.specs.declared.turns.Turn.{Turn as Made}
use Rattle.px_tape.specs.declared.turns.NextTurn.{NextTurn}
use Rattle.px_tape.specs.Tape.{IsOther, of_sink, at_sink, stop_in, frames_in, failed_after, events_of, Turns, events_in, events_at, events_next}

-- one event that is neither a turn nor a stop is of no sink
pub none_at : (at : ℕ) (e : Event) → IsOther e → of_sink at e ≡ []
none_at at (Connect conn) other = refl
none_at at (Bytes conn bytes) other = refl
none_at at (Close conn) other = refl
none_at at (Cut conn) other = refl
none_at at (Turn sink frames messages) other = absurd other
none_at at (Collect sink notices) other = refl
none_at at (Stop sink) other = absurd other

pub at_append : (at : ℕ) (events more : List Event) → at_sink at (events ++ more) ≡ at_sink at events ++ at_sink at more
at_append at events more = flat_map-append (of_sink at) events more

either : (b : Bool) (events : List Event) → events ≡ cond b events events
either true events = refl
either false events = refl

-- the events of a sink's turn are that sink's
stop_alone : (b : Bool) (sink : ℕ) → cond b (Stop (record { 0 = sink }) ∷ []) [] ++ [] ≡ cond b (Stop (record { 0 = sink }) ∷ []) []
stop_alone true sink = refl
stop_alone false sink = refl

at_stop : (at sink : ℕ) (failed : Bool) (consumed : Option ℕ) → at_sink at (stop_in sink failed consumed) ≡ cond (nat_eq sink at) (stop_in sink failed consumed) []
at_stop at sink failed (Some frames) = either (nat_eq sink at) []
at_stop at sink true None = either (nat_eq sink at) []
at_stop at sink false None = stop_alone (nat_eq sink at) sink

joined_at : (b : Bool) (first then : List Event) (turn : Event) → cond b first [] ++ (cond b (turn ∷ []) [] ++ cond b then []) ≡ cond b (first ++ (turn ∷ then)) []
joined_at true first then turn = refl
joined_at false first then turn = refl

-- those of all its turns are
pub at_own : (at sink : ℕ) (failed : Bool) (turns : List Made) → at_sink at (events_of sink failed turns) ≡ cond (nat_eq sink at) (events_of sink failed turns) []
at_own at sink failed [] = either (nat_eq sink at) []
at_own at sink failed (t ∷ turns) =
    let stop = stop_in sink failed t.consumed in
    let turn = Turn sink (frames_in t.consumed) t.take in
    let rest = events_of sink (failed_after failed t.consumed) turns in
    at_append at stop (turn ∷ rest)
    ∙ ap (λ (l : List Event). l ++ (of_sink at turn ++ at_sink at rest)) (at_stop at sink failed t.consumed)
    ∙ ap (λ (l : List Event). cond (nat_eq sink at) stop [] ++ (of_sink at turn ++ l)) (at_own at sink (failed_after failed t.consumed) turns)
    ∙ joined_at (nat_eq sink at) stop rest turn

-- so are those of its next turn
pub at_next : (at : ℕ) (next : NextTurn) → at_sink at (events_next (Some next)) ≡ cond (nat_eq next.sink at) (events_next (Some next)) []
at_next at next = by next.stops where
  turn : Event
  turn = Turn next.sink next.frames next.take

  one : (b : Bool) → cond b (turn ∷ []) [] ++ [] ≡ cond b (turn ∷ []) []
  one true = refl
  one false = refl

  two : (b : Bool) → cond b (Stop (record { 0 = next.sink }) ∷ []) [] ++ (cond b (turn ∷ []) [] ++ []) ≡ cond b (Stop (record { 0 = next.sink }) ∷ turn ∷ []) []
  two true = refl
  two false = refl

  by : (stops : Bool) → at_sink at (cond stops (Stop (record { 0 = next.sink }) ∷ []) [] ++ turn ∷ []) ≡ cond (nat_eq next.sink at) (cond stops (Stop (record { 0 = next.sink }) ∷ []) [] ++ turn ∷ []) []
  by true = two (nat_eq next.sink at)
  by false = one (nat_eq next.sink at)

-- ---- taking the next turn

-- the events of the turns that are left, and of the next one
pub next_first : (before after : Turns) (t : Made) (rest : List Made) (next : NextTurn) → before.turns ≡ t ∷ rest → after.turns ≡ rest → after.sink ≡ before.sink
    → after.failed ≡ failed_after before.failed t.consumed → cond next.stops (Stop (record { 0 = next.sink }) ∷ []) [] ≡ stop_in before.sink before.failed t.consumed
    → next.frames ≡ frames_in t.consumed → next.take ≡ t.take → next.sink ≡ before.sink → events_in before ≡ events_next (Some next) ++ events_in after
next_first before after t rest next front left own failed stops frames take sink =
    ap (events_of before.sink before.failed) front
    ∙ ap (λ (l : List Event). l ++ (Turn before.sink (frames_in t.consumed) t.take ∷ last)) (sym stops)
    ∙ ap (λ (e : Event). first ++ (e ∷ last)) turn
    ∙ ap (λ (l : List Event). first ++ (Turn next.sink next.frames next.take ∷ l)) these
    ∙ sym (append_assoc first (Turn next.sink next.frames next.take ∷ []) (events_in after)) where
      first : List Event
      first = cond next.stops (Stop (record { 0 = next.sink }) ∷ []) []

      last : List Event
      last = events_of before.sink (failed_after before.failed t.consumed) rest

      turn : Turn before.sink (frames_in t.consumed) t.take ≡ Turn next.sink next.frames next.take
      turn = ap (λ (s : ℕ). Turn s (frames_in t.consumed) t.take) (sym sink) ∙ ap (λ (n : ℕ). Turn next.sink n t.take) (sym frames) ∙ ap (λ (n : ℕ). Turn next.sink next.frames n) (sym take)

      these : last ≡ events_in after
      these = ap (λ (s : ℕ). events_of s (failed_after before.failed t.consumed) rest) (sym own) ∙ ap (λ (b : Bool). events_of after.sink b rest) (sym failed) ∙ ap (events_of after.sink after.failed) (sym left)

-- where none is left
pub next_none : (before after : Turns) → before.turns ≡ [] → after.turns ≡ [] → events_in before ≡ events_next None ++ events_in after
next_none before after none left = ap (events_of before.sink before.failed) none ∙ sym (ap (events_of after.sink after.failed) left)

at_events : (at sink : ℕ) (next : Option NextTurn) → IfSome next (λ n. n.sink ≡ sink) → at_sink at (events_next next) ≡ cond (nat_eq sink at) (events_next next) []
at_events at sink None own = either (nat_eq sink at) []
at_events at sink (Some next) own = at_next at next ∙ ap (λ (s : ℕ). cond (nat_eq s at) (events_next (Some next)) []) own

-- the next turn is of the first sink
pub taken_here : (at : ℕ) (before after : List Turns) (first first' : Turns) (rest : List Turns) (next : Option NextTurn) → before ≡ first ∷ rest → after ≡ first' ∷ rest
    → events_in first ≡ events_next next ++ events_in first' → first'.sink ≡ first.sink → IfSome next (λ n. n.sink ≡ first.sink)
    → events_at at before ≡ at_sink at (events_next next) ++ events_at at after
taken_here at before after first first' rest next is then events same own =
    ap (events_at at) is
    ∙ ap (λ (l : List Event). cond (nat_eq first.sink at) l [] ++ events_at at rest) events
    ∙ both (nat_eq first.sink at)
    ∙ ap (λ (l : List Event). l ++ (cond (nat_eq first.sink at) (events_in first') [] ++ events_at at rest)) (sym (at_events at first.sink next own))
    ∙ ap (λ (s : ℕ). at_sink at (events_next next) ++ (cond (nat_eq s at) (events_in first') [] ++ events_at at rest)) (sym same)
    ∙ sym (ap (λ (l : List Turns). at_sink at (events_next next) ++ events_at at l) then) where
      both : (b : Bool) → cond b (events_next next ++ events_in first') [] ++ events_at at rest ≡ cond b (events_next next) [] ++ (cond b (events_in first') [] ++ events_at at rest)
      both true = append_assoc (events_next next) (events_in first') (events_at at rest)
      both false = refl

-- the next turn is of another sink
pub taken_later : (at sink : ℕ) (before after : List Turns) (first : Turns) (rest rest' : List Turns) (next : Option NextTurn) → before ≡ first ∷ rest → after ≡ first ∷ rest'
    → nat_eq first.sink sink ≡ false → events_at at rest ≡ at_sink at (events_next next) ++ events_at at rest' → IfSome next (λ n. n.sink ≡ sink)
    → events_at at before ≡ at_sink at (events_next next) ++ events_at at after
taken_later at sink before after first rest rest' next is then apart events own =
    ap (events_at at) is
    ∙ ap (λ (l : List Event). cond (nat_eq first.sink at) (events_in first) [] ++ l) (events ∙ ap (λ (l : List Event). l ++ events_at at rest') (at_events at sink next own))
    ∙ past (nat_eq first.sink at) (nat_eq sink at) (never at)
    ∙ ap (λ (l : List Event). l ++ (cond (nat_eq first.sink at) (events_in first) [] ++ events_at at rest')) (sym (at_events at sink next own))
    ∙ sym (ap (λ (l : List Turns). at_sink at (events_next next) ++ events_at at l) then) where
      never : (k : ℕ) → nat_eq first.sink k ≡ true → nat_eq sink k ≡ true → ⊥
      never k here there = search (rules, here, there, apart)

      past : (a b : Bool) → (a ≡ true → b ≡ true → ⊥)
          → cond a (events_in first) [] ++ (cond b (events_next next) [] ++ events_at at rest') ≡ cond b (events_next next) [] ++ (cond a (events_in first) [] ++ events_at at rest')
      past false b not = refl
      past true false not = refl
      past true true not = absurd (not refl refl)

-- ---- events and turns that are left

-- the events of the next turn are there
pub events_taken : (at : ℕ) (events after more : List Event) (left left' : List Turns) → after ≡ events ++ more → events_at at left ≡ at_sink at more ++ events_at at left'
    → at_sink at after ++ events_at at left' ≡ at_sink at events ++ events_at at left
events_taken at events after more left left' is taken =
    ap (λ (l : List Event). at_sink at l ++ events_at at left') is
    ∙ ap (λ (l : List Event). l ++ events_at at left') (at_append at events more)
    ∙ append_assoc (at_sink at events) (at_sink at more) (events_at at left')
    ∙ ap (λ (l : List Event). at_sink at events ++ l) (sym taken)

-- an event that is neither a turn nor a stop
pub other_added : (at : ℕ) (events after : List Event) (e : Event) → IsOther e → after ≡ events ++ e ∷ [] → at_sink at after ≡ at_sink at events
other_added at events after e other is =
    ap (at_sink at) is ∙ at_append at events (e ∷ []) ∙ ap (λ (l : List Event). at_sink at events ++ (l ++ [])) (none_at at e other) ∙ append-nil (at_sink at events)

-- all events of the first sink
pub left_added : (at : ℕ) (events after : List Event) (first : Turns) (left rest : List Turns) → left ≡ first ∷ rest → after ≡ events ++ events_in first
    → at_sink at after ++ events_at at rest ≡ at_sink at events ++ events_at at left
left_added at events after first left rest front is =
    ap (λ (l : List Event). at_sink at l ++ events_at at rest) is
    ∙ ap (λ (l : List Event). l ++ events_at at rest) (at_append at events (events_in first) ∙ ap (λ (l : List Event). at_sink at events ++ l) (at_own at first.sink first.failed first.turns))
    ∙ append_assoc (at_sink at events) (cond (nat_eq first.sink at) (events_in first) []) (events_at at rest)
    ∙ sym (ap (λ (l : List Turns). at_sink at events ++ events_at at l) front)

-- the events of a sink, one turn further
pub left_moved : (events after all : List Event) (next : NextTurn) (left left' whole : Turns) → after ≡ events ++ events_next (Some next) → events_in left ≡ events_next (Some next) ++ events_in left'
    → events ++ events_in left ≡ all ++ events_in whole → after ++ events_in left' ≡ all ++ events_in whole
left_moved events after all next left left' whole is taken so =
    ap (λ (l : List Event). l ++ events_in left') is ∙ append_assoc events (events_next (Some next)) (events_in left') ∙ ap (λ (l : List Event). events ++ l) (sym taken) ∙ so

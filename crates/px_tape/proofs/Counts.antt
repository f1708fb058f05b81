-- Events behind others, and how many turns there are.
use Rattle.std.proofs.Common.{◌≡◌, ℕ, ◌+◌, ◌≤◌, Bool, true, false, cond, Some, List, [], ◌∷◌, ◌++◌, length, map, refl, ap, sym, subst, ◌∙◌, append_assoc, arith}
use Rattle.std.proofs.lemmas.List.{append-nil}
use Rattle.std.proofs.lemmas.Grind.{flat_map-append}
use Rattle.std.specs.List.{AllByRecursion}
use Rattle.px_types.specs.declared.ids.ConnId.{ConnId}
use Rattle.px_session.specs.declared.event.Event.{Event}
use Rattle.px_session.specs.declared.event.Event.TheVariants.{Connect, Bytes, Close, Cut, Turn, Collect, Stop}
use Rattle.px_session.specs.EventRules.{IsEvent}
use Rattle.px_tape.specs.declared.turns.NextTurn.{NextTurn}
use Rattle.px_tape.specs.declared.tape.Mark.{Mark}
use Rattle.px_tape.specs.declared.tape.Mark.TheVariants.{Made}
use Rattle.px_tape.specs.Tape.{form, turn_in, turns_in, bytes_in, all_bytes, events_next, IsPiece, ArePieces, IsOther, AreOthers, IsMark}

pub one_more : (events : List Event) (e : Event) → AllByRecursion (IsEvent form) events → IsEvent form e → AllByRecursion (IsEvent form) (events ++ e ∷ [])
one_more [] e all is = (is, tt)
one_more (x ∷ events) e all is = (all.0, one_more events e all.1 is)

pub one_counted : (events : List Event) (e : Event) → turns_in (events ++ e ∷ []) ≡ turns_in events + turn_in e
one_counted [] e = omega arith
one_counted (x ∷ events) e = let rest = one_counted events e in omega (arith, rest)

-- lawful events with one more
pub pushed : (events after : List Event) (e : Event) → AllByRecursion (IsEvent form) events → IsEvent form e → after ≡ events ++ e ∷ [] → AllByRecursion (IsEvent form) after
pushed events after e all is more = subst (AllByRecursion (IsEvent form)) (sym more) (one_more events e all is)

-- and how many turns they have
pub counted : (events after : List Event) (e : Event) → after ≡ events ++ e ∷ [] → turns_in after ≡ turns_in events + turn_in e
counted events after e more = ap turns_in more ∙ one_counted events e

-- the events of a turn have one turn
pub turn_counted : (events after : List Event) (next : NextTurn) → after ≡ events ++ events_next (Some next) → turns_in after ≡ turns_in events + 1
turn_counted events after next more = ap turns_in more ∙ by next.stops where
  turn : Event
  turn = Turn next.sink next.frames next.take

  by : (stops : Bool) → turns_in (events ++ (cond stops (Stop (record { 0 = next.sink }) ∷ []) [] ++ turn ∷ [])) ≡ turns_in events + 1
  by true = all events where
    all : (es : List Event) → turns_in (es ++ (Stop (record { 0 = next.sink }) ∷ turn ∷ [])) ≡ turns_in es + 1
    all [] = refl
    all (e ∷ es) = let rest = all es in omega (arith, rest)
  by false = one_counted events turn

-- marks of a tape with events of the core after them
pub all_marks : (marks after : List Mark) (events : List Event) → AllByRecursion IsMark marks → AllByRecursion (IsEvent form) events → AreOthers events → after ≡ marks ++ map Made events → AllByRecursion IsMark after
all_marks marks after events are lawful others more = subst (AllByRecursion IsMark) (sym more) (behind marks events are lawful others) where
  behind : (marks : List Mark) (events : List Event) → AllByRecursion IsMark marks → AllByRecursion (IsEvent form) events → AreOthers events → AllByRecursion IsMark (marks ++ map Made events)
  behind [] [] are lawful others = tt
  behind [] (e ∷ events) are lawful others = ((lawful.0, others.0), behind [] events tt lawful.1 others.1)
  behind (m ∷ marks) events are lawful others = (are.0, behind marks events are.1 lawful others)

-- an event that is neither a turn nor a stop doesn't count
pub none_counted : (e : Event) → IsOther e → turn_in e ≡ 0
none_counted (Connect conn) other = refl
none_counted (Bytes conn bytes) other = refl
none_counted (Close conn) other = refl
none_counted (Cut conn) other = refl
none_counted (Turn sink frames messages) other = absurd other
none_counted (Collect sink notices) other = refl
none_counted (Stop sink) other = absurd other

-- bytes of a client are neither
piece_other : (conn : ConnId) (e : Event) → IsPiece conn e → IsOther e
piece_other client (Connect conn) is = absurd is
piece_other client (Bytes conn bytes) is = tt
piece_other client (Close conn) is = absurd is
piece_other client (Cut conn) is = absurd is
piece_other client (Turn sink frames messages) is = absurd is
piece_other client (Collect sink notices) is = absurd is
piece_other client (Stop sink) is = absurd is

pub pieces_others : (conn : ConnId) (events : List Event) → ArePieces conn events → AreOthers events
pieces_others conn [] are = tt
pieces_others conn (e ∷ events) are = (piece_other conn e are.0, pieces_others conn events are.1)

-- pieces with one more
pub pieces_more : (conn : ConnId) (events after : List Event) (piece : List ℕ) → length piece ≤ 65536 → after ≡ events ++ Bytes conn piece ∷ [] → ArePieces conn events → ArePieces conn after
pieces_more conn events after piece short more are = subst (ArePieces conn) (sym more) (longer events are) where
  longer : (events : List Event) → ArePieces conn events → ArePieces conn (events ++ Bytes conn piece ∷ [])
  longer [] are = ((refl, short), tt)
  longer (e ∷ events) are = (are.0, longer events are.1)

-- bytes of a client, one piece more
pub cut_more : (events after : List Event) (conn : ConnId) (piece left rest bytes : List ℕ) → after ≡ events ++ Bytes conn piece ∷ [] → rest ≡ piece ++ left
    → all_bytes events ++ rest ≡ bytes → all_bytes after ++ left ≡ bytes
cut_more events after conn piece left rest bytes more joined all =
    ap (λ (es : List Event). all_bytes es ++ left) more
    ∙ ap (λ (b : List ℕ). b ++ left) (flat_map-append bytes_in events (Bytes conn piece ∷ []) ∙ ap (λ (b : List ℕ). all_bytes events ++ b) (append-nil piece))
    ∙ append_assoc (all_bytes events) piece left
    ∙ ap (λ (b : List ℕ). all_bytes events ++ b) (sym joined)
    ∙ all

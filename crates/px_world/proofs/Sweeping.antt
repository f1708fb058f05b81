-- After each event no connection waits to be swept away.
use Rattle.std.proofs.Common.{◌≡◌, Bool, true, false, cond, List, [], ◌∷◌, ◌++◌, map, take, Option, None, Some, refl, ap, sym, ◌∙◌, append_assoc}
use Rattle.std.specs.Prelude.{◌≢◌, filter, flat_map}
use Rattle.std.specs.List.{AllByRecursion, slice_get}
use Rattle.std.proofs.lemmas.Bool.{cond-true, cond-false, cond_both, eq-eqb, ne_eqb}
use Rattle.px_types.specs.declared.ids.SinkId.{SinkId}
use Rattle.px_header.specs.declared.header.Header.{Header}
use Rattle.px_header.specs.HeaderRules.{IsHeader}
use Rattle.px_session.specs.declared.event.Event.{Event}
use Rattle.px_session.specs.declared.event.Event.TheVariants.{Connect, Bytes, Close, Cut, Turn, Collect, Stop}
use Rattle.px_model.specs.Notice.{Notice}
use Rattle.px_model.specs.Stream.{Stream}
use Rattle.px_model.specs.Track.{Stretch}
use Rattle.px_msg.specs.View.{notice_for}
use Rattle.px_outcome.specs.declared.change.Change.TheVariants.{Leaves, Forgotten}
use Rattle.px_outcome.specs.declared.input.Connection.{Connection}
use Rattle.px_outcome.specs.declared.input.Input.{Input}
use Rattle.px_outcome.specs.declared.input.Standing.{Standing}
use Rattle.px_outcome.specs.declared.input.Standing.TheVariants.{Settled, Moving, Leaving}
use Rattle.px_state.specs.State.{State, has_number, input_of, is_from, marked_of}
use Rattle.px_state.specs.Change.{Change, drop_first, ending, ending_of, changed, committed}
use Rattle.px_core.specs.Connecting.{ends, swept}
use Rattle.px_core.specs.Consistency.{AreDistinct, IsConsistent, IsStep}
use Rattle.px_core.specs.Step.{notice, sweep, stepped, stepped_by}
use Rattle.px_core.proofs.StepLaws.{steps_keep}
use Rattle.px_world.specs.World.{World, new_world, link_of, received_of}
use Rattle.px_world.specs.Event.{steps_of, world_after, notices_of}
use Rattle.px_world.specs.Output.{world_by, AreAdmitted}
use Rattle.px_world.specs.Continuity.{settled_by, stretches_of}
use Rattle.px_world.specs.Whereabouts.{last_of}
use Rattle.px_world.proofs.Bodies.{bytes-plain}
use Rattle.px_world.proofs.Joining.{HoldsIn, event-goes, holds-first}
use Rattle.px_world.proofs.Moving.{Holds, plain-are}
use Rattle.px_world.proofs.Steps.{steps-join}
use Rattle.px_world.proofs.Turning.{GoesOn, outs-are}

-- ---- the connections after a sweep

ended-one : (standing : Standing) (x : Input) (state : State Stream) → (ending standing x state).connections ≡ state.connections
ended-one Settled x state = refl
ended-one (Moving to) x state = refl
ended-one Leaving x state = refl

ended-of : (o : Option Input) (state : State Stream) → (ending_of o state).connections ≡ state.connections
ended-of None state = refl
ended-of (Some x) state = ended-one x.standing x state

-- some connections, each dropped by its number
abbrev dropped : List Connection → List Connection → List Connection
dropped [] xs = xs
dropped (c ∷ cs) xs = dropped cs (drop_first (has_number c.conn) xs)

inputs-leave : (ys : List Input) (rest : List (Change Stream)) (state : State Stream) (xs : List Connection) → ((s : State Stream) → s.connections ≡ state.connections → (committed s rest).connections ≡ xs)
    → (committed state (flat_map ends ys ++ rest)).connections ≡ xs
inputs-leave [] rest state xs k = k state refl
inputs-leave (y ∷ ys) rest state xs k =
    inputs-leave ys rest (changed state (Leaves y.index)) xs (λ s same. k s (same ∙ ended-of (input_of state.inputs y.index) state))

swept-by : (inputs : List Input) (cs : List Connection) (state : State Stream) → (committed state (flat_map (swept inputs) cs)).connections ≡ dropped cs state.connections
swept-by inputs [] state = refl
swept-by inputs (c ∷ cs) state =
    ap (λ (l : List (Change Stream)). State.connections (committed state l)) (append_assoc (flat_map ends (filter (is_from c.conn) inputs)) (Forgotten c.conn ∷ []) (flat_map (swept inputs) cs))
    ∙ inputs-leave (filter (is_from c.conn) inputs) (Forgotten c.conn ∷ flat_map (swept inputs) cs) state (dropped (c ∷ cs) state.connections)
    (λ s same. swept-by inputs cs (changed s (Forgotten c.conn)) ∙ ap (λ (xs : List Connection). dropped cs (drop_first (has_number c.conn) xs)) same)

-- ---- those that have ended are dropped, and no others

keeps-first : (x : Connection) (cs ys : List Connection) → AllByRecursion (λ d. (Connection.conn d).0 ≢ x.conn.0) cs → dropped cs (x ∷ ys) ≡ x ∷ dropped cs ys
keeps-first x [] ys h = refl
keeps-first x (c ∷ cs) ys h =
    ap (dropped cs) (cond-false (has_number c.conn x) ys (x ∷ drop_first (has_number c.conn) ys) (ne_eqb x.conn.0 c.conn.0 (λ e. h.0 (sym e))))
    ∙ keeps-first x cs (drop_first (has_number c.conn) ys) h.1

all-marked : (P : Connection → Type 0) (ys : List Connection) → AllByRecursion P ys → AllByRecursion P (marked_of ys)
all-marked P [] h = tt
all-marked P (y ∷ ys) h = cond_both y.marked (y ∷ marked_of ys) (marked_of ys) (AllByRecursion P) (λ e. (h.0, all-marked P ys h.1)) (λ e. all-marked P ys h.1)

none-left : (xs : List Connection) → AreDistinct xs → marked_of (dropped (marked_of xs) xs) ≡ []
none-left [] d = refl
none-left (x ∷ xs) d = go x.marked refl (none-left xs d.1)
  where
    go : (b : Bool) → x.marked ≡ b → marked_of (dropped (marked_of xs) xs) ≡ [] → marked_of (dropped (cond x.marked (x ∷ marked_of xs) (marked_of xs)) (x ∷ xs)) ≡ []
    go true e later =
        ap (λ (cs : List Connection). marked_of (dropped cs (x ∷ xs))) (cond-true x.marked (x ∷ marked_of xs) (marked_of xs) e)
        ∙ ap (λ (ys : List Connection). marked_of (dropped (marked_of xs) ys)) (cond-true (has_number x.conn x) xs (x ∷ drop_first (has_number x.conn) xs) (eq-eqb x.conn.0 x.conn.0 refl))
        ∙ later
    go false e later =
        ap (λ (cs : List Connection). marked_of (dropped cs (x ∷ xs))) (cond-false x.marked (x ∷ marked_of xs) (marked_of xs) e)
        ∙ ap marked_of (keeps-first x (marked_of xs) xs (all-marked (λ d. (Connection.conn d).0 ≢ x.conn.0) xs d.0))
        ∙ cond-false x.marked (x ∷ marked_of (dropped (marked_of xs) xs)) (marked_of (dropped (marked_of xs) xs)) e
        ∙ later

swept-clean : (state : State Stream) → AreDistinct state.connections → marked_of (stepped Stream.spec state sweep).connections ≡ []
swept-clean state d = ap marked_of (swept-by state.inputs (marked_of state.connections) state) ∙ none-left state.connections d

-- ---- after an event

notices-are-steps : (sink : SinkId) (ns : List (Notice Stream)) → AllByRecursion IsStep (map (λ (n : Notice Stream). notice sink (notice_for n)) ns)
notices-are-steps sink [] = tt
notices-are-steps sink (n ∷ ns) = (tt, notices-are-steps sink ns)

are-steps : (w : World) (e : Event) → AllByRecursion IsStep (steps_of w e)
are-steps w (Connect conn) = (tt, tt)
are-steps w (Bytes conn bytes) = plain-are (steps_of w (Bytes conn bytes)) (bytes-plain conn (received_of (link_of w.links conn)) bytes)
are-steps w (Close conn) = (tt, tt)
are-steps w (Cut conn) = (tt, tt)
are-steps w (Turn sink frames n) = outs-are n (record { 0 = sink })
are-steps w (Collect sink n) = notices-are-steps (record { 0 = sink }) (take n (notices_of (slice_get w.mixers sink)))
are-steps w (Stop sink) = tt

event-clean : (w : World) (e : Event) → IsConsistent Stream.spec w.core → marked_of (world_after w e).core.connections ≡ []
event-clean w e consistent =
    ap (λ (core : State Stream). marked_of core.connections) (steps-join Stream.spec w.core (steps_of w e) (sweep ∷ []))
    ∙ swept-clean (stepped_by Stream.spec w.core (steps_of w e)) (steps_keep Stream.spec w.core (steps_of w e) (are-steps w e) consistent).steady.distinct

run-clean : (w : World) (events : List Event) (last : Option Stretch) → AreAdmitted w events → HoldsIn w 0 last → marked_of w.core.connections ≡ [] → marked_of (world_by w events).core.connections ≡ []
run-clean w [] last a h clean = clean
run-clean w (e ∷ events) last a h clean =
    run-clean (world_after w e) events (last_of last (stretches_of (settled_by w e 0))) a.1 (GoesOn.holds (event-goes w e 0 last a.0 h)) (event-clean w e (Holds.consistent h).core_consistent)

pub all-swept : (header : Header) (events : List Event) → IsHeader header → AreAdmitted (new_world header) events → marked_of (world_by (new_world header) events).core.connections ≡ []
all-swept header events h a = run-clean (new_world header) events None a (holds-first header 0 h) refl

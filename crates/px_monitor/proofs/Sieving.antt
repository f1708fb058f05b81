-- The events that the world of a run with monitors gets, and the effects that are shown.
use Rattle.std.proofs.Common.{◌≡◌, ℕ, Bool, true, false, cond, List, [], ◌∷◌, ◌++◌, map, Option, None, Some, refl, ap, sym, subst, ◌∙◌}
use Rattle.std.proofs.lemmas.Bool.{cond_both}
use Rattle.px_types.specs.declared.ids.ConnId.{ConnId}
use Rattle.px_session.specs.declared.event.Event.{Event}
use Rattle.px_session.specs.declared.event.Event.TheVariants.{Connect, Bytes, Close, Cut, Turn, Collect, Stop}
use Rattle.px_frame.specs.Spelling.{spelling_of}
use Rattle.px_state.specs.Effect.{fault_code, fault_place, offset_behind}
use Rattle.px_world.specs.World.{World, Link, is_of, link_of}
use Rattle.px_world.specs.Admission.{if_named, refusal_of}
use Rattle.px_world.specs.Event.{with_bytes}
use Rattle.px_world.specs.Output.{world_by, AreAdmitted}
use Rattle.px_sieve.specs.declared.segment.Segment.{Segment}
use Rattle.px_sieve.specs.declared.piece.Piece.{Piece}
use Rattle.px_sieve.specs.declared.piece.Piece.TheVariants.{Pass, Broken, Own, Write}
use Rattle.px_sieve.specs.declared.shift.Shift.{Shift}
use Rattle.px_sieve.specs.declared.shift.Shift.TheVariants.{Faulted}
use Rattle.px_sieve.specs.Scene.{Item, Inner, inner, shown_by}
use Rattle.px_sieve.proofs.Scenes.{worlds-join, shown-join, admitted-joins}
use Rattle.px_monitor.specs.declared.answer.Answer.{Answer}
use Rattle.px_monitor.specs.declared.answer.Answer.TheVariants.{Packet, Fault}
use Rattle.px_monitor.specs.Monitor.{Monitor, zero_length, skipped_of, shift_by, answer_items, answered, piece_items, piece_for, handled_in, handed_out, after_segment, segment_items, segments_items, after_segments, hearing, to_hand_out, items, monitor_after, monitor_effects}
use Rattle.px_monitor.specs.Run.{monitor_by, AreMonitored, items_by, effects_shown}

-- ---- the world

pub handled-world : (m : Monitor) (conn : ConnId) (piece : Piece) → (handled_in m conn piece).world ≡ m.world
handled-world m conn (Pass frame) = refl
handled-world m conn (Broken bytes) = refl
handled-world m conn (Write frame) = refl
handled-world m conn (Own frame) = refl

pub segment-world : (m : Monitor) (conn : ConnId) (segment : Segment) → (after_segment m conn segment).world ≡ world_by m.world (inner (segment_items m conn segment))
segment-world m conn segment = ap (λ w. world_by w (inner (segment_items m conn segment))) (handled-world (handed_out m conn) conn (piece_for m conn segment))

segments-world : (m : Monitor) (conn : ConnId) (segments : List Segment) → (after_segments m conn segments).world ≡ world_by m.world (inner (segments_items m conn segments))
segments-world m conn [] = refl
segments-world m conn (segment ∷ segments) =
    segments-world (after_segment m conn segment) conn segments
    ∙ ap (λ w. world_by w (inner (segments_items (after_segment m conn segment) conn segments))) (segment-world m conn segment)
    ∙ sym (worlds-join m.world (segment_items m conn segment) (segments_items (after_segment m conn segment) conn segments))

pub event-world : (m : Monitor) (e : Event) → (monitor_after m e).world ≡ world_by m.world (inner (items m e))
event-world m (Connect conn) = refl
event-world m (Bytes conn bytes) = segments-world (hearing m conn bytes) conn (to_hand_out (hearing m conn bytes) conn)
event-world m (Close conn) = refl
event-world m (Cut conn) = refl
event-world m (Turn sink frames n) = refl
event-world m (Collect sink n) = refl
event-world m (Stop sink) = refl

pub run-world : (m : Monitor) (events : List Event) → (monitor_by m events).world ≡ world_by m.world (inner (items_by m events))
run-world m [] = refl
run-world m (e ∷ events) =
    run-world (monitor_after m e) events
    ∙ ap (λ w. world_by w (inner (items_by (monitor_after m e) events))) (event-world m e)
    ∙ sym (worlds-join m.world (items m e) (items_by (monitor_after m e) events))

-- ---- the effects

pub run-shown : (m : Monitor) (events : List Event) → effects_shown m events ≡ shown_by m.world (items_by m events)
run-shown m [] = refl
run-shown m (e ∷ events) =
    ap (λ l. monitor_effects m e ++ l) (run-shown (monitor_after m e) events ∙ ap (λ w. shown_by w (items_by (monitor_after m e) events)) (event-world m e))
    ∙ sym (shown-join m.world (items m e) (items_by (monitor_after m e) events))

-- ---- the world admits them

-- more bytes leave a link its number
same-number : (conn : ConnId) (bytes : List ℕ) (link : Link) → is_of conn (with_bytes conn bytes link) ≡ is_of conn link
same-number conn bytes link = cond_both (is_of conn link) (record link { received = link.received ++ bytes }) link (λ (x : Link). is_of conn x ≡ is_of conn link) (λ e. refl) (λ e. refl)

false-true : false ≡ true → ⊥
false-true e = cc

named-next : (b c : Bool) (link more : Link) (rest later : Option Link) → c ≡ b → if_named (cond b (Some link) rest) ≡ None → (if_named rest ≡ None → if_named later ≡ None)
    → if_named (cond c (Some more) later) ≡ None
named-next true true link more rest later same named next = refl
named-next true false link more rest later same named next = absurd (false-true same)
named-next false true link more rest later same named next = refl
named-next false false link more rest later same named next = next named

named-links : (conn : ConnId) (bytes : List ℕ) (links : List Link) → if_named (link_of links conn) ≡ None → if_named (link_of (map (with_bytes conn bytes) links) conn) ≡ None
named-links conn bytes [] e = e
named-links conn bytes (link ∷ links) e =
    named-next (is_of conn link) (is_of conn (with_bytes conn bytes link)) link (with_bytes conn bytes link) (link_of links conn) (link_of (map (with_bytes conn bytes) links) conn)
    (same-number conn bytes link) e (named-links conn bytes links)

-- a connection's number is in use
abbrev IsNamed : World → ConnId → Type 0
IsNamed w conn = if_named (link_of w.links conn) ≡ None

-- and so it is after its bytes
record AdmitsBytes (w : World) (conn : ConnId) (list : List Item) : Type 0 where
  admitted : AreAdmitted w (inner list)
  named : IsNamed (world_by w (inner list)) conn

one-admits : (w : World) (conn : ConnId) (bytes : List ℕ) (shift : Shift) → IsNamed w conn → AdmitsBytes w conn (Inner (Bytes conn bytes) shift ∷ [])
one-admits w conn bytes shift named = record { admitted = (named, tt); named = named-links conn bytes w.links named }

answer-admits : (w : World) (conn : ConnId) (at : ℕ) (given : Answer) → IsNamed w conn → AdmitsBytes w conn (answer_items conn at given)
answer-admits w conn at (Packet packet) named = record { admitted = tt; named = named }
answer-admits w conn at (Fault fault) named = one-admits w conn zero_length (Faulted conn (fault_code fault) (offset_behind at (fault_place fault))) named

piece-admits : (m : Monitor) (conn : ConnId) (piece : Piece) → IsNamed m.world conn → AdmitsBytes m.world conn (piece_items m conn piece)
piece-admits m conn (Pass frame) named = one-admits m.world conn (spelling_of frame.body) (shift_by conn (skipped_of conn m.skips)) named
piece-admits m conn (Broken bytes) named = one-admits m.world conn bytes (shift_by conn (skipped_of conn m.skips)) named
piece-admits m conn (Write frame) named = one-admits m.world conn (spelling_of frame.body) (shift_by conn (skipped_of conn m.skips)) named
piece-admits m conn (Own frame) named = answer-admits m.world conn frame.at (answered m conn frame).1 named

segments-admit : (m : Monitor) (conn : ConnId) (segments : List Segment) → IsNamed m.world conn → AreAdmitted m.world (inner (segments_items m conn segments))
segments-admit m conn [] named = tt
segments-admit m conn (segment ∷ segments) named =
    let one = piece-admits (handed_out m conn) conn (piece_for m conn segment) named in
    let next = after_segment m conn segment in
    let world : next.world ≡ world_by m.world (inner (segment_items m conn segment)) = segment-world m conn segment in
    let later : AreAdmitted next.world (inner (segments_items next conn segments)) = segments-admit next conn segments (subst (λ w. IsNamed w conn) (sym world) one.named) in
    admitted-joins m.world (segment_items m conn segment) (segments_items next conn segments) one.admitted (subst (λ w. AreAdmitted w (inner (segments_items next conn segments))) world later)

pub event-admits : (m : Monitor) (e : Event) → refusal_of m.world e ≡ None → AreAdmitted m.world (inner (items m e))
event-admits m (Connect conn) lawful = (lawful, tt)
event-admits m (Bytes conn bytes) lawful = segments-admit (hearing m conn bytes) conn (to_hand_out (hearing m conn bytes) conn) lawful
event-admits m (Close conn) lawful = (lawful, tt)
event-admits m (Cut conn) lawful = (lawful, tt)
event-admits m (Turn sink frames n) lawful = (lawful, tt)
event-admits m (Collect sink n) lawful = (lawful, tt)
event-admits m (Stop sink) lawful = (lawful, tt)

pub run-admits : (m : Monitor) (events : List Event) → AreMonitored m events → AreAdmitted m.world (inner (items_by m events))
run-admits m [] all = tt
run-admits m (e ∷ events) all =
    admitted-joins m.world (items m e) (items_by (monitor_after m e) events) (event-admits m e all.0)
    (subst (λ w. AreAdmitted w (inner (items_by (monitor_after m e) events))) (event-world m e) (run-admits (monitor_after m e) events all.1))

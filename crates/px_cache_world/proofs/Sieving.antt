-- A run of a world with a sample cache, and the world after the events that it gets.
use Rattle.std.proofs.Common.{◌≡◌, ℕ, zero, suc, Bool, true, false, List, [], ◌∷◌, ◌++◌, map, filter, not, cond, Option, None, Some, refl, ap, sym, subst, ◌∙◌, ⊎_elim}
use Rattle.std.specs.Prelude.{nat_eq}
use Rattle.std.proofs.lemmas.Bool.{cases_Bool, cond-true, cond-false, cond_both, eqb-true}
use Rattle.std.proofs.lemmas.Grind.{flat_map-append}
use Rattle.px_types.specs.declared.ids.ConnId.{ConnId}
use Rattle.px_frame.specs.Spelling.{spelling_of}
use Rattle.px_header.specs.declared.header.Header.{Header}
use Rattle.px_session.specs.declared.event.Event.{Event}
use Rattle.px_session.specs.declared.event.Event.TheVariants.{Connect, Bytes, Close, Cut, Turn, Collect, Stop}
use Rattle.px_state.specs.declared.effect.Effect.{Effect}
use Rattle.px_state.specs.Effect.{fault_code, fault_place, offset_behind, sending}
use Rattle.px_world.specs.declared.fault.WorldFault.{WorldFault}
use Rattle.px_world.specs.declared.fault.WorldFault.TheVariants.{Live, NotLive}
use Rattle.px_world.specs.World.{World, Link, is_of, link_of, new_world}
use Rattle.px_world.specs.Admission.{if_named, refusal_of}
use Rattle.px_world.specs.Event.{with_bytes, world_after}
use Rattle.px_world.specs.Output.{world_by, AreAdmitted}
use Rattle.px_world.proofs.Runs.{world-joins, admitted-join}
use Rattle.px_sieve.specs.declared.segment.Segment.{Segment}
use Rattle.px_sieve.specs.declared.piece.Piece.{Piece}
use Rattle.px_sieve.specs.declared.piece.Piece.TheVariants.{Pass, Broken, Own, Write}
use Rattle.px_sieve.specs.declared.shift.Shift.{Shift}
use Rattle.px_sieve.specs.declared.shift.Shift.TheVariants.{Faulted, Hidden}
use Rattle.px_sieve.specs.Scene.{Item, Inner, Reply, inner, shown_by, shifted_one}
use Rattle.px_sieve.proofs.Scenes.{worlds-join, shown-join, admitted-joins}
use Rattle.px_scache.specs.declared.answer.Answer.{Answer}
use Rattle.px_scache.specs.declared.answer.Answer.TheVariants.{Packet, Fault, Begins}
use Rattle.px_scache.specs.declared.play.Play.{Play}
use Rattle.px_scache.specs.Play.{create_frame, data_frame, drain_frame, delete_frame}
use Rattle.px_cache_world.specs.declared.answered.Created.{Created}
use Rattle.px_cache_world.specs.declared.answered.Created.TheVariants.{Made, Refused, Unanswered}
use Rattle.px_cache_world.specs.Own.{HIDDEN, is_hidden}
use Rattle.px_cache_world.specs.Skips.{skipped_of}
use Rattle.px_cache_world.specs.Answered.{NO_STREAM, play_reply, tag_in}
use Rattle.px_cache_world.specs.Course.{most_due}
use Rattle.px_cache_world.specs.Sampler.{Sampler, new_sampler, greeting, own, alone, is_taken, packet_of, answered_by, shift_by, passed_on, zero_length, created, filling, answer_items, piece_items, with_piece, delete_items_of, delete_items, after_delete, deletes_by, settle_items, whole_items, handed_out, piece_for, after_segment, segment_items, segments_items, after_segments, hearing, to_hand_out, after_items, after_lone, lone_items, items, sampler_after, sampler_effects, sampler_refusal, unless_hidden, open_effects}
use Rattle.px_cache_world.specs.Run.{sampler_by, AreSampled, items_by, effects_shown}
use Rattle.px_cache_world.proofs.Goes.{piece-world, delete-world, settled-world, segment-world}

-- ---- the world

segments-world : (s : Sampler) (conn : ConnId) (segments : List Segment) → (after_segments s conn segments).world ≡ world_by s.world (inner (segments_items s conn segments))
segments-world s conn [] = refl
segments-world s conn (segment ∷ segments) =
    segments-world (after_segment s conn segment) conn segments
    ∙ ap (λ w. world_by w (inner (segments_items (after_segment s conn segment) conn segments))) (segment-world s conn segment)
    ∙ sym (worlds-join s.world (segment_items s conn segment) (segments_items (after_segment s conn segment) conn segments))

lone-world : (s : Sampler) (e : Event) → (after_lone s e).world ≡ world_by s.world (inner (lone_items s e))
lone-world s e = settled-world (after_items s (alone e)) ∙ sym (worlds-join s.world (alone e) (settle_items (after_items s (alone e))))

event-world : (s : Sampler) (e : Event) → (sampler_after s e).world ≡ world_by s.world (inner (items s e))
event-world s (Connect conn) = lone-world s (Connect conn)
event-world s (Bytes conn bytes) = segments-world (hearing s conn bytes) conn (to_hand_out (hearing s conn bytes) conn)
event-world s (Close conn) = lone-world s (Close conn)
event-world s (Cut conn) = lone-world s (Cut conn)
event-world s (Turn sink frames n) = lone-world s (Turn sink frames n)
event-world s (Collect sink n) = lone-world s (Collect sink n)
event-world s (Stop sink) = lone-world s (Stop sink)

run-world : (s : Sampler) (events : List Event) → (sampler_by s events).world ≡ world_by s.world (inner (items_by s events))
run-world s [] = refl
run-world s (e ∷ events) =
    run-world (sampler_after s e) events
    ∙ ap (λ w. world_by w (inner (items_by (sampler_after s e) events))) (event-world s e)
    ∙ sym (worlds-join s.world (items s e) (items_by (sampler_after s e) events))

pub all-world : (header : Header) (events : List Event)
    → (sampler_by (new_sampler header) events).world ≡ world_by (new_world header) (greeting header.cookie ++ inner (items_by (new_sampler header) events))
all-world header events = run-world (new_sampler header) events ∙ sym (world-joins (new_world header) (greeting header.cookie) (inner (items_by (new_sampler header) events)))

-- ---- the effects

pub run-shown : (s : Sampler) (events : List Event) → effects_shown s events ≡ open_effects (shown_by s.world (items_by s events))
run-shown s [] = refl
run-shown s (e ∷ events) =
    let first = shown_by s.world (items s e) in
    let later = shown_by (world_by s.world (inner (items s e))) (items_by (sampler_after s e) events) in
    ap (λ l. sampler_effects s e ++ l) (run-shown (sampler_after s e) events ∙ ap (λ w. open_effects (shown_by w (items_by (sampler_after s e) events))) (event-world s e))
    ∙ sym (flat_map-append (shifted_one (Hidden HIDDEN)) first later)
    ∙ ap open_effects (sym (shown-join s.world (items s e) (items_by (sampler_after s e) events)))

-- ---- a number in use stays so, but by its Close

abbrev IsNamed : World → ConnId → Type 0
IsNamed w conn = if_named (link_of w.links conn) ≡ None

same-number : (conn one : ConnId) (bytes : List ℕ) (link : Link) → is_of conn (with_bytes one bytes link) ≡ is_of conn link
same-number conn one bytes link = cond_both (is_of one link) (record link { received = link.received ++ bytes }) link (λ (x : Link). is_of conn x ≡ is_of conn link) (λ e. refl) (λ e. refl)

false-true : false ≡ true → ⊥
false-true e = cc

named-next : (b c : Bool) (link more : Link) (rest later : Option Link) → c ≡ b → if_named (cond b (Some link) rest) ≡ None → (if_named rest ≡ None → if_named later ≡ None)
    → if_named (cond c (Some more) later) ≡ None
named-next true true link more rest later same named next = refl
named-next true false link more rest later same named next = absurd (false-true same)
named-next false true link more rest later same named next = refl
named-next false false link more rest later same named next = next named

heard-named : (conn one : ConnId) (bytes : List ℕ) (links : List Link) → if_named (link_of links conn) ≡ None → if_named (link_of (map (with_bytes one bytes) links) conn) ≡ None
heard-named conn one bytes [] e = e
heard-named conn one bytes (link ∷ links) e =
    named-next (is_of conn link) (is_of conn (with_bytes one bytes link)) link (with_bytes one bytes link) (link_of links conn) (link_of (map (with_bytes one bytes) links) conn)
    (same-number conn one bytes link) e (heard-named conn one bytes links)

more-named : (conn : ConnId) (links : List Link) (more : Link) → if_named (link_of links conn) ≡ None → if_named (link_of (links ++ more ∷ []) conn) ≡ None
more-named conn [] more e = absurd cc
more-named conn (link ∷ links) more e =
    named-next (is_of conn link) (is_of conn link) link link (link_of links conn) (link_of (links ++ more ∷ []) conn) refl e (more-named conn links more)

-- a link of another number is dropped
others-named : (conn one : ConnId) (links : List Link) → ((link : Link) → is_of one link ≡ true → is_of conn link ≡ false) → if_named (link_of links conn) ≡ None
    → if_named (link_of (filter (λ link. not (is_of one link)) links) conn) ≡ None
others-named conn one [] other e = e
others-named conn one (link ∷ links) other e =
    let rest = filter (λ l. not (is_of one l)) links in
    ⊎_elim
    (λ (b : is_of one link ≡ true).
    let kept : filter (λ l. not (is_of one l)) (link ∷ links) ≡ rest = cond-false (not (is_of one link)) (link ∷ rest) rest (ap not b) in
    subst (λ l. if_named (link_of l conn) ≡ None) (sym kept)
    (others-named conn one links other (subst (λ o. if_named o ≡ None) (cond-false (is_of conn link) (Some link) (link_of links conn) (other link b)) e)))
    (λ (b : is_of one link ≡ false).
    let kept : filter (λ l. not (is_of one l)) (link ∷ links) ≡ link ∷ rest = cond-true (not (is_of one link)) (link ∷ rest) rest (ap not b) in
    subst (λ l. if_named (link_of l conn) ≡ None) (sym kept)
    (named-next (is_of conn link) (is_of conn link) link link (link_of links conn) (link_of rest conn) refl e (others-named conn one links other)))
    (cases_Bool (is_of one link))

-- ---- the server's own connection

abbrev IsConnected : World → Type 0
IsConnected w = IsNamed w HIDDEN

-- these numbers are in use, and stay so by these items, which the world admits
record Admits (w : World) (conn : ConnId) (list : List Item) : Type 0 where
  admitted : AreAdmitted w (inner list)
  named : IsNamed (world_by w (inner list)) conn
  connected : IsConnected (world_by w (inner list))

none-admits : (w : World) (conn : ConnId) → IsNamed w conn → IsConnected w → Admits w conn []
none-admits w conn named connected = record { admitted = tt; named = named; connected = connected }

one-admits : (w : World) (conn : ConnId) (bytes : List ℕ) (shift : Shift) → IsNamed w conn → IsConnected w → Admits w conn (Inner (Bytes conn bytes) shift ∷ [])
one-admits w conn bytes shift named connected = record {
  admitted = (named, tt);
  named = heard-named conn conn bytes w.links named;
  connected = heard-named HIDDEN conn bytes w.links connected;
}

reply-admits : (w : World) (conn : ConnId) (effects : List Effect) → IsNamed w conn → IsConnected w → Admits w conn (Reply effects ∷ [])
reply-admits w conn effects named connected = record { admitted = tt; named = named; connected = connected }

own-admits : (w : World) (conn : ConnId) (frame : List ℕ) → IsNamed w conn → IsConnected w → Admits w conn (own frame ∷ [])
own-admits w conn frame named connected = record {
  admitted = (connected, tt);
  named = heard-named conn HIDDEN frame w.links named;
  connected = heard-named HIDDEN HIDDEN frame w.links connected;
}

-- one list after another
then-admits : (w : World) (conn : ConnId) (earlier later : List Item) → Admits w conn earlier → ((v : World) → IsNamed v conn → IsConnected v → Admits v conn later) → Admits w conn (earlier ++ later)
then-admits w conn earlier later first next =
    let second = next (world_by w (inner earlier)) first.named first.connected in
    let joined : world_by w (inner (earlier ++ later)) ≡ world_by (world_by w (inner earlier)) (inner later) = worlds-join w earlier later in
    record {
      admitted = admitted-joins w earlier later first.admitted second.admitted;
      named = subst (λ v. IsNamed v conn) (sym joined) second.named;
      connected = subst IsConnected (sym joined) second.connected;
    }

filling-admits : (w : World) (conn : ConnId) (p : Play) (made : Created) → IsNamed w conn → IsConnected w → Admits w conn (filling p made)
filling-admits w conn p (Made stream input) named connected =
    then-admits w conn (own (data_frame stream p.sample) ∷ []) (own (drain_frame stream stream) ∷ []) (own-admits w conn (data_frame stream p.sample) named connected)
    (λ v n c. own-admits v conn (drain_frame stream stream) n c)
filling-admits w conn p (Refused code) named connected = none-admits w conn named connected
filling-admits w conn p Unanswered named connected = none-admits w conn named connected

answer-admits : (w : World) (conn : ConnId) (at tag : ℕ) (given : Answer) → IsNamed w conn → IsConnected w → Admits w conn (answer_items w conn at tag given)
answer-admits w conn at tag (Packet packet) named connected = reply-admits w conn (sending conn packet) named connected
answer-admits w conn at tag (Fault fault) named connected = one-admits w conn zero_length (Faulted conn (fault_code fault) (offset_behind at (fault_place fault))) named connected
answer-admits w conn at tag (Begins p) named connected =
    then-admits w conn (own (create_frame NO_STREAM p) ∷ []) (Reply (sending conn (play_reply tag (created w p))) ∷ filling p (created w p))
    (own-admits w conn (create_frame NO_STREAM p) named connected)
    (λ v n c. then-admits v conn (Reply (sending conn (play_reply tag (created w p))) ∷ []) (filling p (created w p))
    (reply-admits v conn (sending conn (play_reply tag (created w p))) n c) (λ u m d. filling-admits u conn p (created w p) m d))

piece-admits : (s : Sampler) (conn : ConnId) (piece : Piece) → IsNamed s.world conn → IsConnected s.world → Admits s.world conn (piece_items s conn piece)
piece-admits s conn (Pass frame) named connected = one-admits s.world conn (spelling_of frame.body) (shift_by conn (skipped_of conn s.skips)) named connected
piece-admits s conn (Broken bytes) named connected = one-admits s.world conn bytes (shift_by conn (skipped_of conn s.skips)) named connected
piece-admits s conn (Write frame) named connected =
    cond_both (is_taken s.store conn frame.body) [] (passed_on s conn (spelling_of frame.body) ∷ []) (λ (l : List Item). Admits s.world conn l)
    (λ e. none-admits s.world conn named connected)
    (λ e. one-admits s.world conn (spelling_of frame.body) (shift_by conn (skipped_of conn s.skips)) named connected)
piece-admits s conn (Own frame) named connected =
    answer-admits s.world conn frame.at (tag_in (packet_of frame.body)) (answered_by s conn (packet_of frame.body)).1 named connected

delete-admits : (w : World) (conn : ConnId) (due : List ℕ) → IsNamed w conn → IsConnected w → Admits w conn (delete_items_of due)
delete-admits w conn [] named connected = none-admits w conn named connected
delete-admits w conn (stream ∷ due) named connected = own-admits w conn (delete_frame NO_STREAM stream) named connected

deletes-admit : (conn : ConnId) (most : ℕ) (s : Sampler) (w : World) → s.world ≡ w → IsNamed w conn → IsConnected w → Admits w conn (deletes_by most s)
deletes-admit conn zero s w is named connected = none-admits w conn named connected
deletes-admit conn (suc most) s w is named connected =
    let first = delete-admits w conn s.course.due named connected in
    let next : (after_delete s).world ≡ world_by w (inner (delete_items s)) = delete-world s.course.due s ∙ ap (λ v. world_by v (inner (delete_items s))) is in
    let second = deletes-admit conn most (after_delete s) (world_by w (inner (delete_items s))) next first.named first.connected in
    let joined : world_by w (inner (delete_items s ++ deletes_by most (after_delete s))) ≡ world_by (world_by w (inner (delete_items s))) (inner (deletes_by most (after_delete s))) =
    worlds-join w (delete_items s) (deletes_by most (after_delete s)) in
    record {
      admitted = admitted-joins w (delete_items s) (deletes_by most (after_delete s)) first.admitted second.admitted;
      named = subst (λ v. IsNamed v conn) (sym joined) second.named;
      connected = subst IsConnected (sym joined) second.connected;
    }

-- items, and then what is due in the state after them
settle-admits : (s : Sampler) (w : World) (conn : ConnId) (list : List Item) → s.world ≡ world_by w (inner list) → Admits w conn list → Admits w conn (list ++ settle_items s)
settle-admits s w conn list is first =
    let second = deletes-admit conn (most_due s.course) s (world_by w (inner list)) is first.named first.connected in
    let joined : world_by w (inner (list ++ settle_items s)) ≡ world_by (world_by w (inner list)) (inner (settle_items s)) = worlds-join w list (settle_items s) in
    record {
      admitted = admitted-joins w list (settle_items s) first.admitted second.admitted;
      named = subst (λ v. IsNamed v conn) (sym joined) second.named;
      connected = subst IsConnected (sym joined) second.connected;
    }

whole-admits : (s : Sampler) (conn : ConnId) (piece : Piece) → IsNamed s.world conn → IsConnected s.world → Admits s.world conn (whole_items s conn piece)
whole-admits s conn piece named connected =
    settle-admits (with_piece s conn piece) s.world conn (piece_items s conn piece) (piece-world s conn piece) (piece-admits s conn piece named connected)

segments-admit : (s : Sampler) (conn : ConnId) (segments : List Segment) → IsNamed s.world conn → IsConnected s.world → Admits s.world conn (segments_items s conn segments)
segments-admit s conn [] named connected = none-admits s.world conn named connected
segments-admit s conn (segment ∷ segments) named connected =
    let next = after_segment s conn segment in
    let first = whole-admits (handed_out s conn) conn (piece_for s conn segment) named connected in
    let is : next.world ≡ world_by s.world (inner (segment_items s conn segment)) = segment-world s conn segment in
    let second : Admits next.world conn (segments_items next conn segments) =
    segments-admit next conn segments (subst (λ v. IsNamed v conn) (sym is) first.named) (subst IsConnected (sym is) first.connected) in
    let there = subst (λ v. Admits v conn (segments_items next conn segments)) is second in
    let joined : world_by s.world (inner (segment_items s conn segment ++ segments_items next conn segments)) ≡ world_by (world_by s.world (inner (segment_items s conn segment))) (inner (segments_items next conn segments)) =
    worlds-join s.world (segment_items s conn segment) (segments_items next conn segments) in
    record {
      admitted = admitted-joins s.world (segment_items s conn segment) (segments_items next conn segments) first.admitted there.admitted;
      named = subst (λ v. IsNamed v conn) (sym joined) there.named;
      connected = subst IsConnected (sym joined) there.connected;
    }

-- ---- events: the number of the server's own connection stays in use

record Keeps (w : World) (list : List Item) : Type 0 where
  admitted : AreAdmitted w (inner list)
  connected : IsConnected (world_by w (inner list))

lone-keeps : (s : Sampler) (e : Event) → refusal_of s.world e ≡ None → IsConnected (world_after s.world e) → Keeps s.world (lone_items s e)
lone-keeps s e lawful connected =
    let all = settle-admits (after_items s (alone e)) s.world HIDDEN (alone e) refl (record { admitted = (lawful, tt); named = connected; connected = connected }) in
    record { admitted = all.admitted; connected = all.connected }

-- an event that isn't of the number
not-hidden : (conn : ConnId) (fault : WorldFault) (refusal : Option WorldFault) → unless_hidden conn fault refusal ≡ None → (is_hidden conn ≡ false) × (refusal ≡ None)
not-hidden conn fault refusal lawful =
    ⊎_elim
    (λ (e : is_hidden conn ≡ true). absurd (some-none fault (sym (cond-true (is_hidden conn) (Some fault) refusal e) ∙ lawful)))
    (λ (e : is_hidden conn ≡ false). (e, sym (cond-false (is_hidden conn) (Some fault) refusal e) ∙ lawful))
    (cases_Bool (is_hidden conn))
  where
    some-none : (f : WorldFault) → ◌≡◌ {A = Option WorldFault} (Some f) None → ⊥
    some-none f e = cc

-- two numbers that aren't the same are those of no link
apart : (conn : ConnId) → is_hidden conn ≡ false → (link : Link) → is_of conn link ≡ true → is_of HIDDEN link ≡ false
apart conn other link is =
    let same : link.conn.0 ≡ conn.0 = eqb-true link.conn.0 conn.0 is in
    ap (λ n. nat_eq n 0xFFFFFFFF) same ∙ other

event-keeps : (s : Sampler) (e : Event) → sampler_refusal s e ≡ None → IsConnected s.world → Keeps s.world (items s e)
event-keeps s (Connect conn) lawful connected =
    let other = not-hidden conn Live (refusal_of s.world (Connect conn)) lawful in
    lone-keeps s (Connect conn) other.1 (more-named HIDDEN s.world.links (record { conn = conn; received = [] }) connected)
event-keeps s (Bytes conn bytes) lawful connected =
    let other = not-hidden conn NotLive (refusal_of s.world (Bytes conn bytes)) lawful in
    let all = segments-admit (hearing s conn bytes) conn (to_hand_out (hearing s conn bytes) conn) other.1 connected in
    record { admitted = all.admitted; connected = all.connected }
event-keeps s (Close conn) lawful connected =
    let other = not-hidden conn NotLive (refusal_of s.world (Close conn)) lawful in
    lone-keeps s (Close conn) other.1 (others-named HIDDEN conn s.world.links (apart conn other.0) connected)
event-keeps s (Cut conn) lawful connected =
    let other = not-hidden conn NotLive (refusal_of s.world (Cut conn)) lawful in
    lone-keeps s (Cut conn) other.1 connected
event-keeps s (Turn sink frames n) lawful connected = lone-keeps s (Turn sink frames n) lawful connected
event-keeps s (Collect sink n) lawful connected = lone-keeps s (Collect sink n) lawful connected
event-keeps s (Stop sink) lawful connected = lone-keeps s (Stop sink) lawful connected

run-admits : (s : Sampler) (events : List Event) → IsConnected s.world → AreSampled s events → AreAdmitted s.world (inner (items_by s events))
run-admits s [] connected all = tt
run-admits s (e ∷ events) connected all =
    let first = event-keeps s e all.0 connected in
    admitted-joins s.world (items s e) (items_by (sampler_after s e) events) first.admitted
    (subst (λ w. AreAdmitted w (inner (items_by (sampler_after s e) events))) (event-world s e)
    (run-admits (sampler_after s e) events (subst IsConnected (sym (event-world s e)) first.connected) all.1))

pub all-admitted : (header : Header) (events : List Event) → AreSampled (new_sampler header) events → AreAdmitted (new_world header) (greeting header.cookie ++ inner (items_by (new_sampler header) events))
all-admitted header events all =
    admitted-join (new_world header) (greeting header.cookie) (inner (items_by (new_sampler header) events)) (refl, (refl, (refl, tt)))
    (run-admits (new_sampler header) events refl all)

-- Between two events no segment waits, so that those of an event are what its bytes newly have.
use Rattle.std.proofs.Common.{◌≡◌, ℕ, Bool, true, false, not, List, [], ◌∷◌, ◌++◌, Option, None, Some, refl, ap, sym, subst, ◌∙◌, ⊎_elim}
use Rattle.std.specs.Prelude.{◌&&◌, nat_eq}
use Rattle.std.specs.List.{AllByRecursion}
use Rattle.std.proofs.lemmas.Bool.{cases_Bool, cond-true, cond-false, cond_both, eqb-false}
use Rattle.std.proofs.lemmas.Option.{none-some}
use Rattle.px_types.specs.declared.ids.ConnId.{ConnId}
use Rattle.px_session.specs.declared.event.Event.{Event}
use Rattle.px_session.specs.declared.event.Event.TheVariants.{Connect, Bytes, Close, Cut, Turn, Collect, Stop}
use Rattle.px_state.specs.declared.effect.Effect.{Effect}
use Rattle.px_state.specs.declared.effect.Effect.TheVariants.{Sent, Closed}
use Rattle.px_sieve.specs.declared.segment.Segment.{Segment}
use Rattle.px_sieve.specs.Piece.{is_reply}
use Rattle.px_sieve.specs.Segment.{new_segments}
use Rattle.px_sieve.specs.Sieve.{Heard, is_of, heard_of, changed, unheard, heard_more, heard_by, first_taken, after_next, is_asked, set_one, set_in, seen_one, seen_all, seen}
use Rattle.px_sieve.specs.Scene.{shown_by}
use Rattle.px_monitor.specs.Monitor.{Monitor, waiting_in, piece_for, piece_items, handled_in, handed_out, after_segment, after_segments, hearing, to_hand_out, alone, monitor_after}
use Rattle.px_monitor.specs.Run.{monitor_by, NothingWaits, received_from, received_in}
use Rattle.px_monitor.proofs.Handing.{same-conn, same-waiting}
use Rattle.px_monitor.proofs.Goes.{handled-sieve, later-left}
use Rattle.px_monitor.proofs.Kept.{kept}

abbrev Idle : Heard → Type 0
Idle h = h.waiting ≡ []

abbrev AreIdle : List Heard → Type 0
AreIdle heard = AllByRecursion Idle heard

abbrev cleared : Heard → Heard
cleared h = record h { waiting = [] }

-- nothing waits but of the first that is of a connection
abbrev OthersIdle : ConnId → List Heard → Type 0
OthersIdle conn heard = AreIdle (changed cleared conn heard)

-- ---- by cases on the first

module _ (conn : ConnId) (h : Heard) (heard : List Heard) where
  module _ (e : is_of conn h ≡ true) where
    open-here : OthersIdle conn (h ∷ heard) → AreIdle heard
    open-here all = let a : AreIdle (cleared h ∷ heard) = subst AreIdle (cond-true (is_of conn h) (cleared h ∷ heard) (h ∷ changed cleared conn heard) e) all in a.1

    close-here : AreIdle heard → OthersIdle conn (h ∷ heard)
    close-here all =
        let a : AreIdle (cleared h ∷ heard) = (refl, all) in
        subst AreIdle (sym (cond-true (is_of conn h) (cleared h ∷ heard) (h ∷ changed cleared conn heard) e)) a

    found-here : heard_of (h ∷ heard) conn ≡ Some h
    found-here = cond-true (is_of conn h) (Some h) (heard_of heard conn) e

    changed-here : (f : Heard → Heard) → changed f conn (h ∷ heard) ≡ f h ∷ heard
    changed-here f = cond-true (is_of conn h) (f h ∷ heard) (h ∷ changed f conn heard) e

  module _ (e : is_of conn h ≡ false) where
    open-later : OthersIdle conn (h ∷ heard) → AreIdle (h ∷ changed cleared conn heard)
    open-later all = subst AreIdle (cond-false (is_of conn h) (cleared h ∷ heard) (h ∷ changed cleared conn heard) e) all

    close-later : AreIdle (h ∷ changed cleared conn heard) → OthersIdle conn (h ∷ heard)
    close-later all = subst AreIdle (sym (cond-false (is_of conn h) (cleared h ∷ heard) (h ∷ changed cleared conn heard) e)) all

    found-later : heard_of (h ∷ heard) conn ≡ heard_of heard conn
    found-later = cond-false (is_of conn h) (Some h) (heard_of heard conn) e

    changed-later : (f : Heard → Heard) → changed f conn (h ∷ heard) ≡ h ∷ changed f conn heard
    changed-later f = cond-false (is_of conn h) (f h ∷ heard) (h ∷ changed f conn heard) e

-- ---- the first is changed

others-change : (f : Heard → Heard) (conn : ConnId) (heard : List Heard) → ((h : Heard) → is_of conn (f h) ≡ is_of conn h) → OthersIdle conn heard → OthersIdle conn (changed f conn heard)
others-change f conn [] same all = tt
others-change f conn (h ∷ heard) same all =
    ⊎_elim
    (λ (e : is_of conn h ≡ true).
    subst (OthersIdle conn) (sym (changed-here conn h heard e f)) (close-here conn (f h) heard (same h ∙ e) (open-here conn h heard e all)))
    (λ (e : is_of conn h ≡ false).
    let was = open-later conn h heard e all in
    subst (OthersIdle conn) (sym (changed-later conn h heard e f)) (close-later conn h (changed f conn heard) e (was.0, others-change f conn heard same was.1)))
    (cases_Bool (is_of conn h))

-- all are idle
others-idle : (conn : ConnId) (heard : List Heard) → AreIdle heard → OthersIdle conn heard
others-idle conn [] all = tt
others-idle conn (h ∷ heard) all =
    ⊎_elim
    (λ (e : is_of conn h ≡ true). close-here conn h heard e all.1)
    (λ (e : is_of conn h ≡ false). close-later conn h heard e (all.0, others-idle conn heard all.1))
    (cases_Bool (is_of conn h))

-- and so they are once nothing waits of the connection either
all-idle : (conn : ConnId) (heard : List Heard) → OthersIdle conn heard → waiting_in (heard_of heard conn) ≡ [] → AreIdle heard
all-idle conn [] all none = tt
all-idle conn (h ∷ heard) all none =
    ⊎_elim
    (λ (e : is_of conn h ≡ true). (ap waiting_in (sym (found-here conn h heard e)) ∙ none, open-here conn h heard e all))
    (λ (e : is_of conn h ≡ false).
    let was = open-later conn h heard e all in
    (was.0, all-idle conn heard was.1 (ap waiting_in (sym (found-later conn h heard e)) ∙ none)))
    (cases_Bool (is_of conn h))

-- one more is added
others-more : (conn : ConnId) (heard : List Heard) (x : Heard) → is_of conn x ≡ true → heard_of heard conn ≡ None → AreIdle heard → OthersIdle conn (heard ++ x ∷ [])
others-more conn [] x is none all = close-here conn x [] is tt
others-more conn (h ∷ heard) x is none all =
    ⊎_elim
    (λ (e : is_of conn h ≡ true). absurd (none-some h (sym none ∙ found-here conn h heard e)))
    (λ (e : is_of conn h ≡ false).
    close-later conn h (heard ++ x ∷ []) e (all.0, others-more conn heard x is (sym (found-later conn h heard e) ∙ none) all.1))
    (cases_Bool (is_of conn h))

-- ---- effects are seen

set-idle : (one : ConnId) (on : Bool) (heard : List Heard) → AreIdle heard → AreIdle (set_in one on heard)
set-idle one on [] all = tt
set-idle one on (h ∷ heard) all = (same-waiting one on h ∙ all.0, set-idle one on heard all.1)

set-others : (conn one : ConnId) (on : Bool) (heard : List Heard) → OthersIdle conn heard → OthersIdle conn (set_in one on heard)
set-others conn one on [] all = tt
set-others conn one on (h ∷ heard) all =
    let set = set_one one on h in
    ⊎_elim
    (λ (e : is_of conn h ≡ true). close-here conn set (set_in one on heard) (same-conn conn one on h ∙ e) (set-idle one on heard (open-here conn h heard e all)))
    (λ (e : is_of conn h ≡ false).
    let was = open-later conn h heard e all in
    close-later conn set (set_in one on heard) (same-conn conn one on h ∙ e) (same-waiting one on h ∙ was.0, set-others conn one on heard was.1))
    (cases_Bool (is_of conn h))

-- what letting in leaves, effects leave
module _ (P : List Heard → Type 0) (set : (one : ConnId) (on : Bool) (heard : List Heard) → P heard → P (set_in one on heard)) where
  one-keeps : (asked : Option ConnId) (effect : Effect) (heard : List Heard) → P heard → P (seen_one asked effect heard)
  one-keeps asked (Sent to packet) heard all =
      cond_both (is_asked asked to && is_reply packet) (set_in to true heard) heard P (λ e. set to true heard all) (λ e. all)
  one-keeps asked (Closed to reason fault at) heard all = set to false heard all

  pub seen-keeps : (asked : Option ConnId) (effects : List Effect) (heard : List Heard) → P heard → P (seen_all asked effects heard)
  seen-keeps asked [] heard all = all
  seen-keeps asked (effect ∷ effects) heard all = seen-keeps asked effects (seen_one asked effect heard) (one-keeps asked effect heard all)

-- ---- bytes arrive

nat-self : (n : ℕ) → nat_eq n n ≡ true
nat-self n =
    ⊎_elim
    (λ (e : nat_eq n n ≡ true). e)
    (λ (e : nat_eq n n ≡ false). absurd (eqb-false n n e refl))
    (cases_Bool (nat_eq n n))

-- what was heard of the connection before
abbrev before : Option Heard → ConnId → Heard
before None conn = unheard conn
before (Some h) conn = h

found-more : (conn : ConnId) (heard : List Heard) (x : Heard) → is_of conn x ≡ true → heard_of heard conn ≡ None → heard_of (heard ++ x ∷ []) conn ≡ Some x
found-more conn [] x is none = found-here conn x [] is
found-more conn (h ∷ heard) x is none =
    ⊎_elim
    (λ (e : is_of conn h ≡ true). absurd (none-some h (sym none ∙ found-here conn h heard e)))
    (λ (e : is_of conn h ≡ false). found-later conn h (heard ++ x ∷ []) e ∙ found-more conn heard x is (sym (found-later conn h heard e) ∙ none))
    (cases_Bool (is_of conn h))

found-changed : (f : Heard → Heard) (conn : ConnId) (heard : List Heard) (x : Heard) → ((h : Heard) → is_of conn (f h) ≡ is_of conn h) → heard_of heard conn ≡ Some x
    → heard_of (changed f conn heard) conn ≡ Some (f x)
found-changed f conn [] x same there = absurd (none-some x there)
found-changed f conn (h ∷ heard) x same there =
    ⊎_elim
    (λ (e : is_of conn h ≡ true).
    let is : Some h ≡ Some x = sym (found-here conn h heard e) ∙ there in
    ap (λ l. heard_of l conn) (changed-here conn h heard e f) ∙ found-here conn (f h) heard (same h ∙ e) ∙ some-same f h x is)
    (λ (e : is_of conn h ≡ false).
    ap (λ l. heard_of l conn) (changed-later conn h heard e f) ∙ found-later conn h (changed f conn heard) e
    ∙ found-changed f conn heard x same (sym (found-later conn h heard e) ∙ there))
    (cases_Bool (is_of conn h))
  where
    some-same : (g : Heard → Heard) (a b : Heard) → ◌≡◌ {A = Option Heard} (Some a) (Some b) → ◌≡◌ {A = Option Heard} (Some (g a)) (Some (g b))
    some-same g a b e = let is : a ≡ b = cc in ap (λ y. Some (g y)) is

module _ (conn : ConnId) (bytes : List ℕ) (heard : List Heard) where
  pub heard-now : (o : Option Heard) → heard_of heard conn ≡ o → heard_of (heard_by o conn bytes heard) conn ≡ Some (heard_more bytes (before o conn))
  heard-now None is = found-more conn heard (heard_more bytes (unheard conn)) (nat-self conn.0) is
  heard-now (Some h) is = found-changed (heard_more bytes) conn heard h (λ x. refl) is

  others-heard : (o : Option Heard) → heard_of heard conn ≡ o → AreIdle heard → OthersIdle conn (heard_by o conn bytes heard)
  others-heard None is all = others-more conn heard (heard_more bytes (unheard conn)) (nat-self conn.0) is all
  others-heard (Some h) is all = others-change (heard_more bytes) conn heard (λ x. refl) (others-idle conn heard all)

-- ---- the segments of an event are handed out

segment-others : (m : Monitor) (conn : ConnId) (segment : Segment) → OthersIdle conn m.sieve.heard → OthersIdle conn (after_segment m conn segment).sieve.heard
segment-others m conn segment all =
    let piece = piece_for m conn segment in
    let effects = shown_by (handled_in (handed_out m conn) conn piece).world (piece_items (handed_out m conn) conn piece) in
    let next = after_next m.sieve conn in
    subst (λ s. OthersIdle conn (seen s effects).heard) (sym (handled-sieve (handed_out m conn) conn piece))
    (seen-keeps (OthersIdle conn) (set-others conn) next.asked effects next.heard (others-change first_taken conn m.sieve.heard (λ x. refl) all))

segments-idle : (m : Monitor) (conn : ConnId) (segments : List Segment) → OthersIdle conn m.sieve.heard → to_hand_out m conn ≡ segments → NothingWaits (after_segments m conn segments)
segments-idle m conn [] all waits = all-idle conn m.sieve.heard all waits
segments-idle m conn (segment ∷ segments) all waits =
    segments-idle (after_segment m conn segment) conn segments (segment-others m conn segment all) (later-left m conn segment segments waits)

-- ---- events

event-idle : (m : Monitor) (e : Event) → NothingWaits m → NothingWaits (monitor_after m e)
event-idle m (Connect conn) idle = seen-keeps AreIdle set-idle m.sieve.asked (shown_by m.world (alone (Connect conn))) m.sieve.heard idle
event-idle m (Bytes conn bytes) idle =
    segments-idle (hearing m conn bytes) conn (to_hand_out (hearing m conn bytes) conn) (others-heard conn bytes m.sieve.heard (heard_of m.sieve.heard conn) refl idle) refl
event-idle m (Close conn) idle =
    let effects = shown_by m.world (alone (Close conn)) in
    kept Idle (λ h. not (is_of conn h)) (seen_all m.sieve.asked effects m.sieve.heard) (seen-keeps AreIdle set-idle m.sieve.asked effects m.sieve.heard idle)
event-idle m (Cut conn) idle = seen-keeps AreIdle set-idle m.sieve.asked (shown_by m.world (alone (Cut conn))) m.sieve.heard idle
event-idle m (Turn sink frames n) idle = seen-keeps AreIdle set-idle m.sieve.asked (shown_by m.world (alone (Turn sink frames n))) m.sieve.heard idle
event-idle m (Collect sink n) idle = seen-keeps AreIdle set-idle m.sieve.asked (shown_by m.world (alone (Collect sink n))) m.sieve.heard idle
event-idle m (Stop sink) idle = seen-keeps AreIdle set-idle m.sieve.asked (shown_by m.world (alone (Stop sink))) m.sieve.heard idle

pub run-idle : (m : Monitor) (events : List Event) → NothingWaits m → NothingWaits (monitor_by m events)
run-idle m [] idle = idle
run-idle m (e ∷ events) idle = run-idle (monitor_after m e) events (event-idle m e idle)

-- ---- the segments of an event

idle-found : (conn : ConnId) (heard : List Heard) → AreIdle heard → waiting_in (heard_of heard conn) ≡ []
idle-found conn [] all = refl
idle-found conn (h ∷ heard) all =
    ⊎_elim
    (λ (e : is_of conn h ≡ true). ap waiting_in (found-here conn h heard e) ∙ all.0)
    (λ (e : is_of conn h ≡ false). ap waiting_in (found-later conn h heard e) ∙ idle-found conn heard all.1)
    (cases_Bool (is_of conn h))

new-in : (conn : ConnId) (bytes : List ℕ) (o : Option Heard) → waiting_in o ≡ [] → waiting_in (Some (heard_more bytes (before o conn))) ≡ new_segments (received_from o) bytes
new-in conn bytes None none = refl
new-in conn bytes (Some h) none = ap (λ l. l ++ new_segments h.received bytes) none

pub new-alone : (m : Monitor) (conn : ConnId) (bytes : List ℕ) → NothingWaits m → to_hand_out (hearing m conn bytes) conn ≡ new_segments (received_in m conn) bytes
new-alone m conn bytes idle =
    let o = heard_of m.sieve.heard conn in
    ap waiting_in (heard-now conn bytes m.sieve.heard o refl) ∙ new-in conn bytes o (idle-found conn m.sieve.heard idle)

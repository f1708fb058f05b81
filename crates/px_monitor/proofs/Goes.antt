-- The pieces of a connection's bytes are handled one after the other.
use Rattle.std.proofs.Common.{◌≡◌, ℕ, Bool, true, false, List, [], ◌∷◌, ◌++◌, drop, Option, None, Some, refl, ap, sym, subst, ◌∙◌, append-nil, ⊎_elim}
use Rattle.std.proofs.lemmas.Bool.{cases_Bool, cond-true, cond-false}
use Rattle.std.proofs.lemmas.List.{append_assoc}
use Rattle.px_types.specs.declared.ids.ConnId.{ConnId}
use Rattle.px_state.specs.declared.effect.Effect.{Effect}
use Rattle.px_sieve.specs.declared.segment.Segment.{Segment}
use Rattle.px_sieve.specs.declared.piece.Piece.{Piece}
use Rattle.px_sieve.specs.declared.piece.Piece.TheVariants.{Pass, Broken, Own, Write}
use Rattle.px_sieve.specs.Sieve.{Heard, is_of, heard_of, changed, first_taken, first_of, piece_from, asked_from, next, seen}
use Rattle.px_sieve.specs.Scene.{shown_by}
use Rattle.px_sieve.proofs.Scenes.{shown-join}
use Rattle.px_monitor.specs.declared.parts.Parts.{Parts}
use Rattle.px_monitor.specs.Monitor.{Monitor, waiting_in, running_on, seeing, handled_in, handed_out, piece_for, piece_items, after_segment, segment_items, segments_items, after_segments, to_hand_out, StandsForMonitor}
use Rattle.px_monitor.proofs.Handing.{hands, hands-none, later-wait}
use Rattle.px_monitor.proofs.Sieving.{handled-world, segment-world}

-- some pieces were handled, and those that wait are left
pub record GoesOn (conn : ConnId) (effects : List Effect) (parts : Parts) (start : Monitor) : Type 0 where
  pub now : Monitor
  pub stands : StandsForMonitor parts now
  pub shown : effects ++ shown_by now.world (segments_items now conn (to_hand_out now conn)) ≡ shown_by start.world (segments_items start conn (to_hand_out start conn))
  pub after : after_segments now conn (to_hand_out now conn) ≡ after_segments start conn (to_hand_out start conn)

pub goes-first : (conn : ConnId) (parts : Parts) (start : Monitor) → StandsForMonitor parts start → GoesOn conn [] parts start
goes-first conn parts start stands = record { now = start; stands = stands; shown = refl; after = refl }

-- ---- one more piece

pub handled-sieve : (m : Monitor) (conn : ConnId) (piece : Piece) → (handled_in m conn piece).sieve ≡ m.sieve
handled-sieve m conn (Pass frame) = refl
handled-sieve m conn (Broken bytes) = refl
handled-sieve m conn (Write frame) = refl
handled-sieve m conn (Own frame) = refl

pub later-left : (m : Monitor) (conn : ConnId) (segment : Segment) (later : List Segment) → to_hand_out m conn ≡ segment ∷ later → to_hand_out (after_segment m conn segment) conn ≡ later
later-left m conn segment later waits =
    let piece = piece_for m conn segment in
    let effects = shown_by (handled_in (handed_out m conn) conn piece).world (piece_items (handed_out m conn) conn piece) in
    ap (λ s. waiting_in (heard_of (seen s effects).heard conn)) (handled-sieve (handed_out m conn) conn piece)
    ∙ later-wait m.sieve conn effects
    ∙ ap (drop 1) waits

module _ (conn : ConnId) (effects longer more : List Effect) (piece : Piece) (parts later_parts : Parts) (start : Monitor) (g : GoesOn conn effects parts start) where
  pub goes-next : Some piece ≡ next g.now.sieve conn → more ≡ shown_by g.now.world (piece_items (handed_out g.now conn) conn piece)
      → StandsForMonitor later_parts (seeing more (running_on (handled_in (handed_out g.now conn) conn piece) (piece_items (handed_out g.now conn) conn piece)))
      → longer ≡ effects ++ more → GoesOn conn longer later_parts start
  goes-next given made stands joined =
      let m = g.now in
      let h = hands m.sieve.own (heard_of m.sieve.heard conn) piece given in
      let after_it = after_segment m conn h.segment in
      let left : to_hand_out after_it conn ≡ h.later = later-left m conn h.segment h.later h.waits in
      let same : more ≡ shown_by m.world (segment_items m conn h.segment) = made ∙ ap (λ p. shown_by m.world (piece_items (handed_out m conn) conn p)) h.is in
      let state : seeing more (running_on (handled_in (handed_out m conn) conn piece) (piece_items (handed_out m conn) conn piece)) ≡ after_it =
      ap (λ es. seeing es (running_on (handled_in (handed_out m conn) conn piece) (piece_items (handed_out m conn) conn piece))) same
      ∙ ap (λ p. seeing (shown_by m.world (segment_items m conn h.segment)) (running_on (handled_in (handed_out m conn) conn p) (piece_items (handed_out m conn) conn p))) h.is
      ∙ ap (λ w. seeing (shown_by w (segment_items m conn h.segment)) (running_on (handled_in (handed_out m conn) conn (piece_for m conn h.segment)) (segment_items m conn h.segment)))
      (sym (handled-world (handed_out m conn) conn (piece_for m conn h.segment))) in
      let rest = shown_by after_it.world (segments_items after_it conn h.later) in
      let joins : more ++ rest ≡ shown_by m.world (segments_items m conn (to_hand_out m conn)) =
      ap (λ es. es ++ rest) same
      ∙ ap (λ w. shown_by m.world (segment_items m conn h.segment) ++ shown_by w (segments_items after_it conn h.later)) (segment-world m conn h.segment)
      ∙ sym (shown-join m.world (segment_items m conn h.segment) (segments_items after_it conn h.later))
      ∙ ap (λ l. shown_by m.world (segments_items m conn l)) (sym h.waits) in
      record {
        now = after_it;
        stands = subst (StandsForMonitor later_parts) state stands;
        shown =
            ap (λ l. longer ++ shown_by after_it.world (segments_items after_it conn l)) left
            ∙ ap (λ es. es ++ rest) joined
            ∙ append_assoc effects more rest
            ∙ ap (λ es. effects ++ es) joins
            ∙ g.shown;
        after = ap (λ l. after_segments after_it conn l) left ∙ ap (λ l. after_segments m conn l) (sym h.waits) ∙ g.after;
      }

-- ---- none is left

pub drop-none : (l : List Segment) → l ≡ [] → drop 1 l ≡ l
drop-none l e = ap (drop 1) e ∙ sym e

pub taken-none : (conn : ConnId) (heard : List Heard) → waiting_in (heard_of heard conn) ≡ [] → changed first_taken conn heard ≡ heard
taken-none conn [] none = refl
taken-none conn (h ∷ heard) none =
    ⊎_elim
    (λ (e : is_of conn h ≡ true).
    cond-true (is_of conn h) (first_taken h ∷ heard) (h ∷ changed first_taken conn heard) e
    ∙ ap (λ w. record h { waiting = w } ∷ heard) (drop-none h.waiting (ap waiting_in (sym (cond-true (is_of conn h) (Some h) (heard_of heard conn) e)) ∙ none)))
    (λ (e : is_of conn h ≡ false).
    cond-false (is_of conn h) (first_taken h ∷ heard) (h ∷ changed first_taken conn heard) e
    ∙ ap (λ l. h ∷ l) (taken-none conn heard (ap waiting_in (sym (cond-false (is_of conn h) (Some h) (heard_of heard conn) e)) ∙ none)))
    (cases_Bool (is_of conn h))

first-none : (own : List ℕ) (first : Option (Segment × Bool)) → None ≡ piece_from own first → first ≡ None
first-none own None e = refl
first-none own (Some first) e = absurd cc

-- nothing was handed out
pub not-handed : (m : Monitor) (conn : ConnId) → None ≡ next m.sieve conn → handed_out m conn ≡ m
not-handed m conn none =
    let s = m.sieve in
    let first : first_of (heard_of s.heard conn) ≡ None = first-none s.own (first_of (heard_of s.heard conn)) none in
    ap (λ f. record m { sieve = record s { heard = changed first_taken conn s.heard; asked = asked_from s.own conn f s.asked } }) first
    ∙ ap (λ h. record m { sieve = record s { heard = h; asked = s.asked } }) (taken-none conn s.heard (hands-none s.own (heard_of s.heard conn) none))

module _ (conn : ConnId) (effects : List Effect) (parts later_parts : Parts) (start : Monitor) (g : GoesOn conn effects parts start) (none : None ≡ next g.now.sieve conn) where
  nothing-waits : to_hand_out g.now conn ≡ []
  nothing-waits = hands-none g.now.sieve.own (heard_of g.now.sieve.heard conn) none

  pub goes-shown : effects ≡ shown_by start.world (segments_items start conn (to_hand_out start conn))
  goes-shown = sym (append-nil effects) ∙ ap (λ l. effects ++ shown_by g.now.world (segments_items g.now conn l)) (sym nothing-waits) ∙ g.shown

  pub goes-after : g.now ≡ after_segments start conn (to_hand_out start conn)
  goes-after = ap (λ l. after_segments g.now conn l) (sym nothing-waits) ∙ g.after

-- The pieces of a connection's bytes are handled one after the other.
use Rattle.std.proofs.Common.{◌≡◌, ℕ, zero, suc, Bool, true, false, List, [], ◌∷◌, ◌++◌, drop, Option, None, Some, refl, ap, sym, subst, ◌∙◌, append-nil, ⊎_elim}
use Rattle.std.proofs.lemmas.Bool.{cases_Bool, cond-true, cond-false, cond_both}
use Rattle.std.proofs.lemmas.List.{append_assoc}
use Rattle.px_types.specs.declared.ids.ConnId.{ConnId}
use Rattle.px_frame.specs.declared.frame.Body.{Body}
use Rattle.px_frame.specs.declared.frame.Body.TheVariants.{Control, Write as write}
use Rattle.px_state.specs.declared.effect.Effect.{Effect}
use Rattle.px_sieve.specs.declared.segment.Segment.{Segment}
use Rattle.px_sieve.specs.declared.piece.Piece.{Piece}
use Rattle.px_sieve.specs.declared.piece.Piece.TheVariants.{Pass, Broken, Own, Write}
use Rattle.px_sieve.specs.Sieve.{Heard, is_of, heard_of, changed, first_taken, first_of, piece_from, asked_from, next, seen}
use Rattle.px_sieve.specs.Scene.{inner, shown_by}
use Rattle.px_sieve.proofs.Scenes.{worlds-join, shown-join}
use Rattle.px_world.specs.Output.{world_by}
use Rattle.px_cache_world.specs.declared.parts.Parts.{Parts}
use Rattle.px_cache_world.specs.Sampler.{Sampler, is_taken, uploaded, waiting_in, running_on, seeing, delete_items_of, after_delete_of, delete_items, after_delete, deletes_by, deleted_by, settle_items, settled, handled_in, with_piece, whole_items, after_whole, handed_out, piece_for, piece_items, after_segment, segment_items, segments_items, after_segments, to_hand_out, StandsForSampler}
use Rattle.px_cache_world.specs.Course.{most_due}
use Rattle.px_cache_world.proofs.Handing.{hands, hands-none, later-wait, seen-waits}

-- ---- what a piece changes

uploaded-world : (s : Sampler) (conn : ConnId) (body : Body) → (uploaded s conn body).world ≡ s.world
uploaded-world s conn (Control packet) = refl
uploaded-world s conn (write stream offset seek bytes) = refl

uploaded-sieve : (s : Sampler) (conn : ConnId) (body : Body) → (uploaded s conn body).sieve ≡ s.sieve
uploaded-sieve s conn (Control packet) = refl
uploaded-sieve s conn (write stream offset seek bytes) = refl

pub handled-same : (s : Sampler) (conn : ConnId) (piece : Piece) → (handled_in s conn piece).world ≡ s.world
handled-same s conn (Pass frame) = refl
handled-same s conn (Broken bytes) = refl
handled-same s conn (Own frame) = refl
handled-same s conn (Write frame) =
    cond_both (is_taken s.store conn frame.body) (uploaded s conn frame.body) s (λ (t : Sampler). t.world ≡ s.world) (λ e. uploaded-world s conn frame.body) (λ e. refl)

pub handled-sieve : (s : Sampler) (conn : ConnId) (piece : Piece) → (handled_in s conn piece).sieve ≡ s.sieve
handled-sieve s conn (Pass frame) = refl
handled-sieve s conn (Broken bytes) = refl
handled-sieve s conn (Own frame) = refl
handled-sieve s conn (Write frame) =
    cond_both (is_taken s.store conn frame.body) (uploaded s conn frame.body) s (λ (t : Sampler). t.sieve ≡ s.sieve) (λ e. uploaded-sieve s conn frame.body) (λ e. refl)

pub piece-world : (s : Sampler) (conn : ConnId) (piece : Piece) → (with_piece s conn piece).world ≡ world_by s.world (inner (piece_items s conn piece))
piece-world s conn piece = ap (λ w. world_by w (inner (piece_items s conn piece))) (handled-same s conn piece)

-- ---- what the streams that are deleted change: the world

pub delete-world : (due : List ℕ) (s : Sampler) → (after_delete_of due s).world ≡ world_by s.world (inner (delete_items_of due))
delete-world [] s = refl
delete-world (stream ∷ due) s = refl

deletes-world : (most : ℕ) (s : Sampler) → (deleted_by most s).world ≡ world_by s.world (inner (deletes_by most s))
deletes-world zero s = refl
deletes-world (suc most) s =
    deletes-world most (after_delete s)
    ∙ ap (λ w. world_by w (inner (deletes_by most (after_delete s)))) (delete-world s.course.due s)
    ∙ sym (worlds-join s.world (delete_items s) (deletes_by most (after_delete s)))

pub settled-world : (s : Sampler) → (settled s).world ≡ world_by s.world (inner (settle_items s))
settled-world s = deletes-world (most_due s.course) s

-- and not what waits
delete-waits : (conn : ConnId) (due : List ℕ) (s : Sampler) → to_hand_out (after_delete_of due s) conn ≡ to_hand_out s conn
delete-waits conn [] s = refl
delete-waits conn (stream ∷ due) s = seen-waits conn s.sieve.asked (shown_by s.world (delete_items_of (stream ∷ due))) s.sieve.heard

deletes-wait : (conn : ConnId) (most : ℕ) (s : Sampler) → to_hand_out (deleted_by most s) conn ≡ to_hand_out s conn
deletes-wait conn zero s = refl
deletes-wait conn (suc most) s = deletes-wait conn most (after_delete s) ∙ delete-waits conn s.course.due s

-- ---- a piece and what is deleted after it

pub whole-world : (s : Sampler) (conn : ConnId) (piece : Piece) → (after_whole s conn piece).world ≡ world_by s.world (inner (whole_items s conn piece))
whole-world s conn piece =
    settled-world (with_piece s conn piece)
    ∙ ap (λ w. world_by w (inner (settle_items (with_piece s conn piece)))) (piece-world s conn piece)
    ∙ sym (worlds-join s.world (piece_items s conn piece) (settle_items (with_piece s conn piece)))

pub whole-shown : (s : Sampler) (conn : ConnId) (piece : Piece) (made more all : List Effect) → made ≡ shown_by s.world (piece_items s conn piece)
    → more ≡ shown_by (with_piece s conn piece).world (settle_items (with_piece s conn piece)) → all ≡ made ++ more → all ≡ shown_by s.world (whole_items s conn piece)
whole-shown s conn piece made more all one two joined =
    joined ∙ ap (λ l. l ++ more) one
    ∙ ap (λ l. shown_by s.world (piece_items s conn piece) ++ l) (two ∙ ap (λ w. shown_by w (settle_items (with_piece s conn piece))) (piece-world s conn piece))
    ∙ sym (shown-join s.world (piece_items s conn piece) (settle_items (with_piece s conn piece)))

-- the parts after its effects were seen
pub piece-stands : (s : Sampler) (conn : ConnId) (piece : Piece) (parts : Parts) (made : List Effect) → made ≡ shown_by s.world (piece_items s conn piece)
    → StandsForSampler parts (seeing made (running_on (handled_in s conn piece) (piece_items s conn piece))) → StandsForSampler parts (with_piece s conn piece)
piece-stands s conn piece parts made is stands =
    subst (λ es. StandsForSampler parts (seeing es (running_on (handled_in s conn piece) (piece_items s conn piece))))
    (is ∙ ap (λ w. shown_by w (piece_items s conn piece)) (sym (handled-same s conn piece))) stands

pub segment-world : (s : Sampler) (conn : ConnId) (segment : Segment) → (after_segment s conn segment).world ≡ world_by s.world (inner (segment_items s conn segment))
segment-world s conn segment = whole-world (handed_out s conn) conn (piece_for s conn segment)

pub later-left : (s : Sampler) (conn : ConnId) (segment : Segment) (later : List Segment) → to_hand_out s conn ≡ segment ∷ later → to_hand_out (after_segment s conn segment) conn ≡ later
later-left s conn segment later waits =
    let piece = piece_for s conn segment in
    let handled = handled_in (handed_out s conn) conn piece in
    let effects = shown_by handled.world (piece_items (handed_out s conn) conn piece) in
    deletes-wait conn (most_due (with_piece (handed_out s conn) conn piece).course) (with_piece (handed_out s conn) conn piece)
    ∙ ap (λ t. waiting_in (heard_of (seen t effects).heard conn)) (handled-sieve (handed_out s conn) conn piece)
    ∙ later-wait s.sieve conn effects
    ∙ ap (drop 1) waits

-- ---- some pieces were handled, and those that wait are left

pub record GoesOn (conn : ConnId) (effects : List Effect) (parts : Parts) (start : Sampler) : Type 0 where
  pub now : Sampler
  pub stands : StandsForSampler parts now
  pub shown : effects ++ shown_by now.world (segments_items now conn (to_hand_out now conn)) ≡ shown_by start.world (segments_items start conn (to_hand_out start conn))
  pub after : after_segments now conn (to_hand_out now conn) ≡ after_segments start conn (to_hand_out start conn)

pub goes-first : (conn : ConnId) (parts : Parts) (start : Sampler) → StandsForSampler parts start → GoesOn conn [] parts start
goes-first conn parts start stands = record { now = start; stands = stands; shown = refl; after = refl }

-- one more
module _ (conn : ConnId) (effects longer more : List Effect) (piece : Piece) (parts later_parts : Parts) (start : Sampler) (g : GoesOn conn effects parts start) where
  pub goes-next : Some piece ≡ next g.now.sieve conn → more ≡ shown_by g.now.world (whole_items (handed_out g.now conn) conn piece)
      → StandsForSampler later_parts (after_whole (handed_out g.now conn) conn piece) → longer ≡ effects ++ more → GoesOn conn longer later_parts start
  goes-next given made stands joined =
      let s = g.now in
      let h = hands s.sieve.own (heard_of s.sieve.heard conn) piece given in
      let after_it = after_segment s conn h.segment in
      let left : to_hand_out after_it conn ≡ h.later = later-left s conn h.segment h.later h.waits in
      let same : more ≡ shown_by s.world (segment_items s conn h.segment) = made ∙ ap (λ p. shown_by s.world (whole_items (handed_out s conn) conn p)) h.is in
      let rest = shown_by after_it.world (segments_items after_it conn h.later) in
      let joins : more ++ rest ≡ shown_by s.world (segments_items s conn (to_hand_out s conn)) =
      ap (λ es. es ++ rest) same
      ∙ ap (λ w. shown_by s.world (segment_items s conn h.segment) ++ shown_by w (segments_items after_it conn h.later)) (segment-world s conn h.segment)
      ∙ sym (shown-join s.world (segment_items s conn h.segment) (segments_items after_it conn h.later))
      ∙ ap (λ l. shown_by s.world (segments_items s conn l)) (sym h.waits) in
      record {
        now = after_it;
        stands = subst (λ p. StandsForSampler later_parts (after_whole (handed_out s conn) conn p)) h.is stands;
        shown =
            ap (λ l. longer ++ shown_by after_it.world (segments_items after_it conn l)) left
            ∙ ap (λ es. es ++ rest) joined
            ∙ append_assoc effects more rest
            ∙ ap (λ es. effects ++ es) joins
            ∙ g.shown;
        after = ap (λ l. after_segments after_it conn l) left ∙ ap (λ l. after_segments s conn l) (sym h.waits) ∙ g.after;
      }

-- ---- none is left

pub drop-none : (l : List Segment) → l ≡ [] → drop 1 l ≡ l
drop-none l e = ap (drop 1) e ∙ sym e

pub taken-none : (conn : ConnId) (heard : List Heard) → waiting_in (heard_of heard conn) ≡ [] → changed first_taken conn heard ≡ heard
taken-none conn [] none = refl
taken-none conn (h ∷ heard) none =
    ⊎_elim
    (λ (e : is_of conn h ≡ true).
    cond-true (is_of conn h) (first_taken h ∷ heard) (h ∷ changed first_taken conn heard) e
    ∙ ap (λ w. record h { waiting = w } ∷ heard) (drop-none h.waiting (ap waiting_in (sym (cond-true (is_of conn h) (Some h) (heard_of heard conn) e)) ∙ none)))
    (λ (e : is_of conn h ≡ false).
    cond-false (is_of conn h) (first_taken h ∷ heard) (h ∷ changed first_taken conn heard) e
    ∙ ap (λ l. h ∷ l) (taken-none conn heard (ap waiting_in (sym (cond-false (is_of conn h) (Some h) (heard_of heard conn) e)) ∙ none)))
    (cases_Bool (is_of conn h))

first-none : (own : List ℕ) (first : Option (Segment × Bool)) → None ≡ piece_from own first → first ≡ None
first-none own None e = refl
first-none own (Some first) e = absurd cc

-- nothing was handed out
pub not-handed : (s : Sampler) (conn : ConnId) → None ≡ next s.sieve conn → handed_out s conn ≡ s
not-handed s conn none =
    let v = s.sieve in
    let first : first_of (heard_of v.heard conn) ≡ None = first-none v.own (first_of (heard_of v.heard conn)) none in
    ap (λ f. record s { sieve = record v { heard = changed first_taken conn v.heard; asked = asked_from v.own conn f v.asked } }) first
    ∙ ap (λ h. record s { sieve = record v { heard = h; asked = v.asked } }) (taken-none conn v.heard (hands-none v.own (heard_of v.heard conn) none))

module _ (conn : ConnId) (effects : List Effect) (parts later_parts : Parts) (start : Sampler) (g : GoesOn conn effects parts start) (none : None ≡ next g.now.sieve conn) where
  nothing-waits : to_hand_out g.now conn ≡ []
  nothing-waits = hands-none g.now.sieve.own (heard_of g.now.sieve.heard conn) none

  pub goes-shown : effects ≡ shown_by start.world (segments_items start conn (to_hand_out start conn))
  goes-shown = sym (append-nil effects) ∙ ap (λ l. effects ++ shown_by g.now.world (segments_items g.now conn l)) (sym nothing-waits) ∙ g.shown

  pub goes-after : g.now ≡ after_segments start conn (to_hand_out start conn)
  goes-after = ap (λ l. after_segments g.now conn l) (sym nothing-waits) ∙ g.after

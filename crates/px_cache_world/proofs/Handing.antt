-- Segments are handed out one after the other, until none waits.
use Rattle.std.proofs.Common.{◌≡◌, ℕ, Bool, true, false, List, [], ◌∷◌, drop, Option, None, Some, refl, ap, sym, ◌∙◌, ⊎_elim}
use Rattle.std.specs.Prelude.{◌&&◌}
use Rattle.std.proofs.lemmas.Bool.{cases_Bool, cond-true, cond-false, cond_both}
use Rattle.std.proofs.lemmas.Option.{none-some, same_Some}
use Rattle.px_types.specs.declared.ids.ConnId.{ConnId}
use Rattle.px_state.specs.declared.effect.Effect.{Effect}
use Rattle.px_state.specs.declared.effect.Effect.TheVariants.{Sent, Closed}
use Rattle.px_sieve.specs.declared.segment.Segment.{Segment}
use Rattle.px_sieve.specs.declared.piece.Piece.{Piece}
use Rattle.px_sieve.specs.Piece.{sorted, is_reply}
use Rattle.px_sieve.specs.Sieve.{Heard, Sieve, is_of, heard_of, changed, first_in, first_of, first_taken, piece_from, after_next, is_asked, set_one, set_in, seen_one, seen_all, seen}
use Rattle.px_cache_world.specs.Sampler.{is_in, waiting_in}

-- ---- what is handed out is the first that waits

pub record Hands (own : List ℕ) (o : Option Heard) (piece : Piece) : Type 0 where
  pub segment : Segment
  pub later : List Segment
  pub waits : waiting_in o ≡ segment ∷ later
  pub is : piece ≡ sorted own (is_in o) segment

hands-in : (own : List ℕ) (let_in : Bool) (waiting : List Segment) (piece : Piece) → Some piece ≡ piece_from own (first_in let_in waiting)
    → (segment : Segment) × (later : List Segment) × (waiting ≡ segment ∷ later) × (piece ≡ sorted own let_in segment)
hands-in own let_in [] piece e = absurd (none-some piece (sym e))
hands-in own let_in (segment ∷ later) piece e = (segment, later, refl, same_Some piece (sorted own let_in segment) e)

pub hands : (own : List ℕ) (o : Option Heard) (piece : Piece) → Some piece ≡ piece_from own (first_of o) → Hands own o piece
hands own None piece e = absurd (none-some piece (sym e))
hands own (Some h) piece e =
    let s = hands-in own h.let_in h.waiting piece e in
    record { segment = s.0; later = s.1; waits = s.2; is = s.3 }

none-waits : (own : List ℕ) (let_in : Bool) (waiting : List Segment) → None ≡ piece_from own (first_in let_in waiting) → waiting ≡ []
none-waits own let_in [] e = refl
none-waits own let_in (segment ∷ later) e = absurd (none-some (sorted own let_in segment) e)

pub hands-none : (own : List ℕ) (o : Option Heard) → None ≡ piece_from own (first_of o) → waiting_in o ≡ []
hands-none own None e = refl
hands-none own (Some h) e = none-waits own h.let_in h.waiting e

-- ---- then it doesn't wait any longer

taken-in : (conn : ConnId) (heard : List Heard) → waiting_in (heard_of (changed first_taken conn heard) conn) ≡ drop 1 (waiting_in (heard_of heard conn))
taken-in conn [] = refl
taken-in conn (h ∷ heard) =
    ⊎_elim
    (λ (e : is_of conn h ≡ true).
    ap (λ l. waiting_in (heard_of l conn)) (cond-true (is_of conn h) (first_taken h ∷ heard) (h ∷ changed first_taken conn heard) e)
    ∙ ap waiting_in (cond-true (is_of conn h) (Some (first_taken h)) (heard_of heard conn) e)
    ∙ ap (λ o. drop 1 (waiting_in o)) (sym (cond-true (is_of conn h) (Some h) (heard_of heard conn) e)))
    (λ (e : is_of conn h ≡ false).
    ap (λ l. waiting_in (heard_of l conn)) (cond-false (is_of conn h) (first_taken h ∷ heard) (h ∷ changed first_taken conn heard) e)
    ∙ ap waiting_in (cond-false (is_of conn h) (Some h) (heard_of (changed first_taken conn heard) conn) e)
    ∙ taken-in conn heard
    ∙ ap (λ o. drop 1 (waiting_in o)) (sym (cond-false (is_of conn h) (Some h) (heard_of heard conn) e)))
    (cases_Bool (is_of conn h))

-- ---- and effects that are seen leave what waits

pub same-conn : (conn one : ConnId) (on : Bool) (h : Heard) → is_of conn (set_one one on h) ≡ is_of conn h
same-conn conn one on h = cond_both (is_of one h) (record h { let_in = on }) h (λ (x : Heard). is_of conn x ≡ is_of conn h) (λ e. refl) (λ e. refl)

pub same-waiting : (one : ConnId) (on : Bool) (h : Heard) → (set_one one on h).waiting ≡ h.waiting
same-waiting one on h = cond_both (is_of one h) (record h { let_in = on }) h (λ (x : Heard). x.waiting ≡ h.waiting) (λ e. refl) (λ e. refl)

set-waits : (conn one : ConnId) (on : Bool) (heard : List Heard) → waiting_in (heard_of (set_in one on heard) conn) ≡ waiting_in (heard_of heard conn)
set-waits conn one on [] = refl
set-waits conn one on (h ∷ heard) =
    let set = set_one one on h in
    ⊎_elim
    (λ (e : is_of conn h ≡ true).
    ap waiting_in (cond-true (is_of conn set) (Some set) (heard_of (set_in one on heard) conn) (same-conn conn one on h ∙ e))
    ∙ same-waiting one on h
    ∙ ap waiting_in (sym (cond-true (is_of conn h) (Some h) (heard_of heard conn) e)))
    (λ (e : is_of conn h ≡ false).
    ap waiting_in (cond-false (is_of conn set) (Some set) (heard_of (set_in one on heard) conn) (same-conn conn one on h ∙ e))
    ∙ set-waits conn one on heard
    ∙ ap waiting_in (sym (cond-false (is_of conn h) (Some h) (heard_of heard conn) e)))
    (cases_Bool (is_of conn h))

one-waits : (conn : ConnId) (asked : Option ConnId) (effect : Effect) (heard : List Heard) → waiting_in (heard_of (seen_one asked effect heard) conn) ≡ waiting_in (heard_of heard conn)
one-waits conn asked (Sent to packet) heard =
    cond_both (is_asked asked to && is_reply packet) (set_in to true heard) heard (λ (l : List Heard). waiting_in (heard_of l conn) ≡ waiting_in (heard_of heard conn))
    (λ e. set-waits conn to true heard) (λ e. refl)
one-waits conn asked (Closed to reason fault at) heard = set-waits conn to false heard

pub seen-waits : (conn : ConnId) (asked : Option ConnId) (effects : List Effect) (heard : List Heard) → waiting_in (heard_of (seen_all asked effects heard) conn) ≡ waiting_in (heard_of heard conn)
seen-waits conn asked [] heard = refl
seen-waits conn asked (effect ∷ effects) heard = seen-waits conn asked effects (seen_one asked effect heard) ∙ one-waits conn asked effect heard

-- after a segment was handed out and its effects were seen, those after it wait
pub later-wait : (s : Sieve) (conn : ConnId) (effects : List Effect) → waiting_in (heard_of (seen (after_next s conn) effects).heard conn) ≡ drop 1 (waiting_in (heard_of s.heard conn))
later-wait s conn effects = seen-waits conn (after_next s conn).asked effects (changed first_taken conn s.heard) ∙ taken-in conn s.heard

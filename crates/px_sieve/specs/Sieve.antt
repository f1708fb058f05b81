-- The sieve: of each connection the bytes that were heard, the segments of them that weren't handed out yet, and whether it is let in. It is from an AUTH that
-- was passed on and answered by a reply, until the server ends the connection.
use Rattle.std.specs.Prelude.{ℕ, Bool, true, false, cond, ◌&&◌, nat_eq, not, List, [], ◌∷◌, ◌++◌, drop, map, filter, Option, None, Some}
use Rattle.std.specs.List.{find}
use Rattle.px_types.specs.declared.ids.ConnId.{ConnId}
use Rattle.px_state.specs.declared.effect.Effect.{Effect}
use Rattle.px_state.specs.declared.effect.Effect.TheVariants.{Sent, Closed}
use Rattle.px_sieve.specs.declared.segment.Segment.{Segment}
use Rattle.px_sieve.specs.declared.piece.Piece.{Piece}
use Rattle.px_sieve.specs.Segment.{new_segments}
use Rattle.px_sieve.specs.Piece.{sorted, asks, is_reply}

pub record Heard : Type 0 where
  pub conn : ConnId
  -- all its bytes
  pub received : List ℕ
  -- the segments that weren't handed out, in order
  pub waiting : List Segment
  pub let_in : Bool

pub record Sieve : Type 0 where
  -- the numbers of the commands that the mode handles itself
  pub own : List ℕ
  -- in order of the first bytes
  pub heard : List Heard
  -- the connection of the segment that was handed out last, if that is an AUTH whose effects weren't seen yet
  pub asked : Option ConnId

abbrev pub new_sieve : List ℕ → Sieve
new_sieve own = record { own = own; heard = []; asked = None }

-- ---- one connection

abbrev pub is_of : ConnId → Heard → Bool
is_of conn h = nat_eq h.conn.0 conn.0

abbrev pub heard_of : List Heard → ConnId → Option Heard
heard_of heard conn = find (is_of conn) heard

-- the first that is of a connection is changed
abbrev pub changed : (Heard → Heard) → ConnId → List Heard → List Heard
changed change conn [] = []
changed change conn (h ∷ heard) = cond (is_of conn h) (change h ∷ heard) (h ∷ changed change conn heard)

-- ---- bytes arrive

abbrev pub unheard : ConnId → Heard
unheard conn = record { conn = conn; received = []; waiting = []; let_in = false }

abbrev pub heard_more : List ℕ → Heard → Heard
heard_more bytes h = record h { received = h.received ++ bytes; waiting = h.waiting ++ new_segments h.received bytes }

abbrev pub heard_by : Option Heard → ConnId → List ℕ → List Heard → List Heard
heard_by None conn bytes heard = heard ++ heard_more bytes (unheard conn) ∷ []
heard_by (Some h) conn bytes heard = changed (heard_more bytes) conn heard

abbrev pub pass : Sieve → ConnId → List ℕ → Sieve
pass s conn bytes = record s { heard = heard_by (heard_of s.heard conn) conn bytes s.heard }

-- ---- the next piece

-- the first segment that waits, and whether its connection is let in
abbrev pub first_in : Bool → List Segment → Option (Segment × Bool)
first_in let_in [] = None
first_in let_in (segment ∷ waiting) = Some (segment, let_in)

abbrev pub first_of : Option Heard → Option (Segment × Bool)
first_of None = None
first_of (Some h) = first_in h.let_in h.waiting

abbrev pub piece_from : List ℕ → Option (Segment × Bool) → Option Piece
piece_from own None = None
piece_from own (Some first) = Some (sorted own first.1 first.0)

-- the piece that is handed out next, if one is left
abbrev pub next : Sieve → ConnId → Option Piece
next s conn = piece_from s.own (first_of (heard_of s.heard conn))

-- the connection, where that piece asks to be let in
abbrev pub asked_by : List ℕ → ConnId → Segment × Bool → Option ConnId
asked_by own conn first = cond (asks own first.1 first.0) (Some conn) None

abbrev pub asked_from : List ℕ → ConnId → Option (Segment × Bool) → Option ConnId → Option ConnId
asked_from own conn None asked = asked
asked_from own conn (Some first) asked = asked_by own conn first

abbrev pub first_taken : Heard → Heard
first_taken h = record h { waiting = drop 1 h.waiting }

abbrev pub after_next : Sieve → ConnId → Sieve
after_next s conn = record s { heard = changed first_taken conn s.heard; asked = asked_from s.own conn (first_of (heard_of s.heard conn)) s.asked }

-- ---- effects are seen

abbrev pub is_asked : Option ConnId → ConnId → Bool
is_asked None conn = false
is_asked (Some asked) conn = nat_eq asked.0 conn.0

-- each that is of a connection is let in, or isn't any longer
abbrev pub set_one : ConnId → Bool → Heard → Heard
set_one conn on h = cond (is_of conn h) (record h { let_in = on }) h

abbrev pub set_in : ConnId → Bool → List Heard → List Heard
set_in conn on heard = map (set_one conn on) heard

abbrev pub seen_one : Option ConnId → Effect → List Heard → List Heard
seen_one asked (Sent conn packet) heard = cond (is_asked asked conn && is_reply packet) (set_in conn true heard) heard
seen_one asked (Closed conn reason fault at) heard = set_in conn false heard

abbrev pub seen_all : Option ConnId → List Effect → List Heard → List Heard
seen_all asked [] heard = heard
seen_all asked (effect ∷ effects) heard = seen_all asked effects (seen_one asked effect heard)

abbrev pub seen : Sieve → List Effect → Sieve
seen s effects = record s { heard = seen_all s.asked effects s.heard; asked = None }

-- ---- a connection's number is free again

abbrev pub asked_still : Option ConnId → ConnId → Option ConnId
asked_still asked conn = cond (is_asked asked conn) None asked

abbrev pub forget : Sieve → ConnId → Sieve
forget s conn = record s { heard = filter (λ h. not (is_of conn h)) s.heard; asked = asked_still s.asked conn }

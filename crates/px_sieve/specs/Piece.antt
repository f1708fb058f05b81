-- Which segments a mode handles itself, and which it passes on.
use Rattle.std.specs.Prelude.{ℕ, Bool, false, cond, not, ◌&&◌, nat_eq, drop, List, Option, None, Some, Result, Ok, Err}
use Rattle.std.specs.List.{list_any}
use Rattle.px_tag.specs.declared.fault.TagFault.{TagFault}
use Rattle.px_tag.specs.Place.{Place, start_of}
use Rattle.px_tag.specs.Reading.{number_at}
use Rattle.px_frame.specs.declared.frame.Frame.{Frame}
use Rattle.px_frame.specs.declared.frame.Body.{Body}
use Rattle.px_frame.specs.declared.frame.Body.TheVariants.{Control, Write as write}
use Rattle.px_sieve.specs.declared.segment.Segment.{Segment}
use Rattle.px_sieve.specs.declared.segment.Segment.TheVariants.{Whole, Faulty}
use Rattle.px_sieve.specs.declared.piece.Piece.{Piece}
use Rattle.px_sieve.specs.declared.piece.Piece.TheVariants.{Pass, Broken, Own, Write}

-- the number that was read, if one was
abbrev pub number_read : Result (ℕ × Place) TagFault → Option ℕ
number_read (Ok number) = Some number.0
number_read (Err fault) = None

-- the command of a control packet, which is its first item: none where that isn't a u32
abbrev pub command_in : List ℕ → Option ℕ
command_in packet = number_read (number_at (start_of packet))

-- it is one of these
abbrev pub is_among : List ℕ → Option ℕ → Bool
is_among own None = false
is_among own (Some command) = list_any (λ number. nat_eq number command) own

-- a control packet is the mode's own: it has one of the commands `own`, and comes from a connection that is let in
abbrev pub is_own : List ℕ → Bool → List ℕ → Bool
is_own own let_in packet = let_in && is_among own (command_in packet)

abbrev pub sorted_frame : List ℕ → Bool → Frame → Body → Piece
sorted_frame own let_in frame (Control packet) = cond (is_own own let_in packet) (Own frame) (Pass frame)
sorted_frame own let_in frame (write stream offset seek bytes) = Write frame

-- what becomes of a segment
abbrev pub sorted : List ℕ → Bool → Segment → Piece
sorted own let_in (Whole frame) = sorted_frame own let_in frame frame.body
sorted own let_in (Faulty twenty fault at) = Broken twenty

-- ---- the commands AUTH and REPLY

abbrev pub AUTH : ℕ
AUTH = 8

abbrev pub REPLY : ℕ
REPLY = 2

-- a packet has this command
abbrev pub is_command : ℕ → Option ℕ → Bool
is_command number None = false
is_command number (Some command) = nat_eq command number

-- a whole frame, with the twenty bytes of its descriptor, is a reply
abbrev pub is_reply : List ℕ → Bool
is_reply frame = is_command REPLY (command_in (drop 20 frame))

-- whether a segment is an AUTH that is passed on
abbrev pub asks_in : List ℕ → Bool → Body → Bool
asks_in own let_in (Control packet) = is_command AUTH (command_in packet) && not (is_own own let_in packet)
asks_in own let_in (write stream offset seek bytes) = false

abbrev pub asks : List ℕ → Bool → Segment → Bool
asks own let_in (Whole frame) = asks_in own let_in frame.body
asks own let_in (Faulty twenty fault at) = false

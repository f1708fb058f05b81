-- A sieve as it runs: of each connection it holds no bytes, only the state of its decoder, and of the frame that hasn't ended its first bytes.
use Rattle.std.specs.Prelude.{◌≡◌, ℕ, ◌+◌, ◌^◌, ◌<◌, ◌≤◌, Bool, cond, nat_eq, List, [], ◌∷◌, ◌++◌, length, map, take, drop, Option, Result, Ok, Err}
use Rattle.std.specs.List.{AllByRecursion}
use Rattle.px_types.specs.declared.ids.ConnId.{ConnId}
use Rattle.px_frame.specs.declared.fault.FrameError.{FrameError}
use Rattle.px_frame.specs.declared.fault.FrameError.TheVariants.{Fault, Failed, NoMemory}
use Rattle.px_frame.specs.declared.frame.Frame.{Frame}
use Rattle.px_frame.specs.Frame.{IsBody}
use Rattle.px_frame.specs.Meaning.{frames_in, ending_in}
use Rattle.px_frame.specs.Progress.{HasFed}
use Rattle.px_frame.specs.Reading.{Unfinished}
use Rattle.px_sieve.specs.declared.line.Line.{Line}
use Rattle.px_sieve.specs.declared.rest.Rest.{Rest}
use Rattle.px_sieve.specs.declared.segment.Segment.{Segment}
use Rattle.px_sieve.specs.declared.segment.Segment.TheVariants.{Whole, Faulty}
use Rattle.px_sieve.specs.declared.piece.Piece.{Piece}
use Rattle.px_sieve.specs.declared.piece.Piece.TheVariants.{Pass, Broken, Own, Write}
use Rattle.px_sieve.specs.Segment.{size_of, size_of_all, rest_in}
use Rattle.px_sieve.specs.Sieve.{Heard, Sieve}

pub record Sifting : Type 0 where
  pub own : List ℕ
  pub lines : List Line
  pub asked : Option ConnId

abbrev pub is_line : ConnId → Line → Bool
is_line conn line = nat_eq line.conn.0 conn.0

-- a line that is of a connection is let in, or isn't any longer
abbrev pub line_set : ConnId → Bool → Line → Line
line_set conn on line = cond (is_line conn line) (record line { let_in = on }) line

-- these are the bytes after the whole frames
pub record IsRest (rest : Rest) (bytes : List ℕ) : Type 0 where
  pub count : rest.count ≡ length bytes
  pub first : rest.first.items ≡ take 20 bytes

-- the line's decoder was fed all bytes that were heard
pub record Hears (line : Line) (h : Heard) : Type 0 where
  pub same : line.conn ≡ h.conn
  pub fed : HasFed line.decoder h.received (frames_in h.received)
  pub rest : ending_in h.received ≡ Unfinished → IsRest line.rest (rest_in h.received)
  pub waiting : line.waiting.items ≡ h.waiting
  pub let_in : line.let_in ≡ h.let_in

abbrev pub AreHeard : List Line → List Heard → Type 0
AreHeard [] [] = Unit {0}
AreHeard [] (h ∷ heard) = ⊥
AreHeard (line ∷ lines) [] = ⊥
AreHeard (line ∷ lines) (h ∷ heard) = Hears line h × AreHeard lines heard

-- ---- a feed

-- less than a frame: each frame that further bytes complete has at least these
abbrev pub IsShort : List ℕ → List Frame → Type 0
IsShort begun [] = length begun < 2 ^ 64
IsShort begun (frame ∷ frames) = (length begun < 2 ^ 64) × (length begun ≤ size_of frame)

-- What a line adds of the result of a feed of `bytes`: the segments, to those that wait, and the bytes after them.
abbrev pub Adds : Rest → List Segment → List ℕ → Result (List Frame) FrameError → Rest → List Segment → Type 0
Adds rest waiting bytes (Ok frames) rest' waiting' =
    (waiting' ≡ waiting ++ map Whole frames)
    × ((begun : List ℕ) → IsRest rest begun → IsShort begun frames → IsRest rest' (drop (size_of_all frames) (begun ++ bytes)))
Adds rest waiting bytes (Err (Fault frames fault at)) rest' waiting' =
    (begun : List ℕ) → IsRest rest begun → IsShort begun frames
    → waiting' ≡ waiting ++ (map Whole frames ++ Faulty (take 20 (drop (size_of_all frames) (begun ++ bytes))) fault at ∷ [])
Adds rest waiting bytes (Err (Failed fault at)) rest' waiting' = waiting' ≡ waiting
Adds rest waiting bytes (Err NoMemory) rest' waiting' = ⊥

-- ---- the whole

-- a frame has a possible body
abbrev pub IsPossible : Segment → Type 0
IsPossible (Whole frame) = IsBody frame.body
IsPossible (Faulty twenty fault at) = Unit {0}

-- so has a piece
abbrev pub IsPossiblePiece : Piece → Type 0
IsPossiblePiece (Pass frame) = IsBody frame.body
IsPossiblePiece (Broken bytes) = Unit {0}
IsPossiblePiece (Own frame) = IsBody frame.body
IsPossiblePiece (Write frame) = IsBody frame.body

-- how many segments wait
abbrev pub left_in : List Line → ℕ
left_in [] = 0
left_in (line ∷ lines) = length (Line.waiting line).items + left_in lines

abbrev pub ArePossible : List Line → Type 0
ArePossible lines = AllByRecursion (λ line. AllByRecursion IsPossible (Line.waiting line).items) lines

-- its state is this sieve
pub record StandsFor (sifting : Sifting) (s : Sieve) : Type 0 where
  pub own : sifting.own ≡ s.own
  pub lines : AreHeard sifting.lines s.heard
  pub asked : sifting.asked ≡ s.asked

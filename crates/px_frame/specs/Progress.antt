-- The state of a decoder, and how its answers follow from all bytes that it was fed.
use Rattle.std.specs.Prelude.{◌≡◌, ℕ, ◌+◌, List, [], ◌∷◌, ◌++◌, Option, None, Some, Result, Ok, Err, All}
use Rattle.px_frame.specs.declared.fault.FrameError.{FrameError}
use Rattle.px_frame.specs.declared.fault.FrameError.TheVariants.{Fault, Failed, NoMemory}
use Rattle.px_frame.specs.declared.fault.FrameFault.{FrameFault}
use Rattle.px_frame.specs.declared.frame.Frame.{Frame}
use Rattle.px_frame.specs.Feeding.{Feeds}
use Rattle.px_frame.specs.Frame.{IsBody, offset_at}
use Rattle.px_frame.specs.Reading.{Unfinished, Broken, IsRead}

-- within the frame that began at an offset, with the bytes of it that have come; after a fault; or lost
pub data Progress : Type 0 where
  Within : ℕ → List ℕ → Progress
  Stopped : FrameFault → ℕ → Progress
  Lost : Progress

-- a decoder in this state was fed exactly these bytes, and has given these frames
abbrev pub HasFed : Progress → List ℕ → List Frame → Type 0
HasFed (Within start held) fed frames = Feeds 0 [] fed frames start held []
HasFed (Stopped fault at) fed frames = IsRead fed frames (Broken fault at)
HasFed Lost fed frames = ⊥

-- the answer to a feed of this piece, where these bytes were fed before it and gave these frames: frames, where all the bytes together have
-- those given before and these and no fault; a fault, where it follows these frames, and the bytes before the piece had none; `Failed`,
-- where the bytes before the piece had that fault
abbrev pub Answers : List ℕ → List Frame → List ℕ → Result (List Frame) FrameError → Type 0
Answers fed before piece (Ok frames) = IsRead (fed ++ piece) (before ++ frames) Unfinished
Answers fed before piece (Err (Fault frames fault at)) =
    IsRead (fed ++ piece) (before ++ frames) (Broken fault at) × IsRead fed before Unfinished
Answers fed before piece (Err (Failed fault at)) = IsRead fed before (Broken fault at)
Answers fed before piece (Err NoMemory) = Unit {0}

-- the offset at which the next frame begins, where the decoder stands between two frames
abbrev pub next_start : Progress → Option ℕ
next_start (Within start []) = Some start
next_start (Within start (byte ∷ held)) = None
next_start (Stopped fault at) = None
next_start Lost = None

-- `bytes` bytes further on, where it stands between two frames
abbrev pub passed_over : ℕ → Progress → Progress
passed_over bytes (Within start []) = Within (offset_at (start + bytes)) []
passed_over bytes (Within start (byte ∷ held)) = Within start (byte ∷ held)
passed_over bytes (Stopped fault at) = Stopped fault at
passed_over bytes Lost = Lost

-- each frame that it gives has a possible body
abbrev pub GivesBodies : Result (List Frame) FrameError → Type 0
GivesBodies (Ok frames) = All (λ frame. IsBody frame.body) frames
GivesBodies (Err (Fault frames fault at)) = All (λ frame. IsBody frame.body) frames
GivesBodies (Err (Failed fault at)) = Unit {0}
GivesBodies (Err NoMemory) = Unit {0}

-- the state after that: all the bytes are fed and all the frames given, unless there was no memory
abbrev pub Leaves : Progress → List ℕ → List Frame → List ℕ → Result (List Frame) FrameError → Type 0
Leaves now fed before piece (Ok frames) = HasFed now (fed ++ piece) (before ++ frames)
Leaves now fed before piece (Err (Fault frames fault at)) = HasFed now (fed ++ piece) (before ++ frames)
Leaves now fed before piece (Err (Failed fault at)) = HasFed now (fed ++ piece) before
Leaves now fed before piece (Err NoMemory) = now ≡ Lost

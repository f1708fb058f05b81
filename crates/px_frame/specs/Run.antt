-- The state that the decoder's fields mean, and what its inner calls bring.
use Rattle.std.specs.Prelude.{◌≡◌, ℕ, List, [], ◌++◌, ◌⊎◌, Result, Ok, Err}
use Rattle.px_frame.specs.declared.decoder.Run.{Run}
use Rattle.px_frame.specs.declared.decoder.Run.TheVariants.{Fed, Broken}
use Rattle.px_frame.specs.declared.decoder.Stage.{Stage}
use Rattle.px_frame.specs.declared.decoder.Stage.TheVariants.{Within as within, Failed as failed, Lost as lost}
use Rattle.px_frame.specs.declared.fault.FrameError.{FrameError}
use Rattle.px_frame.specs.declared.fault.FrameError.TheVariants.{Fault, Failed, NoMemory}
use Rattle.px_frame.specs.declared.frame.Frame.{Frame}
use Rattle.px_frame.specs.Feeding.{Feeds, Breaks}
use Rattle.px_frame.specs.Progress.{Progress, Within, Stopped, Lost, HasFed, Answers}
use Rattle.px_frame.specs.Reading.{Unfinished, IsRead}
use Rattle.px_frame.specs.Stage.{IsPart, held_of}

-- the state that the decoder's fields mean, and its invariant
abbrev pub progress_of : ℕ → Stage → Progress
progress_of start (within part) = Within start (held_of part)
progress_of start (failed fault at) = Stopped fault at
progress_of start lost = Lost

abbrev pub IsStage : Stage → Type 0
IsStage (within part) = IsPart part
IsStage (failed fault at) = Unit {0}
IsStage lost = Unit {0}

-- what a piece brings after the bytes held
abbrev pub IsRun : ℕ → List ℕ → List ℕ → Run → Type 0
IsRun start held piece (Fed frames part start') = Feeds start held piece frames start' (held_of part) [] × IsPart part
IsRun start held piece (Broken frames fault at) = Breaks start held piece frames fault at

-- the part of a frame that the run leaves is well formed
abbrev pub IsRemaining : Run → Type 0
IsRemaining (Fed frames part start) = IsPart part
IsRemaining (Broken frames fault at) = Unit {0}

-- the decoder's state after a run, and its answer
abbrev pub end_of : Run → Progress
end_of (Fed frames part start) = Within start (held_of part)
end_of (Broken frames fault at) = Stopped fault at

abbrev pub answer_of : Run → Result (List Frame) FrameError
answer_of (Fed frames part start) = Ok frames
answer_of (Broken frames fault at) = Err (Fault frames fault at)

-- the frames of these bytes, which were all fed to this decoder, or the error of all bytes with this beginning
abbrev pub IsSoFar : Progress → List ℕ → Result (List Frame) FrameError → Type 0
IsSoFar now bytes (Ok all) = HasFed now bytes all × IsRead bytes all Unfinished
IsSoFar now bytes (Err error) = (later : List ℕ) → Answers [] [] (bytes ++ later) (Err error)

-- the error after earlier frames, or NoMemory where there is no memory to hold those
abbrev pub IsBehind : List Frame → FrameError → FrameError → Type 0
IsBehind all (Fault frames fault at) error = (error ≡ Fault (all ++ frames) fault at) ⊎ (error ≡ NoMemory)
IsBehind all (Failed fault at) error = error ≡ Failed fault at
IsBehind all NoMemory error = error ≡ NoMemory

-- What a piece brings after the bytes that a decoder holds.
use Rattle.std.specs.Prelude.{◌≡◌, ℕ, List, ◌++◌}
use Rattle.px_frame.specs.declared.fault.FrameFault.{FrameFault}
use Rattle.px_frame.specs.declared.frame.Frame.{Frame}
use Rattle.px_frame.specs.Frame.{offset_at}
use Rattle.px_frame.specs.Reading.{Splits, IsBegun, IsEnding, Broken}

-- after `held`, which begins at the offset `start`, the piece completes these frames; then `held'` at `start'` is less than a frame, and
-- `left` of the piece is not taken
pub record Feeds (start : ℕ) (held piece : List ℕ) (frames : List Frame) (start' : ℕ) (held' left : List ℕ) :
    Type 0 where
  pub after : ℕ
  pub splits : Splits start (held ++ piece) frames after (held' ++ left)
  pub begun : IsBegun held'
  pub start_is : start' ≡ offset_at after

-- after `held` the piece completes these frames, and then breaks this rule
pub record Breaks (start : ℕ) (held piece : List ℕ) (frames : List Frame) (fault : FrameFault) (at : ℕ) : Type 0 where
  pub after : ℕ
  pub rest : List ℕ
  pub splits : Splits start (held ++ piece) frames after rest
  pub ends : IsEnding after rest (Broken fault at)

-- The history of a ramped sink, and the turn that decides a frame.
use Rattle.std.specs.Prelude.{ℕ, ◌-◌, ◌<◌, ◌≤◌, ◌≡◌, List, [], ◌∷◌, ◌++◌, Option, Some, None, nat_le, if◌then◌else◌, ⊤, option_map}
use Rattle.std.specs.Option.{option_or}
use Rattle.px_model.specs.Frame.{Frame}
use Rattle.px_model.specs.Stream.{Stream}
use Rattle.px_model.specs.Notice.{Notice}
use Rattle.px_model.specs.Mix.{Samples}
use Rattle.px_model.specs.Deciding.{Entry, turn, stop, notices_of, played_of, CanBe}
use Rattle.px_ramp.specs.RampMix.{RampSink, ramp_mixed, ramp_turned, ramp_stopped}

abbrev pub ramp_after : Samples → ℕ → RampSink → Entry → RampSink
ramp_after samples n rs (turn k messages) = ramp_turned samples n rs k messages
ramp_after samples n rs (stop messages) = ramp_stopped n rs messages

-- the replay of a history: the sink after it, its notices in order, and the frames played
abbrev pub ramp_replay : Samples → ℕ → RampSink → List Entry → RampSink
ramp_replay samples n rs [] = rs
ramp_replay samples n rs (e ∷ history) = ramp_replay samples n (ramp_after samples n rs e) history

abbrev pub ramp_notices : Samples → ℕ → RampSink → List Entry → List (Notice Stream)
ramp_notices samples n rs [] = []
ramp_notices samples n rs (e ∷ history) = notices_of samples rs.sink e ++ ramp_notices samples n (ramp_after samples n rs e) history

abbrev pub ramp_played : Samples → ℕ → RampSink → List Entry → List Frame
ramp_played samples n rs [] = []
ramp_played samples n rs (e ∷ history) = played_of rs.sink e ++ ramp_played samples n (ramp_after samples n rs e) history

abbrev pub IsRampHistory : Samples → ℕ → RampSink → List Entry → Type 0
IsRampHistory samples n rs [] = ⊤
IsRampHistory samples n rs (e ∷ history) = CanBe rs.sink e × IsRampHistory samples n (ramp_after samples n rs e) history

-- frame f, at or past the horizon, as mixed from the sink's streams by their ramps
abbrev pub frame_ramped : Samples → ℕ → ℕ → RampSink → Frame
frame_ramped samples n f rs = ramp_mixed samples n rs.ramps rs.sink (f - rs.sink.horizon)

-- the sink as the deciding turn of frame f left it: the last turn of the history whose horizon is at most f
abbrev pub ramp_deciding : Samples → ℕ → RampSink → List Entry → ℕ → Option RampSink
ramp_deciding samples n rs [] f = None
ramp_deciding samples n rs (e ∷ history) f =
    option_or (ramp_deciding samples n (ramp_after samples n rs e) history f)
    (if nat_le (ramp_after samples n rs e).sink.horizon f then Some (ramp_after samples n rs e) else None)

-- frame f as its deciding turn mixes it
abbrev pub ramp_decided : Samples → ℕ → RampSink → List Entry → ℕ → Option Frame
ramp_decided samples n rs history f = option_map (frame_ramped samples n f) (ramp_deciding samples n rs history f)

-- every turn of the history leaves a horizon past frame f
abbrev pub RampsPast : Samples → ℕ → RampSink → List Entry → ℕ → Type 0
RampsPast samples n rs [] f = ⊤
RampsPast samples n rs (e ∷ history) f = (f < (ramp_after samples n rs e).sink.horizon) × RampsPast samples n (ramp_after samples n rs e) history f

-- a turn of the history left the sink like this, with a horizon of at most f, and every later one left a horizon past f
pub record IsLastRamp (samples : Samples) (n : ℕ) (start : RampSink) (history : List Entry) (f : ℕ) (rs : RampSink) : Type 0 where
  pub earlier : List Entry
  pub entry : Entry
  pub later : List Entry
  pub whole : history ≡ earlier ++ (entry ∷ later)
  pub left : rs ≡ ramp_after samples n (ramp_replay samples n start earlier) entry
  pub reached : rs.sink.horizon ≤ f
  pub passed : RampsPast samples n rs later f

-- Worked examples of ramps over 4 frames, at a mono sink in 16 bits with a guard of 10 frames and a depth of 100, calculated by hand.
use Rattle.std.specs.Prelude.{List, [], ◌∷◌, ◌++◌, map, pos}
use Rattle.px_model.specs.Frame.{Frame}
use Rattle.px_model.specs.Deciding.{Entry, turn}
use Rattle.px_model.specs.Rows.{small_sink, usual_attr, create, factor, write, tone, s16}
use Rattle.px_ramp.specs.declared.ramp.Ramp.{Ramp}
use Rattle.px_ramp.specs.RampMix.{RampSink}

abbrev pub small_ramp_sink : RampSink
small_ramp_sink = record { sink = small_sink; ramps = [] }

-- a ramp from 65536 down to 8192 from frame 10 on, and one from its value at frame 12 up again
abbrev pub falling : Ramp
falling = record { from = 65536; to = 8192; start = 10 }

abbrev pub rising : Ramp
rising = record { from = 36864; to = 65536; start = 12 }

-- one step down in 4: rounded down at each frame
abbrev pub slow : Ramp
slow = record { from = 10; to = 7; start = 0 }

-- A volume change under rewind: the factor leaves 65536 at the horizon, and reaches 8192 four frames later.
abbrev pub fall_played : List Frame
fall_played = tone (pos 1000) 11 ++ map (λ x. s16 (pos x)) (781 ∷ 562 ∷ 343 ∷ []) ++ tone (pos 125) 86

-- A second change on the way down: it starts at the value that the first has reached.
abbrev pub turn_back_history : List Entry
turn_back_history =
    turn 0 (create 0 (usual_attr 0) ∷ factor 0 65536 ∷ write 0 200 (tone (pos 1000) 200) ∷ [])
    ∷ turn 0 (factor 0 8192 ∷ [])
    ∷ turn 2 (factor 0 65536 ∷ [])
    ∷ turn 98 []
    ∷ []

abbrev pub turn_back_played : List Frame
turn_back_played = tone (pos 1000) 2 ++ tone (pos 1000) 9 ++ map (λ x. s16 (pos x)) (781 ∷ 562 ∷ 671 ∷ 781 ∷ 890 ∷ []) ++ tone (pos 1000) 84

-- Worked examples of what turns cost, at a mono sink in 16 bits with a guard of 10 frames and a depth of 100.
use Rattle.std.specs.Prelude.{List, [], ◌∷◌, pos}
use Rattle.px_model.specs.Stream.{Stream}
use Rattle.px_model.specs.Message.{Message}
use Rattle.px_model.specs.Sink.{Sink}
use Rattle.px_model.specs.Turn.{turned}
use Rattle.px_model.specs.Rows.{small_sink, s16_samples, usual_attr, create, factor, write, tone}

-- two streams of 100 frames each, all mixed
abbrev pub two_streams : List (Message Stream)
two_streams =
    create 0 (usual_attr 0) ∷ create 1 (usual_attr 0)
    ∷ write 0 100 (tone (pos 1000) 100) ∷ write 1 100 (tone (pos 500) 100) ∷ []

abbrev pub two_mixed : Sink
two_mixed = turned s16_samples small_sink 0 two_streams

-- other factors for one of them, the same once more, and frames past those that are mixed
abbrev pub other_factor : List (Message Stream)
other_factor = factor 0 32768 ∷ []

abbrev pub same_factor : List (Message Stream)
same_factor = factor 0 65536 ∷ []

abbrev pub later_frames : List (Message Stream)
later_frames = write 0 50 (tone (pos 1000) 50) ∷ []

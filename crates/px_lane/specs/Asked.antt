-- The pending drains of a stream, answered once it has ended.
use Rattle.std.specs.Prelude.{List, [], map, if◌then◌else◌}
use Rattle.px_model.specs.Stream.{Stream}
use Rattle.px_model.specs.Notice.{Notice}
use Rattle.px_model.specs.Sink.{Input}
use Rattle.px_model.specs.Turn.{has_ended}

-- once nothing is left to play, no drain is pending
abbrev pub drained : Stream → Stream
drained s = record s { draining = if has_ended s then [] else s.draining }

abbrev pub drained_notices : Input → List (Notice Stream)
drained_notices x = if has_ended x.stream then map (λ tag. Notice.drained x.index tag) x.stream.draining else []

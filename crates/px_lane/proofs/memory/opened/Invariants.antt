use Rattle.std.proofs.Common.{◌≡◌, take, map}
use Rattle.std.specs.Prelude.{flat_map}
use Rattle.std.specs.List.{AllByRecursion}
use Rattle.px_stream.specs.HeldStream.{HeldStream}
use Rattle.px_lane.specs.Lists.{messages_of}
use Rattle.px_lane.specs.Taking.{streams_of, IsRoomy}
use Rattle.px_lane.proofs.memory.opened.Given as goal

abbrev pub invariant-loop-message : goal.invariant-loop-message
invariant-loop-message l =
    (map HeldStream.stream l.streams.items ≡ flat_map streams_of (messages_of (take l.message-index l.messages)))
    × AllByRecursion (IsRoomy l.room l.blocks) l.streams.items

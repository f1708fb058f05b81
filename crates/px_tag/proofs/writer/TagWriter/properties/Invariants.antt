use Rattle.std.proofs.Common.{◌≡◌, ◌++◌, take}
use Rattle.std.specs.List.{flat_map}
use Rattle.px_tag.specs.Item.{property}
use Rattle.px_tag.proofs.writer.TagWriter.properties.Given as goal

abbrev pub invariant-loop-i : goal.invariant-loop-i
invariant-loop-i l = l.self ≡ l.fn.self ++ flat_map property (take l.i l.list)

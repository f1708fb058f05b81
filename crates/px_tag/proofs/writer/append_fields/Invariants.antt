use Rattle.std.proofs.Common.{◌≡◌, ◌++◌, take}
use Rattle.std.specs.Int.{w32, to_be_bytes}
use Rattle.std.specs.List.{flat_map}
use Rattle.px_tag.proofs.writer.append_fields.Given as goal

abbrev pub invariant-loop-field : goal.invariant-loop-field
invariant-loop-field l = l.bytes.items ≡ l.fn.bytes.items ++ flat_map (to_be_bytes w32) (take l.field-index l.fields)

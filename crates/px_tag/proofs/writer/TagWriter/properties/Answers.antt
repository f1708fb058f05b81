use Rattle.std.proofs.Common.{take}
use Rattle.std.proofs.lemmas.List.{flat_map_more}
use Rattle.px_tag.specs.PropList.{Property}
use Rattle.px_tag.specs.Item.{property}
use Rattle.px_tag.proofs.Properties.{taken_next}
use Rattle.px_tag.proofs.writer.TagWriter.properties.Goals as goal

pub loop-i-preserved : goal.loop-i-preserved
loop-i-preserved c =
    let p : Property = (c.property.result.0.now, c.property.result.1.now) in
    let next = taken_next c.args.list.now c.loop-i.i p c.property.ensures.entry in
    rw (c.in_ok-property.ensures.appended, c.loop-i.invariant, next) (flat_map_more property c.args.self.now (take c.loop-i.i c.args.list.now) p)

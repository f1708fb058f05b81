use Rattle.std.proofs.Common.{◌-◌, length, take, ap, sym, ◌∙◌, arith}
use Rattle.std.proofs.lemmas.List.{take-take}
use Rattle.px_ramp.proofs.buffer.keep.Goals as goal

pub returns-clause-items : goal.returns-clause-items
returns-clause-items c =
    c.truncate.ensures.items
    ∙ sym (take-take c.args.count (length c.args.bytes.now.items - c.args.from) c.move_to_front.new.bytes.items (omega (arith, c.requires)))
    ∙ ap (take c.args.count) c.move_to_front.ensures.front

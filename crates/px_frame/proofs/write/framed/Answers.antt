use Rattle.std.proofs.Common.{◌∙◌}
use Rattle.px_frame.proofs.WriteLemmas.{written}
use Rattle.px_frame.proofs.write.framed.Goals as goal

pub returns : goal.returns
returns c =
    c.from_vec.ensures
    ∙ written c.args.descriptor.now c.args.payload.now c.in_ok-bytes.bytes.items c.append.new.bytes.items c.append-2.new.bytes.items c.append-3.new.bytes.items c.append-4.new.bytes.items
    c.append-5.new.bytes.items c.append-6.new.bytes.items c.to_be_bytes.result c.to_be_bytes-2.result c.to_be_bytes-3.result c.to_be_bytes-4.result c.to_be_bytes-5.result
    c.in_ok-bytes.ensures.items c.append.ensures.items c.append-2.ensures.items c.append-3.ensures.items c.append-4.ensures.items c.append-5.ensures.items c.append-6.ensures.items
    c.to_be_bytes.ensures c.to_be_bytes-2.ensures c.to_be_bytes-3.ensures c.to_be_bytes-4.ensures c.to_be_bytes-5.ensures

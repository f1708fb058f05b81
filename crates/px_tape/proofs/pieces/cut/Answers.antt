use Rattle.std.proofs.Common.{rules, ◌≡◌, ◌≤◌, ◌++◌, ◌∷◌, [], length}
use Rattle.px_session.specs.declared.event.Event.TheVariants.{Bytes}
use Rattle.px_tape.proofs.Counts.{pieces_more, cut_more}
use Rattle.px_tape.proofs.pieces.cut.Goals as goal

pub loop-rest-preserved : goal.loop-rest-preserved
loop-rest-preserved c =
    let more : c.push.new.self ≡ c.loop-rest.events ++ Bytes c.args.conn c.split_at.result.0.now ∷ [] = search rules in
    let short : length c.split_at.result.0.now ≤ 65536 = search rules in
    record {
      pieces = pieces_more c.args.conn c.loop-rest.events c.push.new.self c.split_at.result.0.now short more c.loop-rest.invariant.pieces;
      bytes = cut_more c.loop-rest.events c.push.new.self c.args.conn c.split_at.result.0.now c.split_at.result.1.now c.loop-rest.rest.now c.args.bytes.now more c.split_at.ensures.by_index.0 c.loop-rest.invariant.bytes;
    }

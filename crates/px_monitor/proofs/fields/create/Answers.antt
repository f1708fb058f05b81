use Rattle.std.proofs.lemmas.Result.{err_from_is_err_and}
use Rattle.px_monitor.specs.Command.{shape_fields, buffering_fields, matching_fields, manner_fields, later_fields}
use Rattle.px_monitor.proofs.Sequence.{create_fails_1, create_fails_2, create_fails_3, create_fails_4, create_fails_5, create_reads}
use Rattle.px_monitor.proofs.fields.create.Goals as goal

pub returns-in_err-shape : goal.returns-in_err-shape
returns-in_err-shape c =
    let p = err_from_is_err_and c.from_residual.result c.from_residual.ensures.1 in
    rw (p.1, p.2) (create_fails_1 c.args.version c.args.reader.now c.in_err-shape.field-0.0 c.in_err-shape.ensures)

pub returns-in_err-buffering : goal.returns-in_err-buffering
returns-in_err-buffering c =
    let p = err_from_is_err_and c.from_residual-in_err-buffering.result c.from_residual-in_err-buffering.ensures.1 in
    rw (p.1, p.2) (create_fails_2 c.args.version c.args.reader.now (shape_fields c.in_ok-shape.shape) c.read_shape.new.reader c.in_ok-shape.ensures c.in_err-buffering.field-0.0 c.in_err-buffering.ensures)

pub returns-in_err-matching : goal.returns-in_err-matching
returns-in_err-matching c =
    let p = err_from_is_err_and c.from_residual-in_err-matching.result c.from_residual-in_err-matching.ensures.1 in
    rw (p.1, p.2) (create_fails_3 c.args.version c.args.reader.now (shape_fields c.in_ok-shape.shape) c.read_shape.new.reader c.in_ok-shape.ensures (buffering_fields c.in_ok-buffering.buffering) c.read_buffering.new.reader c.in_ok-buffering.ensures c.in_err-matching.field-0.0 c.in_err-matching.ensures)

pub returns-in_err-manner : goal.returns-in_err-manner
returns-in_err-manner c =
    let p = err_from_is_err_and c.from_residual-in_err-manner.result c.from_residual-in_err-manner.ensures.1 in
    rw (p.1, p.2) (create_fails_4 c.args.version c.args.reader.now (shape_fields c.in_ok-shape.shape) c.read_shape.new.reader c.in_ok-shape.ensures (buffering_fields c.in_ok-buffering.buffering) c.read_buffering.new.reader c.in_ok-buffering.ensures (matching_fields c.in_ok-matching.matching) c.read_matching.new.reader c.in_ok-matching.ensures c.in_err-manner.field-0.0 c.in_err-manner.ensures)

pub returns-in_err-later : goal.returns-in_err-later
returns-in_err-later c =
    let p = err_from_is_err_and c.from_residual-in_err-later.result c.from_residual-in_err-later.ensures.1 in
    rw (p.1, p.2) (create_fails_5 c.args.version c.args.reader.now (shape_fields c.in_ok-shape.shape) c.read_shape.new.reader c.in_ok-shape.ensures (buffering_fields c.in_ok-buffering.buffering) c.read_buffering.new.reader c.in_ok-buffering.ensures (matching_fields c.in_ok-matching.matching) c.read_matching.new.reader c.in_ok-matching.ensures (manner_fields c.in_ok-manner.manner) c.read_manner.new.reader c.in_ok-manner.ensures c.in_err-later.field-0.0 c.in_err-later.ensures)

pub returns : goal.returns
returns c = create_reads c.args.version c.args.reader.now (shape_fields c.in_ok-shape.shape) c.read_shape.new.reader c.in_ok-shape.ensures (buffering_fields c.in_ok-buffering.buffering) c.read_buffering.new.reader c.in_ok-buffering.ensures (matching_fields c.in_ok-matching.matching) c.read_matching.new.reader c.in_ok-matching.ensures (manner_fields c.in_ok-manner.manner) c.read_manner.new.reader c.in_ok-manner.ensures (later_fields c.in_ok-later.later) c.read_later.new.reader c.in_ok-later.ensures

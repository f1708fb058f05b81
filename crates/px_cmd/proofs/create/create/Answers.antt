use Rattle.std.proofs.lemmas.Result.{err_from_is_err_and}
use Rattle.px_cmd.specs.Create.{shape_fields, buffering_fields, manner_fields, later_fields}
use Rattle.px_cmd.proofs.Sequence.{create_fails_1, create_fails_2, create_fails_3, create_fails_4, create_reads}
use Rattle.px_cmd.proofs.create.create.Goals as goal

pub returns-in_err-shape-clause-value : goal.returns-in_err-shape-clause-value
returns-in_err-shape-clause-value c =
    let p = err_from_is_err_and c.from_residual.result c.from_residual.ensures.1 in
    rw (p.1, p.2) (create_fails_1 c.args.version c.args.reader.now c.in_err-shape.field-0.0 c.in_err-shape.ensures)

pub returns-in_err-buffering-clause-value : goal.returns-in_err-buffering-clause-value
returns-in_err-buffering-clause-value c =
    let p = err_from_is_err_and c.from_residual-in_err-buffering.result c.from_residual-in_err-buffering.ensures.1 in
    rw (p.1, p.2) (create_fails_2 c.args.version c.args.reader.now (shape_fields c.in_ok-shape.shape) c.read_shape.new.reader c.in_ok-shape.ensures c.in_err-buffering.field-0.0 c.in_err-buffering.ensures.value)

pub returns-in_err-manner-clause-value : goal.returns-in_err-manner-clause-value
returns-in_err-manner-clause-value c =
    let p = err_from_is_err_and c.from_residual-in_err-manner.result c.from_residual-in_err-manner.ensures.1 in
    rw (p.1, p.2) (create_fails_3 c.args.version c.args.reader.now (shape_fields c.in_ok-shape.shape) c.read_shape.new.reader c.in_ok-shape.ensures (buffering_fields c.in_ok-buffering.buffering) c.read_buffering.new.reader c.in_ok-buffering.ensures.value c.in_err-manner.field-0.0 c.in_err-manner.ensures)

pub returns-in_err-later-clause-value : goal.returns-in_err-later-clause-value
returns-in_err-later-clause-value c =
    let p = err_from_is_err_and c.from_residual-in_err-later.result c.from_residual-in_err-later.ensures.1 in
    rw (p.1, p.2) (create_fails_4 c.args.version c.args.reader.now (shape_fields c.in_ok-shape.shape) c.read_shape.new.reader c.in_ok-shape.ensures (buffering_fields c.in_ok-buffering.buffering) c.read_buffering.new.reader c.in_ok-buffering.ensures.value (manner_fields c.in_ok-manner.manner) c.read_manner.new.reader c.in_ok-manner.ensures c.in_err-later.field-0.0 c.in_err-later.ensures.value)

pub returns-clause-value : goal.returns-clause-value
returns-clause-value c = create_reads c.args.version c.args.reader.now (shape_fields c.in_ok-shape.shape) c.read_shape.new.reader c.in_ok-shape.ensures (buffering_fields c.in_ok-buffering.buffering) c.read_buffering.new.reader c.in_ok-buffering.ensures.value (manner_fields c.in_ok-manner.manner) c.read_manner.new.reader c.in_ok-manner.ensures (later_fields c.in_ok-later.later) c.read_later.new.reader c.in_ok-later.ensures.value

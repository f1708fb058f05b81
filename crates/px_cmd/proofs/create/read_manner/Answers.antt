use Rattle.std.proofs.lemmas.Result.{err_from_is_err_and}
use Rattle.px_cmd.specs.Create.{matching_fields, playing_fields}
use Rattle.px_cmd.proofs.Sequence.{manner_fails_1, manner_fails_2, manner_fails_3, manner_reads}
use Rattle.px_cmd.proofs.create.read_manner.Goals as goal

pub returns-in_err-matching : goal.returns-in_err-matching
returns-in_err-matching c =
    let p = err_from_is_err_and c.from_residual.result c.from_residual.ensures.1 in
    rw (p.1, p.2) (manner_fails_1 c.args.reader.now c.in_err-matching.field-0.0 c.in_err-matching.ensures)

pub returns-in_err-playing : goal.returns-in_err-playing
returns-in_err-playing c =
    let p = err_from_is_err_and c.from_residual-in_err-playing.result c.from_residual-in_err-playing.ensures.1 in
    rw (p.1, p.2) (manner_fails_2 c.args.reader.now (matching_fields c.in_ok-matching.matching) c.read_matching.new.reader c.in_ok-matching.ensures c.in_err-playing.field-0.0 c.in_err-playing.ensures)

pub returns-in_err-list : goal.returns-in_err-list
returns-in_err-list c =
    let p = err_from_is_err_and c.from_residual-in_err-list.result c.from_residual-in_err-list.ensures.1 in
    rw (p.1, p.2) (manner_fails_3 c.args.reader.now (matching_fields c.in_ok-matching.matching) c.read_matching.new.reader c.in_ok-matching.ensures (playing_fields c.in_ok-playing.playing) c.read_playing.new.reader c.in_ok-playing.ensures c.in_err-list.field-0.0 c.in_err-list.ensures)

pub returns : goal.returns
returns c = manner_reads c.args.reader.now (matching_fields c.in_ok-matching.matching) c.read_matching.new.reader c.in_ok-matching.ensures (playing_fields c.in_ok-playing.playing) c.read_playing.new.reader c.in_ok-playing.ensures c.in_ok-list.list c.properties.new.reader c.in_ok-list.ensures

use Rattle.std.proofs.lemmas.List.{append-nil}
use Rattle.px_session.specs.Spelling.{count}
use Rattle.px_session.proofs.writer.write_turn.Goals as goal

pub returns-clause-ok : goal.returns-clause-ok
returns-clause-ok g c = rw (c.count_field.ensures c.args.frames c.to_be_bytes-frames.ensures, c.count_field-2.ensures c.args.take c.to_be_bytes-take.ensures, append-nil (count c.args.form c.args.take)) at c.write_pieces.ensures.ok

pub returns-clause-err : goal.returns-clause-err
returns-clause-err g c = rw (c.count_field.ensures c.args.frames c.to_be_bytes-frames.ensures, c.count_field-2.ensures c.args.take c.to_be_bytes-take.ensures, append-nil (count c.args.form c.args.take)) at c.write_pieces.ensures.err

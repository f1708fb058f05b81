use Rattle.px_session.specs.Output.{closed_record}
use Rattle.px_session.proofs.writer.write_closed.Goals as goal

pub returns-clause-ok : goal.returns-clause-ok
unfolding closed_record
returns-clause-ok g c = rw (c.to_be_bytes.ensures, c.to_be_bytes-2.ensures) at c.write_pieces.ensures.ok

use Rattle.px_core.specs.Notice.{notice_answer}
use Rattle.px_state.specs.Tables.{state_of}
use Rattle.px_core.proofs.ShownLaws.{same_shown}
use Rattle.px_core.proofs.notice.take_news.Goals as goal

pub finish-requires-clause-after : goal.finish-requires-clause-after
finish-requires-clause-after g c =
    same_shown g.P.Parcel.spec_of (state_of c.args.tables.now) c.in-Ok.outcome (notice_answer g.P.Parcel.spec_of (state_of c.args.tables.now) c.args.sink c.args.notice) c.in-Ok.ensures c.requires.after

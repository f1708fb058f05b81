use Rattle.px_monitor.proofs.Kept.{named_is}
use Rattle.px_monitor.proofs.recorded.Recorded.made.Goals as goal

pub recording_of-r-requires-clause-source : goal.recording_of-r-requires-clause-source
recording_of-r-requires-clause-source c =
    named_is c.self.inside.sources.items c.args.a.now.source.index c.args.a.now.source.name c.in_ok-source.source.now c.self.invariant.0 (rw c.as_slice.ensures.value at c.in_ok-source.ensures)

pub created-requires : goal.created-requires
created-requires c =
    named_is c.self.inside.sources.items c.args.a.now.source.index c.args.a.now.source.name c.in_ok-source.source.now c.self.invariant.0 (rw c.as_slice.ensures.value at c.in_ok-source.ensures)

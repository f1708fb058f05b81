use Rattle.px_workers.proofs.Empty.{never_full}
use Rattle.px_workers.proofs.running.start.Goals as goal

pub unreachable-requires : goal.unreachable-requires
unreachable-requires g c = never_full _ c.in-Ok.ensures.post.2 c.in-Err.ensures.posted.2

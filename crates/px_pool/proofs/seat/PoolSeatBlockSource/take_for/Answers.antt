use Rattle.crossbeam_queue.specs.Passes.{view}
use Rattle.px_pool.proofs.Emptying.{finds, learns}
use Rattle.px_pool.proofs.seat.PoolSeatBlockSource.take_for.Goals as goal

pub pop_as-found-requires-clause-rule : goal.pop_as-found-requires-clause-rule
pop_as-found-requires-clause-rule g c = (finds c.args.self.now.pass.id (view c.args.self.now.pass), learns c.args.self.now.pass.id (view c.args.self.now.pass))

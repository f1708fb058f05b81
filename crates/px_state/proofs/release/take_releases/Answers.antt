use Rattle.std.proofs.Common.{arith, ◌≡◌, ◌+◌, length}
use Rattle.px_outcome.specs.declared.change.Change.TheVariants.{Released}
use Rattle.px_state.specs.Change.{Change}
use Rattle.px_state.proofs.Releases.{one_taken, one_shorter}
use Rattle.px_state.proofs.release.take_releases.Goals as goal

pub loop-index-smaller : goal.loop-index-smaller
loop-index-smaller g c =
    let l = c.loop-index in
    omega (arith, l.changes.ok.0, c.pop_front.new.self.ok.0, one_shorter (Released c.args.index) l.changes.items c.pop_front.new.self.items (c.begins_with_release.ensures c.loop-index-test.true) c.pop_front.ensures.rest)

pub loop-index-preserved : goal.loop-index-preserved
loop-index-preserved g c =
    let l = c.loop-index in
    let rest = c.pop_front.new.self.items in
    let begins = c.begins_with_release.ensures c.loop-index-test.true in
    record {
      items = one_taken (Released c.args.index) l.count c.args.changes.now.items l.changes.items rest l.invariant.items begins c.pop_front.ensures.rest;
      len = omega (arith, l.invariant.len, l.changes.ok.0, c.pop_front.new.self.ok.0, one_shorter (Released c.args.index) l.changes.items rest begins c.pop_front.ensures.rest);
    }

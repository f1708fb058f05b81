use Rattle.std.proofs.Common.{arith}
use Rattle.px_state.proofs.Waiting.{fewer_places}
use Rattle.px_state.proofs.commit.remove_input.Goals as goal

pub returns-clause-room : goal.returns-clause-room
returns-clause-room g c = λ n had.
    let left = c.remove.ensures in
    let listed = c.remove-2.ensures in
    record {
      places = omega (arith, had.places, left.len, left.places);
      streams = omega (arith, had.streams, left.streams);
      lists = omega (arith, had.lists, listed.len, listed.places);
      waiting = omega (arith, had.waiting);
      delayed = omega (arith, had.delayed);
      posted = fewer_places n c.args.tables.now.posted.items had.posted;
    }

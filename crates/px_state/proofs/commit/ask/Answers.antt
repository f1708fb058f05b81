use Rattle.std.proofs.Common.{arith}
use Rattle.px_state.proofs.Waiting.{fewer_places}
use Rattle.px_state.proofs.commit.ask.Goals as goal

pub returns-clause-room : goal.returns-clause-room
returns-clause-room g c = λ n had.
    record {
      places = omega (arith, had.places);
      streams = omega (arith, had.streams);
      lists = omega (arith, had.lists);
      waiting = omega (arith, had.waiting, c.push_back_reserved.ensures.capacity, c.push_back_reserved.ensures.len);
      delayed = omega (arith, had.delayed);
      posted = fewer_places n c.args.tables.now.posted.items had.posted;
    }

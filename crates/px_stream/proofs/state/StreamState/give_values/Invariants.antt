use Rattle.std.proofs.Common.{◌≡◌, ◌≢◌, ℕ, ◌+◌, ◌-◌, ◌*◌, ◌<◌, ◌≤◌, get_or, pos, length, All, w32, SFits}
use Rattle.px_model.specs.Queue.{nothing}
use Rattle.px_model.specs.Stream.{frame_at}
use Rattle.px_stream.specs.Values.{value_at}
use Rattle.px_stream.proofs.state.StreamState.give_values.Given as goal

abbrev pub invariant-loop-count : goal.invariant-loop-count
invariant-loop-count l = record {
  few : l.count ≤ l.run;
  near : l.from + l.count ≤ 4294967295;
  there : (j : ℕ) → j < l.count → frame_at l.self.stream (l.from + j) ≢ nothing;
  values : (c j : ℕ) → c < length l.self.stream.feed → j < l.count → get_or l.out (c * l.run + j) (pos 0) ≡ value_at l.width l.self.stream c (frame_at l.self.stream (l.from + j));
  fit : All (SFits w32) l.fn.out → All (SFits w32) l.out;
  rest : (c j : ℕ) → c < length l.self.stream.feed → l.count ≤ j → j < l.run → get_or l.out (c * l.run + j) (pos 0) ≡ get_or l.fn.out (c * l.run + j) (pos 0);
}

abbrev pub decreases-loop-count : goal.decreases-loop-count
decreases-loop-count l = l.run - l.count

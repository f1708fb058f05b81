use Rattle.std.proofs.Common.{◌≡◌, ◌++◌, take, vec_capacity}
use Rattle.px_queue.proofs.line.append_all.Given as goal

abbrev pub invariant-loop-k : goal.invariant-loop-k
invariant-loop-k l = record {
  items : l.chunks.items ≡ l.fn.chunks.items ++ take l.k l.part;
  capacity : vec_capacity l.chunks ≡ vec_capacity l.fn.chunks;
}

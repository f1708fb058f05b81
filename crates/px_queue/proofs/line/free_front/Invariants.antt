use Rattle.std.proofs.Common.{◌≡◌, ◌+◌, take, vec_len, vec_capacity}
use Rattle.px_queue.proofs.line.free_front.Given as goal

abbrev pub invariant-loop : goal.invariant-loop
invariant-loop l = record {
  len : vec_len l.chunks ≡ vec_len l.fn.chunks + l.counter;
  capacity : vec_capacity l.chunks ≡ vec_capacity l.fn.chunks;
  front : take (vec_len l.fn.chunks) l.chunks.items ≡ l.fn.chunks.items;
}

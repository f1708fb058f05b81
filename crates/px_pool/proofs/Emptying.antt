-- A block that leaves an emptied pool is empty, and so are those left.
use Rattle.std.proofs.Common.{arith, ◌≡◌, ℕ, suc, []}
use Rattle.crossbeam_queue.specs.Fifo.{Pops, Learns}
use Rattle.px_block.specs.HeldBlock.{HeldBlock}
use Rattle.px_pool.specs.Pool.{AreEmpty}

pub finds : (port : ℕ) (v : Unit {0}) → Pops {T = HeldBlock} {V = Unit {0}} (λ blocks seats. AreEmpty blocks) port v (λ b after. b.bytes ≡ [])
finds port v b blocks seats empty at = (tt, (λ k d inside. empty (suc k) d (omega arith)), empty 0 b (omega arith))

pub learns : (port : ℕ) (v : Unit {0}) → Learns {T = HeldBlock} {V = Unit {0}} (λ blocks seats. AreEmpty blocks) port v AreEmpty
learns port v blocks seats empty at = empty

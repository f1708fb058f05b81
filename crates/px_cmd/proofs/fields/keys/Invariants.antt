use Rattle.std.proofs.Common.{◌≡◌, ℕ, ◌≤◌, length}
use Rattle.px_cmd.specs.Field.{keys_at}
use Rattle.px_cmd.proofs.KeyList.{behind}
use Rattle.px_cmd.proofs.fields.keys.Given as goal

abbrev pub invariant-loop-keys : goal.invariant-loop-keys
invariant-loop-keys l = (most : ℕ) × (length l.reader.rest ≤ most) × (behind l.keys (keys_at most l.reader) ≡ keys_at (length l.fn.reader.rest) l.fn.reader)

abbrev pub decreases-loop-keys : goal.decreases-loop-keys
decreases-loop-keys l = length l.reader.rest

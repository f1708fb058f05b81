use Rattle.std.proofs.Common.{◌≡◌, ◌+◌, ◌^◌, ◌<◌, drop}
use Rattle.px_annals.specs.Size.{at_most, size_of_messages}
use Rattle.px_annals.proofs.entry.size_of_messages.Given as goal

abbrev pub invariant-loop-message : goal.invariant-loop-message
invariant-loop-message l = (at_most (l.bytes + size_of_messages (drop l.message-index l.messages)) ≡ at_most (size_of_messages l.messages)) × (l.bytes < 2 ^ 64)

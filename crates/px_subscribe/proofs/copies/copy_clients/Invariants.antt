use Rattle.std.proofs.Common.{◌≡◌, take}
use Rattle.px_subscribe.proofs.copies.copy_clients.Given as goal

-- the clients up to the next one were copied
abbrev pub invariant-loop-client : goal.invariant-loop-client
invariant-loop-client l = l.copies.items ≡ take l.client-index l.clients

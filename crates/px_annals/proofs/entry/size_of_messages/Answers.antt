use Rattle.std.proofs.Common.{◌+◌, arith}
use Rattle.px_annals.specs.Size.{bytes_of_message}
use Rattle.px_annals.proofs.Size.{ended}
use Rattle.px_annals.proofs.entry.size_of_messages.Goals as goal

pub returns : goal.returns
returns c =
    ended (λ m. 64 + bytes_of_message m) c.loop-message.bytes c.loop-message.message-index c.args.messages.now c.loop-message.invariant.0 c.loop-message.invariant.1
    (omega (arith, c.loop-message-test.false))

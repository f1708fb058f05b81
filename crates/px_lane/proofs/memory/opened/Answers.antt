use Rattle.std.proofs.Common.{subst}
use Rattle.px_msg.specs.declared.message.Msg.{Msg}
use Rattle.px_stream.specs.HeldStream.{HeldStream}
use Rattle.px_lane.specs.Lists.{plain_message}
use Rattle.px_lane.specs.Needed.{Opens}
use Rattle.px_lane.proofs.Reserved.{all_in}
use Rattle.px_lane.proofs.memory.opened.Goals as goal

pub stream_of-requires : goal.stream_of-requires
stream_of-requires c =
    subst (λ (m : Msg HeldStream). Opens (plain_message m)) c.in-New.is
    (all_in Opens plain_message c.args.messages.now c.loop-message.message-index c.message-item.result c.loop-message-test.true c.message-item.is c.requires)

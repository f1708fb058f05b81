use Rattle.px_client.proofs.Ordered.{in_order}
use Rattle.px_client.proofs.law.replies_come_in_order.Goals as goal

pub returns : goal.returns
returns c = in_order

use Rattle.std.proofs.Common.{◌≡◌}
use Rattle.px_core_cell.specs.Boxes.{boxes_of}
use Rattle.px_core_cell.specs.Cell.{ends_of}
use Rattle.px_mail.specs.Mailbox.{stored_by}
use Rattle.px_core_cell.specs.Step.{PostsMany}
use Rattle.px_core_cell.proofs.Calls.{GoesOnWith}
use Rattle.px_core_cell.proofs.ends.CoreEnd.post_waiting.Given as goal

abbrev pub invariant-loop-posted : goal.invariant-loop-posted
invariant-loop-posted g l = record {
  posts : PostsMany l.sink l.posted l.fn.core.state l.core.state (ends_of l.fn.self) (ends_of l.self);
  calls : GoesOnWith (stored_by l.fn.self.post.pass) (stored_by l.self.post.pass);
  boxes : boxes_of l.self ≡ boxes_of l.fn.self;
}

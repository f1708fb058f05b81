use Rattle.std.proofs.Common.{◌≡◌, ◌∙◌, true, refl, inl, arith}
use Rattle.px_mail.specs.Mailbox.{stored_by}
use Rattle.px_core_cell.specs.Cell.{ends_of}
use Rattle.px_core_cell.proofs.Handing.{more_posted, all_gone, consistent_still, there_still}
use Rattle.px_core_cell.proofs.Calls.{one_call}
use Rattle.px_core_cell.proofs.ends.CoreEnd.post_waiting.Goals as goal

pub post_one-requires-clause-consistent : goal.post_one-requires-clause-consistent
post_one-requires-clause-consistent g c =
    consistent_still c.args.sink c.loop-posted.posted c.args.core.now.state c.loop-posted.core.state (ends_of c.args.self.now) (ends_of c.loop-posted.self) c.requires.consistent c.loop-posted.invariant.posts

pub post_one-requires-clause-heard : goal.post_one-requires-clause-heard
post_one-requires-clause-heard g c =
    there_still c.args.sink c.loop-posted.posted c.args.core.now.state c.loop-posted.core.state (ends_of c.args.self.now) (ends_of c.loop-posted.self) c.requires.heard c.requires.consistent c.loop-posted.invariant.posts

pub loop-posted-preserved : goal.loop-posted-preserved
loop-posted-preserved g c = record {
  posts = more_posted c.args.sink c.loop-posted.posted c.args.core.now.state c.loop-posted.core.state c.post_one.new.core.state (ends_of c.args.self.now) (ends_of c.loop-posted.self) (ends_of c.post_one.new.self)
      c.loop-posted.invariant.posts (c.if-not-post_one.ensures.posts refl);
  calls = one_call (stored_by c.args.self.now.post.pass) (stored_by c.loop-posted.self.post.pass) (stored_by c.post_one.new.self.post.pass) true c.loop-posted.invariant.calls (c.if-not-post_one.ensures.stored refl);
  boxes = c.post_one.ensures.boxes ∙ c.loop-posted.invariant.boxes;
}

pub returns-clause-until : goal.returns-clause-until
returns-clause-until g c =
    let all : c.loop-posted.posted ≡ c.outgoing-waiting.result = omega (arith, c.loop-posted-test.false, c.loop-posted.auto.posted-end) in
    inl (all_gone c.args.sink c.loop-posted.posted c.args.core.now.state c.loop-posted.core.state (ends_of c.args.self.now) (ends_of c.loop-posted.self) c.requires.consistent (all ∙ c.outgoing-waiting.ensures) c.loop-posted.invariant.posts)

pub returns-clause-calls : goal.returns-clause-calls
returns-clause-calls g c =
    let all : c.loop-posted.posted ≡ c.outgoing-waiting.result = omega (arith, c.loop-posted-test.false, c.loop-posted.auto.posted-end) in
    inl (all_gone c.args.sink c.loop-posted.posted c.args.core.now.state c.loop-posted.core.state (ends_of c.args.self.now) (ends_of c.loop-posted.self) c.requires.consistent (all ∙ c.outgoing-waiting.ensures) c.loop-posted.invariant.posts)

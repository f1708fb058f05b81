use Rattle.std.proofs.Common.{arith, ◌≡◌, ◌+◌, ◌<◌, length, refl, subst, ◌∙◌}
use Rattle.px_state.specs.Tables.{lists_of, HavePlaces}
use Rattle.px_state.proofs.Waiting.{many_places}
use Rattle.px_state.proofs.Releases.{pass_begins, passed, pass_ends}
use Rattle.px_state.proofs.delayed.pass_all.Goals as goal

pub pass_first-left-requires : goal.pass_first-left-requires
pass_first-left-requires g c =
    let l = c.loop-seen in
    subst (λ n. HavePlaces n l.posted) (omega arith) (l.invariant.room 0 (subst (λ n. HavePlaces n c.args.posted.now) (omega arith) c.requires))

pub loop-seen-init : goal.loop-seen-init
loop-seen-init g c = record {
  pass = pass_begins c.args.input c.args.sink c.args.count c.args.held.now.items (lists_of c.args.posted.now);
  room = λ n had. had;
  capacity = refl;
}

pub loop-seen-preserved : goal.loop-seen-preserved
loop-seen-preserved g c =
    let l = c.loop-seen in
    let next = c.pass_first-left in
    let within : l._seen < length c.args.held.now.items = omega (arith, c.loop-seen-test.true, c.len-seen-end.ensures, c.args.held.now.ok.0) in
    record {
      pass = passed c.args.input c.args.sink c.args.count c.args.held.now.items (lists_of c.args.posted.now) l.held.items next.new.held.items (lists_of l.posted) (lists_of next.new.posted) l.left next.result l._seen l.invariant.pass within next.ensures.held next.ensures.posted next.ensures.left;
      room = λ n had. next.ensures.room n (l.invariant.room n had);
      capacity = next.ensures.capacity ∙ l.invariant.capacity;
    }

pub returns-clause-held : goal.returns-clause-held
returns-clause-held g c =
    (pass_ends c.args.input c.args.sink c.args.count c.args.held.now.items (lists_of c.args.posted.now) c.loop-seen.held.items (lists_of c.loop-seen.posted) c.loop-seen.left c.loop-seen._seen c.loop-seen.invariant.pass
    (omega (arith, c.loop-seen-test.false, c.len-seen-end.ensures, c.args.held.now.ok.0))).0

pub returns-clause-posted : goal.returns-clause-posted
returns-clause-posted g c =
    (pass_ends c.args.input c.args.sink c.args.count c.args.held.now.items (lists_of c.args.posted.now) c.loop-seen.held.items (lists_of c.loop-seen.posted) c.loop-seen.left c.loop-seen._seen c.loop-seen.invariant.pass
    (omega (arith, c.loop-seen-test.false, c.len-seen-end.ensures, c.args.held.now.ok.0))).1

pub returns-clause-room : goal.returns-clause-room
returns-clause-room g c = λ n had. many_places n c.loop-seen.left c.loop-seen.posted (c.loop-seen.invariant.room n had)

use Rattle.std.proofs.Common.{◌++◌, drop, arith}
use Rattle.px_subscribe.specs.Walk.{events_in}
use Rattle.px_subscribe.proofs.Walked.{walked, left_x, left_y, all_walked, all_done, writable_first}
use Rattle.px_subscribe.proofs.walk.add_rising.Goals as goal

pub add_at-requires-clause-before : goal.add_at-requires-clause-before
add_at-requires-clause-before g c =
    writable_first g.I.Object.index_of g.I.Object.IsWritable (λ x. x.now) c.head_at-gone.result c.args.before.now c.loop-from.b c.index_at-next.result c.head_at-gone.ensures c.requires.before

pub add_at-requires-clause-after : goal.add_at-requires-clause-after
add_at-requires-clause-after g c =
    writable_first g.I.Object.index_of g.I.Object.IsWritable (λ x. x.now) c.head_at-come.result c.args.after.now c.loop-from.a c.index_at-next.result c.head_at-come.ensures c.requires.after

pub loop-from-preserved : goal.loop-from-preserved
loop-from-preserved g c = record {
  told = walked g.I.Object.index_of c.args.facility g.I.Object.bytes_of c.args.given (drop c.loop-from.b c.args.before.now) (drop c.loop-from.a c.args.after.now) c.loop-from.from c.index_at.result c.index_at-next.result
      c.loop-from.invariant.before c.loop-from.invariant.after c.index_at.ensures.value c.index_at-next.ensures.value
      c.loop-from.events.items c.add_at.new.events.items (c.args.events.now.items ++ events_in c.args.facility g.I.Object.index_of g.I.Object.bytes_of c.args.before.now c.args.after.now c.args.given)
      _ _ (drop c.past-b.result c.args.before.now) (drop c.past-a.result c.args.after.now) (omega (arith, c.if-next-given.false))
      c.head_at-gone.ensures c.head_at-come.ensures c.in_ok-add_at.ensures c.past-b.ensures c.past-a.ensures c.loop-from.invariant.told;
  before = left_x g.I.Object.index_of c.args.facility g.I.Object.bytes_of c.args.given (drop c.loop-from.b c.args.before.now) (drop c.loop-from.a c.args.after.now) c.loop-from.from c.index_at.result c.index_at-next.result
      c.loop-from.invariant.before c.loop-from.invariant.after c.index_at.ensures.value c.index_at-next.ensures.value
      (drop c.past-b.result c.args.before.now) c.past-b.ensures;
  after = left_y g.I.Object.index_of c.args.facility g.I.Object.bytes_of c.args.given (drop c.loop-from.b c.args.before.now) (drop c.loop-from.a c.args.after.now) c.loop-from.from c.index_at.result c.index_at-next.result
      c.loop-from.invariant.before c.loop-from.invariant.after c.index_at.ensures.value c.index_at-next.ensures.value
      (drop c.past-a.result c.args.after.now) c.past-a.ensures;
  few = omega (arith, c.if-next-given.false);
}

pub returns-then-next-given : goal.returns-then-next-given
returns-then-next-given g c =
    all_walked g.I.Object.index_of c.args.facility g.I.Object.bytes_of c.args.given (drop c.loop-from.b c.args.before.now) (drop c.loop-from.a c.args.after.now) c.loop-from.from c.index_at.result c.index_at-next.result
    c.loop-from.invariant.before c.loop-from.invariant.after c.index_at.ensures.value c.index_at-next.ensures.value
    c.loop-from.events.items (c.args.events.now.items ++ events_in c.args.facility g.I.Object.index_of g.I.Object.bytes_of c.args.before.now c.args.after.now c.args.given)
    (omega (arith, c.if-next-given.true)) c.loop-from.invariant.told

pub returns : goal.returns
returns g c =
    all_done g.I.Object.index_of c.args.facility g.I.Object.bytes_of c.args.given (drop c.loop-from.b c.args.before.now) (drop c.loop-from.a c.args.after.now) c.loop-from.from
    c.loop-from.events.items (c.args.events.now.items ++ events_in c.args.facility g.I.Object.index_of g.I.Object.bytes_of c.args.before.now c.args.after.now c.args.given)
    (omega (arith, c.loop-from-test.false)) c.loop-from.invariant.before c.loop-from.invariant.after c.loop-from.invariant.told

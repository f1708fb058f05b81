use Rattle.std.proofs.Common.{arith}
use Rattle.px_subscribe.proofs.Walked.{nearer_fits, searched_below, searched_above, searched, all_searched, writable_at}
use Rattle.px_subscribe.proofs.walk.add_searched.Goals as goal

pub overflow_cast-next : goal.overflow_cast-next
overflow_cast-next g c =
    let fits = nearer_fits c.next_in-next.result c.next_in.result c.args.given
    (searched_below g.I.Object.index_of c.args.facility g.I.Object.bytes_of c.args.before.now c.args.after.now c.loop-from.from c.args.given c.next_in.result c.next_in-next.result
    c.loop-from.invariant.few c.next_in.ensures.value c.next_in-next.ensures.value)
    c.next_in.ensures.index c.next_in-next.ensures.index (omega (arith, c.if-next-given.false)) in
    omega (arith, fits)

pub add_at-requires-clause-before : goal.add_at-requires-clause-before
add_at-requires-clause-before g c =
    writable_at g.I.Object.index_of g.I.Object.IsWritable (λ x. x.now) c.object_at-gone.result c.args.before.now c.next_in-next.result c.object_at-gone.ensures c.requires.before

pub add_at-requires-clause-after : goal.add_at-requires-clause-after
add_at-requires-clause-after g c =
    writable_at g.I.Object.index_of g.I.Object.IsWritable (λ x. x.now) c.object_at-come.result c.args.after.now c.next_in-next.result c.object_at-come.ensures c.requires.after

pub loop-from-smaller : goal.loop-from-smaller
loop-from-smaller g c =
    let above = searched_above g.I.Object.index_of c.args.facility g.I.Object.bytes_of c.args.before.now c.args.after.now c.loop-from.from c.args.given c.next_in.result c.next_in-next.result
    c.loop-from.invariant.few c.next_in.ensures.value c.next_in-next.ensures.value in
    omega (arith, above, c.if-next-given.false, c.loop-from-test.true)

pub loop-from-preserved : goal.loop-from-preserved
loop-from-preserved g c = record {
  told = searched g.I.Object.index_of c.args.facility g.I.Object.bytes_of c.args.before.now c.args.after.now c.loop-from.from c.args.given c.next_in.result c.next_in-next.result
      c.loop-from.invariant.few c.next_in.ensures.value c.next_in-next.ensures.value
      c.args.events.now.items c.loop-from.events.items c.add_at.new.events.items _ _ c.object_at-gone.ensures c.object_at-come.ensures c.in_ok-add_at.ensures c.loop-from.invariant.told;
  few = omega (arith, c.if-next-given.false);
}

pub returns-then-next-given : goal.returns-then-next-given
returns-then-next-given g c =
    all_searched g.I.Object.index_of c.args.facility g.I.Object.bytes_of c.args.before.now c.args.after.now c.loop-from.from c.args.given c.next_in.result c.next_in-next.result
    c.loop-from.invariant.few c.next_in.ensures.value c.next_in-next.ensures.value
    c.args.events.now.items c.loop-from.events.items (omega (arith, c.if-next-given.true)) c.loop-from.invariant.told

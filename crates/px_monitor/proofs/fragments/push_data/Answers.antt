use Rattle.std.proofs.Common.{rules, ◌≡◌, ◌<◌, min, length}
use Rattle.px_monitor.proofs.Joining.{next, preserved, none_left}
use Rattle.px_monitor.proofs.fragments.push_data.Goals as goal

pub loop-rest-preserved : goal.loop-rest-preserved
loop-rest-preserved c =
    let there : 0 < length c.loop-rest.rest.now = search rules in
    let len : c.min-len.result ≡ min c.args.r.now.fragsize (length c.loop-rest.rest.now) = search rules in
    preserved c.args.r.now c.loop-rest.effects c.push.new.self c.in_ok-data.field-0 c.loop-rest.rest.now _ _ _
    (next c.args.r.now.fragsize c.min-len.result c.loop-rest.rest.now (search rules) there len) c.in_ok-data.ensures.value c.in_ok-push.ensures.ok c.loop-rest.invariant

pub returns : goal.returns
returns c =
    let none : length c.loop-rest.rest.now ≡ 0 = search rules in
    none_left c.args.r.now c.loop-rest.effects c.loop-rest.rest.now _ none c.loop-rest.invariant

use Rattle.std.proofs.Common.{◌≤◌, subst, sym}
use Rattle.px_outcome.specs.declared.input.Input.{Input}
use Rattle.px_ctl_info.specs.Infos.{input_info_list}
use Rattle.px_ctl_info.proofs.Added.{one_added}
use Rattle.px_ctl_info.proofs.infos.input_info_list.Goals as goal

pub add_input-requires-clause-channels : goal.add_input-requires-clause-channels
add_input-requires-clause-channels c = subst (λ x. (Input.spec x).channels ≤ 32) (sym c.x-item.is) (c.requires c.loop-x.x-index c.x-item.result c.loop-x-test.true)

pub loop-x-preserved : goal.loop-x-preserved
loop-x-preserved c = (
  one_added (input_info_list c.args.groups.now c.args.lists.now.items) c.loop-x.infos.items c.add_input.new.infos.items _ c.args.inputs.now c.loop-x.x-index c.x-item.result c.loop-x-test.true c.x-item.is
      c.in_ok-add_input.ensures.value c.loop-x.invariant.0,
  c.in_ok-add_input.ensures.writable c.loop-x.invariant.1,
)

use Rattle.std.proofs.Common.{◌≡◌, ◌++◌, All, drop}
use Rattle.px_ctl_info.specs.Infos.{IsInputInfo, input_info_list}
use Rattle.px_ctl_info.proofs.infos.input_info_list.Given as goal

abbrev pub invariant-loop-x : goal.invariant-loop-x
invariant-loop-x l = (l.infos.items ++ input_info_list l.groups l.lists.items (drop l.x-index l.inputs) ≡ input_info_list l.groups l.lists.items l.inputs) × All IsInputInfo l.infos.items

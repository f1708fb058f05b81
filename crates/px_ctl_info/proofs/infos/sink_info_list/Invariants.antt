use Rattle.std.proofs.Common.{◌≡◌, ◌++◌, All, drop}
use Rattle.px_ctl_info.specs.Infos.{IsSinkInfo, sink_info_list}
use Rattle.px_ctl_info.proofs.infos.sink_info_list.Given as goal

abbrev pub invariant-loop-sink : goal.invariant-loop-sink
invariant-loop-sink l = (l.infos.items ++ sink_info_list l.groups (drop l.sink-index l.sinks) ≡ sink_info_list l.groups l.sinks) × All IsSinkInfo l.infos.items

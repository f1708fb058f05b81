use Rattle.std.proofs.Common.{◌≡◌, take}
use Rattle.px_flat.specs.Channels.{greatest_of}
use Rattle.px_ctl_play.proofs.joining.greatest_of.Given as goal

abbrev pub invariant-loop-volume : goal.invariant-loop-volume
invariant-loop-volume l = l.greatest ≡ greatest_of (take l.volume-index l.volumes)

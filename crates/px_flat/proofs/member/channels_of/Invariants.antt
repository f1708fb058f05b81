use Rattle.std.proofs.Common.{◌≡◌, ◌<◌, take}
use Rattle.px_flat.specs.Channels.{greatest_of}
use Rattle.px_flat.proofs.member.channels_of.Given as goal

abbrev pub invariant-loop-channel : goal.invariant-loop-channel
invariant-loop-channel l = record {
  is : l.greatest ≡ greatest_of (take l.channel-index l.channel-items);
  small : l.greatest < 32;
}

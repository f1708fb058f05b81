use Rattle.std.proofs.Common.{◌∙◌, ap, sym, length}
use Rattle.px_flat.specs.Channels.{value_for}
use Rattle.px_flat.proofs.ByChannel.{length_per_channel}
use Rattle.px_flat.proofs.member.coming_volume.Goals as goal

pub products-requires-in-Kept : goal.products-requires-in-Kept
products-requires-in-Kept c =
    (rw c.in-Kept.is at c.requires.how).reference ∙ sym c.channels_of-channels.ensures.value
    ∙ sym (ap length c.values_for-in-Kept.ensures ∙ length_per_channel (value_for c.args.feed.now c.args.reference.now) c.channels_of-channels.result)

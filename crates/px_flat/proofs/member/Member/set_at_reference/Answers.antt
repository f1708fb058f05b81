use Rattle.std.proofs.Common.{◌∙◌, ap, sym, refl, length}
use Rattle.px_flat.specs.Channels.{value_for}
use Rattle.px_flat.proofs.ByChannel.{length_per_channel}
use Rattle.px_flat.proofs.member.Member.set_at_reference.Goals as goal

pub products-volume-requires : goal.products-volume-requires
products-volume-requires c =
    c.requires.ratios.reference ∙ sym c.channels-channels.ensures.value
    ∙ sym (ap length c.values_for-reference.ensures ∙ length_per_channel (value_for c.args.self.now.feed c.args.reference.now) c.channels-channels.result)

pub returns : goal.returns
returns c = rw (c.products-volume.ensures, c.values_for-reference.ensures, c.channels-channels.ensures.value) refl

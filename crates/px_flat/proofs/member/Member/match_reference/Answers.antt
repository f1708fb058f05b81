use Rattle.std.proofs.Common.{◌∙◌, ap, sym, refl, length}
use Rattle.px_flat.specs.Channels.{value_for}
use Rattle.px_flat.proofs.ByChannel.{length_per_channel}
use Rattle.px_flat.proofs.member.Member.match_reference.Goals as goal

pub ratios_after-ratios-requires-clause-bases : goal.ratios_after-ratios-requires-clause-bases
ratios_after-ratios-requires-clause-bases c =
    c.requires.ratios.reference ∙ sym c.channels-channels.ensures.value
    ∙ sym (ap length c.values_for-reference.ensures ∙ length_per_channel (value_for c.args.self.now.feed c.args.reference.now) c.channels-channels.result)

pub returns : goal.returns
returns c = rw (c.ratios_after-ratios.ensures, c.values_for-reference.ensures, c.channels-channels.ensures.value) refl

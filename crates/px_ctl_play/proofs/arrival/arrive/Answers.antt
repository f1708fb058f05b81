use Rattle.std.proofs.Common.{◌≡◌, length, sym, subst}
use Rattle.std.specs.Prelude.{IfSome}
use Rattle.px_flat.specs.declared.member.Member.{Member}
use Rattle.px_flat.specs.Member.{channels_of}
use Rattle.px_ctl_play.proofs.Joined.{volume_is}
use Rattle.px_ctl_play.proofs.arrival.arrive.Goals as goal

pub arrival_of-requires-clause-volume : goal.arrival_of-requires-clause-volume
arrival_of-requires-clause-volume g c =
    volume_is (length c.args.from.now.reference) (length c.args.x.now.map) c.in-Some.m c.requires.channels.some c.in-Some.ensures.is
    (subst (λ o. IfSome o (λ (m : Member). channels_of m.feed ≡ length c.args.x.now.map)) (sym c.in-Some.ensures.value) c.requires.channels.own)

use Rattle.std.proofs.Common.{ℕ, length, sym, subst}
use Rattle.std.specs.Prelude.{IsSome}
use Rattle.px_chmap.specs.Plan.{FeedsAll}
use Rattle.px_flat.specs.Member.{channels_of}
use Rattle.px_flat.specs.FlatVolume.{FlatGroup, member_of}
use Rattle.px_flat.proofs.Inputs.{attached_there, feeds_count}
use Rattle.px_ctl_play.specs.Asked.{channels_on}
use Rattle.px_ctl_play.proofs.Joined.{given_suits, brings_none}
use Rattle.px_ctl_play.proofs.joining.joined.Goals as goal

pub attach-requires-clause-feeds : goal.attach-requires-clause-feeds
attach-requires-clause-feeds c =
    subst (λ (n : ℕ). FeedsAll n (length c.in_ok-made.made.reference) c.args.feed.now)
    (sym (feeds_count (channels_on c.args.sink.now c.args.a.now) (length c.args.group.now.reference) c.args.feed.now c.requires.some c.requires.feeds))
    (subst (λ (g : FlatGroup). FeedsAll (channels_on c.args.sink.now c.args.a.now) (length g.reference) c.args.feed.now) (sym c.in_ok-made.ensures) c.requires.feeds)

pub attach-requires-clause-given : goal.attach-requires-clause-given
attach-requires-clause-given c =
    rw c.given_on.ensures
    (given_suits c.args.sink.now c.args.a.now _ (feeds_count (channels_on c.args.sink.now c.args.a.now) (length c.args.group.now.reference) c.args.feed.now c.requires.some c.requires.feeds))

pub attach-requires-clause-how : goal.attach-requires-clause-how
attach-requires-clause-how c = rw c.how_on.ensures (brings_none c.args.a.now (channels_of c.args.feed.now))

pub returns-clause-there : goal.returns-clause-there
returns-clause-there c =
    subst (λ (g : FlatGroup). IsSome (member_of g.members c.args.x.now.index)) (sym c.in_ok-attach.ensures.attached)
    (attached_there c.args.x.now.index c.given_on.result c.how_on.result c.args.a.now.muted c.args.feed.now c.in_ok-made.made)

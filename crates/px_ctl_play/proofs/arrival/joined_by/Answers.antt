use Rattle.std.proofs.Common.{◌≡◌, ℕ, length, inr, ap, sym, subst, ◌∙◌}
use Rattle.std.specs.Prelude.{IsSome}
use Rattle.px_chmap.specs.Plan.{FeedsAll}
use Rattle.px_flat.specs.declared.member.How.TheVariants.{Kept}
use Rattle.px_flat.specs.Member.{AreRatios}
use Rattle.px_flat.specs.FlatVolume.{FlatGroup, member_of}
use Rattle.px_flat.proofs.Inputs.{attached_there, feeds_count}
use Rattle.px_ctl_play.proofs.arrival.joined_by.Goals as goal

pub attach-requires-clause-feeds : goal.attach-requires-clause-feeds
attach-requires-clause-feeds c =
    let feed = c.args.feed.now in
    let made = c.in_ok-made.made in
    let sinks : length c.args.sink.now.map ≡ length made.reference = c.requires.sink.map_size ∙ sym c.requires.joins.channels ∙ sym (ap (λ (g : FlatGroup). length g.reference) c.in_ok-made.ensures) in
    subst (λ (n : ℕ). FeedsAll n (length made.reference) feed) (sym (feeds_count (length c.args.x.now.map) (length c.args.sink.now.map) feed c.requires.some c.requires.feeds))
    (subst (λ (n : ℕ). FeedsAll (length c.args.x.now.map) n feed) sinks c.requires.feeds)

pub attach-requires-clause-given : goal.attach-requires-clause-given
attach-requires-clause-given c = inr (c.requires.volume ∙ sym (feeds_count (length c.args.x.now.map) (length c.args.sink.now.map) c.args.feed.now c.requires.some c.requires.feeds))

pub attach-requires-clause-how : goal.attach-requires-clause-how
attach-requires-clause-how c =
    subst (λ (n : ℕ). AreRatios n c.args.m.now.ratios)
    (c.requires.volume ∙ sym (feeds_count (length c.args.x.now.map) (length c.args.sink.now.map) c.args.feed.now c.requires.some c.requires.feeds))
    c.requires.ratios

pub returns-clause-there : goal.returns-clause-there
returns-clause-there c =
    subst (λ (g : FlatGroup). IsSome (member_of g.members c.args.x.now.index)) (sym c.in_ok-attach.ensures.attached)
    (attached_there c.args.x.now.index c.args.m.now.volume (Kept c.args.m.now.ratios) c.args.m.now.muted c.args.feed.now c.in_ok-made.made)

use Rattle.std.proofs.Common.{sym, ◌∙◌}
use Rattle.px_types.specs.declared.error_code.ErrorCode.TheVariants.{NotSupported}
use Rattle.px_ctl_play.proofs.Joined.{fed}
use Rattle.px_ctl_play.proofs.creation.create_on.Goals as goal

pub created-requires-clause-feeds : goal.created-requires-clause-feeds
created-requires-clause-feeds g c =
    fed c.args.sink c.args.a.now c.feed_on.result NotSupported c.in_ok-feed.feed c.requires.sink c.requires.length
    c.feed_on.ensures.fits (sym c.present.ensures ∙ c.in_ok-feed.was)

use Rattle.px_monitor.specs.Records.{IsRecording}
use Rattle.px_monitor.proofs.Kept.{each}
use Rattle.px_monitor.proofs.fragments.sent.Goals as goal

pub push_where-requires : goal.push_where-requires
push_where-requires c = each IsRecording c.args.streams.now c.loop-one.one-index _ c.requires c.loop-one-test.true

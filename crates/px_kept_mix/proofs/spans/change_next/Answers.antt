use Rattle.std.proofs.Common.{◌≡◌, ◌+◌, ◌-◌, ◌*◌, ◌≤◌, refl, arith}
use Rattle.px_kept_mix.proofs.Spanned.{stays, little_here, after_silence, little_after, small_past}
use Rattle.px_kept_mix.proofs.spans.change_next.Goals as goal

pub returns-then-start-to-clause-sums : goal.returns-then-start-to-clause-sums
returns-then-start-to-clause-sums g c =
    stays c.args.sink.now c.args.stream.now.stream c.args.from c.silent_frames-silent.result c.silent_frames-silent.ensures.silent c.args.add c.args.to c.args.cache.now (omega (arith, c.if-start-to.true))

pub returns-then-start-to-clause-little : goal.returns-then-start-to-clause-little
returns-then-start-to-clause-little g c =
    little_here c.args.sink.now c.args.stream.now.stream c.args.from c.silent_frames-silent.result c.silent_frames-silent.ensures.silent c.args.to (omega (arith, c.if-start-to.true))

pub returns-clause-sums : goal.returns-clause-sums
returns-clause-sums g c =
    let start = c.args.from + c.silent_frames-silent.result in
    after_silence c.args.sink.now c.args.stream.now.stream c.args.from c.silent_frames-silent.result c.silent_frames-silent.ensures.silent c.args.add
    start (start + c.frames_to_silence-frames.result) (start + c.frames_to_silence-frames.result) c.args.cache.now c.change_over.new.cache refl refl c.change_over.ensures.sums

pub returns-clause-little : goal.returns-clause-little
returns-clause-little g c =
    let start = c.args.from + c.silent_frames-silent.result in
    little_after c.args.sink.now c.args.stream.now.stream c.args.from c.silent_frames-silent.result c.silent_frames-silent.ensures.silent
    start (start + c.frames_to_silence-frames.result) (start + c.frames_to_silence-frames.result) refl refl c.change_over.ensures.little

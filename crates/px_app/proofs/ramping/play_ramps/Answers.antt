use Rattle.std.proofs.Common.{refl}
use Rattle.px_app.specs.Ends.{ends_of}
use Rattle.px_app.specs.Ramp.{ramp_mode}
use Rattle.px_app.proofs.PlayLaws.{unopened_played, opened_nothing}
use Rattle.px_app.proofs.ramping.play_ramps.Goals as goal

pub returns-in-Ok-new-clause-played : goal.returns-in-Ok-new-clause-played
returns-in-Ok-new-clause-played g c =
    let held = g.K.Sink.held c.args.output.now in
    let written = g.K.Sink.faults c.args.output.now in
    let now = g.K.Sink.faults c.play.new.output in
    c.play.ensures.played c.args.ramp c.args.ramp c.in-Ok.header (ends_of (g.S.Source.left c.args.input.now) (g.S.Source.faults c.args.input.now) held written) now
    (c.in-Ok.ensures.opened held written now) refl c.in-Ok-new.ensures

pub returns-in-Err-new-clause-played : goal.returns-in-Err-new-clause-played
returns-in-Err-new-clause-played g c =
    let held = g.K.Sink.held c.args.output.now in
    let written = g.K.Sink.faults c.args.output.now in
    opened_nothing ramp_mode c.args.ramp c.in-Ok.reader c.in-Ok.header
    (ends_of (g.S.Source.left c.args.input.now) (g.S.Source.faults c.args.input.now) held written) (ends_of (g.S.Source.left c.open.new.input) (g.S.Source.faults c.open.new.input) held written)
    (c.in-Ok.ensures.opened held written written)

pub returns-in-Err-clause-played : goal.returns-in-Err-clause-played
returns-in-Err-clause-played g c =
    let held = g.K.Sink.held c.args.output.now in
    let written = g.K.Sink.faults c.args.output.now in
    unopened_played ramp_mode c.args.ramp c.in-Err.ended
    (ends_of (g.S.Source.left c.args.input.now) (g.S.Source.faults c.args.input.now) held written) (ends_of (g.S.Source.left c.open.new.input) (g.S.Source.faults c.open.new.input) held written)
    (c.in-Err.ensures.opened held written written)

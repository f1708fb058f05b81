use Rattle.px_app.specs.Ends.{ends_of}
use Rattle.px_app.specs.View.{shown_of, replay_mode}
use Rattle.px_app.proofs.PlayLaws.{unopened_played}
use Rattle.px_app.proofs.ReplayLaws.{unmade_played}
use Rattle.px_app.proofs.replaying.play_view.Goals as goal

pub returns-in-Ok-new-clause-played : goal.returns-in-Ok-new-clause-played
returns-in-Ok-new-clause-played g c =
    let held = g.K.Sink.held c.args.output.now in
    let now = g.K.Sink.faults c.play.new.output in
    c.play.ensures.played (shown_of c.args.view) c.in-Ok-new.stage.lens c.in-Ok.header
    (ends_of (g.S.Source.left c.args.input.now) (g.S.Source.faults c.args.input.now) held (g.K.Sink.faults c.args.output.now)) now
    (c.in-Ok.ensures.opened held (g.K.Sink.faults c.args.output.now) now) c.in-Ok-new.ensures.looks c.in-Ok-new.ensures.stands

pub returns-in-Err-new-clause-played : goal.returns-in-Err-new-clause-played
returns-in-Err-new-clause-played g c =
    let held = g.K.Sink.held c.args.output.now in
    let written = g.K.Sink.faults c.args.output.now in
    unmade_played (shown_of c.args.view) c.in-Err-new.ended c.in-Ok.reader c.in-Ok.header
    (ends_of (g.S.Source.left c.args.input.now) (g.S.Source.faults c.args.input.now) held written) (ends_of (g.S.Source.left c.open.new.input) (g.S.Source.faults c.open.new.input) held written)
    (c.in-Ok.ensures.opened held written written) c.in-Err-new.ensures.none

pub returns-in-Err-clause-played : goal.returns-in-Err-clause-played
returns-in-Err-clause-played g c =
    let held = g.K.Sink.held c.args.output.now in
    let written = g.K.Sink.faults c.args.output.now in
    unopened_played replay_mode (shown_of c.args.view) c.in-Err.ended
    (ends_of (g.S.Source.left c.args.input.now) (g.S.Source.faults c.args.input.now) held written) (ends_of (g.S.Source.left c.open.new.input) (g.S.Source.faults c.open.new.input) held written)
    (c.in-Err.ensures.opened held written written)

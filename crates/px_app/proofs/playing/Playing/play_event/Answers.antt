use Rattle.std.proofs.Common.{ℕ, List, Option}
use Rattle.px_ends.specs.Visible.{after_adding}
use Rattle.px_app.specs.Mode.{state_after}
use Rattle.px_app.proofs.EventPlayedLaws.{event_barred}
use Rattle.px_app.proofs.playing.Playing.play_event.Goals as goal

pub returns-in-Err-clause-played : goal.returns-in-Err-clause-played
returns-in-Err-clause-played g c = λ look header events held stands.
    rw c.barred.ensures (event_barred g.T.Stage.mode (Option (List ℕ)) c.in-Err.fault c.args.at c.number_of-number.result look (state_after g.T.Stage.mode.course header events) c.args.e
    (after_adding held c.args.self.now.pieces.bytes) (after_adding held c.event.new.pieces.bytes) c.number_of-number.ensures (c.in-Err.ensures.played look header events held stands))

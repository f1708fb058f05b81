use Rattle.std.proofs.Common.{refl}
use Rattle.px_ends.specs.Visible.{after_adding}
use Rattle.px_app.specs.Ends.{ends_of}
use Rattle.px_app.proofs.PlayLaws.{stop_read, stop_end, go_on}
use Rattle.px_app.proofs.playing.Playing.step.Goals as goal

pub returns-in-Ok-Some-clause-stepped : goal.returns-in-Ok-Some-clause-stepped
returns-in-Ok-Some-clause-stepped g c = λ asked first held written r.
    go_on g.T.Stage.mode g.T.Stage.stands asked c.args.self.now c.next_event.new.reader first
    (ends_of (g.S.Source.left c.args.input.now) (g.S.Source.faults c.args.input.now) (after_adding held c.args.self.now.pieces.bytes) written)
    (ends_of (g.S.Source.left c.next_event.new.input) (g.S.Source.faults c.next_event.new.input) (after_adding held c.play_event.new.self.pieces.bytes) written) r
    c.in-Ok-Some.e (rw c.in-Ok-Some.field-0-is at c.in-Ok-Some.ensures.takes)
    c.play_event.new.self c.play_event.ensures.reader
    c.play_event.result (c.play_event.ensures.stands r.look r.header r.events r.stage) (rw c.at-at.ensures at (c.play_event.ensures.played r.look r.header r.events held r.stage))

pub returns-in-Ok-None-clause-stepped : goal.returns-in-Ok-None-clause-stepped
returns-in-Ok-None-clause-stepped g c = λ asked first held written r.
    stop_end g.T.Stage.mode g.T.Stage.stands asked c.args.self.now c.next_event.new.reader first
    (ends_of (g.S.Source.left c.args.input.now) (g.S.Source.faults c.args.input.now) (after_adding held c.args.self.now.pieces.bytes) written)
    (ends_of (g.S.Source.left c.next_event.new.input) (g.S.Source.faults c.next_event.new.input) (after_adding held c.close.new.self.pieces.bytes) written) r
    (rw c.in-Ok-None.field-0-is at c.in-Ok-None.ensures.takes) c.close.result
    (c.close.ensures.closes r.look r.header r.events held r.stage)

pub returns-in-Err-clause-stepped : goal.returns-in-Err-clause-stepped
returns-in-Err-clause-stepped g c = λ asked first held written r.
    rw c.unread.ensures (stop_read g.T.Stage.mode g.T.Stage.stands asked c.args.self.now c.next_event.new.reader first
    (ends_of (g.S.Source.left c.args.input.now) (g.S.Source.faults c.args.input.now) (after_adding held c.args.self.now.pieces.bytes) written)
    (ends_of (g.S.Source.left c.next_event.new.input) (g.S.Source.faults c.next_event.new.input) (after_adding held c.args.self.now.pieces.bytes) written) r
    c.in-Err.e c.in-Err.ensures.takes refl)

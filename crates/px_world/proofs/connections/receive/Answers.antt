use Rattle.std.proofs.Common.{◌≡◌, ◌∷◌, [], ◌++◌, ap, sym, ◌∙◌}
use Rattle.px_model.specs.Stream.{Stream}
use Rattle.px_core.specs.Step.{sweep, stepped_by, effects_by}
use Rattle.px_world.specs.World.{link_of, received_of}
use Rattle.px_world.specs.Event.{bytes_steps}
use Rattle.px_world.specs.Running.{steps_given}
use Rattle.px_world.proofs.Openings.{refused-absent, refused-there}
use Rattle.px_world.proofs.connections.receive.Goals as goal

pub returns-in-None-clause-done : goal.returns-in-None-clause-done
returns-in-None-clause-done c = λ w opened. (refused-absent c.args.doors.now.entries w.links c.args.conn opened c.in-None.ensures.none.0).1

pub returns-in_ok-hear-in-Some-clause-done : goal.returns-in_ok-hear-in-Some-clause-done
returns-in_ok-hear-in-Some-clause-done c = λ w opened.
    let steps : bytes_steps c.args.conn (received_of (link_of w.links c.args.conn)) c.args.bytes.now ≡ steps_given c.args.conn c.in-Some.given =
    c.in-Some.ensures.steps w.links opened c.in_ok-hear-in-Some.ensures.answered in
    record {
      admitted = (refused-there c.args.doors.now.entries w.links c.args.conn opened c.in-Some.ensures.there).1;
      core = c.in_ok-hear-in-Some.ensures.core ∙ ap (λ l. stepped_by Stream.spec c.args.core.now.state (l ++ sweep ∷ [])) (sym steps);
      opened = c.in-Some.ensures.opened w.links opened c.in_ok-hear-in-Some.ensures.answered;
      caused = c.in_ok-hear-in-Some.ensures.effects ∙ ap (λ l. effects_by Stream.spec c.args.core.now.state (l ++ sweep ∷ [])) (sym steps);
    }

use Rattle.std.proofs.Common.{◌≡◌, ◌∷◌, [], ◌++◌, Ok, ap, sym, ◌∙◌}
use Rattle.px_frame.specs.Spelling.{spelling_of}
use Rattle.px_model.specs.Stream.{Stream}
use Rattle.px_core.specs.Step.{sweep, stepped_by, effects_by}
use Rattle.px_world.specs.World.{link_of, received_of}
use Rattle.px_world.specs.Event.{bytes_steps}
use Rattle.px_world.specs.Running.{steps_given}
use Rattle.px_world.proofs.Openings.{refused-there}
use Rattle.px_world.proofs.connections.frame.Goals as goal

pub returns-in_ok-hear_passed-in-Some-clause-done : goal.returns-in_ok-hear_passed-in-Some-clause-done
returns-in_ok-hear_passed-in-Some-clause-done c = λ w opened.
    let steps : bytes_steps c.args.conn (received_of (link_of w.links c.args.conn)) (spelling_of c.args.frame.body) ≡ steps_given c.args.conn (Ok (record { at = c.in-Some.at; body = c.args.frame.body } ∷ [])) =
    c.pass_over.ensures.steps c.in-Some.at w.links c.in-Some.is opened in
    record {
      admitted = (refused-there c.args.doors.now.entries w.links c.args.conn opened c.in-Some.ensures.there).1;
      core = c.in_ok-hear_passed-in-Some.ensures.core ∙ ap (λ l. stepped_by Stream.spec c.args.core.now.state (l ++ sweep ∷ [])) (sym steps);
      opened = c.pass_over.ensures.opened c.in-Some.at w.links c.in-Some.is opened;
      caused = c.in_ok-hear_passed-in-Some.ensures.effects ∙ ap (λ l. effects_by Stream.spec c.args.core.now.state (l ++ sweep ∷ [])) (sym steps);
    }

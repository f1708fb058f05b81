use Rattle.std.proofs.Common.{List, ◌++◌, map, ap, ◌∙◌}
use Rattle.px_session.specs.declared.event.Event.{Event}
use Rattle.px_tape.specs.declared.tape.Mark.TheVariants.{Made}
use Rattle.px_tape.proofs.Counts.{all_marks}
use Rattle.px_tape.proofs.tape.Tape.add.Goals as goal

pub invariant_of-self : goal.invariant_of-self
invariant_of-self c =
    let more = c.add_made.ensures ∙ ap (λ (events : List Event). c.self.inside.marks.items ++ map Made events) c.into_vec.ensures.items in
    all_marks c.self.inside.marks.items c.add_made.new.marks.items c.args.events c.self.invariant c.into_vec.ensures.lawful c.requires.others more

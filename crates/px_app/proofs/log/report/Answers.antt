use Rattle.std.proofs.Common.{inl, refl, sym}
use Rattle.px_ends.proofs.VisibleBytes.{adding_nothing}
use Rattle.px_app.specs.declared.ending.Ending.TheVariants as ending
use Rattle.px_app.proofs.log.report.Goals as goal

pub returns-in-Done : goal.returns-in-Done
returns-in-Done g c = rw (c.in-Done.is) ((ending.Done, inl refl, inl (record { answer = refl; line = sym (adding_nothing (g.L.Sink.held c.args.log.now)); quiet = refl })))

use Rattle.std.proofs.Common.{List, subst}
use Rattle.std.proofs.lemmas.Result.{on_ok_weaker}
use Rattle.px_header.specs.declared.header.SinkSpec.{SinkSpec}
use Rattle.px_server.specs.Made.{AreMade}
use Rattle.px_server.proofs.Making.{made_all}
use Rattle.px_server.proofs.sinks.make_all.Goals as goal

pub returns-clause-made : goal.returns-clause-made
returns-clause-made g c =
    on_ok_weaker c.make_from.result
    (λ adds. subst (λ (l : List SinkSpec). AreMade c.args.taped 0 l c.make_from.new.idle.items c.make_from.new.ends.items) c.as_slice.ensures
    (made_all c.args.taped c.as_slice.result.now c.args.idle.now.items c.make_from.new.idle.items c.args.ends.now.items c.make_from.new.ends.items c.requires.none.0 c.requires.none.1 adds))
    c.make_from.ensures.made

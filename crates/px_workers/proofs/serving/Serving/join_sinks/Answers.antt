use Rattle.std.proofs.Common.{rules, ◌≡◌, ◌∙◌, ◌++◌, ◌∷◌, []}
use Rattle.px_workers.specs.Working.{lasting_of}
use Rattle.px_workers.proofs.Joining.{joined_one, lasting_on}
use Rattle.px_workers.proofs.serving.Serving.join_sinks.Goals as goal

pub loop-run-preserved : goal.loop-run-preserved
loop-run-preserved g c =
    let given = c.in-Some.run' in
    let back = c.join.result in
    let behind : c.loop-run.self.sinks.items ≡ c.pop_back.new.self.items ++ given ∷ [] = search rules in
    let front : c.push_front_reserved.new.self.items ≡ back ∷ c.loop-run.idle.items = search rules in
    record {
      parts = search rules;
      room = search rules;
      lasting = joined_one lasting_of c.loop-run.self.sinks.items c.pop_back.new.self.items c.loop-run.idle.items c.push_front_reserved.new.self.items given back behind front
          (lasting_on given back c.join.ensures.goes) ∙ c.loop-run.invariant.lasting;
    }

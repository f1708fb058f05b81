use Rattle.std.proofs.Common.{List, [], length, map, replicate, ap, sym, subst, ◌∙◌}
use Rattle.std.specs.List.{AllByRecursion}
use Rattle.px_flat.specs.FlatVolume.{new_group}
use Rattle.px_header.specs.HeaderRules.{AreSinks}
use Rattle.px_header.specs.declared.header.SinkSpec.{SinkSpec}
use Rattle.px_sinks.specs.Sinks.{IsOfHeader}
use Rattle.px_sinks.proofs.Sinks.{each_of_header}
use Rattle.px_state.proofs.start.new_tables.Goals as goal

pub queues_and_groups-requires : goal.queues_and_groups-requires
queues_and_groups-requires g c = subst (AllByRecursion IsOfHeader) (sym c.as_slice.ensures) (each_of_header [] c.args.header.now.sinks c.requires.sinks)

pub returns-clause-state : goal.returns-clause-state
returns-clause-state g c =
    let posted = c.in_ok-posted.ensures.queues ∙ ap (λ (sinks : List SinkSpec). replicate (length sinks) []) c.as_slice.ensures in
    let groups = c.in_ok-posted.ensures.groups ∙ ap (λ (sinks : List SinkSpec). map (λ s. new_group (SinkSpec.spec s).channels) sinks) c.as_slice.ensures in
    λ k. record {
      names = c.in_ok-names.ensures.names k;
      sinks = c.in_ok-names.ensures.sinks k;
      connections = c.new.ensures.items k;
      inputs = c.new-2.ensures k;
      lists = c.new-3.ensures k;
      waiting = c.new-4.ensures.items k;
      posted = posted k;
      delayed = c.new-5.ensures.items k;
      groups = groups k;
      clients_made = 0;
      inputs_made = 0;
    }

pub returns-clause-sinks : goal.returns-clause-sinks
returns-clause-sinks g c = subst (AreSinks []) (sym c.in_ok-names.ensures.sinks) c.requires.sinks

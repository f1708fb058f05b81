use Rattle.std.proofs.Common.{◌≡◌, Some, true, ap, subst, ◌∙◌}
use Rattle.std.specs.Option.{option_map}
use Rattle.px_names.specs.Names.{sink_named}
use Rattle.px_outcome.specs.declared.target.Named.{Named}
use Rattle.px_outcome.specs.Target.{target_of}
use Rattle.px_sinks.specs.Sinks.{group_named}
use Rattle.px_core.proofs.GroupLaws.{named_ready}
use Rattle.px_sinks.proofs.Sinks.{named_there}
use Rattle.px_core.proofs.handlers.create_by.Goals as goal

pub create-requires-clause-ready : goal.create-requires-clause-ready
create-requires-clause-ready g c =
    named_ready c.args.tables.now.sinks c.args.tables.now.inputs.items c.args.tables.now.groups.items c.args.tables.now.inputs_made c.requires.groups c.requires.inputs c.args.named
    (λ target e.
    named_there c.args.tables.now.sinks (sink_named c.args.tables.now.names c.args.fields.now.sink.index c.args.fields.now.sink.name true) target
    (subst (λ (named : Named). target_of named ≡ Some target)
    (c.requires.value) e))
    (option_map (λ group. group.now) c.group_named-group.result)
    (c.group_named-group.ensures ∙ ap (λ groups. group_named groups c.args.named) c.deref.ensures.value)

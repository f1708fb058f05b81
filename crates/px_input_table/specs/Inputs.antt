-- The changes of an input.
use Rattle.px_model.specs.declared.data.Attr.{Attr as Attributes}
use Rattle.px_outcome.specs.declared.input.Input.{Input}
use Rattle.px_types.specs.declared.ids.SinkId.{SinkId}
use Rattle.px_outcome.specs.declared.input.Standing.TheVariants.{Settled, Moving, Leaving}
use Rattle.px_outcome.specs.declared.input.Way.{Way}
use Rattle.px_outcome.specs.declared.input.Way.TheVariants.{Coming}

-- it has ended
abbrev pub leaving : Input → Input
leaving x = record x { standing = Leaving }

-- it has these buffer attributes
abbrev pub with_attr : Attributes → Input → Input
with_attr attr x = record x { attr = attr }

-- with this `way` of its stream
abbrev pub on_way : Way → Input → Input
on_way way x = record x { way = way }

-- it is to move to a sink
abbrev pub moving_to : SinkId → Input → Input
moving_to to x = record x { standing = Moving to }

-- it is settled on the sink, and its stream is still to be handed over
abbrev pub arrived_at : SinkId → Input → Input
arrived_at to x = record x { sink = to; standing = Settled; way = Coming }

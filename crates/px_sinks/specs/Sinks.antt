-- The sinks as commands see them.
use Rattle.std.specs.Prelude.{ℕ, ◌+◌, Bool, List, [], ◌∷◌, take, slice_get, Option, None, Some, Result, Ok, Err}
use Rattle.std.specs.Option.{option_map}
use Rattle.px_types.specs.declared.ids.SinkId.{SinkId}
use Rattle.px_types.specs.declared.error_code.ErrorCode.{ErrorCode}
use Rattle.px_types.specs.declared.error_code.ErrorCode.TheVariants.{Invalid}
use Rattle.px_header.specs.declared.header.SinkSpec.{SinkSpec}
use Rattle.px_header.specs.HeaderRules.{IsSink}
use Rattle.px_cmd.specs.declared.command.SinkRef.{SinkRef}
use Rattle.px_names.specs.Names.{Naming, sink_named}
use Rattle.px_flat.specs.FlatVolume.{FlatGroup}
use Rattle.px_outcome.specs.declared.input.Input.{Input}
use Rattle.px_outcome.specs.declared.target.Target.{Target}
use Rattle.px_outcome.specs.declared.target.Named.{Named}
use Rattle.px_outcome.specs.declared.target.Named.TheVariants.{Unclear, Unknown, Sink}
use Rattle.px_outcome.specs.Target.{target_of as target_in}

-- a sink of a header, whatever sinks precede it
abbrev pub IsOfHeader : SinkSpec → Type 0
IsOfHeader sink = (earlier : List SinkSpec) × IsSink earlier sink

-- its rate and its depth; a sink that doesn't exist has a rate of 1
abbrev pub rate_of : Option SinkSpec → ℕ
rate_of None = 1
rate_of (Some sink) = sink.spec.rate

abbrev pub rate_on : List SinkSpec → SinkId → ℕ
rate_on sinks index = rate_of (slice_get sinks index.0)

abbrev pub depth_of : Option SinkSpec → ℕ
depth_of None = 0
depth_of (Some sink) = sink.depth

-- the sink of an input, where both exist
abbrev pub sink_of : List SinkSpec → Option Input → Option SinkSpec
sink_of sinks None = None
sink_of sinks (Some x) = slice_get sinks x.sink.0

-- ---- the sink that a command names, and its group

abbrev pub target_of : SinkId → SinkSpec → Target
target_of index sink = record { index = index; name = sink.name; spec = sink.spec; map = sink.map; depth = sink.depth }

-- the sink with an index
abbrev pub target_at : List SinkSpec → SinkId → Option Target
target_at sinks index = option_map (target_of index) (slice_get sinks index.0)

abbrev pub found_as : SinkId → Option SinkSpec → Named
found_as index None = Unknown
found_as index (Some sink) = Sink (target_of index sink)

abbrev pub named_as : List SinkSpec → Result SinkId ErrorCode → Named
named_as sinks (Ok index) = found_as index (slice_get sinks index.0)
named_as sinks (Err Invalid) = Unclear
named_as sinks (Err code) = Unknown

-- by an index or a name, or by neither where `fallback` is true
abbrev pub named_by : Naming → List SinkSpec → SinkRef → Bool → Named
named_by names sinks sink fallback = named_as sinks (sink_named names sink.index sink.name fallback)

abbrev pub group_of : List FlatGroup → Option Target → Option FlatGroup
group_of groups None = None
group_of groups (Some target) = slice_get groups target.index.0

-- where the sink exists
abbrev pub group_named : List FlatGroup → Named → Option FlatGroup
group_named groups named = group_of groups (target_in named)

-- that of the sink that an input is on
abbrev pub group_under : List FlatGroup → Option Input → Option FlatGroup
group_under groups None = None
group_under groups (Some x) = slice_get groups x.sink.0

-- ---- all sinks, as commands see them

-- the most sinks of a header
abbrev pub MOST_SINKS : ℕ
MOST_SINKS = 16

-- these sinks, the first of which has index `from`
abbrev pub targets_from : ℕ → List SinkSpec → List Target
targets_from index [] = []
targets_from index (sink ∷ sinks) = target_of (record { 0 = index }) sink ∷ targets_from (index + 1) sinks

abbrev pub targets_of : List SinkSpec → List Target
targets_of sinks = targets_from 0 (take MOST_SINKS sinks)

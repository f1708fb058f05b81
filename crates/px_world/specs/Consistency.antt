-- The invariants of a running world: the core is consistent, each sink's mixer has the inputs that the core lists for it, and each parcel is a
-- consistent stream.
use Rattle.std.specs.Prelude.{◌≡◌, ℕ, List, length, Some, IfSome}
use Rattle.std.specs.List.{slice_get, AllByRecursion}
use Rattle.px_header.specs.declared.header.SinkSpec.{SinkSpec}
use Rattle.px_model.specs.Notice.{Notice}
use Rattle.px_model.specs.Stream.{Stream, IsStream}
use Rattle.px_model.specs.Sink.{IsSink, specs_of}
use Rattle.px_msg.specs.View.{sample_spec, notice_for}
use Rattle.px_state.specs.State.{State}
use Rattle.px_core.specs.Consistency.{IsConsistent}
use Rattle.px_core.specs.Orderly.{inputs_there}
use Rattle.px_core.specs.Parcels.{Brought, given_by, AllCarry}
use Rattle.px_world.specs.World.{Mixer}

-- the parcel that a stream moves in, where it does, is such a stream
abbrev pub HasStream : Brought Stream → Type 0
HasStream b = IfSome b.parcel IsStream

-- each parcel that the notice hands over is such a stream
abbrev pub GivesStream : Notice Stream → Type 0
GivesStream n = AllByRecursion HasStream (given_by (notice_for n))

-- `m` is the mixer of the sink at `index`
pub record IsMixerOf (core : State Stream) (index : ℕ) (s : SinkSpec) (m : Mixer) : Type 0 where
  pub spec : m.sink.spec ≡ sample_spec s.spec
  pub consistent : IsSink m.sink
  pub inputs : specs_of m.sink.inputs ≡ inputs_there core (record { 0 = index })
  pub gives : AllByRecursion GivesStream m.notices

pub record AreConsistent (core : State Stream) (mixers : List Mixer) : Type 0 where
  pub core_consistent : IsConsistent Stream.spec core
  pub carried : AllCarry HasStream core
  pub count : length mixers ≡ length core.sinks
  pub each : (index : ℕ) (s : SinkSpec) (m : Mixer) → slice_get core.sinks index ≡ Some s → slice_get mixers index ≡ Some m → IsMixerOf core index s m

-- What the host makes for a sink that has made no turn.
use Rattle.std.specs.Prelude.{◌≡◌, ℕ, [], List, Option, IfSome}
use Rattle.px_annals.specs.declared.entry.LaneEntry.{LaneEntry}
use Rattle.px_ends.specs.Visible.{WhereVisible}
use Rattle.px_ends.specs.Device.{DeviceState}
use Rattle.px_lane.specs.Lane.{IsAttached}
use Rattle.px_header.specs.declared.header.SinkSpec.{SinkSpec}
use Rattle.px_server.specs.Parts.{sink_for}

-- a device of the sink that has played nothing, and an empty recorder, where they are visible; neither has failed
pub record IsFresh (sink : SinkSpec) (device : DeviceState) (visible : Option (List LaneEntry)) (faults fulls : ℕ) : Type 0 where
  pub attached : IsAttached device (sink_for sink)
  pub unplayed : WhereVisible device.played (λ bytes. bytes ≡ [])
  pub unnoted : IfSome visible (λ entries. entries ≡ [])
  pub going : device.faults ≡ 0
  pub ready : (faults ≡ 0) × (fulls ≡ 0)

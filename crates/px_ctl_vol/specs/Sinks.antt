-- The volume of a sink and its mute: SET_SINK_VOLUME and SET_SINK_MUTE (PulseAudio: `command_set_volume` and `command_set_mute` of
-- pulsecore/protocol-native.c; that one volume is for all channels is own).
use Rattle.std.specs.Prelude.{ℕ, Bool, List, length, Option, Ok}
use Rattle.px_types.specs.declared.error_code.ErrorCode.TheVariants.{Invalid, NoEntity}
use Rattle.px_types.specs.declared.ids.SinkId.{SinkId}
use Rattle.px_flat.specs.FlatVolume.{FlatGroup, with_sink_volume, with_sink_mute}
use Rattle.px_msg.specs.declared.message.Msg.{Msg}
use Rattle.px_outcome.specs.declared.input.Input.{Input}
use Rattle.px_outcome.specs.declared.target.Named.{Named}
use Rattle.px_outcome.specs.declared.target.Target.{Target}
use Rattle.px_outcome.specs.Outcome.{OutcomeParts}
use Rattle.px_outcome.specs.Handled.{Handled, ◌>>=◌, check, present}
use Rattle.px_outcome.specs.Target.{is_clear, target_of}
use Rattle.px_ctl_vol.specs.Asked.{is_volume, fits}
use Rattle.px_ctl_vol.specs.Factors.{regrouped}

-- sets the volume of a sink with this group, where it fits the sink's channels, and its inputs follow
abbrev pub with_suiting_volume : {P : Type 0} → SinkId → FlatGroup → List Input → List ℕ → ℕ → Handled (OutcomeParts (Msg P) FlatGroup)
with_suiting_volume sink group inputs volume tag = do
  suits ← check (fits volume (length (FlatGroup.reference group))) Invalid
  Ok (regrouped sink (with_sink_volume volume group) inputs tag)

-- sets the volume of the named sink, with this group, and its inputs follow
abbrev pub set_sink_volume : {P : Type 0} → Named → Option FlatGroup → List Input → List ℕ → ℕ → Handled (OutcomeParts (Msg P) FlatGroup)
set_sink_volume named group inputs volume tag = do
  clear ← check (is_clear named) Invalid
  valid ← check (is_volume volume) Invalid
  sink ← present (target_of named) NoEntity
  group ← present group NoEntity
  with_suiting_volume (Target.index sink) group inputs volume tag

-- mutes or unmutes the named sink, with this group
abbrev pub set_sink_mute : {P : Type 0} → Named → Option FlatGroup → List Input → Bool → ℕ → Handled (OutcomeParts (Msg P) FlatGroup)
set_sink_mute named group inputs on tag = do
  clear ← check (is_clear named) Invalid
  sink ← present (target_of named) NoEntity
  group ← present group NoEntity
  Ok (regrouped (Target.index sink) (with_sink_mute on group) inputs tag)

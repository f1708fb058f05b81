-- The volume of an input and its mute: SET_SINK_INPUT_VOLUME and SET_SINK_INPUT_MUTE (PulseAudio: `command_set_volume` and `command_set_mute` of
-- pulsecore/protocol-native.c; that one volume is for all channels, and that a moving input is busy, is own).
use Rattle.std.specs.Prelude.{ℕ, Bool, not, List, length, Option, Ok}
use Rattle.px_types.specs.declared.error_code.ErrorCode.TheVariants.{Busy, Invalid, NoEntity}
use Rattle.px_flat.specs.declared.member.Member.{Member}
use Rattle.px_flat.specs.FlatVolume.{FlatGroup, member_of, with_input_volume, with_input_mute}
use Rattle.px_msg.specs.declared.message.Msg.{Msg}
use Rattle.px_outcome.specs.declared.input.Input.{Input}
use Rattle.px_outcome.specs.Input.{is_moving}
use Rattle.px_outcome.specs.Outcome.{OutcomeParts}
use Rattle.px_outcome.specs.Handled.{Handled, ◌>>=◌, check, present}
use Rattle.px_ctl_vol.specs.Asked.{is_volume, fits}
use Rattle.px_ctl_vol.specs.Factors.{regrouped}

-- sets the volume of an input that is in this group, where it fits the input's channels and the input isn't moving
abbrev pub with_suiting_volume : {P : Type 0} → Input → FlatGroup → List Input → List ℕ → ℕ → Handled (OutcomeParts (Msg P) FlatGroup)
with_suiting_volume x group inputs volume tag = do
  member ← present (member_of (FlatGroup.members group) (Input.index x)) NoEntity
  suits ← check (fits volume (length (Member.volume member))) Invalid
  free ← check (not (is_moving (Input.standing x))) Busy
  Ok (regrouped (Input.sink x) (with_input_volume (Input.index x) volume group) inputs tag)

-- sets the volume of the input, in this group of the sink that it is on; the sink and its other inputs follow
abbrev pub set_input_volume : {P : Type 0} → Option Input → Option FlatGroup → List Input → List ℕ → ℕ → Handled (OutcomeParts (Msg P) FlatGroup)
set_input_volume input group inputs volume tag = do
  valid ← check (is_volume volume) Invalid
  x ← present input NoEntity
  group ← present group NoEntity
  member ← present (member_of (FlatGroup.members group) (Input.index x)) NoEntity
  suits ← check (fits volume (length (Member.volume member))) Invalid
  free ← check (not (is_moving (Input.standing x))) Busy
  Ok (regrouped (Input.sink x) (with_input_volume (Input.index x) volume group) inputs tag)

-- mutes or unmutes the input, in this group of the sink that it is on
abbrev pub set_input_mute : {P : Type 0} → Option Input → Option FlatGroup → List Input → Bool → ℕ → Handled (OutcomeParts (Msg P) FlatGroup)
set_input_mute input group inputs on tag = do
  x ← present input NoEntity
  group ← present group NoEntity
  member ← present (member_of (FlatGroup.members group) (Input.index x)) NoEntity
  free ← check (not (is_moving (Input.standing x))) Busy
  Ok (regrouped (Input.sink x) (with_input_mute (Input.index x) on group) inputs tag)

-- A new input joins the group of its sink, with the volume that the client gave it (PulseAudio: `command_create_playback_stream` of
-- pulsecore/protocol-native.c, `pa_sink_input_new` of pulsecore/sink-input.c).
use Rattle.std.specs.Prelude.{◌≡◌, ℕ, Bool, true, false, not, cond, ◌||◌, nat_eq, List, [], ◌∷◌, length, Option, None, Some, unwrap_or, ⊤}
use Rattle.px_cmd.specs.declared.command.CreateFields.{CreateFields}
use Rattle.px_vol.specs.Volume.{norm}
use Rattle.px_flat.specs.declared.member.How.{How}
use Rattle.px_flat.specs.declared.member.How.TheVariants.{Absolute, Relative}
use Rattle.px_flat.specs.Channels.{greatest_of}
use Rattle.px_flat.specs.FlatVolume.{FlatGroup, member_of, attached}
use Rattle.px_outcome.specs.declared.input.Input.{Input}
use Rattle.px_outcome.specs.declared.target.Named.{Named}
use Rattle.px_outcome.specs.declared.target.Named.TheVariants.{Unclear, Unknown, Sink}
use Rattle.px_outcome.specs.declared.target.Target.{Target}
use Rattle.px_ctl_play.specs.Asked.{channels_on}

-- the client gave one volume for all channels of the input on its sink, or one each
abbrev pub gives_each : Target → CreateFields → Bool
gives_each sink a = nat_eq (length a.volume) 1 || nat_eq (length a.volume) (channels_on sink a)

-- the volumes given, on the channels that it has there: where their number is another, all get the greatest (own)
abbrev pub volume_on : Target → CreateFields → List ℕ
volume_on sink a = cond (gives_each sink a) a.volume (greatest_of a.volume ∷ [])

-- the client leaves the volume to the server: it has the field `volume_set`, which is false
abbrev pub leaves_volume : CreateFields → Bool
leaves_volume a = not (unwrap_or a.volume_set true)

-- its volume there: the neutral one, where the client leaves it to the server
abbrev pub given_on : Target → CreateFields → List ℕ
given_on sink a = cond (leaves_volume a) (norm ∷ []) (volume_on sink a)

-- how that volume is meant: a part of the sink's, where the client leaves it to the server or has `relative_volume` true; else as it is
abbrev pub how_on : CreateFields → How
how_on a = cond (leaves_volume a) Relative (cond (unwrap_or a.relative_volume false) Relative Absolute)

-- the group with the new input
abbrev pub joined : FlatGroup → Target → CreateFields → List ℕ → Input → FlatGroup
joined group sink a feed x = attached x.index (given_on sink a) (how_on a) a.muted feed group

-- ---- a group that a new input can join, where `made` inputs were ever made: it has its sink's channels, and not the new input yet

pub record IsReady (sink : Target) (made : ℕ) (group : FlatGroup) : Type 0 where
  pub channels : length group.reference ≡ sink.spec.channels
  pub new : member_of group.members (record { 0 = made }) ≡ None

-- the group of the named sink, where both exist
abbrev pub IsReadyAt : Named → ℕ → Option FlatGroup → Type 0
IsReadyAt Unclear made group = ⊤
IsReadyAt Unknown made group = ⊤
IsReadyAt (Sink sink) made None = ⊤
IsReadyAt (Sink sink) made (Some group) = IsReady sink made group

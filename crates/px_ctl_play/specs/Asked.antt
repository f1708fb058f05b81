-- The stream that a client asks for, and its sample spec, map and attributes on its sink (PulseAudio: `command_create_playback_stream` of
-- pulsecore/protocol-native.c; that other rates, floating point, passthrough and maps without a channel plan are refused is own).
use Rattle.std.specs.Prelude.{ℕ, Bool, false, not, cond, ◌&&◌, ◌||◌, nat_eq, nat_lt, nat_le, List, length, Option, unwrap_or}
use Rattle.std.specs.List.{list_all}
use Rattle.px_types.specs.declared.ids.SinkId.{SinkId}
use Rattle.px_tag.specs.declared.raw.RawSpec.{RawSpec}
use Rattle.px_cmd.specs.declared.command.CreateFields.{CreateFields}
use Rattle.px_sample.specs.declared.spec.Spec.{Spec}
use Rattle.px_sample.specs.Format.{code_of, format_with}
use Rattle.px_chmap.specs.Plan.{plan_of}
use Rattle.px_vol.specs.Volume.{greatest}
use Rattle.px_model.specs.declared.data.Attr.{Attr}
use Rattle.px_msg.specs.Repair.{repaired}
use Rattle.px_outcome.specs.declared.input.Connection.{Connection}
use Rattle.px_outcome.specs.declared.input.Input.{Input}
use Rattle.px_outcome.specs.declared.target.Target.{Target}
use Rattle.px_outcome.specs.Input.{bound_for, going_of}

-- ---- what is lawful

-- a valid sample spec (`pa_sample_spec_valid` of pulse/sample.c; the greatest rate is own): a known format, 1 to 32 channels, a rate up to 192,000
abbrev pub is_spec : RawSpec → Bool
is_spec spec = nat_le spec.format 12 && nat_lt 0 spec.channels && nat_le spec.channels 32 && nat_lt 0 spec.rate && nat_le spec.rate 192000

-- a position for each channel, each one of the 51 known
abbrev pub is_map : RawSpec → List ℕ → Bool
is_map spec positions = nat_eq (length positions) spec.channels && list_all (λ p. nat_le p 50) positions

-- one volume for each channel, or one for all of them
abbrev pub are_volumes : RawSpec → List ℕ → Bool
are_volumes spec volumes =
    (nat_eq (length volumes) 1 || nat_eq (length volumes) spec.channels) && list_all (λ v. nat_le v greatest) volumes

abbrev pub is_lawful : CreateFields → Bool
is_lawful a = is_spec a.spec && is_map a.spec a.map && are_volumes a.spec a.volume

-- ---- the stream on its sink: where the client says so, format, rate and channels are the sink's

abbrev pub format_on : Target → CreateFields → ℕ
format_on sink a = cond a.fix_format (code_of sink.spec.format) a.spec.format

abbrev pub rate_on : Target → CreateFields → ℕ
rate_on sink a = cond a.fix_rate sink.spec.rate a.spec.rate

abbrev pub channels_on : Target → CreateFields → ℕ
channels_on sink a = cond a.fix_channels sink.spec.channels a.spec.channels

abbrev pub positions_on : Target → CreateFields → List ℕ
positions_on sink a = cond a.fix_channels sink.map a.map

abbrev pub spec_on : Target → CreateFields → Spec
spec_on sink a = record { format = format_with (format_on sink a); channels = channels_on sink a; rate = rate_on sink a }

abbrev pub attr_on : Target → CreateFields → Attr
attr_on sink a = repaired (spec_on sink a) a.asked

-- ---- the streams that its sink plays

-- no floating point, no variable rate, the sink's own rate, and no passthrough, which a version without the field can't ask for
abbrev pub is_supported : Target → CreateFields → Bool
is_supported sink a =
    not (nat_eq (format_on sink a) 5) && not (nat_eq (format_on sink a) 6) && not a.variable_rate && nat_eq (rate_on sink a) sink.spec.rate
    && not (unwrap_or a.passthrough false)

-- the stream channel that feeds each of the sink's channels, by its channel map there, where there is a channel plan
abbrev pub feed_on : Target → CreateFields → Option (List ℕ)
feed_on sink a = plan_of (positions_on sink a) sink.map a.no_remap a.no_remix

-- ---- the room for it

-- the most inputs that are bound for one sink and that are live in all, and the number that no input and no stream has
abbrev pub MOST_ON_SINK : ℕ
MOST_ON_SINK = 256

abbrev pub MOST_IN_ALL : ℕ
MOST_IN_ALL = 1024

abbrev pub LAST_INDEX : ℕ
LAST_INDEX = 0xFFFFFFFF

-- there is room on the sink and in all, and an unused index and stream number are left
abbrev pub has_room : List Input → ℕ → Connection → SinkId → Bool
has_room inputs made me sink =
    nat_lt (length (bound_for inputs sink)) MOST_ON_SINK
    && nat_lt (length (going_of inputs)) MOST_IN_ALL
    && nat_lt made LAST_INDEX && nat_lt me.streams LAST_INDEX

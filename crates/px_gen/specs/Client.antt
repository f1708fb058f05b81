-- What the clients of a generated session send: each has a stream, the first three in stereo on the sink `a`, the fourth in mono on the sink `b`.
use Rattle.std.specs.Prelude.{ℕ, ◌-◌, Bool, false, List, [], ◌∷◌, ◌++◌, length, replicate, None, pos, ◌==◌, if◌then◌else◌}
use Rattle.std.specs.List.{flat_map}
use Rattle.px_tag.specs.declared.raw.RawSpec.{RawSpec}
use Rattle.px_tag.specs.Item.{number, text, flag, spec, channel_map, channel_volumes}
use Rattle.px_cmd.specs.declared.command.CreateFields.{CreateFields}
use Rattle.px_cmd.specs.declared.command.Command.{Command}
use Rattle.px_cmd.specs.declared.command.Command.TheVariants.{Auth, Create, InputVolume, Cork}
use Rattle.px_cmd.specs.Command.{number_of, fields_of}
use Rattle.px_cmd.specs.Law.{packet_of}
use Rattle.px_frame.specs.Descriptor.{descriptor_bytes, control_descriptor, data_descriptor}

-- the cookie of the header and of every client
abbrev pub cookie : List ℕ
cookie = replicate 256 0

-- the connection whose stream is in mono
abbrev pub is_mono : ℕ → Bool
is_mono conn = conn == 4

-- the sink that a connection's stream plays on, and the speaker positions of the stream
abbrev pub sink_of : ℕ → ℕ
sink_of conn = if is_mono conn then 1 else 0

abbrev pub map_of : ℕ → List ℕ
map_of conn = if is_mono conn then 0 ∷ [] else 1 ∷ 2 ∷ []

-- ---- commands

-- S16LE at 48,000 frames a second
abbrev pub spec_of : ℕ → RawSpec
spec_of conn = record { format = 3; channels = length (map_of conn); rate = 48000 }

-- the server chooses maxlength, tlength and minreq; prebuf is a byte: a frame is enough to begin
abbrev pub create_fields : ℕ → CreateFields
create_fields conn = record {
  spec = spec_of conn;
  map = map_of conn;
  sink = record { index = sink_of conn; name = None };
  asked = 0xFFFFFFFF ∷ 0xFFFFFFFF ∷ 1 ∷ 0xFFFFFFFF ∷ [];
  corked = false;
  syncid = 0xFFFFFFFF;
  volume = 65536 ∷ [];
  no_remap = false;
  no_remix = false;
  fix_format = false;
  fix_rate = false;
  fix_channels = false;
  no_move = false;
  variable_rate = false;
  muted = false;
  adjust_latency = false;
  list = [];
  volume_set = None;
  early_requests = None;
  muted_set = None;
  dont_inhibit_auto_suspend = None;
  fail_on_suspend = None;
  relative_volume = None;
  passthrough = None;
}

-- the packet of a command, with a tag
abbrev pub packet : ℕ → Command → List ℕ
packet tag command = packet_of (number_of command) tag (fields_of command)

unfoldable pub auth_packet : List ℕ
auth_packet = packet 0 (Auth 13 cookie)

-- the parts of its fields: the sample spec, the channel map and the sink; those up to the volume; the flags after it
abbrev pub shape : ℕ → List ℕ
shape conn = spec (spec_of conn) ++ channel_map (map_of conn) ++ number (sink_of conn) ++ text None

abbrev pub buffering : List ℕ
buffering = number 0xFFFFFFFF ++ flag false ++ number 0xFFFFFFFF ++ number 1 ++ number 0xFFFFFFFF ++ number 0xFFFFFFFF ++ channel_volumes (65536 ∷ [])

abbrev pub nine_flags : List ℕ
nine_flags = flat_map flag (replicate 9 false)

unfoldable pub create_packet : ℕ → List ℕ
create_packet conn = packet 1 (Create (create_fields conn))

-- the streams have the inputs 0 to 3 in the order of their connections
unfoldable pub volume_packet : ℕ → ℕ → List ℕ
volume_packet conn volume = packet 2 (InputVolume (conn - 1) (volume ∷ []))

unfoldable pub cork_packet : Bool → List ℕ
cork_packet on = packet 3 (Cork 0 on)

-- ---- frames

abbrev pub control_frame : List ℕ → List ℕ
control_frame bytes = descriptor_bytes (control_descriptor (length bytes)) ++ bytes

-- a write to the stream 0, at its write index
abbrev pub data_frame : List ℕ → List ℕ
data_frame bytes = descriptor_bytes (data_descriptor (length bytes) 0 (pos 0) 0) ++ bytes

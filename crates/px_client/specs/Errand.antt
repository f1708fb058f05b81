-- What a client sends: three commands, each in a frame of its own.
use Rattle.std.specs.Prelude.{ℕ, Bool, ◌+◌, ◌<◌, ◌≤◌, ◌^◌, ◌&&◌, nat_le, IsTrue, List, [], ◌∷◌, ◌++◌, codes, length, Some}
use Rattle.std.specs.List.{list_all}
use Rattle.px_tag.specs.PropList.{Property}
use Rattle.px_cmd.specs.declared.command.SinkRef.{SinkRef}
use Rattle.px_cmd.specs.declared.command.Command.{Command}
use Rattle.px_cmd.specs.declared.command.Command.TheVariants.{Auth, SetClientName, InputInfoList, InputVolume, InputMute, SinkVolume as set_sink_volume, Move as move_input, KillInput}
use Rattle.px_cmd.specs.Command.{number_of, fields_of}
use Rattle.px_cmd.specs.Law.{packet_of}
use Rattle.px_frame.specs.declared.frame.Frame.{Frame}
use Rattle.px_frame.specs.declared.frame.Body.TheVariants.{Control}
use Rattle.px_frame.specs.Descriptor.{descriptor_bytes, control_descriptor}
use Rattle.px_frame.specs.Frame.{offset_at}
use Rattle.px_client.specs.declared.errand.Errand.{Errand}
use Rattle.px_client.specs.declared.errand.Errand.TheVariants.{List as list_inputs, Volume, Mute, SinkVolume, Move, Kill}

-- ---- what an errand may name

-- the name of a sink: 1 to 64 bytes, all from 0x21 to 0x7E
abbrev pub is_name_byte : ℕ → Bool
is_name_byte byte = nat_le 0x21 byte && nat_le byte 0x7E

pub record IsName (name : List ℕ) : Type 0 where
  pub some : 1 ≤ length name
  pub few : length name ≤ 64
  pub bytes : IsTrue (list_all is_name_byte name)

-- a volume, linear in 16.16
abbrev pub IsVolume : ℕ → Type 0
IsVolume value = value ≤ 0x7FFFFFFF

abbrev pub IsErrand : Errand → Type 0
IsErrand list_inputs = Unit {0}
IsErrand (Volume input value) = IsVolume value
IsErrand (Mute input on) = Unit {0}
IsErrand (SinkVolume name value) = IsName name × IsVolume value
IsErrand (Move input name) = IsName name
IsErrand (Kill input) = Unit {0}

-- its numbers are of 32 bits
abbrev pub HasNumbers : Errand → Type 0
HasNumbers list_inputs = Unit {0}
HasNumbers (Volume input value) = input < 2 ^ 32
HasNumbers (Mute input on) = input < 2 ^ 32
HasNumbers (SinkVolume name value) = Unit {0}
HasNumbers (Move input name) = input < 2 ^ 32
HasNumbers (Kill input) = input < 2 ^ 32

-- ---- the commands

-- a sink that is named by its name
abbrev pub named : List ℕ → SinkRef
named name = record { index = 0xFFFFFFFF; name = Some name }

-- the command that does an errand
abbrev pub command_for : Errand → Command
command_for list_inputs = InputInfoList
command_for (Volume input value) = InputVolume input (value ∷ [])
command_for (Mute input on) = InputMute input on
command_for (SinkVolume name value) = set_sink_volume (named name) (value ∷ [])
command_for (Move input name) = move_input input (named name)
command_for (Kill input) = KillInput input

-- the client's properties: its name, with the zero byte that ends a text there
abbrev pub client_properties : List Property
client_properties = (codes "application.name", codes "pulse_rw ctl" ++ 0 ∷ []) ∷ []

-- the client shows its cookie and speaks version 18; then it says its name
abbrev pub auth_command : List ℕ → Command
auth_command cookie = Auth 18 cookie

abbrev pub name_command : Command
name_command = SetClientName client_properties

-- ---- the bytes

-- the packet of a command, with a tag
abbrev pub packet : ℕ → Command → List ℕ
packet tag command = packet_of (number_of command) tag (fields_of command)

unfoldable pub auth_packet : List ℕ → List ℕ
auth_packet cookie = packet 0 (auth_command cookie)

unfoldable pub name_packet : List ℕ
name_packet = packet 1 name_command

unfoldable pub errand_packet : Errand → List ℕ
errand_packet errand = packet 2 (command_for errand)

-- a packet in its frame
abbrev pub framed : List ℕ → List ℕ
framed bytes = descriptor_bytes (control_descriptor (length bytes)) ++ bytes

-- the frames of these packets, one after the other from an offset on
abbrev pub controls_from : ℕ → List (List ℕ) → List Frame
controls_from start [] = []
controls_from start (bytes ∷ more) = record { at = offset_at (start + 20); body = Control bytes } ∷ controls_from (start + length (framed bytes)) more

-- the packets that the client sends
abbrev pub packets_for : List ℕ → Errand → List (List ℕ)
packets_for cookie errand = auth_packet cookie ∷ name_packet ∷ errand_packet errand ∷ []

-- all bytes that the client sends
abbrev pub sent_for : List ℕ → Errand → List ℕ
sent_for cookie errand = framed (auth_packet cookie) ++ framed name_packet ++ framed (errand_packet errand)

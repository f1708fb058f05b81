-- The command that a packet means at a version of the protocol.
use Rattle.std.specs.Prelude.{◌≡◌, ℕ, Bool, nat_eq, nat_le, List, [], ◌∷◌, length, slice_get, Option, None, Some, is_some, Result, Ok, Err}
use Rattle.std.specs.Option.{option_and_then}
use Rattle.std.specs.Map.{lookup}
use Rattle.px_tag.specs.PropList.{Property}
use Rattle.px_cmd.specs.declared.command.SinkRef.{SinkRef}
use Rattle.px_cmd.specs.declared.command.CreateFields.{CreateFields}
use Rattle.px_cmd.specs.declared.command.Command.{Command}
use Rattle.px_cmd.specs.declared.command.Command.TheVariants as commands
use Rattle.px_cmd.specs.declared.fault.CmdFault.{CmdFault}
use Rattle.px_cmd.specs.declared.fault.CmdFault.TheVariants.{Unsupported}
use Rattle.px_cmd.specs.Field.{Field, Number, Flag, String, Cookie, SampleSpec, Positions, Volumes, TimeValue, Properties, Keys}
use Rattle.px_cmd.specs.Packet.{meaning}

-- ---- flags of later versions, by their places after the fields of version 13

abbrev pub flag_in : Field → Option Bool
flag_in (Flag on) = Some on
flag_in _ = None

-- the flag at a place, if it is there
abbrev pub flag_at : ℕ → List Field → Option Bool
flag_at place later = option_and_then flag_in (slice_get later place)

-- ---- the command with these fields, where they have its kinds

abbrev pub of_nothing : Command → List Field → Option Command
of_nothing command [] = Some command
of_nothing command _ = None

abbrev pub of_number : (ℕ → Command) → List Field → Option Command
of_number make (Number n ∷ []) = Some (make n)
of_number make _ = None

abbrev pub of_text : (Option (List ℕ) → Command) → List Field → Option Command
of_text make (String text ∷ []) = Some (make text)
of_text make _ = None

abbrev pub of_list : (List Property → Command) → List Field → Option Command
of_list make (Properties list ∷ []) = Some (make list)
of_list make _ = None

abbrev pub of_sink : (SinkRef → Command) → List Field → Option Command
of_sink make (Number index ∷ String name ∷ []) = Some (make (record { index = index; name = name }))
of_sink make _ = None

abbrev pub of_auth : List Field → Option Command
of_auth (Number version ∷ Cookie cookie ∷ []) = Some (commands.Auth version cookie)
of_auth _ = None

abbrev pub of_latency : List Field → Option Command
of_latency (Number stream ∷ TimeValue time ∷ []) = Some (commands.Latency stream time)
of_latency _ = None

abbrev pub of_sink_volume : List Field → Option Command
of_sink_volume (Number index ∷ String name ∷ Volumes volume ∷ []) = Some (commands.SinkVolume (record { index = index; name = name }) volume)
of_sink_volume _ = None

abbrev pub of_input_volume : List Field → Option Command
of_input_volume (Number input ∷ Volumes volume ∷ []) = Some (commands.InputVolume input volume)
of_input_volume _ = None

abbrev pub of_sink_mute : List Field → Option Command
of_sink_mute (Number index ∷ String name ∷ Flag on ∷ []) = Some (commands.SinkMute (record { index = index; name = name }) on)
of_sink_mute _ = None

abbrev pub of_switch : (ℕ → Bool → Command) → List Field → Option Command
of_switch make (Number n ∷ Flag on ∷ []) = Some (make n on)
of_switch make _ = None

abbrev pub of_stream_name : List Field → Option Command
of_stream_name (Number stream ∷ String name ∷ []) = Some (commands.StreamName stream name)
of_stream_name _ = None

abbrev pub of_move : List Field → Option Command
of_move (Number input ∷ Number index ∷ String name ∷ []) = Some (commands.Move input (record { index = index; name = name }))
of_move _ = None

abbrev pub of_attributes : List Field → Option Command
of_attributes (Number stream ∷ Number maxlength ∷ Number tlength ∷ Number prebuf ∷ Number minreq ∷ Flag adjust_latency ∷ later) =
    Some (commands.Attributes stream (maxlength ∷ tlength ∷ prebuf ∷ minreq ∷ []) adjust_latency (flag_at 0 later))
of_attributes _ = None

abbrev pub of_stream_update : List Field → Option Command
of_stream_update (Number stream ∷ Number mode ∷ Properties list ∷ []) = Some (commands.UpdateStream stream mode list)
of_stream_update _ = None

abbrev pub of_client_update : List Field → Option Command
of_client_update (Number mode ∷ Properties list ∷ []) = Some (commands.UpdateClient mode list)
of_client_update _ = None

abbrev pub of_stream_removal : List Field → Option Command
of_stream_removal (Number stream ∷ Keys keys ∷ []) = Some (commands.RemoveStream stream keys)
of_stream_removal _ = None

abbrev pub of_client_removal : List Field → Option Command
of_client_removal (Keys keys ∷ []) = Some (commands.RemoveClient keys)
of_client_removal _ = None

abbrev pub of_create : List Field → Option Command
of_create (SampleSpec spec ∷ Positions map ∷ Number index ∷ String name
    ∷ Number maxlength ∷ Flag corked ∷ Number tlength ∷ Number prebuf ∷ Number minreq ∷ Number syncid ∷ Volumes volume
    ∷ Flag no_remap ∷ Flag no_remix ∷ Flag fix_format ∷ Flag fix_rate ∷ Flag fix_channels ∷ Flag no_move ∷ Flag variable_rate ∷ Flag muted ∷ Flag adjust_latency
    ∷ Properties list ∷ later) = Some (commands.Create (record {
      spec = spec;
      map = map;
      sink = record { index = index; name = name };
      asked = maxlength ∷ tlength ∷ prebuf ∷ minreq ∷ [];
      corked = corked;
      syncid = syncid;
      volume = volume;
      no_remap = no_remap;
      no_remix = no_remix;
      fix_format = fix_format;
      fix_rate = fix_rate;
      fix_channels = fix_channels;
      no_move = no_move;
      variable_rate = variable_rate;
      muted = muted;
      adjust_latency = adjust_latency;
      list = list;
      volume_set = flag_at 0 later;
      early_requests = flag_at 1 later;
      muted_set = flag_at 2 later;
      dont_inhibit_auto_suspend = flag_at 3 later;
      fail_on_suspend = flag_at 4 later;
      relative_volume = flag_at 5 later;
      passthrough = flag_at 6 later;
    }))
of_create _ = None

-- ---- the command with a number and fields

abbrev pub makers : List (ℕ × (List Field → Option Command))
makers =
    (3, of_create)
    ∷ (72, of_attributes)
    ∷ (4, of_number commands.Delete)
    ∷ (8, of_auth)
    ∷ (9, of_list commands.SetClientName)
    ∷ (10, of_text commands.LookupSink)
    ∷ (12, of_number commands.Drain)
    ∷ (14, of_latency)
    ∷ (20, of_nothing commands.ServerInfo)
    ∷ (21, of_sink commands.SinkInfo)
    ∷ (22, of_nothing commands.SinkInfoList)
    ∷ (24, of_nothing (commands.EmptyList 24))
    ∷ (26, of_nothing (commands.EmptyList 26))
    ∷ (27, of_number commands.ClientInfo)
    ∷ (28, of_nothing commands.ClientInfoList)
    ∷ (29, of_number commands.InputInfo)
    ∷ (30, of_nothing commands.InputInfoList)
    ∷ (32, of_nothing (commands.EmptyList 32))
    ∷ (34, of_nothing (commands.EmptyList 34))
    ∷ (35, of_number commands.Subscribe)
    ∷ (36, of_sink_volume)
    ∷ (37, of_input_volume)
    ∷ (39, of_sink_mute)
    ∷ (41, of_switch commands.Cork)
    ∷ (42, of_number commands.Flush)
    ∷ (43, of_number commands.Trigger)
    ∷ (44, of_text commands.DefaultSink)
    ∷ (46, of_stream_name)
    ∷ (48, of_number commands.KillClient)
    ∷ (49, of_number commands.KillInput)
    ∷ (60, of_number commands.Prebuf)
    ∷ (67, of_move)
    ∷ (69, of_switch commands.InputMute)
    ∷ (81, of_stream_update)
    ∷ (82, of_client_update)
    ∷ (84, of_stream_removal)
    ∷ (85, of_client_removal)
    ∷ (89, of_nothing (commands.EmptyList 89))
    ∷ []

abbrev pub made_by : Option (List Field → Option Command) → List Field → Option Command
made_by None fields = None
made_by (Some make) fields = make fields

abbrev pub command_of : ℕ → List Field → Option Command
command_of number fields = made_by (lookup (nat_eq number) makers) fields

-- ---- the command that a packet means, or why it means none

abbrev pub command_or : ℕ → Option Command → Result Command CmdFault
command_or number None = Err (Unsupported number)
command_or number (Some command) = Ok command

abbrev pub command_by : Result (ℕ × List Field) CmdFault → Result Command CmdFault
command_by (Ok packet) = command_or packet.0 (command_of packet.0 packet.1)
command_by (Err fault) = Err fault

unfoldable pub meant : ℕ → List ℕ → Result Command CmdFault
meant version packet = command_by (meaning version packet)

-- ---- what a packet of a version can mean: it has four buffer attributes, and each flag of a later version exactly from that version on

abbrev pub IsFrom : ℕ → ℕ → Option Bool → Type 0
IsFrom since version flag = is_some flag ≡ nat_le since version

pub record AreFields (version : ℕ) (c : CreateFields) : Type 0 where
  pub asked : length c.asked ≡ 4
  pub volume_set : IsFrom 14 version c.volume_set
  pub early_requests : IsFrom 14 version c.early_requests
  pub muted_set : IsFrom 15 version c.muted_set
  pub dont_inhibit_auto_suspend : IsFrom 15 version c.dont_inhibit_auto_suspend
  pub fail_on_suspend : IsFrom 15 version c.fail_on_suspend
  pub relative_volume : IsFrom 17 version c.relative_volume
  pub passthrough : IsFrom 18 version c.passthrough

abbrev pub IsOfVersion : ℕ → Command → Type 0
IsOfVersion version (commands.Create fields) = AreFields version fields
IsOfVersion version (commands.Attributes stream asked adjust_latency early_requests) = (length asked ≡ 4) × IsFrom 14 version early_requests
IsOfVersion version _ = Unit {0}

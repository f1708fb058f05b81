-- The two commands of record streams, with their fields at a version of the protocol (`pulsecore/native-common.h`), and what a packet of one means.
use Rattle.std.specs.Prelude.{ℕ, nat_eq, List, [], ◌∷◌, ◌++◌, Option, None, Some, Result, Ok, Err}
use Rattle.std.specs.Map.{lookup}
use Rattle.px_tag.specs.Place.{Place}
use Rattle.px_cmd.specs.declared.fault.CmdFault.{CmdFault}
use Rattle.px_cmd.specs.declared.fault.CmdFault.TheVariants.{Unsupported}
use Rattle.px_cmd.specs.Command.{optional, sink_fields}
use Rattle.px_cmd.specs.Field.{Kind, u32, bool, string, sample_spec, positions, properties, Field, Number, Flag, String, SampleSpec, Positions, Properties}
use Rattle.px_cmd.specs.Packet.{fields_or}
use Rattle.px_cmd.specs.Table.{from_on}
use Rattle.px_monitor.specs.declared.fields.RecordFields.{RecordFields}
use Rattle.px_monitor.specs.declared.fields.Shape.{Shape}
use Rattle.px_monitor.specs.declared.fields.Buffering.{Buffering}
use Rattle.px_monitor.specs.declared.fields.Matching.{Matching}
use Rattle.px_monitor.specs.declared.fields.Manner.{Manner}
use Rattle.px_monitor.specs.declared.fields.Later.{Later}
use Rattle.px_monitor.specs.declared.fields.Whole.{Whole}
use Rattle.px_monitor.specs.declared.command.Request.{Request}
use Rattle.px_monitor.specs.declared.command.Request.TheVariants.{Create, Delete}

-- ---- the kinds of their fields

-- CREATE_RECORD_STREAM and DELETE_RECORD_STREAM
abbrev pub CREATE : ℕ
CREATE = 5

abbrev pub DELETE : ℕ
DELETE = 6

-- spec, map, source index, source name
abbrev pub shape_kinds : List Kind
shape_kinds = sample_spec ∷ positions ∷ u32 ∷ string ∷ []

-- maxlength, corked, fragsize
abbrev pub buffering_kinds : List Kind
buffering_kinds = u32 ∷ bool ∷ u32 ∷ []

-- no_remap, no_remix, fix_format, fix_rate, fix_channels
abbrev pub matching_kinds : List Kind
matching_kinds = bool ∷ bool ∷ bool ∷ bool ∷ bool ∷ []

-- no_move, variable_rate, peak_detect, adjust_latency, properties, direct input
abbrev pub manner_kinds : List Kind
manner_kinds = bool ∷ bool ∷ bool ∷ bool ∷ properties ∷ u32 ∷ []

-- from 14 on early_requests; from 15 on dont_inhibit_auto_suspend, fail_on_suspend
abbrev pub later_kinds : ℕ → List Kind
later_kinds version = from_on 14 version ++ from_on 15 version ++ from_on 15 version

abbrev pub create_kinds : ℕ → List Kind
create_kinds version = shape_kinds ++ (buffering_kinds ++ (matching_kinds ++ (manner_kinds ++ later_kinds version)))

-- the stream
abbrev pub delete_kinds : List Kind
delete_kinds = u32 ∷ []

-- the kinds of a command's fields, where it is one of the two
abbrev pub kinds_of : ℕ → ℕ → Option (List Kind)
kinds_of version number = lookup (nat_eq number) ((CREATE, create_kinds version) ∷ (DELETE, delete_kinds) ∷ [])

-- ---- their fields

abbrev pub shape_fields : Shape → List Field
shape_fields s = SampleSpec s.spec ∷ Positions s.map ∷ sink_fields s.source

abbrev pub buffering_fields : Buffering → List Field
buffering_fields b = Number b.maxlength ∷ Flag b.corked ∷ Number b.fragsize ∷ []

abbrev pub matching_fields : Matching → List Field
matching_fields m = Flag m.no_remap ∷ Flag m.no_remix ∷ Flag m.fix_format ∷ Flag m.fix_rate ∷ Flag m.fix_channels ∷ []

abbrev pub manner_fields : Manner → List Field
manner_fields m = Flag m.no_move ∷ Flag m.variable_rate ∷ Flag m.peak_detect ∷ Flag m.adjust_latency ∷ Properties m.list ∷ Number m.direct_input ∷ []

abbrev pub later_fields : Later → List Field
later_fields l = optional l.early_requests ++ optional l.dont_inhibit_auto_suspend ++ optional l.fail_on_suspend

abbrev pub create_fields : RecordFields → List Field
create_fields a =
    SampleSpec a.spec ∷ Positions a.map ∷ Number a.source.index ∷ String a.source.name
    ∷ Number a.maxlength ∷ Flag a.corked ∷ Number a.fragsize
    ∷ Flag a.no_remap ∷ Flag a.no_remix ∷ Flag a.fix_format ∷ Flag a.fix_rate ∷ Flag a.fix_channels
    ∷ Flag a.no_move ∷ Flag a.variable_rate ∷ Flag a.peak_detect ∷ Flag a.adjust_latency ∷ Properties a.list ∷ Number a.direct_input ∷ []

abbrev pub whole_fields : Whole → List Field
whole_fields w = create_fields w.fields ++ later_fields w.later

-- ---- the command with these fields, where they have its kinds; the flags of later versions have no effect

abbrev pub create_of : List Field → Option Request
create_of (SampleSpec spec ∷ Positions map ∷ Number index ∷ String name
    ∷ Number maxlength ∷ Flag corked ∷ Number fragsize
    ∷ Flag no_remap ∷ Flag no_remix ∷ Flag fix_format ∷ Flag fix_rate ∷ Flag fix_channels
    ∷ Flag no_move ∷ Flag variable_rate ∷ Flag peak_detect ∷ Flag adjust_latency ∷ Properties list ∷ Number direct_input ∷ later) = Some (Create (record {
      spec = spec;
      map = map;
      source = record { index = index; name = name };
      maxlength = maxlength;
      corked = corked;
      fragsize = fragsize;
      no_remap = no_remap;
      no_remix = no_remix;
      fix_format = fix_format;
      fix_rate = fix_rate;
      fix_channels = fix_channels;
      no_move = no_move;
      variable_rate = variable_rate;
      peak_detect = peak_detect;
      adjust_latency = adjust_latency;
      list = list;
      direct_input = direct_input;
    }))
create_of _ = None

abbrev pub delete_of : List Field → Option Request
delete_of (Number stream ∷ []) = Some (Delete stream)
delete_of _ = None

abbrev pub made_by : Option (List Field → Option Request) → List Field → Option Request
made_by None fields = None
made_by (Some make) fields = make fields

abbrev pub request_of : ℕ → List Field → Option Request
request_of number fields = made_by (lookup (nat_eq number) ((CREATE, create_of) ∷ (DELETE, delete_of) ∷ [])) fields

-- ---- what follows the number and the tag of a packet

abbrev pub request_or : ℕ → Option Request → Result Request CmdFault
request_or number None = Err (Unsupported number)
request_or number (Some request) = Ok request

abbrev pub request_by : ℕ → Result (List Field) CmdFault → Result Request CmdFault
request_by number (Ok fields) = request_or number (request_of number fields)
request_by number (Err fault) = Err fault

-- the command with this number whose fields take all that is left of the packet; else the first fault in them
unfoldable pub request_at : ℕ → ℕ → Place → Result Request CmdFault
request_at version number place = request_by number (fields_or (kinds_of version number) number place)

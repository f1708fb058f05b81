-- The number and the fields of a command.
use Rattle.std.specs.Prelude.{ℕ, Bool, ◌||◌, nat_eq, IsTrue, List, [], ◌∷◌, ◌++◌, slice_index, Option, None, Some}
use Rattle.px_cmd.specs.declared.command.SinkRef.{SinkRef}
use Rattle.px_cmd.specs.declared.command.CreateFields.{CreateFields}
use Rattle.px_cmd.specs.declared.command.Command.{Command}
use Rattle.px_cmd.specs.declared.command.Command.TheVariants as commands
use Rattle.px_cmd.specs.Field.{Field, Number, Flag, String, Cookie, SampleSpec, Positions, Volumes, TimeValue, Properties, Keys}

-- a field that depends on the connection's version, if it is there
abbrev pub optional : Option Bool → List Field
optional None = []
optional (Some b) = Flag b ∷ []

abbrev pub sink_fields : SinkRef → List Field
sink_fields sink = Number sink.index ∷ String sink.name ∷ []

abbrev pub create_fields : CreateFields → List Field
create_fields c =
    SampleSpec c.spec ∷ Positions c.map ∷ Number c.sink.index ∷ String c.sink.name
    ∷ Number (slice_index c.asked 0) ∷ Flag c.corked ∷ Number (slice_index c.asked 1) ∷ Number (slice_index c.asked 2) ∷ Number (slice_index c.asked 3)
    ∷ Number c.syncid ∷ Volumes c.volume
    ∷ Flag c.no_remap ∷ Flag c.no_remix ∷ Flag c.fix_format ∷ Flag c.fix_rate ∷ Flag c.fix_channels ∷ Flag c.no_move ∷ Flag c.variable_rate ∷ Flag c.muted ∷ Flag c.adjust_latency
    ∷ Properties c.list
    ∷ optional c.volume_set ++ optional c.early_requests ++ optional c.muted_set ++ optional c.dont_inhibit_auto_suspend ++ optional c.fail_on_suspend ++ optional c.relative_volume ++ optional c.passthrough

abbrev pub fields_of : Command → List Field
fields_of (commands.Auth version cookie) = Number version ∷ Cookie cookie ∷ []
fields_of (commands.SetClientName list) = Properties list ∷ []
fields_of (commands.LookupSink name) = String name ∷ []
fields_of (commands.Create fields) = create_fields fields
fields_of (commands.Delete stream) = Number stream ∷ []
fields_of (commands.Drain stream) = Number stream ∷ []
fields_of (commands.Latency stream time) = Number stream ∷ TimeValue time ∷ []
fields_of commands.ServerInfo = []
fields_of (commands.SinkInfo sink) = sink_fields sink
fields_of commands.SinkInfoList = []
fields_of (commands.ClientInfo client) = Number client ∷ []
fields_of commands.ClientInfoList = []
fields_of (commands.InputInfo input) = Number input ∷ []
fields_of commands.InputInfoList = []
fields_of (commands.EmptyList number) = []
fields_of (commands.Subscribe mask) = Number mask ∷ []
fields_of (commands.SinkVolume sink volume) = sink_fields sink ++ Volumes volume ∷ []
fields_of (commands.InputVolume input volume) = Number input ∷ Volumes volume ∷ []
fields_of (commands.SinkMute sink on) = sink_fields sink ++ Flag on ∷ []
fields_of (commands.InputMute input on) = Number input ∷ Flag on ∷ []
fields_of (commands.Cork stream on) = Number stream ∷ Flag on ∷ []
fields_of (commands.Flush stream) = Number stream ∷ []
fields_of (commands.Trigger stream) = Number stream ∷ []
fields_of (commands.Prebuf stream) = Number stream ∷ []
fields_of (commands.DefaultSink name) = String name ∷ []
fields_of (commands.StreamName stream name) = Number stream ∷ String name ∷ []
fields_of (commands.KillClient client) = Number client ∷ []
fields_of (commands.KillInput input) = Number input ∷ []
fields_of (commands.Move input sink) = Number input ∷ sink_fields sink
fields_of (commands.Attributes stream asked adjust_latency early_requests) =
    Number stream ∷ Number (slice_index asked 0) ∷ Number (slice_index asked 1) ∷ Number (slice_index asked 2) ∷ Number (slice_index asked 3) ∷ Flag adjust_latency ∷ optional early_requests
fields_of (commands.UpdateStream stream mode list) = Number stream ∷ Number mode ∷ Properties list ∷ []
fields_of (commands.UpdateClient mode list) = Number mode ∷ Properties list ∷ []
fields_of (commands.RemoveStream stream keys) = Number stream ∷ Keys keys ∷ []
fields_of (commands.RemoveClient keys) = Keys keys ∷ []

abbrev pub number_of : Command → ℕ
number_of (commands.Auth version cookie) = 8
number_of (commands.SetClientName list) = 9
number_of (commands.LookupSink name) = 10
number_of (commands.Create fields) = 3
number_of (commands.Delete stream) = 4
number_of (commands.Drain stream) = 12
number_of (commands.Latency stream time) = 14
number_of commands.ServerInfo = 20
number_of (commands.SinkInfo sink) = 21
number_of commands.SinkInfoList = 22
number_of (commands.ClientInfo client) = 27
number_of commands.ClientInfoList = 28
number_of (commands.InputInfo input) = 29
number_of commands.InputInfoList = 30
number_of (commands.EmptyList number) = number
number_of (commands.Subscribe mask) = 35
number_of (commands.SinkVolume sink volume) = 36
number_of (commands.InputVolume input volume) = 37
number_of (commands.SinkMute sink on) = 39
number_of (commands.InputMute input on) = 69
number_of (commands.Cork stream on) = 41
number_of (commands.Flush stream) = 42
number_of (commands.Trigger stream) = 43
number_of (commands.Prebuf stream) = 60
number_of (commands.DefaultSink name) = 44
number_of (commands.StreamName stream name) = 46
number_of (commands.KillClient client) = 48
number_of (commands.KillInput input) = 49
number_of (commands.Move input sink) = 67
number_of (commands.Attributes stream asked adjust_latency early_requests) = 72
number_of (commands.UpdateStream stream mode list) = 81
number_of (commands.UpdateClient mode list) = 82
number_of (commands.RemoveStream stream keys) = 84
number_of (commands.RemoveClient keys) = 85

-- the commands whose lists are always empty
abbrev pub is_empty_list : ℕ → Bool
is_empty_list number = nat_eq number 24 || nat_eq number 26 || nat_eq number 32 || nat_eq number 34 || nat_eq number 89

-- EmptyList has the number of one of these commands
abbrev pub IsNumbered : Command → Type 0
IsNumbered (commands.EmptyList number) = IsTrue (is_empty_list number)
IsNumbered _ = Unit {0}

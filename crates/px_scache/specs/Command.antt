-- The five commands of the sample cache, with their fields, the same at every version of the protocol (`pulsecore/native-common.h`), and
-- what a packet of one means.
use Rattle.std.specs.Prelude.{ℕ, nat_eq, List, [], ◌∷◌, Option, None, Some, Result, Ok, Err}
use Rattle.std.specs.Map.{lookup}
use Rattle.px_tag.specs.declared.fault.TagFault.{TagFault}
use Rattle.px_tag.specs.Place.{Place, start_of}
use Rattle.px_cmd.specs.declared.fault.CmdFault.{CmdFault}
use Rattle.px_cmd.specs.declared.fault.CmdFault.TheVariants.{Protocol, Unsupported}
use Rattle.px_cmd.specs.Field.{Kind, u32, string, sample_spec, positions, properties, Field, Number, String, SampleSpec, Positions, Properties}
use Rattle.px_cmd.specs.Packet.{fields_or, head_at}
use Rattle.px_scache.specs.declared.fields.UploadFields.{UploadFields}
use Rattle.px_scache.specs.declared.fields.PlayFields.{PlayFields}
use Rattle.px_scache.specs.declared.command.Request.{Request}
use Rattle.px_scache.specs.declared.command.Request.TheVariants.{Upload, Delete, Finish, Play, Remove}

-- ---- their numbers and the kinds of their fields

abbrev pub CREATE_UPLOAD : ℕ
CREATE_UPLOAD = 15

abbrev pub DELETE_UPLOAD : ℕ
DELETE_UPLOAD = 16

abbrev pub FINISH_UPLOAD : ℕ
FINISH_UPLOAD = 17

abbrev pub PLAY : ℕ
PLAY = 18

abbrev pub REMOVE : ℕ
REMOVE = 19

-- name, spec, map, length, properties
abbrev pub upload_kinds : List Kind
upload_kinds = string ∷ sample_spec ∷ positions ∷ u32 ∷ properties ∷ []

-- the stream
abbrev pub stream_kinds : List Kind
stream_kinds = u32 ∷ []

-- sink index, sink name, volume, name, properties
abbrev pub play_kinds : List Kind
play_kinds = u32 ∷ string ∷ u32 ∷ string ∷ properties ∷ []

-- the name
abbrev pub remove_kinds : List Kind
remove_kinds = string ∷ []

-- the kinds of a command's fields, where it is one of the five
abbrev pub kinds_of : ℕ → Option (List Kind)
kinds_of number = lookup (nat_eq number)
    ((CREATE_UPLOAD, upload_kinds) ∷ (DELETE_UPLOAD, stream_kinds) ∷ (FINISH_UPLOAD, stream_kinds) ∷ (PLAY, play_kinds) ∷ (REMOVE, remove_kinds) ∷ [])

-- ---- their fields

abbrev pub upload_fields : UploadFields → List Field
upload_fields a = String a.name ∷ SampleSpec a.spec ∷ Positions a.map ∷ Number a.length ∷ Properties a.list ∷ []

abbrev pub play_fields : PlayFields → List Field
play_fields a = Number a.sink.index ∷ String a.sink.name ∷ Number a.volume ∷ String a.name ∷ Properties a.list ∷ []

-- ---- the command with these fields, where they have its kinds

abbrev pub upload_from : List Field → Option Request
upload_from (String name ∷ SampleSpec spec ∷ Positions map ∷ Number length ∷ Properties list ∷ []) =
    Some (Upload (record { name = name; spec = spec; map = map; length = length; list = list }))
upload_from _ = None

abbrev pub stream_from : (ℕ → Request) → List Field → Option Request
stream_from make (Number stream ∷ []) = Some (make stream)
stream_from make _ = None

abbrev pub play_from : List Field → Option Request
play_from (Number index ∷ String sink ∷ Number volume ∷ String name ∷ Properties list ∷ []) =
    Some (Play (record { sink = record { index = index; name = sink }; volume = volume; name = name; list = list }))
play_from _ = None

abbrev pub remove_from : List Field → Option Request
remove_from (String name ∷ []) = Some (Remove name)
remove_from _ = None

abbrev pub made_by : Option (List Field → Option Request) → List Field → Option Request
made_by None fields = None
made_by (Some make) fields = make fields

abbrev pub request_of : ℕ → List Field → Option Request
request_of number fields = made_by (lookup (nat_eq number)
    ((CREATE_UPLOAD, upload_from) ∷ (DELETE_UPLOAD, stream_from Delete) ∷ (FINISH_UPLOAD, stream_from Finish) ∷ (PLAY, play_from) ∷ (REMOVE, remove_from) ∷ []))
    fields

-- ---- what follows the number and the tag of a packet

abbrev pub request_or : ℕ → Option Request → Result Request CmdFault
request_or number None = Err (Unsupported number)
request_or number (Some request) = Ok request

abbrev pub request_by : ℕ → Result (List Field) CmdFault → Result Request CmdFault
request_by number (Ok fields) = request_or number (request_of number fields)
request_by number (Err fault) = Err fault

-- the command with this number whose fields take all that is left of the packet; else the first fault in them
unfoldable pub request_at : ℕ → Place → Result Request CmdFault
request_at number place = request_by number (fields_or (kinds_of number) number place)

-- ---- a whole packet

abbrev pub number_of : Request → ℕ
number_of (Upload a) = CREATE_UPLOAD
number_of (Delete stream) = DELETE_UPLOAD
number_of (Finish stream) = FINISH_UPLOAD
number_of (Play a) = PLAY
number_of (Remove name) = REMOVE

abbrev pub fields_of : Request → List Field
fields_of (Upload a) = upload_fields a
fields_of (Delete stream) = Number stream ∷ []
fields_of (Finish stream) = Number stream ∷ []
fields_of (Play a) = play_fields a
fields_of (Remove name) = String name ∷ []

abbrev pub request_after : Result ((ℕ × ℕ) × Place) TagFault → Result Request CmdFault
request_after (Err fault) = Err (Protocol fault)
request_after (Ok head) = request_at head.0.0 head.1

-- the command that a packet means, whatever its tag
unfoldable pub meant : List ℕ → Result Request CmdFault
meant packet = request_after (head_at (start_of packet))

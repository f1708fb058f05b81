-- The commands, each with the kinds of its fields, by number (`pulsecore/native-common.h`): those of version 13, and what later versions add.
use Rattle.std.specs.Prelude.{ℕ, cond, nat_eq, nat_le, List, [], ◌∷◌, ◌++◌, Option}
use Rattle.std.specs.Option.{option_map}
use Rattle.std.specs.Map.{lookup}
use Rattle.px_cmd.specs.Field.{Kind, u32, bool, string, cookie, sample_spec, positions, volumes, time_value, properties, keys}

abbrev pub no_fields : List Kind
no_fields = []

-- ---- version 13

-- CREATE_PLAYBACK_STREAM: spec, map, sink index, sink name, maxlength, corked, tlength, prebuf, minreq, syncid, volume,
-- no_remap, no_remix, fix_format, fix_rate, fix_channels, no_move, variable_rate, muted, adjust_latency, properties
abbrev pub create_kinds : List Kind
create_kinds = sample_spec ∷ positions ∷ u32 ∷ string ∷ u32 ∷ bool ∷ u32 ∷ u32 ∷ u32 ∷ u32 ∷ volumes ∷ bool ∷ bool ∷ bool ∷ bool ∷ bool ∷ bool ∷ bool ∷ bool ∷ bool ∷ properties ∷ []

-- SET_PLAYBACK_STREAM_BUFFER_ATTR: stream, maxlength, tlength, prebuf, minreq, adjust_latency
abbrev pub attributes_kinds : List Kind
attributes_kinds = u32 ∷ u32 ∷ u32 ∷ u32 ∷ u32 ∷ bool ∷ []

-- the commands whose fields no later version adds to
abbrev pub steady_table : List (ℕ × List Kind)
steady_table =
    (4, u32 ∷ [])  -- DELETE_PLAYBACK_STREAM
    ∷ (8, u32 ∷ cookie ∷ [])  -- AUTH
    ∷ (9, properties ∷ [])  -- SET_CLIENT_NAME
    ∷ (10, string ∷ [])  -- LOOKUP_SINK
    ∷ (12, u32 ∷ [])  -- DRAIN_PLAYBACK_STREAM
    ∷ (14, u32 ∷ time_value ∷ [])  -- GET_PLAYBACK_LATENCY
    ∷ (20, no_fields)  -- GET_SERVER_INFO
    ∷ (21, u32 ∷ string ∷ [])  -- GET_SINK_INFO
    ∷ (22, no_fields)  -- GET_SINK_INFO_LIST
    ∷ (24, no_fields)  -- GET_SOURCE_INFO_LIST
    ∷ (26, no_fields)  -- GET_MODULE_INFO_LIST
    ∷ (27, u32 ∷ [])  -- GET_CLIENT_INFO
    ∷ (28, no_fields)  -- GET_CLIENT_INFO_LIST
    ∷ (29, u32 ∷ [])  -- GET_SINK_INPUT_INFO
    ∷ (30, no_fields)  -- GET_SINK_INPUT_INFO_LIST
    ∷ (32, no_fields)  -- GET_SOURCE_OUTPUT_INFO_LIST
    ∷ (34, no_fields)  -- GET_SAMPLE_INFO_LIST
    ∷ (35, u32 ∷ [])  -- SUBSCRIBE
    ∷ (36, u32 ∷ string ∷ volumes ∷ [])  -- SET_SINK_VOLUME
    ∷ (37, u32 ∷ volumes ∷ [])  -- SET_SINK_INPUT_VOLUME
    ∷ (39, u32 ∷ string ∷ bool ∷ [])  -- SET_SINK_MUTE
    ∷ (41, u32 ∷ bool ∷ [])  -- CORK_PLAYBACK_STREAM
    ∷ (42, u32 ∷ [])  -- FLUSH_PLAYBACK_STREAM
    ∷ (43, u32 ∷ [])  -- TRIGGER_PLAYBACK_STREAM
    ∷ (44, string ∷ [])  -- SET_DEFAULT_SINK
    ∷ (46, u32 ∷ string ∷ [])  -- SET_PLAYBACK_STREAM_NAME
    ∷ (48, u32 ∷ [])  -- KILL_CLIENT
    ∷ (49, u32 ∷ [])  -- KILL_SINK_INPUT
    ∷ (60, u32 ∷ [])  -- PREBUF_PLAYBACK_STREAM
    ∷ (67, u32 ∷ u32 ∷ string ∷ [])  -- MOVE_SINK_INPUT
    ∷ (69, u32 ∷ bool ∷ [])  -- SET_SINK_INPUT_MUTE
    ∷ (81, u32 ∷ u32 ∷ properties ∷ [])  -- UPDATE_PLAYBACK_STREAM_PROPLIST
    ∷ (82, u32 ∷ properties ∷ [])  -- UPDATE_CLIENT_PROPLIST
    ∷ (84, u32 ∷ keys ∷ [])  -- REMOVE_PLAYBACK_STREAM_PROPLIST
    ∷ (85, keys ∷ [])  -- REMOVE_CLIENT_PROPLIST
    ∷ (89, no_fields)  -- GET_CARD_INFO_LIST
    ∷ []

abbrev pub table : List (ℕ × List Kind)
table = (3, create_kinds) ∷ (72, attributes_kinds) ∷ steady_table

abbrev pub steady_kinds : ℕ → Option (List Kind)
steady_kinds number = lookup (nat_eq number) steady_table

-- ---- versions 14 to 18, each at the end of what the version before has

-- a flag that versions have from `since` on
abbrev pub from_on : ℕ → ℕ → List Kind
from_on since version = cond (nat_le since version) (bool ∷ []) []

-- CREATE_PLAYBACK_STREAM: volume_set, early_requests, muted_set, dont_inhibit_auto_suspend, fail_on_suspend, relative_volume, passthrough
abbrev pub create_later : ℕ → List Kind
create_later version = from_on 14 version ++ from_on 14 version ++ from_on 15 version ++ from_on 15 version ++ from_on 15 version ++ from_on 17 version ++ from_on 18 version

-- what the versions up to this one add to a command's fields; SET_PLAYBACK_STREAM_BUFFER_ATTR gets early_requests
abbrev pub added : ℕ → ℕ → List Kind
added version number = cond (nat_eq number 3) (create_later version) (cond (nat_eq number 72) (from_on 14 version) [])

-- ---- every version

-- the kinds of a command's fields, or none where the command isn't in the table
abbrev pub kinds_of : ℕ → ℕ → Option (List Kind)
kinds_of version number = option_map (λ kinds. kinds ++ added version number) (lookup (nat_eq number) table)

-- the greatest number that the protocol knows at all
abbrev pub last_command : ℕ
last_command = 104

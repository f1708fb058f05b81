-- The property lists of clients and of sink inputs (PulseAudio: `command_update_proplist`, `command_remove_proplist` and `command_set_stream_name` of
-- pulsecore/protocol-native.c; that a missing key refuses the whole removal, and the greatest length of a name, are own).
use Rattle.std.specs.Prelude.{ℕ, ◌-◌, Bool, cond, ◌&&◌, nat_eq, nat_lt, nat_le, List, [], ◌∷◌, ◌++◌, codes, fold, length, slice_index, take, Option, None, Some, Ok}
use Rattle.std.specs.List.{list_all}
use Rattle.px_types.specs.declared.error_code.ErrorCode.TheVariants.{Invalid, NoEntity}
use Rattle.px_tag.specs.Item.{is_text}
use Rattle.px_tag.specs.PropList.{Property, has_key, value_of, with_value, without, updated}
use Rattle.px_tag.specs.declared.mode.Mode.{Mode}
use Rattle.px_tag.specs.declared.mode.Mode.TheVariants.{Set, Merge, Replace}
use Rattle.px_names.specs.declared.client.Client.{Client}
use Rattle.px_names.specs.declared.input_lists.InputList.{InputList}
use Rattle.px_names.specs.InputLists.{list_of as list_of_input}
use Rattle.px_reply.specs.Front.{reply_to}
use Rattle.px_outcome.specs.declared.change.Change.TheVariants.{Named, Described}
use Rattle.px_outcome.specs.declared.input.Connection.{Connection}
use Rattle.px_outcome.specs.declared.input.Input.{Input}
use Rattle.px_outcome.specs.Outcome.{OutcomeParts, replied}
use Rattle.px_outcome.specs.Handled.{Handled, ◌>>=◌, check, present}

-- ---- the name in an object's list

-- the text before the zero byte, where that is the last byte and the only zero
abbrev pub text_in : List ℕ → Option (List ℕ)
text_in bytes = cond
    (nat_lt 0 (length bytes) && nat_eq (slice_index bytes (length bytes - 1)) 0 && is_text (take (length bytes - 1) bytes))
    (Some (take (length bytes - 1) bytes))
    None

abbrev pub text_of : Option (List ℕ) → Option (List ℕ)
text_of None = None
text_of (Some bytes) = text_in bytes

-- the text under a key, where its value is one
abbrev pub text_under : List Property → List ℕ → Option (List ℕ)
text_under list key = text_of (value_of list key)

-- ---- changes of a list

-- a client's list
abbrev pub list_of : Option Client → List Property
list_of None = []
list_of (Some client) = client.list

-- the mode with a number, 0 to 2
abbrev pub mode_of : ℕ → Option Mode
mode_of number = cond (nat_eq number 0) (Some Set) (cond (nat_eq number 1) (Some Merge) (cond (nat_eq number 2) (Some Replace) None))

-- the list has each of these keys
abbrev pub has_keys : List Property → List (List ℕ) → Bool
has_keys list keys = list_all (has_key list) keys

-- the list without these keys
abbrev pub without_keys : List Property → List (List ℕ) → List Property
without_keys list keys = fold without list keys

-- ---- the commands

-- UPDATE_CLIENT_PROPLIST
abbrev pub update_client : {M G : Type 0} → Option Client → Connection → ℕ → ℕ → List Property → Handled (OutcomeParts M G)
update_client client me tag number list = do
  mode ← present (mode_of number) Invalid
  Ok (replied (reply_to tag) (Named me.conn (updated mode (list_of client) list) ∷ []))

-- REMOVE_CLIENT_PROPLIST
abbrev pub remove_client : {M G : Type 0} → Option Client → Connection → ℕ → List (List ℕ) → Handled (OutcomeParts M G)
remove_client client me tag keys = do
  there ← check (has_keys (list_of client) keys) NoEntity
  Ok (replied (reply_to tag) (Named me.conn (without_keys (list_of client) keys) ∷ []))

-- ---- the commands on a connection's stream, whose input exists and has a list among these

-- UPDATE_PLAYBACK_STREAM_PROPLIST
abbrev pub update_stream : {M G : Type 0} → Option Input → List InputList → ℕ → ℕ → List Property → Handled (OutcomeParts M G)
update_stream stream lists tag number list = do
  x ← present stream NoEntity
  mode ← present (mode_of number) Invalid
  Ok (replied (reply_to tag) (Described (Input.index x) (updated mode (list_of_input lists (Input.index x)) list) ∷ []))

-- REMOVE_PLAYBACK_STREAM_PROPLIST
abbrev pub remove_stream : {M G : Type 0} → Option Input → List InputList → ℕ → List (List ℕ) → Handled (OutcomeParts M G)
remove_stream stream lists tag keys = do
  x ← present stream NoEntity
  there ← check (has_keys (list_of_input lists (Input.index x)) keys) NoEntity
  Ok (replied (reply_to tag) (Described (Input.index x) (without_keys (list_of_input lists (Input.index x)) keys) ∷ []))

-- the key of a stream's name, and the greatest length of a name in bytes
abbrev pub STREAM_NAME : List ℕ
STREAM_NAME = codes "media.name"

abbrev pub MOST_NAME : ℕ
MOST_NAME = 65535

-- the name, where a stream can have it
abbrev pub name_in : Option (List ℕ) → Option (List ℕ)
name_in None = None
name_in (Some name) = cond (nat_le (length name) MOST_NAME) (Some name) None

-- the list with this name: its text, followed by a zero byte
abbrev pub with_name : List Property → List ℕ → List Property
with_name list name = with_value list STREAM_NAME (name ++ 0 ∷ [])

-- SET_PLAYBACK_STREAM_NAME
abbrev pub set_stream_name : {M G : Type 0} → Option Input → List InputList → ℕ → Option (List ℕ) → Handled (OutcomeParts M G)
set_stream_name stream lists tag name = do
  x ← present stream NoEntity
  text ← present (name_in name) Invalid
  Ok (replied (reply_to tag) (Described (Input.index x) (with_name (list_of_input lists (Input.index x)) text) ∷ []))

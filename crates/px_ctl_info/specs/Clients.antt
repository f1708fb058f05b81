-- The commands on clients (PulseAudio: `command_auth`, `command_set_client_name`, `command_get_info`, `command_get_info_list`, `command_subscribe`
-- and `command_kill` of pulsecore/protocol-native.c).
use Rattle.std.specs.Prelude.{ℕ, ◌/◌, ◌%◌, ◌^◌, min, Bool, not, cond, ◌||◌, nat_eq, nat_le, List, [], ◌∷◌, ◌++◌, codes, map, is_some, Option, None, Some, Ok}
use Rattle.std.specs.List.{find}
use Rattle.px_types.specs.declared.error_code.ErrorCode.TheVariants.{Access, BadState, Invalid, NoEntity, Version}
use Rattle.px_tag.specs.PropList.{Property, updated}
use Rattle.px_tag.specs.declared.mode.Mode.TheVariants.{Replace}
use Rattle.px_tag.specs.Item.{number}
use Rattle.px_names.specs.declared.client.Client.{Client}
use Rattle.px_names.specs.Names.{Naming, same_text}
use Rattle.px_reply.specs.declared.info.ClientInfo.{ClientInfo}
use Rattle.px_reply.specs.Front.{reply_to}
use Rattle.px_reply.specs.Info.{with_client, clients_reply}
use Rattle.px_outcome.specs.declared.change.Change.{Change}
use Rattle.px_outcome.specs.declared.change.Change.TheVariants.{Authed, Named, Masked, Ended}
use Rattle.px_outcome.specs.declared.input.Connection.{Connection}
use Rattle.px_outcome.specs.declared.sending.Reason.TheVariants.{Killed}
use Rattle.px_outcome.specs.Outcome.{OutcomeParts, replied}
use Rattle.px_outcome.specs.Handled.{Handled, ◌>>=◌, check, present}
use Rattle.px_ctl_info.specs.Properties.{text_under}

-- ---- a client authenticates, and names itself

-- the greatest version that the server speaks
abbrev pub SERVER_VERSION : ℕ
SERVER_VERSION = 18

-- the least version that it accepts
abbrev pub LEAST_VERSION : ℕ
LEAST_VERSION = 13

-- the version that a client names: the upper half of the number offers shared memory
abbrev pub version_in : ℕ → ℕ
version_in version = version % 2 ^ 16

-- the version that both speak
abbrev pub common_version : ℕ → ℕ
common_version version = min SERVER_VERSION (version_in version)

-- a connection's AUTH is accepted: the reply has the server's version
abbrev pub let_in : {M G : Type 0} → Connection → ℕ → ℕ → OutcomeParts M G
let_in me tag version = replied (reply_to tag ++ number SERVER_VERSION) (Authed me.conn (common_version version) ∷ [])

-- AUTH: refused after a successful one, then for an old version, then for another cookie
abbrev pub auth : {M G : Type 0} → Naming → Connection → ℕ → ℕ → List ℕ → Handled (OutcomeParts M G)
auth names me tag version cookie = do
  first ← check (not (is_some me.version)) BadState
  spoken ← check (nat_le LEAST_VERSION (version_in version)) Version
  known ← check (same_text cookie names.cookie) Access
  Ok (let_in me tag version)

-- a client's list with each key of another list set
abbrev pub list_with : Option Client → List Property → List Property
list_with None list = list
list_with (Some client) list = updated Replace client.list list

-- SET_CLIENT_NAME: each key of the list is set, and the reply gives the client's index
abbrev pub set_client_name : {M G : Type 0} → Option Client → Connection → ℕ → List Property → Handled (OutcomeParts M G)
set_client_name client me tag list = Ok (replied (reply_to tag ++ number me.client) (Named me.conn (list_with client list) ∷ []))

-- ---- the infos of clients

-- the key of a client's name
abbrev pub NAME : List ℕ
NAME = codes "application.name"

abbrev pub info_of : Client → ClientInfo
info_of client = record { index = client.index; name = text_under client.list NAME; list = client.list }

-- GET_CLIENT_INFO
abbrev pub client_info : {M G : Type 0} → Option Client → ℕ → Handled (OutcomeParts M G)
client_info client tag = do
  client ← present client NoEntity
  Ok (replied (with_client (reply_to tag) (info_of client)) [])

-- GET_CLIENT_INFO_LIST
abbrev pub client_infos : {M G : Type 0} → List Client → ℕ → Handled (OutcomeParts M G)
client_infos clients tag = Ok (replied (clients_reply tag (map info_of clients)) [])

-- ---- subscriptions

-- bits of existing facilities: 1 to 128, and 512
abbrev pub is_mask : ℕ → Bool
is_mask mask = nat_eq (mask / 256) 0 || nat_eq (mask / 256) 2

-- SUBSCRIBE
abbrev pub subscribe : {M G : Type 0} → Connection → ℕ → ℕ → Handled (OutcomeParts M G)
subscribe me tag mask = do
  known ← check (is_mask mask) Invalid
  Ok (replied (reply_to tag) (Masked me.conn mask ∷ []))

-- ---- a client is ended by another

-- it is the connection of the client with an index
abbrev pub is_of : ℕ → Connection → Bool
is_of client c = nat_eq c.client client

abbrev pub connection_with : List Connection → ℕ → Option Connection
connection_with connections client = find (is_of client) connections

-- its connection ends, where it is live
abbrev pub killed : {M G : Type 0} → Connection → List (Change M G)
killed c = cond c.marked [] (Ended c.conn (Some Killed) 0 0 ∷ [])

-- KILL_CLIENT
abbrev pub kill_client : {M G : Type 0} → Option Connection → ℕ → Handled (OutcomeParts M G)
kill_client client tag = do
  c ← present client NoEntity
  Ok (replied (reply_to tag) (killed c))

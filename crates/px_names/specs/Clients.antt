-- The clients in order of connecting: the client of a number, and the change of one of them.
use Rattle.std.specs.Prelude.{ℕ, Bool, cond, nat_eq, List, [], ◌∷◌, Option, None, Some}
use Rattle.std.specs.List.{find}
use Rattle.px_tag.specs.PropList.{updated}
use Rattle.px_tag.specs.declared.mode.Mode.{Mode}
use Rattle.px_tag.specs.PropList.{Property}
use Rattle.px_types.specs.declared.ids.ConnId.{ConnId}
use Rattle.px_names.specs.declared.client.Client.{Client}

-- whether the client is that of this connection
abbrev pub is_on : ConnId → Client → Bool
is_on conn client = nat_eq client.conn.0 conn.0

-- whether the client has this index
abbrev pub has_index : ℕ → Client → Bool
has_index index client = nat_eq client.index index

-- the client of a connection
abbrev pub client_on : List Client → ConnId → Option Client
client_on clients conn = find (is_on conn) clients

-- the client with an index
abbrev pub client_numbered : List Client → ℕ → Option Client
client_numbered clients index = find (has_index index) clients

-- the clients, with the first that passes a test changed
abbrev pub change_first : (Client → Bool) → (Client → Client) → List Client → List Client
change_first is change [] = []
change_first is change (c ∷ clients) = cond (is c) (change c ∷ clients) (c ∷ change_first is change clients)

-- the clients without the first that passes a test
abbrev pub without_first : (Client → Bool) → List Client → List Client
without_first is [] = []
without_first is (c ∷ clients) = cond (is c) clients (c ∷ without_first is clients)

abbrev pub with_mask : ℕ → Client → Client
with_mask mask client = record client { mask = mask }

abbrev pub with_list : List Property → Client → Client
with_list list client = record client { list = list }

abbrev pub with_update : Mode → List Property → Client → Client
with_update mode list client = record client { list = updated mode client.list list }

-- the facilities that a connection subscribes to; none where it has no client
abbrev pub mask_of : Option Client → ℕ
mask_of None = 0
mask_of (Some client) = client.mask

-- a client as it connects
abbrev pub new_client : ConnId → ℕ → Client
new_client conn index = record { conn = conn; index = index; mask = 0; list = [] }

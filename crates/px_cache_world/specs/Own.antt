-- The connection that the server has of its own, on which samples are played.
use Rattle.std.specs.Prelude.{ℕ, Bool, nat_eq, List, [], ◌∷◌, ◌++◌, codes}
use Rattle.px_types.specs.declared.ids.ConnId.{ConnId}
use Rattle.px_tag.specs.PropList.{Property}
use Rattle.px_cmd.specs.declared.command.Command.{Command}
use Rattle.px_cmd.specs.declared.command.Command.TheVariants.{Auth, SetClientName}
use Rattle.px_frame.specs.declared.frame.Body.TheVariants.{Control}
use Rattle.px_frame.specs.Spelling.{spelling_of}
use Rattle.px_scache.specs.Play.{packet}

-- its number, which no client has
abbrev pub HIDDEN : ConnId
HIDDEN = record { 0 = 0xFFFFFFFF }

abbrev pub is_hidden : ConnId → Bool
is_hidden conn = nat_eq conn.0 0xFFFFFFFF

-- ---- how it begins: with the cookie, in version 18, and with a name, which a zero byte ends

abbrev pub own_properties : List Property
own_properties = (codes "application.name", codes "sample-cache" ++ 0 ∷ []) ∷ []

abbrev pub auth_command : List ℕ → Command
auth_command cookie = Auth 18 cookie

abbrev pub name_command : Command
name_command = SetClientName own_properties

unfoldable pub auth_packet : List ℕ → List ℕ
auth_packet cookie = packet 0 (auth_command cookie)

unfoldable pub name_packet : List ℕ
name_packet = packet 1 name_command

abbrev pub auth_frame : List ℕ → List ℕ
auth_frame cookie = spelling_of (Control (auth_packet cookie))

abbrev pub name_frame : List ℕ
name_frame = spelling_of (Control name_packet)

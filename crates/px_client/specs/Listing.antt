-- The text of a list of sink inputs.
use Rattle.std.specs.Prelude.{ℕ, Bool, true, false, List, [], ◌∷◌, ◌++◌, codes, decimal, fold}
use Rattle.px_client.specs.declared.inputs.Input.{Input}
use Rattle.px_client.specs.declared.end.ClientEnd.{ClientEnd}
use Rattle.px_client.specs.declared.end.ClientEnd.TheVariants as ends

-- bytes, followed by a comma and a number
abbrev pub with_next : List ℕ → ℕ → List ℕ
with_next bytes n = bytes ++ codes "," ++ decimal n

-- bytes, followed by numbers with commas between them
abbrev pub with_volumes : List ℕ → List ℕ → List ℕ
with_volumes bytes [] = bytes
with_volumes bytes (first ∷ others) = fold with_next (bytes ++ decimal first) others

abbrev pub mute_text : Bool → List ℕ
mute_text true = codes " mute yes\n"
mute_text false = codes " mute no\n"

-- bytes, followed by the line of an input, with its line end
abbrev pub with_line : List ℕ → Input → List ℕ
with_line bytes i = with_volumes (bytes ++ codes "input " ++ decimal i.index ++ codes " sink " ++ decimal i.sink ++ codes " volume ") i.volume ++ mute_text i.mute

-- one line after the other
abbrev pub listing : List Input → List ℕ
listing inputs = fold with_line [] inputs

-- what the log says of an end, without prefix and line end; nothing of `Ok`
abbrev pub log_text : ClientEnd → List ℕ
log_text ends.Ok = []
log_text ends.Memory = codes "out of memory"
log_text ends.WriteFault = codes "write failed"
log_text ends.Host = codes "host failed"
log_text (ends.Denied code) = codes "server refused " ++ decimal code
log_text (ends.BadReply at) = codes "bad reply at " ++ decimal at
log_text ends.Gone = codes "server gone"
log_text ends.Silent = codes "server silent"

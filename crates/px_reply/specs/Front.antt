-- The common parts of the server's packets.
use Rattle.std.specs.Prelude.{ℕ, List, ◌++◌, codes, slice_index, Some}
use Rattle.px_tag.specs.Item.{number, text}

-- a reply: 2, and the tag of the command that it answers
abbrev pub reply_to : ℕ → List ℕ
reply_to tag = number 2 ++ number tag

-- an error: 0, the tag, the code
abbrev pub refusal : ℕ → ℕ → List ℕ
refusal tag code = number 0 ++ number tag ++ number code

-- a message: its command, and the tag that no reply has
abbrev pub message : ℕ → List ℕ
message command = number command ++ number 0xFFFFFFFF

-- an index that names nothing
abbrev pub nothing : ℕ
nothing = 0xFFFFFFFF

-- the driver of every object
abbrev pub driver : List ℕ
driver = text (Some (codes "pulse_rw"))

-- bytes, followed by maxlength, tlength, prebuf and minreq
abbrev pub with_attributes : List ℕ → List ℕ → List ℕ
with_attributes bytes attr = bytes ++ number (slice_index attr 0) ++ number (slice_index attr 1) ++ number (slice_index attr 2) ++ number (slice_index attr 3)

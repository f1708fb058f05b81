-- What sets the two forms of a session apart.
use Rattle.std.specs.Prelude.{ℕ, ◌<◌, ◌^◌, Bool, true, false}
use Rattle.std.specs.Int.{Width, w32, w64}
use Rattle.px_session.specs.declared.form.Form.{Form}
use Rattle.px_session.specs.declared.form.Form.TheVariants.{One, Two}

-- the last letter of a session's first word
abbrev pub letter : Form → ℕ
letter One = 0x31
letter Two = 0x32

-- the width of a count and of a length
abbrev pub width : Form → Width
width One = w32
width Two = w64

-- a count or a length fits its field
abbrev pub IsCount : Form → ℕ → Type 0
IsCount One n = n < 2 ^ 32
IsCount Two n = n < 2 ^ 64

-- the longest Bytes event
abbrev pub most_bytes : Form → ℕ
most_bytes One = 65536
most_bytes Two = 1048576

-- there are Stop events
abbrev pub has_stop : Form → Bool
has_stop One = false
has_stop Two = true

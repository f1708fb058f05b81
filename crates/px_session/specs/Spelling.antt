-- The one spelling of a header, of an event, and of a session, in each form. Numbers are big-endian.
use Rattle.std.specs.Prelude.{ℕ, List, [], ◌∷◌, ◌++◌, length}
use Rattle.std.specs.List.{flat_map}
use Rattle.std.specs.Int.{w32, to_be_bytes}
use Rattle.px_sample.specs.Format.{code_of}
use Rattle.px_header.specs.declared.header.SinkSpec.{SinkSpec}
use Rattle.px_header.specs.declared.header.Header.{Header}
use Rattle.px_session.specs.declared.event.Event.{Event}
use Rattle.px_session.specs.declared.event.Event.TheVariants.{Connect, Bytes, Close, Cut, Turn, Collect, Stop}
use Rattle.px_session.specs.declared.form.Form.{Form}
use Rattle.px_session.specs.Form.{letter, width}

abbrev pub word : ℕ → List ℕ
word n = to_be_bytes w32 n

-- a count or a length
abbrev pub count : Form → ℕ → List ℕ
count form n = to_be_bytes (width form) n

-- the first four bytes of a session: PRS1 or PRS2
abbrev pub magic : Form → List ℕ
magic form = 0x50 ∷ 0x52 ∷ 0x53 ∷ letter form ∷ []

unfoldable pub sink : SinkSpec → List ℕ
sink s =
    length s.name ∷ s.name
    ++ (code_of s.spec.format ∷ s.spec.channels ∷ word s.spec.rate)
    ++ s.map
    ++ word s.guard
    ++ word s.depth

unfoldable pub header : Form → Header → List ℕ
header form h = magic form ++ h.cookie ++ (length h.sinks ∷ flat_map sink h.sinks)

-- the first form has no Stop
unfoldable pub event : Form → Event → List ℕ
event form (Connect conn) = 1 ∷ word conn.0
event form (Bytes conn bytes) = 2 ∷ word conn.0 ++ count form (length bytes) ++ bytes
event form (Close conn) = 3 ∷ word conn.0
event form (Cut conn) = 4 ∷ word conn.0
event form (Turn sink frames messages) = 5 ∷ sink ∷ count form frames ++ count form messages
event form (Collect sink notices) = 6 ∷ sink ∷ count form notices
event form (Stop sink) = 7 ∷ sink.0 ∷ []

-- the byte that ends a session, and an output
abbrev pub end_byte : ℕ
end_byte = 0

-- a whole session
abbrev pub spelled : Form → Header → List Event → List ℕ
spelled form h events = header form h ++ flat_map (event form) events ++ (end_byte ∷ [])

-- A header file: its bytes are a header of either form, and nothing after it.
use Rattle.std.specs.Prelude.{◌≡◌, ℕ, List, length, Result, Ok, Err, ◌==◌, if◌then◌else◌}
use Rattle.px_header.specs.declared.header.Header.{Header}
use Rattle.px_session.specs.declared.fault.Cause.TheVariants.{Trailing}
use Rattle.px_session.specs.declared.fault.ReadError.{ReadError}
use Rattle.px_session.specs.declared.fault.ReadError.TheVariants.{Refused, Failed, NoMemory}
use Rattle.px_session.specs.declared.form.Form.{Form}
use Rattle.px_session.specs.Place.{Place, Refusal, start_of}
use Rattle.px_session.specs.HeaderReading.{header_at}

-- what was read ends at `size`, the end of the file, or trailing bytes are refused
abbrev pub whole : ℕ → Result ((Form × Header) × Place) Refusal → Result Header Refusal
whole size (Ok read) = if read.1.at == size then Ok read.0.1 else Err (record { at = read.1.at; cause = Trailing })
whole size (Err refusal) = Err refusal

-- the header that the bytes are, or the first rule that they break
abbrev pub header_of : List ℕ → Result Header Refusal
header_of bytes = whole (length bytes) (header_at (start_of bytes))

abbrev pub HeaderGives : Result Header ReadError → List ℕ → Type 0
HeaderGives (Ok header) bytes = header_of bytes ≡ Ok header
HeaderGives (Err (Refused at cause)) bytes = header_of bytes ≡ Err (record { at = at; cause = cause })
HeaderGives (Err Failed) bytes = ⊥
HeaderGives (Err NoMemory) bytes = Unit {0}

-- the header at the front of the bytes, which ends at `end`, or the first rule that they break
abbrev pub FirstGives : Result Header ReadError → List ℕ → ℕ → Type 0
FirstGives (Ok header) bytes end = (form : Form) × (place : Place) × (header_at (start_of bytes) ≡ Ok ((form, header), place)) × (place.at ≡ end)
FirstGives (Err (Refused at cause)) bytes end = header_at (start_of bytes) ≡ Err (record { at = at; cause = cause })
FirstGives (Err Failed) bytes end = ⊥
FirstGives (Err NoMemory) bytes end = Unit {0}

-- The grammar of an output: a record for each thing that the server did, in order, and then the end byte. Numbers are big-endian.
use Rattle.std.specs.Prelude.{ℕ, List, [], ◌∷◌, ◌++◌, length}
use Rattle.std.specs.Int.{w64, to_be_bytes}
use Rattle.px_session.specs.Spelling.{word, end_byte}
use Rattle.px_session.specs.declared.output.OutRecord.{OutRecord}
use Rattle.px_session.specs.declared.output.OutRecord.TheVariants.{Sent, Closed, Played, Stopped}

-- a frame was sent to the client of a connection
unfoldable pub sent_record : ℕ → List ℕ → List ℕ
sent_record conn bytes = 1 ∷ word conn ++ word (length bytes) ++ bytes

-- the server has ended a connection
unfoldable pub closed_record : ℕ → ℕ → ℕ → ℕ → List ℕ
closed_record conn reason fault at = 2 ∷ word conn ++ (reason ∷ fault ∷ to_be_bytes w64 at)

-- a sink's device has consumed frames with these bytes
unfoldable pub played_record : ℕ → ℕ → List ℕ → List ℕ
played_record sink frames bytes = 3 ∷ sink ∷ word frames ++ bytes

-- a sink has stopped, with so many frames filled
unfoldable pub stopped_record : ℕ → ℕ → List ℕ
stopped_record sink filled = 4 ∷ sink ∷ to_be_bytes w64 filled

abbrev pub record_of : OutRecord → List ℕ
record_of (Sent conn bytes) = sent_record conn.0 bytes.now
record_of (Closed conn reason fault at) = closed_record conn.0 reason fault at
record_of (Played sink frames bytes) = played_record sink frames bytes.now
record_of (Stopped sink filled) = stopped_record sink filled

-- the records, and then the end byte
abbrev pub ended_output : List ℕ → List ℕ
ended_output records = records ++ end_byte ∷ []

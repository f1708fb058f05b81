-- What a packet means at a version of the protocol: its command's number and fields, or why it means none.
use Rattle.std.specs.Prelude.{◌≡◌, ℕ, List, Option, None, Some, Result, Ok, Err, nat_lt, if◌then◌else◌}
use Rattle.px_tag.specs.declared.fault.TagFault.{TagFault}
use Rattle.px_tag.specs.Place.{Place, Reading, start_of, ◌>>=◌}
use Rattle.px_tag.specs.Reading.{number_at, end_at}
use Rattle.px_cmd.specs.declared.fault.CmdFault.{CmdFault}
use Rattle.px_cmd.specs.declared.fault.CmdFault.TheVariants.{Protocol, Unknown, Unsupported, NoMemory}
use Rattle.px_cmd.specs.Field.{Kind, Field, fields_at}
use Rattle.px_cmd.specs.declared.command.Command.{Command}
use Rattle.px_cmd.specs.Command.{fields_of, number_of}
use Rattle.px_cmd.specs.Table.{kinds_of, last_command}

-- the command's number and the tag that its reply will have
unfoldable pub head_at : Reading (ℕ × ℕ)
head_at place = do
  command ← number_at place
  tag ← number_at command.1
  Ok ((command.0, tag.0), tag.1)

-- exactly fields of these kinds, up to the packet's end
abbrev pub all_fields : List Kind → Place → Result (List Field) TagFault
all_fields kinds place = fields_at kinds place >>= λ fields. end_at fields.1 >>= λ nothing. Ok fields.0

abbrev pub protocol : {A : Type 0} → Result A TagFault → Result A CmdFault
protocol (Ok x) = Ok x
protocol (Err fault) = Err (Protocol fault)

-- the fields of the command with this number, which take all that is left
abbrev pub fields_or : Option (List Kind) → ℕ → Place → Result (List Field) CmdFault
fields_or None command place = Err (Unsupported command)
fields_or (Some kinds) command place = protocol (all_fields kinds place)

unfoldable pub command_at : ℕ → ℕ → Place → Result (List Field) CmdFault
command_at version command place = if nat_lt last_command command then Err (Unknown command) else fields_or (kinds_of version command) command place

abbrev pub with_number : ℕ → Result (List Field) CmdFault → Result (ℕ × List Field) CmdFault
with_number command (Ok fields) = Ok (command, fields)
with_number command (Err fault) = Err fault

abbrev pub meant_behind : ℕ → Result ((ℕ × ℕ) × Place) TagFault → Result (ℕ × List Field) CmdFault
meant_behind version (Err fault) = Err (Protocol fault)
meant_behind version (Ok head) = with_number head.0.0 (command_at version head.0.0 head.1)

-- the command number and the fields of a packet
unfoldable pub meaning : ℕ → List ℕ → Result (ℕ × List Field) CmdFault
meaning version packet = meant_behind version (head_at (start_of packet))

-- ---- the answers of the calls

-- NoMemory leaves the reading open; no part of a packet is found unknown or unsupported
abbrev pub Fails : {Y : Type 0} → CmdFault → Result Y TagFault → Type 0
Fails (Protocol fault) read = read ≡ Err fault
Fails (Unknown command) read = ⊥
Fails (Unsupported command) read = ⊥
Fails NoMemory read = Unit {0}

-- A call for a part of a packet answered what is read there, and the reader is past it; or it answered the fault.
abbrev pub Takes : {X Y : Type 0} → (X → Y) → Result X CmdFault → Place → Result (Y × Place) TagFault → Type 0
Takes view (Ok x) after read = read ≡ Ok (view x, after)
Takes view (Err fault) after read = Fails fault read

-- the same for a whole packet
abbrev pub FailsAs : {Y : Type 0} → CmdFault → Result Y CmdFault → Type 0
FailsAs (Protocol fault) read = read ≡ Err (Protocol fault)
FailsAs (Unknown command) read = read ≡ Err (Unknown command)
FailsAs (Unsupported command) read = read ≡ Err (Unsupported command)
FailsAs NoMemory read = Unit {0}

abbrev pub Answers : {X Y : Type 0} → (X → Y) → Result X CmdFault → Result Y CmdFault → Type 0
Answers view (Ok x) read = read ≡ Ok (view x)
Answers view (Err fault) read = FailsAs fault read

-- the same for the front of a packet, which takes no memory
abbrev pub HeadGives : {X Y : Type 0} → (X → Y) → Result X TagFault → Place → Result (Y × Place) TagFault → Type 0
HeadGives view (Ok x) after read = read ≡ Ok (view x, after)
HeadGives view (Err fault) after read = read ≡ Err fault

abbrev pub FrontGives : {X Y : Type 0} → (X → Y) → Result X TagFault → Result (Y × Place) TagFault → Type 0
FrontGives view (Ok x) read = (after : Place) × (read ≡ Ok (view x, after))
FrontGives view (Err fault) read = read ≡ Err fault

-- the same for the fields of a command, whose number is known
abbrev pub taken : Option (List Kind) → ℕ → Place → Result (List Field × Place) CmdFault
taken None command place = Err (Unsupported command)
taken (Some kinds) command place = protocol (fields_at kinds place)

abbrev pub Reaches : Result Command CmdFault → ℕ → Place → Result (List Field × Place) CmdFault → Type 0
Reaches (Ok command) number after read = (read ≡ Ok (fields_of command, after)) × (number_of command ≡ number)
Reaches (Err fault) number after read = FailsAs fault read

-- A packet from its front to its end.
use Rattle.std.proofs.Common.{◌≡◌, ℕ, ◌<◌, ◌≤◌, true, false, ltb, List, Option, None, Some, Result, Ok, Err, refl, ap, ◌∙◌}
use Rattle.std.proofs.lemmas.Bool.{lt-ltb, le-ltb}
use Rattle.std.specs.Prelude.{MatchResult, IsOkAnd, IsErrAnd}
use Rattle.px_tag.specs.declared.fault.TagFault.{TagFault}
use Rattle.px_tag.specs.Place.{Place, start_of, Gives, ◌>>=◌}
use Rattle.px_tag.specs.Reading.{end_at}
use Rattle.px_cmd.specs.declared.fault.CmdFault.{CmdFault}
use Rattle.px_cmd.specs.declared.fault.CmdFault.TheVariants.{Protocol, Unknown, Unsupported, NoMemory}
use Rattle.px_cmd.specs.Field.{Kind, Field, fields_at}
use Rattle.px_cmd.specs.declared.command.Command.{Command}
use Rattle.px_cmd.specs.Table.{kinds_of}
use Rattle.px_cmd.specs.Packet.{head_at, protocol, fields_or, command_at, with_number, meaning, taken, Fails, FailsAs, Answers}

abbrev refused : {A : Type 0} → CmdFault → Result A CmdFault
refused fault = Err fault

err_is : {A B : Type 0} (f g : CmdFault) → refused {A = A} f ≡ Err g → refused {A = B} f ≡ Err g
err_is {A} {B} f g e = let is : f ≡ g = cc in ap (λ (x : CmdFault). refused {A = B} x) is

part_err : (read : Result (List Field × Place) TagFault) (fault : CmdFault) → protocol read ≡ Err fault → protocol (read >>= λ fields. end_at fields.1 >>= λ nothing. Ok fields.0) ≡ Err fault
part_err (Ok x) fault e = absurd cc
part_err (Err f) fault e = err_is {A = List Field × Place} {B = List Field} (Protocol f) fault e

taken_err : (kinds : Option (List Kind)) (command : ℕ) (place : Place) (fault : CmdFault) → taken kinds command place ≡ Err fault → fields_or kinds command place ≡ Err fault
taken_err None command place fault e = err_is {A = List Field × Place} {B = List Field} (Unsupported command) fault e
taken_err (Some kinds) command place fault e = part_err (fields_at kinds place) fault e

abbrev all_read : List Field → Place → Result (List Field × Place) TagFault
all_read fields after = Ok (fields, after)

part_ok : (read : Result (List Field × Place) TagFault) (fields : List Field) (after : Place) → protocol read ≡ protocol (all_read fields after) → read ≡ all_read fields after
part_ok (Ok x) fields after e = let is : x ≡ (fields, after) = cc in ap (λ (p : List Field × Place). Ok p) is
part_ok (Err f) fields after e = absurd cc

taken_ok : (kinds : Option (List Kind)) (command : ℕ) (place : Place) (fields : List Field) (after : Place) → taken kinds command place ≡ protocol (all_read fields after) → fields_or kinds command place ≡ protocol (end_at after >>= λ nothing. Ok fields)
taken_ok None command place fields after e = absurd cc
taken_ok (Some kinds) command place fields after e = rw (part_ok (fields_at kinds place) fields after e) refl

-- a fault in the fields of a command
pub part_fails : (read : Result (List Field × Place) TagFault) (fault : CmdFault) → Fails fault read → FailsAs fault (protocol read)
part_fails read (Protocol fault) e = ap protocol e
part_fails read (Unknown command) e = absurd e
part_fails read (Unsupported command) e = absurd e
part_fails read NoMemory e = tt

-- ---- the packet

pub front_fails : (version : ℕ) (packet : List ℕ) (fault : TagFault) → head_at (start_of packet) ≡ Err fault → meaning version packet ≡ Err (Protocol fault)
unfolding meaning
front_fails version packet fault e = rw e refl

module _ (version : ℕ) (packet : List ℕ) (command tag : ℕ) (place : Place) (front : head_at (start_of packet) ≡ Ok ((command, tag), place)) where
  pub unknown : 104 < command → meaning version packet ≡ Err (Unknown command)
  unfolding meaning command_at
  unknown above = let test : ltb 104 command ≡ true = lt-ltb _ _ above in rw (front, test) refl

  module _ (known : command ≤ 104) where
    whole : meaning version packet ≡ with_number command (fields_or (kinds_of version command) command place)
    unfolding meaning command_at
    whole = let test : ltb 104 command ≡ false = le-ltb _ _ known in rw (front, test) refl

    fails : (fault : CmdFault) → taken (kinds_of version command) command place ≡ Err fault → meaning version packet ≡ Err fault
    fails fault e = whole ∙ ap (with_number command) (taken_err (kinds_of version command) command place fault e)

    pub fields_fail : (fault : CmdFault) → FailsAs fault (taken (kinds_of version command) command place) → FailsAs fault (meaning version packet)
    fields_fail (Protocol fault) e = fails (Protocol fault) e
    fields_fail (Unknown n) e = fails (Unknown n) e
    fields_fail (Unsupported n) e = fails (Unsupported n) e
    fields_fail NoMemory e = tt

    module _ (fields : List Field) (after : Place) (read : taken (kinds_of version command) command place ≡ protocol (all_read fields after)) where
      pub left : (fault : TagFault) → end_at after ≡ Err fault → meaning version packet ≡ Err (Protocol fault)
      left fault e =
          let last : fields_or (kinds_of version command) command place ≡ refused (Protocol fault) = rw (taken_ok (kinds_of version command) command place fields after read, e) refl in
          whole ∙ ap (with_number command) last

      pub means : end_at after ≡ Ok tt → meaning version packet ≡ Ok (command, fields)
      means e =
          let last : fields_or (kinds_of version command) command place ≡ Ok fields = rw (taken_ok (kinds_of version command) command place fields after read, e) refl in
          whole ∙ ap (with_number command) last

-- ---- a command that is kept through the test of the end

module _ (view : Command → ℕ × List Field) (read : Result (ℕ × List Field) CmdFault) (command : Command) (after : Place)
    (means_it : end_at after ≡ Ok tt → read ≡ Ok (view command)) (fails_it : (fault : TagFault) → end_at after ≡ Err fault → read ≡ Err (Protocol fault)) where
  pub closes : {Held : Unit {0} → Command → Type 0} (keeps : (nothing : Unit {0}) (same : Command) → Held nothing same → same ≡ command) (end : Result (Unit {0}) TagFault) (held : Result Command TagFault) (result : Result Command CmdFault)
      → Gives {X = Unit {0}} {Y = Unit {0}} (λ nothing. nothing) end (end_at after)
      → MatchResult end (λ nothing. IsOkAnd held (λ same. Held nothing same)) (λ fault. held ≡ Err fault)
      → MatchResult held (λ same. result ≡ Ok same) (λ fault. IsErrAnd result (λ named. named ≡ Protocol fault))
      → Answers view result read
  closes keeps (Ok nothing) (Ok same) result e is given = rw (given, keeps nothing same is) (means_it e)
  closes keeps (Ok nothing) (Err fault) result e is given = absurd is
  closes keeps (Err fault) (Ok same) result e is given = absurd cc
  closes keeps (Err fault) (Err other) (Ok x) e is given = absurd given
  closes keeps (Err fault) (Err other) (Err named) e is given = let one : other ≡ fault = cc in rw (given, one) (fails_it fault e)

-- The ends in memory. The calls of one end that can fail are counted together, from 1, and the numbers of those that are to
-- fail are listed.
use Rattle.std.specs.Prelude.{ℕ, Bool, ◌==◌, ◌-◌, List, [], ◌∷◌, ◌++◌, length, take, drop, min, if◌then◌else◌}
use Rattle.std.specs.List.{list_any}
use Rattle.px_ends.specs.declared.bytes.Got.{Got}
use Rattle.px_ends.specs.declared.bytes.Got.TheVariants as got
use Rattle.px_ends.specs.declared.bytes.Took.{Took}
use Rattle.px_ends.specs.declared.bytes.Took.TheVariants as took
use Rattle.px_ends.specs.declared.link.Recv.{Recv}
use Rattle.px_ends.specs.declared.link.Recv.TheVariants as recv
use Rattle.px_ends.specs.declared.link.Sent.{Sent}
use Rattle.px_ends.specs.declared.link.Sent.TheVariants as sent
use Rattle.px_types.specs.Faults.{next_count}

abbrev pub is_listed : List ℕ → ℕ → Bool
is_listed calls n = list_any (λ x. x == n) calls

-- a source: the bytes left, the calls that are to fail, how many calls were made and how many failed
pub record MemorySource : Type 0 where
  pub left : List ℕ
  pub failing : List ℕ
  pub calls : ℕ
  pub faults : ℕ

-- all bytes that are left, up to the room of the buffer, or the end
abbrev pub got_from : List ℕ → ℕ → Got
got_from [] room = got.End
got_from (byte ∷ more) room = got.Bytes (min room (length (byte ∷ more)))

-- what a read into a buffer with this room answers
abbrev pub read_answer : MemorySource → ℕ → Got
read_answer s room = if is_listed s.failing (next_count s.calls) then got.Failed else got_from s.left room

abbrev pub source_after : MemorySource → Got → MemorySource
source_after s (got.Bytes n) = record s { left = drop n s.left; calls = next_count s.calls }
source_after s got.End = record s { calls = next_count s.calls }
source_after s got.Failed = record s { calls = next_count s.calls; faults = next_count s.faults }

-- a sink: what it took, how many bytes it has room for in all, and its calls
pub record MemorySink : Type 0 where
  pub held : List ℕ
  pub room : ℕ
  pub failing : List ℕ
  pub calls : ℕ
  pub faults : ℕ

-- how many of the bytes of a write fit into the room that is left; no room at all is a fault
abbrev pub took_of : ℕ → ℕ → Took
took_of room count = if room == 0 then took.Failed else took.Bytes (min room count)

abbrev pub write_answer : MemorySink → ℕ → Took
write_answer s count = if is_listed s.failing (next_count s.calls) then took.Failed else took_of (s.room - length s.held) count

abbrev pub sink_after : MemorySink → Took → List ℕ → MemorySink
sink_after s (took.Bytes n) bytes = record s { held = s.held ++ take n bytes; calls = next_count s.calls }
sink_after s took.Failed bytes = record s { calls = next_count s.calls; faults = next_count s.faults }

-- a link: the bytes to be received, those that were sent, and its calls; late are the calls that find it not ready
pub record MemoryLink : Type 0 where
  pub left : List ℕ
  pub sent : List ℕ
  pub room : ℕ
  pub late : List ℕ
  pub failing : List ℕ
  pub calls : ℕ
  pub faults : ℕ
  pub ends : ℕ
  pub not_yets : ℕ

abbrev pub recv_from : List ℕ → ℕ → Recv
recv_from [] room = recv.End
recv_from (byte ∷ more) room = recv.Bytes (min room (length (byte ∷ more)))

abbrev pub recv_answer : MemoryLink → ℕ → Recv
recv_answer l room =
    if is_listed l.failing (next_count l.calls) then recv.Failed
    else if is_listed l.late (next_count l.calls) then recv.NotYet
    else recv_from l.left room

abbrev pub link_after_recv : MemoryLink → Recv → MemoryLink
link_after_recv l (recv.Bytes n) = record l { left = drop n l.left; calls = next_count l.calls }
link_after_recv l recv.End = record l { calls = next_count l.calls; ends = next_count l.ends }
link_after_recv l recv.NotYet = record l { calls = next_count l.calls; not_yets = next_count l.not_yets }
link_after_recv l recv.Failed = record l { calls = next_count l.calls; faults = next_count l.faults }

abbrev pub sent_of : ℕ → ℕ → Sent
sent_of room count = if room == 0 then sent.Failed else sent.Bytes (min room count)

abbrev pub send_answer : MemoryLink → ℕ → Sent
send_answer l count =
    if is_listed l.failing (next_count l.calls) then sent.Failed
    else if is_listed l.late (next_count l.calls) then sent.NotYet
    else sent_of (l.room - length l.sent) count

abbrev pub link_after_send : MemoryLink → Sent → List ℕ → MemoryLink
link_after_send l (sent.Bytes n) bytes = record l { sent = l.sent ++ take n bytes; calls = next_count l.calls }
link_after_send l sent.NotYet bytes = record l { calls = next_count l.calls; not_yets = next_count l.not_yets }
link_after_send l sent.Failed bytes = record l { calls = next_count l.calls; faults = next_count l.faults }

-- A link in memory that shares what it was sent, and gives the end only once `end_after` bytes were sent. Own.
use Rattle.std.specs.Prelude.{ℕ, Bool, true, false, ◌+◌, ◌-◌, ◌≡◌, List, [], drop, take, nat_le, if◌then◌else◌, ⊤}
use Rattle.px_ends.specs.declared.link.Recv.{Recv}
use Rattle.px_ends.specs.declared.link.Recv.TheVariants as recv
use Rattle.px_ends.specs.declared.link.Sent.{Sent}
use Rattle.px_ends.specs.declared.link.Sent.TheVariants as sent
use Rattle.px_ends.specs.Memory.{is_listed, recv_from, sent_of}
use Rattle.px_mem_host.specs.declared.plan.LinkPlan.{LinkPlan}
use Rattle.px_types.specs.Faults.{next_count}

pub record SharedState : Type 0 where
  -- the bytes to be received
  pub left : List ℕ
  -- the bytes sent, the most that it takes in all, and the number to be sent before it gives the end
  pub sent : ℕ
  pub room : ℕ
  pub end_after : ℕ
  -- the numbers of the calls that find it not ready and of those that fail, and how many were made
  pub late : List ℕ
  pub failing : List ℕ
  pub calls : ℕ
  pub faults : ℕ
  pub ends : ℕ
  pub not_yets : ℕ

-- the link of these settings, before any call
abbrev pub new_link : LinkPlan → SharedState
new_link plan = record {
  left = plan.bytes;
  sent = 0;
  room = plan.room;
  end_after = plan.end_after;
  late = plan.late;
  failing = plan.fail;
  calls = 0;
  faults = 0;
  ends = 0;
  not_yets = 0;
}

-- the end is given only once enough was sent
abbrev pub end_once : Bool → Recv → Recv
end_once true answer = answer
end_once false recv.End = recv.NotYet
end_once false (recv.Bytes n) = recv.Bytes n
end_once false recv.NotYet = recv.NotYet
end_once false recv.Failed = recv.Failed

-- what a receive into a buffer of this room returns
abbrev pub recv_answer : SharedState → ℕ → Recv
recv_answer l room =
    if is_listed l.failing (next_count l.calls) then recv.Failed
    else if is_listed l.late (next_count l.calls) then recv.NotYet
    else end_once (nat_le l.end_after l.sent) (recv_from l.left room)

abbrev pub after_recv : SharedState → Recv → SharedState
after_recv l (recv.Bytes n) = record l { left = drop n l.left; calls = next_count l.calls }
after_recv l recv.End = record l { calls = next_count l.calls; ends = next_count l.ends }
after_recv l recv.NotYet = record l { calls = next_count l.calls; not_yets = next_count l.not_yets }
after_recv l recv.Failed = record l { calls = next_count l.calls; faults = next_count l.faults }

-- the bytes that a receive gives are the first that are left
abbrev pub GivesFront : Recv → List ℕ → List ℕ → Type 0
GivesFront (recv.Bytes n) buffer left = take n buffer ≡ take n left
GivesFront recv.End buffer left = left ≡ []
GivesFront recv.NotYet buffer left = ⊤
GivesFront recv.Failed buffer left = ⊤

-- what a send of this many bytes returns
abbrev pub send_answer : SharedState → ℕ → Sent
send_answer l count =
    if is_listed l.failing (next_count l.calls) then sent.Failed
    else if is_listed l.late (next_count l.calls) then sent.NotYet
    else sent_of (l.room - l.sent) count

-- a send returns this, or fails where the shared list has no memory
abbrev pub Answers : Sent → Sent → Type 0
Answers sent.Failed expected = ⊤
Answers (sent.Bytes n) expected = sent.Bytes n ≡ expected
Answers sent.NotYet expected = sent.NotYet ≡ expected

abbrev pub after_send : SharedState → Sent → SharedState
after_send l (sent.Bytes n) = record l { sent = l.sent + n; calls = next_count l.calls }
after_send l sent.NotYet = record l { calls = next_count l.calls; not_yets = next_count l.not_yets }
after_send l sent.Failed = record l { calls = next_count l.calls; faults = next_count l.faults }

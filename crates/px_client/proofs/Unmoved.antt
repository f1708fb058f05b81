-- Calls that wait for the link.
use Rattle.std.proofs.Common.{◌≡◌, ℕ, List, Option, Result, Ok, Err, OnErr}
use Rattle.px_client.specs.declared.end.ClientEnd.{ClientEnd}
use Rattle.px_client.specs.declared.end.ClientEnd.TheVariants as ends
use Rattle.px_client.specs.Causes.{ReceiveGives, SendGives}

pub on_err : {X E F : Type 0} (result : Result X E) → F → OnErr result F
on_err (Ok x) f = tt
on_err (Err e) f = f

-- a call that fails takes nothing
pub unsent : (end : ClientEnd) (bytes : List ℕ) (old new : Option (List ℕ)) → SendGives (Err end) bytes old new → new ≡ old
unsent ends.Host bytes old new e = e
unsent ends.Silent bytes old new e = e
unsent ends.Ok bytes old new e = absurd e
unsent ends.Memory bytes old new e = absurd e
unsent ends.WriteFault bytes old new e = absurd e
unsent ends.Gone bytes old new e = absurd e
unsent (ends.Denied code) bytes old new e = absurd e
unsent (ends.BadReply at) bytes old new e = absurd e

pub unreceived : (end : ClientEnd) (buffer : List ℕ) (old new : Option (List ℕ)) → ReceiveGives (Err end) buffer old new → new ≡ old
unreceived ends.Host buffer old new e = e
unreceived ends.Silent buffer old new e = e
unreceived ends.Gone buffer old new e = e.1
unreceived ends.Ok buffer old new e = absurd e
unreceived ends.Memory buffer old new e = absurd e
unreceived ends.WriteFault buffer old new e = absurd e
unreceived (ends.Denied code) buffer old new e = absurd e
unreceived (ends.BadReply at) buffer old new e = absurd e

-- Requests that are answered later, once the notice of the stream's sink has come.
use Rattle.std.specs.Prelude.{ℕ, List, [], ◌∷◌, Option, None, Some}
use Rattle.px_flat.specs.FlatVolume.{FlatGroup}
use Rattle.px_msg.specs.declared.message.Msg.{Msg}
use Rattle.px_outcome.specs.declared.change.Change.TheVariants.{Posted, Asked, Answered}
use Rattle.px_outcome.specs.declared.input.Connection.{Connection}
use Rattle.px_outcome.specs.declared.input.Input.{Input}
use Rattle.px_outcome.specs.declared.sending.Sending.{Sending}
use Rattle.px_outcome.specs.declared.waiting.Awaited.{Awaited}
use Rattle.px_outcome.specs.declared.waiting.Waiting.{Waiting}
use Rattle.px_outcome.specs.Outcome.{OutcomeParts, changing}

-- the question is posted to an input's sink, and the request waits
abbrev pub asked : {P : Type 0} → Input → Msg P → Awaited → ℕ → OutcomeParts (Msg P) FlatGroup
asked x message awaited tag =
    changing (Posted x.index message ∷ Asked (record { input = x.index; tag = tag; awaited = awaited }) ∷ [])

-- a packet for the connection `owner`, where it is live
abbrev pub sent_to : Option Connection → List ℕ → List Sending
sent_to None packet = []
sent_to (Some c) packet = record { conn = c.conn; packet = packet } ∷ []

-- a waiting request is removed, and its connection, where it is live, has the reply
abbrev pub answered : {P : Type 0} → Option Connection → Waiting → List ℕ → OutcomeParts (Msg P) FlatGroup
answered owner w reply = record { reply = None; errors = []; notified = sent_to owner reply; changes = Answered w ∷ [] }

-- The outcome of a step: its changes and its packets to clients.
use Rattle.std.specs.Prelude.{ℕ, List, [], ◌∷◌, Option, None, Some}
use Rattle.px_types.specs.declared.ids.ConnId.{ConnId}
use Rattle.px_outcome.specs.declared.change.Change.{Change}
use Rattle.px_outcome.specs.declared.sending.Reason.{Reason}
use Rattle.px_outcome.specs.declared.sending.Reason.TheVariants.{Protocol, Limit, Killed, Cut}
use Rattle.px_outcome.specs.declared.sending.Sending.{Sending}

-- the number of a reason in recorded sessions
abbrev pub reason_code : Reason → ℕ
reason_code Protocol = 1
reason_code Limit = 2
reason_code Killed = 3
reason_code Cut = 4

pub record OutcomeParts (M G : Type 0) : Type 0 where
  -- the reply to the connection that made the request
  pub reply : Option (List ℕ)
  -- the errors for waiting requests
  pub errors : List Sending
  -- the packets to clients
  pub notified : List Sending
  pub changes : List (Change M G)

-- no changes and no packets
abbrev pub idle : {M G : Type 0} → OutcomeParts M G
idle = record { reply = None; errors = []; notified = []; changes = [] }

-- changes, and `packet` as the reply
abbrev pub replied : {M G : Type 0} → List ℕ → List (Change M G) → OutcomeParts M G
replied packet changes = record { reply = Some packet; errors = []; notified = []; changes = changes }

-- changes and no packets
abbrev pub changing : {M G : Type 0} → List (Change M G) → OutcomeParts M G
changing changes = record { reply = None; errors = []; notified = []; changes = changes }

-- no changes; `packet` goes to a connection
abbrev pub notifying : {M G : Type 0} → ConnId → List ℕ → OutcomeParts M G
notifying conn packet = record { reply = None; errors = []; notified = record { conn = conn; packet = packet } ∷ []; changes = [] }

-- The outcome of a step of the core: its effects, and the outcomes of refusals and of ends.
use Rattle.std.specs.Prelude.{ℕ, Bool, true, cond, List, [], ◌∷◌, ◌++◌, flat_map, Option, None, Some, Ok, Err}
use Rattle.px_types.specs.declared.ids.ConnId.{ConnId}
use Rattle.px_types.specs.declared.error_code.ErrorCode.{ErrorCode}
use Rattle.px_types.specs.declared.error_code.ErrorCode.TheVariants.{TooLarge}
use Rattle.px_types.specs.ErrorCode.{code_of}
use Rattle.px_tag.specs.declared.fault.TagFault.{TagFault}
use Rattle.px_reply.specs.Front.{refusal}
use Rattle.px_flat.specs.FlatVolume.{FlatGroup}
use Rattle.px_msg.specs.declared.message.Msg.{Msg}
use Rattle.px_outcome.specs.declared.change.Change.TheVariants.{Authed, Named, Masked, Defaulted, Made, Described, Leaves, Moves, Arrives, Released, Posted, Regrouped, Asked, Answered, Gone, Ended, Forgotten}
use Rattle.px_outcome.specs.declared.refusal.Refusal.TheVariants.{Code, NoMemory}
use Rattle.px_outcome.specs.declared.sending.Reason.{Reason}
use Rattle.px_outcome.specs.declared.sending.Reason.TheVariants.{Protocol}
use Rattle.px_outcome.specs.declared.sending.Sending.{Sending}
use Rattle.px_outcome.specs.Outcome.{OutcomeParts, idle, replied, changing}
use Rattle.px_outcome.specs.Handled.{Handled}
use Rattle.px_state.specs.declared.effect.Effect.{Effect}
use Rattle.px_state.specs.declared.effect.Effect.TheVariants.{Closed}
use Rattle.px_state.specs.Effect.{fits, sending, fault_code, fault_place, offset_behind}
use Rattle.px_state.specs.Change.{Change}

abbrev pub CoreOutcome : Type 0 → Type 0
CoreOutcome P = OutcomeParts (Msg P) FlatGroup

-- ---- the effects of an outcome

-- the reply goes to `asker`
abbrev pub reply_to_asker : Option (List ℕ) → Option ConnId → List Effect
reply_to_asker None asker = []
reply_to_asker (Some packet) None = []
reply_to_asker (Some packet) (Some conn) = sending conn packet

abbrev pub sent_all : List Sending → List Effect
sent_all sendings = flat_map (λ s. sending (Sending.conn s) s.packet) sendings

-- the server has ended a connection, where it has a reason
abbrev pub closed_by : ConnId → Option Reason → ℕ → ℕ → List Effect
closed_by conn None fault at = []
closed_by conn (Some reason) fault at = Closed conn reason fault at ∷ []

abbrev pub closed_in : {P : Type 0} → Change P → List Effect
closed_in (Authed conn version) = []
closed_in (Named conn list) = []
closed_in (Masked conn mask) = []
closed_in (Defaulted sink) = []
closed_in (Made x m streams inputs) = []
closed_in (Described index list) = []
closed_in (Leaves index) = []
closed_in (Moves index to) = []
closed_in (Arrives index m) = []
closed_in (Released index) = []
closed_in (Posted index m) = []
closed_in (Regrouped sink group m) = []
closed_in (Asked w) = []
closed_in (Answered w) = []
closed_in (Gone index) = []
closed_in (Ended conn reason fault at) = closed_by conn reason fault at
closed_in (Forgotten conn) = []

abbrev pub closed_all : {P : Type 0} → List (Change P) → List Effect
closed_all changes = flat_map closed_in changes

-- in this order: the reply, the errors for waiting requests, the packets to clients, the connections that are ended
abbrev pub outcome_effects : {P : Type 0} → Option ConnId → CoreOutcome P → List Effect
outcome_effects asker outcome = reply_to_asker outcome.reply asker ++ sent_all outcome.errors ++ sent_all outcome.notified ++ closed_all outcome.changes

-- ---- a request is refused, or answered

-- an error for the request under `tag`; nothing changes
abbrev pub refused : {P : Type 0} → ℕ → ErrorCode → CoreOutcome P
refused tag code = replied (refusal tag (code_of code)) []

abbrev pub reply_fits : Option (List ℕ) → Bool
reply_fits None = true
reply_fits (Some packet) = fits packet

-- where no frame can carry its reply, a refusal instead
abbrev pub fitting : {P : Type 0} → ℕ → CoreOutcome P → CoreOutcome P
fitting tag outcome = cond (reply_fits outcome.reply) outcome (refused tag TooLarge)

-- the outcome of a command's handler, for a request under a tag
abbrev pub requested : {P : Type 0} → ℕ → Handled (CoreOutcome P) → CoreOutcome P
requested tag (Ok outcome) = fitting tag outcome
requested tag (Err (Code code)) = refused tag code
requested tag (Err NoMemory) = idle

-- ---- a connection is ended

abbrev pub ended_by : {P : Type 0} → ConnId → Option Reason → ℕ → ℕ → CoreOutcome P
ended_by conn reason fault at = changing (Ended conn reason fault at ∷ [])

-- it is ended without a reply, for a fault in a packet whose first byte has this offset
abbrev pub broken_off : {P : Type 0} → ConnId → ℕ → TagFault → CoreOutcome P
broken_off conn at fault = ended_by conn (Some Protocol) (fault_code fault) (offset_behind at (fault_place fault))

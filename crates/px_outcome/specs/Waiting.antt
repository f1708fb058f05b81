-- Accepted requests that are answered later, each under its tag, in the order of the requests.
use Rattle.std.specs.Prelude.{ℕ, Bool, true, false, not, cond, ◌&&◌, nat_eq, List, filter, Option}
use Rattle.std.specs.List.{find}
use Rattle.px_types.specs.declared.ids.InputId.{InputId}
use Rattle.px_outcome.specs.declared.waiting.Awaited.{Awaited}
use Rattle.px_outcome.specs.declared.waiting.Awaited.TheVariants.{Drained, Latency}
use Rattle.px_outcome.specs.declared.waiting.Waiting.{Waiting}

-- a DRAIN, not a latency request
abbrev pub is_drain : Awaited → Bool
is_drain Drained = true
is_drain (Latency time) = false

-- a request about `input` under `tag`
abbrev pub is_under : InputId → ℕ → Waiting → Bool
is_under input tag w = nat_eq w.input.0 input.0 && nat_eq w.tag tag

-- a DRAIN of `input` under `tag`, and a latency request of it
abbrev pub is_drain_under : InputId → ℕ → Waiting → Bool
is_drain_under input tag w = is_under input tag w && is_drain w.awaited

abbrev pub is_question_under : InputId → ℕ → Waiting → Bool
is_question_under input tag w = is_under input tag w && not (is_drain w.awaited)

-- the first waiting request of each
abbrev pub drain_under : List Waiting → InputId → ℕ → Option Waiting
drain_under waiting input tag = find (is_drain_under input tag) waiting

abbrev pub question_under : List Waiting → InputId → ℕ → Option Waiting
question_under waiting input tag = find (is_question_under input tag) waiting

-- two requests are equal: same input, same tag, same kind
abbrev pub is_as : Waiting → Waiting → Bool
is_as w = cond (is_drain w.awaited) (is_drain_under w.input w.tag) (is_question_under w.input w.tag)

-- the waiting requests of an input, and those of other inputs
abbrev pub asks_about : InputId → Waiting → Bool
asks_about input w = nat_eq w.input.0 input.0

abbrev pub waiting_of : List Waiting → InputId → List Waiting
waiting_of waiting input = filter (asks_about input) waiting

abbrev pub waiting_of_others : List Waiting → InputId → List Waiting
waiting_of_others waiting input = filter (λ w. not (asks_about input w)) waiting

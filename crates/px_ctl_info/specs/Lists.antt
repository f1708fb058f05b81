-- The lists that are always empty: of sources, modules, source outputs, samples and cards.
use Rattle.std.specs.Prelude.{ℕ, [], Ok}
use Rattle.px_reply.specs.Front.{reply_to}
use Rattle.px_outcome.specs.Outcome.{OutcomeParts, replied}
use Rattle.px_outcome.specs.Handled.{Handled}

abbrev pub empty_list : {M G : Type 0} → ℕ → Handled (OutcomeParts M G)
empty_list tag = Ok (replied (reply_to tag) [])

-- The requests that wait, once one is answered.
use Rattle.std.specs.Prelude.{◌≡◌, ◌+◌, not, List, filter, length}
use Rattle.px_outcome.specs.declared.waiting.Waiting.{Waiting}
use Rattle.px_outcome.specs.Waiting.{is_as}

-- one request fewer waits, and all that aren't equal to this one still do, in their order
pub record IsAnswered (before after : List Waiting) (w : Waiting) : Type 0 where
  pub fewer : length after + 1 ≡ length before
  pub others : filter (λ v. not (is_as w v)) after ≡ filter (λ v. not (is_as w v)) before

-- What a push answers.
use Rattle.std.specs.Prelude.{◌≡◌, ℕ, ℤ, ◌&&◌, IsFalse, if◌then◌else◌, ⊤}
use Rattle.px_model.specs.Index.{onward, is_index, IsIndex}
use Rattle.px_model.specs.Write.{Outcome, stored, overflow, outside}
use Rattle.px_queue.specs.declared.push.Pushed.{Pushed}
use Rattle.px_queue.specs.declared.push.Pushed.TheVariants as pushed

-- how the write ended
abbrev pub outcome_for : Pushed → Outcome
outcome_for pushed.Stored = stored
outcome_for (pushed.Overflow end limit) = overflow
outcome_for (pushed.Outside at) = outside

-- of l frames at index p, the first of begin and end that is no index
abbrev pub first_outside : ℤ → ℕ → ℤ
first_outside p l = if is_index p then onward p l else p

-- what an answer carries: the end and the limit that a write would pass, or an index outside the range
abbrev pub Carries : ℤ → ℕ → ℤ → Pushed → Type 0
Carries p l limit pushed.Stored = ⊤
Carries p l limit (pushed.Overflow end bound) = (end ≡ onward p l) × (bound ≡ limit)
Carries p l limit (pushed.Outside at) = at ≡ first_outside p l

-- l frames at index p begin at index `at` and end at index `end`
pub record IsPlaced (p : ℤ) (l : ℕ) (at end : ℤ) : Type 0 where
  pub first : at ≡ p
  pub last : end ≡ onward p l
  pub begins : IsIndex p
  pub ends : IsIndex (onward p l)

-- p or the end is no index, and `at` is the first such
pub record IsMissed (p : ℤ) (l : ℕ) (at : ℤ) : Type 0 where
  pub outside : IsFalse (is_index p && is_index (onward p l))
  pub first : at ≡ first_outside p l

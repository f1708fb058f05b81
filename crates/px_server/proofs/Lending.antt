-- What a host has lent.
use Rattle.std.proofs.Common.{◌≡◌, ℕ, ◌≤◌, List, [], length, Option, None, Some, IfSome, arith, sym, subst, ap}
use Rattle.px_ends.specs.Host.{HostState, Lent}
use Rattle.px_server.specs.Hosted.{HasLent}

-- what was lent is so as long as that stays
pub lent_same : {D R C : Type 0} (parts cores : ℕ) (before after : HostState D R C) → after.lent ≡ before.lent → HasLent parts cores before → HasLent parts cores after
lent_same parts cores before after same = subst (λ (o : Option Lent). IfSome o (λ l. (parts ≤ l.devices) × (parts ≤ l.recorders) × (cores ≤ l.cores))) (sym same)

some_lent : (o : Option Lent) → IfSome o (λ l. (0 ≤ l.devices) × (0 ≤ l.recorders) × (0 ≤ l.cores))
some_lent None = tt
some_lent (Some l) = (omega arith, omega arith, omega arith)

pub lent_none : {D R C X : Type 0} (h : HostState D R C) (idle : List X) → idle ≡ [] → HasLent (length idle) 0 h
lent_none h idle none = subst (λ (n : ℕ). HasLent n 0 h) (sym (ap length none)) (some_lent h.lent)

-- what was lent with a recorder of the core was lent
pub lent_less : {D R C : Type 0} (n : ℕ) (h : HostState D R C) → HasLent n 1 h → HasLent n 0 h
lent_less n h lent = less h.lent lent where
  less : (o : Option Lent) → IfSome o (λ l. (n ≤ l.devices) × (n ≤ l.recorders) × (1 ≤ l.cores)) → IfSome o (λ l. (n ≤ l.devices) × (n ≤ l.recorders) × (0 ≤ l.cores))
  less None some = tt
  less (Some l) some = (some.0, some.1, omega arith)

-- One run after the other.
use Rattle.std.proofs.Common.{◌≡◌, ◌≢◌, ℕ, zero, suc, refl, ◌+◌, ◌-◌, ◌*◌, ◌<◌, ◌≤◌, ℤ, ap, take, drop, List, [], ◌∷◌, length, get_or, arith, ◌∙◌, sym, subst, below_more}
use Rattle.std.proofs.Math.ListN.{set}
use Rattle.std.proofs.Math.Nat.{add-mul, mul-le-mul_right}
use Rattle.std.proofs.lemmas.Grind.{common_steps}
use Rattle.std.proofs.lemmas.List.{get_or-set_other, get_or-set_same, length-take-le}
use Rattle.px_mixcache.specs.Run.{KeptRun}
use Rattle.px_mixcache.specs.Cache.{run_at, run_of}

-- what holds of each run so far holds with one more written
pub each_run : (P : ℕ → KeptRun → Type 0) (runs : List KeptRun) (i : ℕ) (y : KeptRun) → i < length runs
    → ((c : ℕ) → c < i → P c (run_at runs c)) → P i y → (c : ℕ) → c < i + 1 → P c (run_at (set runs i y) c)
each_run P runs i y room before here c below =
    below_more (λ j. P j (run_at (set runs i y) j)) i
    (λ j less. let other : j ≢ i = omega arith in subst (P j) (sym (get_or-set_other runs i j y (record { depth = 0; sums = [] }) other)) (before j less))
    (subst (P i) (sym (get_or-set_same runs i y (record { depth = 0; sums = [] }) room)) here)
    c below

-- and those behind stay
pub later_runs : (runs old : List KeptRun) (i : ℕ) (y : KeptRun) → ((c : ℕ) → i ≤ c → run_at runs c ≡ run_at old c)
    → (c : ℕ) → i + 1 ≤ c → run_at (set runs i y) c ≡ run_at old c
later_runs runs old i y rest c more =
    let other : c ≢ i = omega arith in get_or-set_other runs i c y (record { depth = 0; sums = [] }) other ∙ rest c (omega arith)

-- a run that is there is read as it is, whatever stands for those that aren't
pub there : (runs : List KeptRun) (c : ℕ) (d : KeptRun) → c < length runs → get_or runs c d ≡ run_at runs c
there [] c d less = absurd (omega (arith, less))
there (x ∷ xs) zero d less = refl
there (x ∷ xs) (suc c) d less = there xs c d (omega (arith, less))

-- ---- the values of a channel

pub run_part : (len : ℕ) (values : List ℤ) (c : ℕ) → take (c * len + len - c * len) (drop (c * len) values) ≡ run_of len values c
run_part len values c = let same : c * len + len - c * len ≡ len = omega arith in ap (λ (n : ℕ). take n (drop (c * len) values)) same

pub run_long : (len : ℕ) (values : List ℤ) (c channels : ℕ) → c < channels → length values ≡ channels * len → length (run_of len values c) ≡ len
run_long len values c channels less size =
    let next : c + 1 ≤ channels = omega (arith, less) in
    let here : c * len + len ≤ channels * len = omega (arith, mul-le-mul_right {m = c + 1} {n = channels} len next, add-mul c 1 len) in
    let left : length (drop (c * len) values) ≡ length values - c * len = grind (arith, common_steps) in
    length-take-le len (drop (c * len) values) (omega (arith, left, here, size))

pub next_part : (first so_far now i len n : ℕ) → so_far ≡ first + i * len → now ≡ so_far + n → n ≡ len → now ≡ first + (i + 1) * len
next_part first so_far now i len n before more size = omega (arith, before, more, size, add-mul i 1 len)

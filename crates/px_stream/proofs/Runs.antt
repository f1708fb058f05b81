-- Places of runs that stand one behind another.
use Rattle.std.proofs.Common.{◌≡◌, ◌≢◌, ℕ, ◌+◌, ◌*◌, ◌/◌, ◌%◌, ◌<◌, ◌≤◌, min, List, length, get_or, arith, sym, ap, ◌∙◌, subst, mul_comm, ⊎_elim, ℤ, pos, All, w32, SFits}
use Rattle.std.proofs.Math.Nat.{add-mul, mul-le-mul_right, div-mul-le_self, mul-div_cancel, mul_assoc}
use Rattle.std.proofs.Math.ListN.{set}
use Rattle.std.proofs.lemmas.Nat.{mod-mul-add}
use Rattle.std.proofs.lemmas.Bool.{cases_lt}
use Rattle.std.proofs.lemmas.List.{get_or-set_same, get_or-set_other, length-set}

-- place j of run c lies within all of them
pub place_inside : (c count run place : ℕ) → c < count → place < run → c * run + place < run * count
place_inside c count run place less inside =
    let next : c + 1 ≤ count = omega (arith, less) in
    omega (arith, inside, mul-le-mul_right run next, add-mul c 1 run, mul_comm run count)

-- one more value at a place of each run
pub values_more : (out : List ℤ) (value : ℤ) (values : ℕ → ℤ) (c count run place : ℕ) → c < count → place < run → length out ≡ run * count → value ≡ values c
    → ((b : ℕ) → b < c → get_or out (b * run + place) (pos 0) ≡ values b)
    → (b : ℕ) → b < c + 1 → get_or (set out (c * run + place) value) (b * run + place) (pos 0) ≡ values b
values_more out value values c count run place less inside long is before b few =
    ⊎_elim
    (λ (earlier : b < c).
    let next : b + 1 ≤ c = omega (arith, earlier) in
    let other : b * run + place ≢ c * run + place = omega (arith, inside, mul-le-mul_right run next, add-mul b 1 run) in
    get_or-set_other out (c * run + place) (b * run + place) value (pos 0) other ∙ before b earlier)
    (λ (now : c ≤ b).
    let same : b ≡ c = omega (arith, now, few) in
    subst (λ (n : ℕ). get_or (set out (c * run + place) value) (n * run + place) (pos 0) ≡ values n) (sym same)
    (get_or-set_same out (c * run + place) value (pos 0) (omega (arith, place_inside c count run place less inside, long)) ∙ is))
    (cases_lt b c)

-- all fit 32 bits
pub fit_more : (out : List ℤ) (i : ℕ) (value : ℤ) → SFits w32 value → All (SFits w32) out → All (SFits w32) (set out i value)
fit_more out i value here before j d few =
    ⊎_elim
    (λ (below : j < i). let other : j ≢ i = omega (arith, below) in there other)
    (λ (from : i ≤ j). ⊎_elim
    (λ (past : i < j). let other : j ≢ i = omega (arith, past) in there other)
    (λ (to : j ≤ i). let same : i ≡ j = omega (arith, from, to) in
    subst (λ (n : ℕ). SFits w32 (get_or (set out i value) n d)) same (subst (SFits w32) (sym (get_or-set_same out i value d (omega (arith, same, room)))) here))
    (cases_lt i j))
    (cases_lt j i)
  where
    room : j < length out
    room = omega (arith, few, length-set out i value)

    there : j ≢ i → SFits w32 (get_or (set out i value) j d)
    there other = subst (SFits w32) (sym (get_or-set_other out i j value d other)) (before j d room)

-- all other places stay
pub others_more : (out old : List ℤ) (value : ℤ) (c run place : ℕ) → place < run
    → ((i : ℕ) → i % run ≢ place → get_or out i (pos 0) ≡ get_or old i (pos 0))
    → (i : ℕ) → i % run ≢ place → get_or (set out (c * run + place) value) i (pos 0) ≡ get_or old i (pos 0)
others_more out old value c run place inside before i away =
    get_or-set_other out (c * run + place) i value (pos 0) (λ e. away (ap (λ (n : ℕ). n % run) e ∙ mod-mul-add c run place inside)) ∙ before i away

-- so many runs of one length, none without a place
pub run_is : (total n count : ℕ) → 0 < count → total ≡ n * count → total / count ≡ n
run_is total n count some whole = ap (λ (x : ℕ). x / count) whole ∙ mul-div_cancel n some

-- so many frames of samples of two bytes
pub frames_are : (total n channels : ℕ) → 1 ≤ channels → total ≡ 2 * (n * channels) → total / (2 * channels) ≡ n
frames_are total n channels some whole =
    run_is total n (2 * channels) (omega (arith, some))
    (whole ∙ sym (sym (mul_assoc n 2 channels) ∙ ap (λ (m : ℕ). m * channels) (mul_comm n 2) ∙ mul_assoc 2 n channels))

-- so many frames find room among so many samples
pub frames_fit : (frames most samples channels : ℕ) → frames ≡ min most (samples / channels) → frames * channels ≤ samples
frames_fit frames most samples channels is =
    let few : frames ≤ samples / channels = omega (arith, is) in
    omega (arith, mul-le-mul_right channels few, div-mul-le_self samples channels)

-- the values of one frame more, and the places past it
module _ (run place : ℕ) (out new : List ℤ) (inside : place < run) (holds : (i : ℕ) → i % run ≢ place → get_or new i (pos 0) ≡ get_or out i (pos 0)) where
  -- another place of a run stays
  pub stays : (c j : ℕ) → j < run → j ≢ place → get_or new (c * run + j) (pos 0) ≡ get_or out (c * run + j) (pos 0)
  stays c j few other = holds (c * run + j) (λ e. other (sym (mod-mul-add c run j few) ∙ e))

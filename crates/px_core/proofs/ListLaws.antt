-- Lists of which the first that is so changes or goes, what is found in them, and what holds of each.
use Rattle.std.proofs.Common.{◌≡◌, suc, ◌≤◌, List, [], ◌∷◌, ◌++◌, map, length, Some, Bool, true, false, refl, ap, sym, subst, ◌∙◌, arith, cond}
use Rattle.std.specs.Prelude.{◌+◌, filter}
use Rattle.std.specs.List.{AllByRecursion, find}
use Rattle.std.proofs.lemmas.Bool.{cond_both, false≢true}
use Rattle.std.proofs.lemmas.Option.{none-some, same_Some}
use Rattle.px_state.specs.Change.{change_first, drop_first}
pub use Rattle.px_state.proofs.Found.{found_test}

-- ---- lists that are equal

pub heads : {A : Type 0} (x y : A) (xs ys : List A) → x ∷ xs ≡ y ∷ ys → x ≡ y
heads {A} x y xs ys e = ap (λ (l : List A). first_or l) e
  where
    first_or : List A → A
    first_or [] = x
    first_or (z ∷ zs) = z

pub tails : {A : Type 0} (x y : A) (xs ys : List A) → x ∷ xs ≡ y ∷ ys → xs ≡ ys
tails {A} x y xs ys e = ap (λ (l : List A). rest l) e
  where
    rest : List A → List A
    rest [] = []
    rest (z ∷ zs) = zs

pub no_cons : {A : Type 0} (x : A) (xs : List A) → x ∷ xs ≡ [] → ⊥
no_cons x xs e = let h : suc (length xs) ≡ 0 = ap length e in absurd (omega (arith, h))

pub all_joined : {A : Type 0} (Q : A → Type 0) (xs ys : List A) → AllByRecursion Q xs → AllByRecursion Q ys → AllByRecursion Q (xs ++ ys)
all_joined Q [] ys h k = k
all_joined Q (x ∷ xs) ys h k = (h.0, all_joined Q xs ys h.1 k)

-- ---- what is found

pub found_all : {A : Type 0} (P : A → Type 0) (q : A → Bool) (xs : List A) (y : A) → AllByRecursion P xs → find q xs ≡ Some y → P y
found_all P q [] y h e = absurd (none-some y e)
found_all P q (x ∷ xs) y h e = step (found_all P q xs y h.1) (q x) e
  where
    step : (find q xs ≡ Some y → P y) → (b : Bool) → cond b (Some x) (find q xs) ≡ Some y → P y
    step later true f = subst P (same_Some x y f) h.0
    step later false f = later f

-- ---- what holds of each

pub all_change : {A : Type 0} (P : A → Type 0) (q : A → Bool) (f : A → A) → ((x : A) → P x → P (f x)) → (xs : List A) → AllByRecursion P xs → AllByRecursion P (change_first q f xs)
all_change P q f k [] h = tt
all_change P q f k (x ∷ xs) h = cond_both (q x) (f x ∷ xs) (x ∷ change_first q f xs) (AllByRecursion P) (λ e. (k x h.0, h.1)) (λ e. (h.0, all_change P q f k xs h.1))

-- where it is known of the one that changes alone
pub all_change_found : {A : Type 0} (P : A → Type 0) (q : A → Bool) (f : A → A) (xs : List A) → ((x : A) → find q xs ≡ Some x → P x → P (f x)) → AllByRecursion P xs → AllByRecursion P (change_first q f xs)
all_change_found P q f [] k h = tt
all_change_found {A} P q f (x ∷ xs) k h = step (λ later. all_change_found P q f xs later h.1) (q x) refl
  where
    step : (((y : A) → find q xs ≡ Some y → P y → P (f y)) → AllByRecursion P (change_first q f xs)) → (b : Bool) → q x ≡ b → AllByRecursion P (cond b (f x ∷ xs) (x ∷ change_first q f xs))
    step later true e = (k x (ap (λ b. cond b (Some x) (find q xs)) e) h.0, h.1)
    step later false e = (h.0, later (λ y found. k y (ap (λ b. cond b (Some x) (find q xs)) e ∙ found)))

pub all_drop : {A : Type 0} (P : A → Type 0) (q : A → Bool) (xs : List A) → AllByRecursion P xs → AllByRecursion P (drop_first q xs)
all_drop P q [] h = tt
all_drop P q (x ∷ xs) h = cond_both (q x) xs (x ∷ drop_first q xs) (AllByRecursion P) (λ e. h.1) (λ e. (h.0, all_drop P q xs h.1))

pub all_push : {A : Type 0} (P : A → Type 0) (xs : List A) (y : A) → AllByRecursion P xs → P y → AllByRecursion P (xs ++ y ∷ [])
all_push P [] y h k = (k, tt)
all_push P (x ∷ xs) y h k = (h.0, all_push P xs y h.1 k)

pub all_weaken : {A : Type 0} (P Q : A → Type 0) → ((x : A) → P x → Q x) → (xs : List A) → AllByRecursion P xs → AllByRecursion Q xs
all_weaken P Q k [] h = tt
all_weaken P Q k (x ∷ xs) h = (k x h.0, all_weaken P Q k xs h.1)

-- ---- those that pass a test

-- a change after which the same ones pass, each with the same in it, changes nothing of them
pub same_passed : {A B : Type 0} (p q : A → Bool) (f : A → A) (g : A → B) (xs : List A) → ((x : A) → find q xs ≡ Some x → p (f x) ≡ p x) → ((x : A) → g (f x) ≡ g x) → map g (filter p (change_first q f xs)) ≡ map g (filter p xs)
same_passed p q f g [] h k = refl
same_passed {A} p q f g (x ∷ xs) h k = step (λ later. same_passed p q f g xs later k) (q x) refl
  where
    passed : (b c : Bool) → b ≡ c → map g (cond b (f x ∷ filter p xs) (filter p xs)) ≡ map g (cond c (x ∷ filter p xs) (filter p xs))
    passed true true e = λ i. k x i ∷ map g (filter p xs)
    passed true false e = absurd (false≢true (sym e))
    passed false true e = absurd (false≢true e)
    passed false false e = refl

    behind : (b : Bool) → map g (filter p (change_first q f xs)) ≡ map g (filter p xs) → map g (cond b (x ∷ filter p (change_first q f xs)) (filter p (change_first q f xs))) ≡ map g (cond b (x ∷ filter p xs) (filter p xs))
    behind true e = λ i. g x ∷ e i
    behind false e = e

    step : (((y : A) → find q xs ≡ Some y → p (f y) ≡ p y) → map g (filter p (change_first q f xs)) ≡ map g (filter p xs)) → (b : Bool) → q x ≡ b → map g (filter p (cond b (f x ∷ xs) (x ∷ change_first q f xs))) ≡ map g (filter p (x ∷ xs))
    step later true e = passed (p (f x)) (p x) (h x (ap (λ b. cond b (Some x) (find q xs)) e))
    step later false e = behind (p x) (later (λ y found. h y (ap (λ b. cond b (Some x) (find q xs)) e ∙ found)))

-- where what goes doesn't pass, the same ones pass
pub same_left : {A : Type 0} (p q : A → Bool) (xs : List A) → ((x : A) → find q xs ≡ Some x → p x ≡ false) → filter p (drop_first q xs) ≡ filter p xs
same_left p q [] h = refl
same_left {A} p q (x ∷ xs) h = step (same_left p q xs) (q x) refl
  where
    behind : (b : Bool) → filter p (drop_first q xs) ≡ filter p xs → cond b (x ∷ filter p (drop_first q xs)) (filter p (drop_first q xs)) ≡ cond b (x ∷ filter p xs) (filter p xs)
    behind true e = λ i. x ∷ e i
    behind false e = e

    step : (((y : A) → find q xs ≡ Some y → p y ≡ false) → filter p (drop_first q xs) ≡ filter p xs) → (b : Bool) → q x ≡ b → filter p (cond b xs (x ∷ drop_first q xs)) ≡ filter p (x ∷ xs)
    step later true e = sym (ap (λ b. cond b (x ∷ filter p xs) (filter p xs)) (h x (ap (λ b. cond b (Some x) (find q xs)) e)))
    step later false e = behind (p x) (later (λ y found. h y (ap (λ b. cond b (Some x) (find q xs)) e ∙ found)))

-- a change that lets none pass that didn't before
pub no_more_pass : {A : Type 0} (p q : A → Bool) (f : A → A) → ((x : A) → p (f x) ≡ true → p x ≡ true) → (xs : List A) → length (filter p (change_first q f xs)) ≤ length (filter p xs)
no_more_pass p q f k [] = omega arith
no_more_pass p q f k (x ∷ xs) = step (no_more_pass p q f k xs) (q x)
  where
    passed : (b c : Bool) → (b ≡ true → c ≡ true) → length (cond b (f x ∷ filter p xs) (filter p xs)) ≤ length (cond c (x ∷ filter p xs) (filter p xs))
    passed true true e = omega arith
    passed true false e = absurd (false≢true (e refl))
    passed false true e = omega arith
    passed false false e = omega arith

    behind : (b : Bool) → length (filter p (change_first q f xs)) ≤ length (filter p xs) → length (cond b (x ∷ filter p (change_first q f xs)) (filter p (change_first q f xs))) ≤ length (cond b (x ∷ filter p xs) (filter p xs))
    behind true e = omega (arith, e)
    behind false e = e

    step : length (filter p (change_first q f xs)) ≤ length (filter p xs) → (b : Bool) → length (filter p (cond b (f x ∷ xs) (x ∷ change_first q f xs))) ≤ length (filter p (x ∷ xs))
    step later true = passed (p (f x)) (p x) (k x)
    step later false = behind (p x) later

-- a change lets one more pass at the most
pub one_more_passes : {A : Type 0} (p q : A → Bool) (f : A → A) (xs : List A) → length (filter p (change_first q f xs)) ≤ length (filter p xs) + 1
one_more_passes p q f [] = omega arith
one_more_passes p q f (x ∷ xs) = step (one_more_passes p q f xs) (q x)
  where
    passed : (b c : Bool) → length (cond b (f x ∷ filter p xs) (filter p xs)) ≤ length (cond c (x ∷ filter p xs) (filter p xs)) + 1
    passed true true = omega arith
    passed true false = omega arith
    passed false true = omega arith
    passed false false = omega arith

    behind : length (filter p (change_first q f xs)) ≤ length (filter p xs) + 1 → (b : Bool) → length (cond b (x ∷ filter p (change_first q f xs)) (filter p (change_first q f xs))) ≤ length (cond b (x ∷ filter p xs) (filter p xs)) + 1
    behind e true = omega (arith, e)
    behind e false = e

    step : length (filter p (change_first q f xs)) ≤ length (filter p xs) + 1 → (b : Bool) → length (filter p (cond b (f x ∷ xs) (x ∷ change_first q f xs))) ≤ length (filter p (x ∷ xs)) + 1
    step later true = passed (p (f x)) (p x)
    step later false = behind later (p x)

-- a test that lets no more pass than another
pub fewer_pass : {A : Type 0} (p q : A → Bool) → ((x : A) → p x ≡ true → q x ≡ true) → (xs : List A) → length (filter p xs) ≤ length (filter q xs)
fewer_pass p q k [] = omega arith
fewer_pass {A} p q k (x ∷ xs) = step (fewer_pass p q k xs) (p x) (q x) (k x)
  where
    step : length (filter p xs) ≤ length (filter q xs) → (a b : Bool) → (a ≡ true → b ≡ true) → length (cond a (x ∷ filter p xs) (filter p xs)) ≤ length (cond b (x ∷ filter q xs) (filter q xs))
    step later true true e = omega (arith, later)
    step later true false e = absurd (false≢true (e refl))
    step later false true e = omega (arith, later)
    step later false false e = later

-- and where one that is found passes the other alone, it lets fewer pass
pub fewer_by_one : {A : Type 0} (p q : A → Bool) → ((x : A) → p x ≡ true → q x ≡ true) → (r : A → Bool) (xs : List A) (y : A) → find r xs ≡ Some y → p y ≡ false → q y ≡ true → length (filter p xs) + 1 ≤ length (filter q xs)
fewer_by_one p q k r [] y e off on = absurd (none-some y e)
fewer_by_one {A} p q k r (x ∷ xs) y e off on = step (λ f. fewer_by_one p q k r xs y f off on) (r x) e
  where
    this : length (filter p xs) ≤ length (filter q xs) → (a b : Bool) → a ≡ false → b ≡ true → length (cond a (x ∷ filter p xs) (filter p xs)) + 1 ≤ length (cond b (x ∷ filter q xs) (filter q xs))
    this less true b f g = absurd (false≢true (sym f))
    this less false true f g = omega (arith, less)
    this less false false f g = absurd (false≢true g)

    behind : length (filter p xs) + 1 ≤ length (filter q xs) → (a b : Bool) → (a ≡ true → b ≡ true) → length (cond a (x ∷ filter p xs) (filter p xs)) + 1 ≤ length (cond b (x ∷ filter q xs) (filter q xs))
    behind less true true f = omega (arith, less)
    behind less true false f = absurd (false≢true (f refl))
    behind less false true f = omega (arith, less)
    behind less false false f = less

    step : (find r xs ≡ Some y → length (filter p xs) + 1 ≤ length (filter q xs)) → (b : Bool) → cond b (Some x) (find r xs) ≡ Some y → length (filter p (x ∷ xs)) + 1 ≤ length (filter q (x ∷ xs))
    step later true f = this (fewer_pass p q k xs) (p x) (q x) (ap p (same_Some x y f) ∙ off) (ap q (same_Some x y f) ∙ on)
    step later false f = behind (later f) (p x) (q x) (k x)

-- Look-ups in lists of places, and of elements.
use Rattle.std.proofs.Common.{◌≡◌, ℕ, zero, suc, ◌+◌, ◌-◌, ◌<◌, ◌≤◌, List, [], ◌∷◌, ◌++◌, map, length, take, drop, refl, ap, sym, ◌∙◌, arith, Option, Some, None, replicate, ⊎_elim, length-append}
use Rattle.std.specs.Prelude.{slice_get, IsSome}
use Rattle.std.specs.List.{range_with_len}
use Rattle.std.proofs.lemmas.List.FromFn.{length-map-range_with_len}
use Rattle.std.proofs.lemmas.Bool.{cases_lt}
use Rattle.px_model.specs.Frame.{Frame}
use Rattle.px_model.specs.Held.{place}

pub place_left : (xs ys : List (Option Frame)) (k : ℕ) → k < length xs → place (xs ++ ys) k ≡ place xs k
place_left [] ys k h = absurd (omega arith)
place_left (x ∷ xs) ys zero h = refl
place_left (x ∷ xs) ys (suc k) h = place_left xs ys k (omega arith)

pub place_right : (xs ys : List (Option Frame)) (k j : ℕ) → j ≡ length xs + k → place (xs ++ ys) j ≡ place ys k
place_right [] ys k j e = ap (place ys) (omega (arith, e))
place_right (x ∷ xs) ys k zero e = absurd (omega (arith, e))
place_right (x ∷ xs) ys k (suc j) e = place_right xs ys k j (omega (arith, e))

pub place_past : (xs : List (Option Frame)) (k : ℕ) → length xs ≤ k → place xs k ≡ None
place_past [] k h = refl
place_past (x ∷ xs) zero h = absurd (omega arith)
place_past (x ∷ xs) (suc k) h = place_past xs k (omega arith)

pub place-take : (n : ℕ) (xs : List (Option Frame)) (k : ℕ) → k < n → place (take n xs) k ≡ place xs k
place-take zero xs k h = absurd (omega arith)
place-take (suc n) [] k h = refl
place-take (suc n) (x ∷ xs) zero h = refl
place-take (suc n) (x ∷ xs) (suc k) h = place-take n xs k (omega arith)

pub place-drop : (n : ℕ) (xs : List (Option Frame)) (k j : ℕ) → j ≡ n + k → place (drop n xs) k ≡ place xs j
place-drop zero xs k j e = ap (place xs) (omega (arith, e))
place-drop (suc n) [] k j e = refl
place-drop (suc n) (x ∷ xs) k zero e = absurd (omega (arith, e))
place-drop (suc n) (x ∷ xs) k (suc j) e = place-drop n xs k j (omega (arith, e))

pub place-replicate : (n k : ℕ) → place (replicate n None) k ≡ None
place-replicate zero k = refl
place-replicate (suc n) zero = refl
place-replicate (suc n) (suc k) = place-replicate n k

pub place-map : (frames : List Frame) (k : ℕ) → place (map (λ x. Some x) frames) k ≡ slice_get frames k
place-map [] k = refl
place-map (f ∷ frames) zero = refl
place-map (f ∷ frames) (suc k) = place-map frames k

-- lists of one length with the same places are one
pub same_places : (xs ys : List (Option Frame)) → length xs ≡ length ys → ((k : ℕ) → k < length xs → place xs k ≡ place ys k) → xs ≡ ys
same_places [] [] e h = refl
same_places [] (y ∷ ys) e h = absurd (omega (arith, e))
same_places (x ∷ xs) [] e h = absurd (omega (arith, e))
same_places (x ∷ xs) (y ∷ ys) e h =
    let head : x ≡ y = h 0 (omega arith) in
    let tail : xs ≡ ys = same_places xs ys (omega (arith, e)) (λ k l. h (suc k) (omega arith)) in
    cc

-- the places made from a function
pub place-range : (f : ℕ → Option Frame) (a n k j : ℕ) → k < n → j ≡ a + k → place (map f (range_with_len a n)) k ≡ f j
place-range f a zero k j h e = absurd (omega arith)
place-range f a (suc n) zero j h e = ap f (omega (arith, e))
place-range f a (suc n) (suc k) j h e = place-range f (a + 1) n k j (omega arith) (omega (arith, e))

-- elements of a list of frames
pub got_some : (frames : List Frame) (k : ℕ) → k < length frames → IsSome (slice_get frames k)
got_some [] k h = absurd (omega arith)
got_some (f ∷ frames) zero h = refl
got_some (f ∷ frames) (suc k) h = got_some frames k (omega arith)

pub get-drop : {X : Type 0} (n : ℕ) (xs : List X) (k j : ℕ) → j ≡ n + k → slice_get (drop n xs) k ≡ slice_get xs j
get-drop zero xs k j e = ap (slice_get xs) (omega (arith, e))
get-drop (suc n) [] k j e = refl
get-drop (suc n) (x ∷ xs) k zero e = absurd (omega (arith, e))
get-drop (suc n) (x ∷ xs) k (suc j) e = get-drop n xs k j (omega (arith, e))

pub get-take : {X : Type 0} (n : ℕ) (xs : List X) (k : ℕ) → k < n → slice_get (take n xs) k ≡ slice_get xs k
get-take zero xs k h = absurd (omega arith)
get-take (suc n) [] k h = refl
get-take (suc n) (x ∷ xs) zero h = refl
get-take (suc n) (x ∷ xs) (suc k) h = get-take n xs k (omega arith)

pub get_left : {X : Type 0} (xs ys : List X) (k : ℕ) → k < length xs → slice_get (xs ++ ys) k ≡ slice_get xs k
get_left [] ys k h = absurd (omega arith)
get_left (x ∷ xs) ys zero h = refl
get_left (x ∷ xs) ys (suc k) h = get_left xs ys k (omega arith)

pub get_right : {X : Type 0} (xs ys : List X) (k j : ℕ) → j ≡ length xs + k → slice_get (xs ++ ys) j ≡ slice_get ys k
get_right [] ys k j e = ap (slice_get ys) (omega (arith, e))
get_right (x ∷ xs) ys k zero e = absurd (omega (arith, e))
get_right (x ∷ xs) ys k (suc j) e = get_right xs ys k j (omega (arith, e))

pub get-range : {X : Type 0} (f : ℕ → X) (a n k j : ℕ) → k < n → j ≡ a + k → slice_get (map f (range_with_len a n)) k ≡ Some (f j)
get-range f a zero k j h e = absurd (omega arith)
get-range f a (suc n) zero j h e = ap (λ x. Some (f x)) (omega (arith, e))
get-range f a (suc n) (suc k) j h e = get-range f (a + 1) n k j (omega arith) (omega (arith, e))

-- lists of one length with the same elements are one
pub same_gets : {X : Type 0} (xs ys : List X) → length xs ≡ length ys → ((k : ℕ) → k < length xs → slice_get xs k ≡ slice_get ys k) → xs ≡ ys
same_gets [] [] e h = refl
same_gets [] (y ∷ ys) e h = absurd (omega (arith, e))
same_gets (x ∷ xs) [] e h = absurd (omega (arith, e))
same_gets (x ∷ xs) (y ∷ ys) e h =
    let head : Some x ≡ Some y = h 0 (omega arith) in
    let tail : xs ≡ ys = same_gets xs ys (omega (arith, e)) (λ k l. h (suc k) (omega arith)) in
    cc

-- a range in two parts
pub join_range : {X : Type 0} (f h : ℕ → X) (m n : ℕ) → ((k : ℕ) → k < n → h k ≡ f (m + k)) → map f (range_with_len 0 (m + n)) ≡ map f (range_with_len 0 m) ++ map h (range_with_len 0 n)
join_range f h m n e =
    same_gets (map f (range_with_len 0 (m + n))) (map f (range_with_len 0 m) ++ map h (range_with_len 0 n))
    (omega (arith, length-map-range_with_len f 0 (m + n), length-append (map f (range_with_len 0 m)) (map h (range_with_len 0 n)), length-map-range_with_len f 0 m, length-map-range_with_len h 0 n))
    (λ k l.
    let inside : k < m + n = omega (arith, l, length-map-range_with_len f 0 (m + n)) in
    get-range f 0 (m + n) k k inside (omega arith)
    ∙ ⊎_elim
    (λ (low : k < m). sym (get_left (map f (range_with_len 0 m)) (map h (range_with_len 0 n)) k (omega (arith, length-map-range_with_len f 0 m)) ∙ get-range f 0 m k k low (omega arith)))
    (λ (high : m ≤ k).
    let whole : m + (k - m) ≡ k = omega arith in
    let same : Some (f k) ≡ Some (h (k - m)) = ap (λ x. Some x) (sym (e (k - m) (omega arith) ∙ ap f whole)) in
    same ∙ sym (get_right (map f (range_with_len 0 m)) (map h (range_with_len 0 n)) (k - m) k (omega (arith, length-map-range_with_len f 0 m)) ∙ get-range h 0 n (k - m) (k - m) (omega arith) (omega arith)))
    (cases_lt k m))

pub got_elem : {X : Type 0} (xs : List X) (k : ℕ) → k < length xs → IsSome (slice_get xs k)
got_elem [] k h = absurd (omega arith)
got_elem (x ∷ xs) zero h = refl
got_elem (x ∷ xs) (suc k) h = got_elem xs k (omega arith)

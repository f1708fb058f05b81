-- The list of places is a finite map from indices to frames.
use Rattle.std.proofs.Common.{◌≡◌, ℕ, ◌+◌, ◌-◌, ◌<◌, List, length, refl, ap, sym, ◌∙◌, arith, Option, None, subst, inl, inr}
use Rattle.std.specs.Prelude.{IsSome, ℤ, ◌≤ℤ◌, ◌<ℤ◌}
use Rattle.std.proofs.lemmas.Int.{ints, by_lt_z}
use Rattle.std.proofs.lemmas.Bool.{cases_order, false≢true}
use Rattle.std.proofs.lemmas.List.FromFn.{length-map-range_with_len}
use Rattle.px_model.proofs.Places.{place-range, place_past, same_places}
use Rattle.px_model.specs.Index.{onward, above}
use Rattle.px_model.specs.Frame.{Frame}
use Rattle.px_model.specs.Held.{place, frame_of, places_of, IsTrimmed}

pub onward-above : (i read : ℤ) → read ≤ℤ i → onward read (above i read) ≡ i
onward-above i read h = omega (arith, ints)

pub above-onward : (i : ℤ) (n : ℕ) → above (onward i n) i ≡ n
above-onward i n = omega (arith, ints)

pub onward-onward : (i : ℤ) (m n : ℕ) → onward (onward i m) n ≡ onward i (m + n)
onward-onward i m n = omega (arith, ints)

pub above_onward : (a b : ℤ) (n : ℕ) → above a (onward b n) ≡ above a b - n
above_onward a b n = omega (arith, ints)

pub frame_below : (read : ℤ) (held : List (Option Frame)) (i : ℤ) → i <ℤ read → frame_of read held i ≡ None
frame_below read held i h = grind (arith, ints)

pub frame_from : (read : ℤ) (held : List (Option Frame)) (i : ℤ) (k : ℕ) → i ≡ onward read k → frame_of read held i ≡ place held k
frame_from read held i k e = grind (arith, ints)

-- a list gives its map back
pub list_back : (read : ℤ) (held : List (Option Frame)) → places_of read (length held) (frame_of read held) ≡ held
list_back read held =
    same_places (places_of read (length held) (frame_of read held)) held (length-map-range_with_len (λ k. frame_of read held (onward read k)) 0 (length held))
    (λ k h. let within : k < length held = omega (arith, h, length-map-range_with_len (λ k. frame_of read held (onward read k)) 0 (length held)) in
    place-range (λ k. frame_of read held (onward read k)) 0 (length held) k k within (omega arith) ∙ frame_from read held (onward read k) k refl)

-- and a map its list
pub map_back : (read : ℤ) (n : ℕ) (frames : ℤ → Option Frame) → ((i : ℤ) → i <ℤ read → frames i ≡ None) → ((i : ℤ) → onward read n ≤ℤ i → frames i ≡ None) → (i : ℤ) → frame_of read (places_of read n frames) i ≡ frames i
map_back read n frames low high i =
    by_lt_z i read
    (λ below. frame_below read (places_of read n frames) i below ∙ sym (low i below))
    (λ from. by_lt_z i (onward read n)
    (λ inside. frame_from read (places_of read n frames) i (above i read) (sym (onward-above i read from))
    ∙ place-range (λ k. frames (onward read k)) 0 n (above i read) (above i read) (omega (arith, ints, inside, from)) (omega arith)
    ∙ ap frames (onward-above i read from))
    (λ past. frame_from read (places_of read n frames) i (above i read) (sym (onward-above i read from))
    ∙ place_past (places_of read n frames) (above i read) (omega (arith, ints, past, from, length-map-range_with_len (λ k. frames (onward read k)) 0 n))
    ∙ sym (high i past)))

-- past its end a list has nothing
pub frame_past : (read : ℤ) (held : List (Option Frame)) (i : ℤ) → onward read (length held) ≤ℤ i → frame_of read held i ≡ None
frame_past read held i past =
    let from : read ≤ℤ i = omega (arith, ints, past) in
    frame_from read held i (above i read) (sym (onward-above i read from)) ∙ place_past held (above i read) (omega (arith, ints, past))

-- equal maps are equal lists
place_same : (read : ℤ) (held other : List (Option Frame)) → ((i : ℤ) → frame_of read held i ≡ frame_of read other i) → (k : ℕ) → place held k ≡ place other k
place_same read held other e k =
    sym (frame_from read held (onward read k) k refl) ∙ e (onward read k) ∙ frame_from read other (onward read k) k refl

not_longer : (held other : List (Option Frame)) → IsTrimmed held → ((k : ℕ) → place held k ≡ place other k) → length other < length held → ⊥
not_longer held other t e h =
    let some : IsSome (place held (length held - 1)) = t (omega arith) in
    let none : place other (length held - 1) ≡ None = place_past other (length held - 1) (omega arith) in
    let both : IsSome (place other (length held - 1)) = subst (λ o. IsSome o) (e (length held - 1)) some in
    false≢true (subst (λ o. IsSome o) none both)

pub same_map : (read : ℤ) (held other : List (Option Frame)) → IsTrimmed held → IsTrimmed other → ((i : ℤ) → frame_of read held i ≡ frame_of read other i) → held ≡ other
same_map read held other t u e =
    let places : (k : ℕ) → place held k ≡ place other k = place_same read held other e in
    let lengths : length held ≡ length other = elim (cases_order (length held) (length other)) [
      | inl same ↦ same
      | inr (inl less) ↦ absurd (not_longer other held u (λ k. sym (places k)) less)
      | inr (inr more) ↦ absurd (not_longer held other t places more)
    ] in
    same_places held other lengths (λ k h. places k)

-- A write changes its own indices alone.
use Rattle.std.proofs.Common.{◌≡◌, ℕ, ◌+◌, ◌-◌, ◌<◌, ◌≤◌, List, [], ◌∷◌, ◌++◌, map, length, take, drop, refl, ap, sym, ◌∙◌, arith, Option, Some, None, replicate, subst, max, ◌⊎◌, length-append, length-take, length-drop, ⊎_elim}
use Rattle.std.specs.Prelude.{IsSome, slice_get, ℤ, ◌≤ℤ◌, ◌<ℤ◌}
use Rattle.std.proofs.lemmas.Int.{ints, by_lt_z}
use Rattle.std.proofs.lemmas.Bool.{cases_lt}
use Rattle.std.proofs.lemmas.List.{length-map, length-replicate}
use Rattle.px_model.specs.Index.{onward, above}
use Rattle.px_model.specs.Frame.{Frame}
use Rattle.px_model.specs.Held.{place, frame_of, overlay, written_over, IsTrimmed}
use Rattle.px_model.proofs.Places.{place_left, place_right, place-take, place-drop, place-replicate, place-map, place_past, got_some, get-drop}
use Rattle.px_model.proofs.Bridge.{frame_below, frame_from}

-- what stands before the frames, and behind them
abbrev front : ℕ → List (Option Frame) → List (Option Frame)
front p held = take p held ++ replicate (p - length held) None

abbrev behind : ℕ → List Frame → List (Option Frame) → List (Option Frame)
behind p frames held = map (λ x. Some x) frames ++ drop (p + length frames) held

length-front : (p : ℕ) (held : List (Option Frame)) → length (front p held) ≡ p
length-front p held =
    omega (arith, length-append (take p held) (replicate (p - length held) None), length-take p held, length-replicate {A = Option Frame} (p - length held) None)

length-behind : (p : ℕ) (frames : List Frame) (held : List (Option Frame)) → length (behind p frames held) ≡ length frames + (length held - (p + length frames))
length-behind p frames held =
    omega (arith, length-append (map (λ x. Some x) frames) (drop (p + length frames) held), length-drop (p + length frames) held, length-map frames (λ (x : Frame). Some x))

pub length-overlay : (p : ℕ) (frames : List Frame) (held : List (Option Frame)) → 0 < length frames → length (overlay p frames held) ≡ max (p + length frames) (length held)
length-overlay p [] held h = absurd (omega arith)
length-overlay p (f ∷ frames) held h =
    omega (arith, length-append (front p held) (behind p (f ∷ frames) held), length-front p held, length-behind p (f ∷ frames) held)

front_place : (p : ℕ) (held : List (Option Frame)) (k : ℕ) → k < p → place (front p held) k ≡ place held k
front_place p held k h =
    ⊎_elim
    (λ (l : k < length held). place_left (take p held) (replicate (p - length held) None) k (omega (arith, length-take p held)) ∙ place-take p held k h)
    (λ (l : length held ≤ k). place_right (take p held) (replicate (p - length held) None) (k - length held) k (omega (arith, length-take p held))
    ∙ place-replicate (p - length held) (k - length held) ∙ sym (place_past held k l))
    (cases_lt k (length held))

pub overlay_below : (p : ℕ) (frames : List Frame) (held : List (Option Frame)) (k : ℕ) → k < p → place (overlay p frames held) k ≡ place held k
overlay_below p [] held k h = refl
overlay_below p (f ∷ frames) held k h =
    place_left (front p held) (behind p (f ∷ frames) held) k (omega (arith, length-front p held)) ∙ front_place p held k h

pub overlay_inside : (p : ℕ) (frames : List Frame) (held : List (Option Frame)) (k j : ℕ) → k < length frames → j ≡ p + k → place (overlay p frames held) j ≡ slice_get frames k
overlay_inside p [] held k j h e = absurd (omega arith)
overlay_inside p (f ∷ frames) held k j h e =
    place_right (front p held) (behind p (f ∷ frames) held) k j (omega (arith, length-front p held))
    ∙ place_left (map (λ x. Some x) (f ∷ frames)) (drop (p + length (f ∷ frames)) held) k (omega (arith, length-map (f ∷ frames) (λ (x : Frame). Some x)))
    ∙ place-map (f ∷ frames) k

pub overlay_past : (p : ℕ) (frames : List Frame) (held : List (Option Frame)) (j : ℕ) → p + length frames ≤ j → place (overlay p frames held) j ≡ place held j
overlay_past p [] held j h = refl
overlay_past p (f ∷ frames) held j h =
    place_right (front p held) (behind p (f ∷ frames) held) (j - p) j (omega (arith, length-front p held))
    ∙ place_right (map (λ x. Some x) (f ∷ frames)) (drop (p + length (f ∷ frames)) held) (j - p - length (f ∷ frames)) (j - p) (omega (arith, length-map (f ∷ frames) (λ (x : Frame). Some x)))
    ∙ place-drop (p + length (f ∷ frames)) held (j - p - length (f ∷ frames)) j (omega arith)

-- a write over a list without a last hole leaves none
pub overlay_trimmed : (p : ℕ) (frames : List Frame) (held : List (Option Frame)) → IsTrimmed held → IsTrimmed (overlay p frames held)
overlay_trimmed p [] held t = t
overlay_trimmed p (f ∷ frames) held t =
    λ some. ⊎_elim
    (λ (l : p + length (f ∷ frames) < length held).
    let last : length (overlay p (f ∷ frames) held) - 1 ≡ length held - 1 = omega (arith, length-overlay p (f ∷ frames) held (omega arith)) in
    subst (λ o. IsSome o) (sym (ap (place (overlay p (f ∷ frames) held)) last ∙ overlay_past p (f ∷ frames) held (length held - 1) (omega arith))) (t (omega arith)))
    (λ (l : length held ≤ p + length (f ∷ frames)).
    let last : length (overlay p (f ∷ frames) held) - 1 ≡ p + length frames = omega (arith, length-overlay p (f ∷ frames) held (omega arith)) in
    subst (λ o. IsSome o) (sym (ap (place (overlay p (f ∷ frames) held)) last ∙ overlay_inside p (f ∷ frames) held (length frames) (p + length frames) (omega arith) refl)) (got_some (f ∷ frames) (length frames) (omega arith)))
    (cases_lt (p + length (f ∷ frames)) (length held))

-- what is left of a list without a last hole has none
pub drop_trimmed : (n : ℕ) (held : List (Option Frame)) → IsTrimmed held → IsTrimmed (drop n held)
drop_trimmed n held t =
    λ some. subst (λ o. IsSome o) (sym (place-drop n held (length (drop n held) - 1) (length held - 1) (omega (arith, length-drop n held)))) (t (omega (arith, length-drop n held)))

-- ---- the same of the map

-- inside the write
pub write_inside : (read p : ℤ) (frames : List Frame) (held : List (Option Frame)) (k : ℕ) → k < length frames → read ≤ℤ onward p k → frame_of read (written_over read p frames held) (onward p k) ≡ slice_get frames k
write_inside read p frames held k h from =
    frame_from read (written_over read p frames held) (onward p k) (above (onward p k) read) (omega (arith, ints))
    ∙ overlay_inside (above p read) (drop (above read p) frames) held (k - above read p) (above (onward p k) read) (omega (arith, ints, length-drop (above read p) frames)) (omega (arith, ints))
    ∙ get-drop (above read p) frames (k - above read p) k (omega (arith, ints))

-- outside it
pub write_outside : (read p : ℤ) (frames : List Frame) (held : List (Option Frame)) (i : ℤ) → (i <ℤ p) ⊎ (onward p (length frames) ≤ℤ i) → frame_of read (written_over read p frames held) i ≡ frame_of read held i
write_outside read p frames held i out =
    by_lt_z i read
    (λ below. frame_below read (written_over read p frames held) i below ∙ sym (frame_below read held i below))
    (λ from. frame_from read (written_over read p frames held) i (above i read) (omega (arith, ints))
    ∙ ⊎_elim
    (λ (l : i <ℤ p). overlay_below (above p read) (drop (above read p) frames) held (above i read) (omega (arith, ints)))
    (λ (l : onward p (length frames) ≤ℤ i). overlay_past (above p read) (drop (above read p) frames) held (above i read) (omega (arith, ints, length-drop (above read p) frames)))
    out
    ∙ sym (frame_from read held i (above i read) (omega (arith, ints))))

pub write_trimmed : (read p : ℤ) (frames : List Frame) (held : List (Option Frame)) → IsTrimmed held → IsTrimmed (written_over read p frames held)
write_trimmed read p frames held t = overlay_trimmed (above p read) (drop (above read p) frames) held t

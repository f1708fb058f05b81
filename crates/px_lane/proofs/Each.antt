-- A loop over the inputs of a sink that changes each and tells notices of it.
use Rattle.std.proofs.Common.{◌≡◌, ℕ, zero, suc, ◌+◌, ◌<◌, ◌≤◌, List, [], ◌∷◌, ◌++◌, map, length, take, drop, get_or, refl, ap, sym, ◌∙◌, subst, arith, length-append, append_assoc}
use Rattle.std.specs.Prelude.{flat_map, slice_set, slice_index_or}
use Rattle.std.specs.List.{AllByRecursion}
use Rattle.std.proofs.lemmas.List.{take_more, take_more_set, drop_more, drop-set-lt, drop-drop, get_or-drop, take-append-drop, take-append-le, take_all, drop_all, map-append}
use Rattle.std.proofs.lemmas.Grind.{flat_map-append}
use Rattle.px_model.specs.Stream.{Stream}
use Rattle.px_model.specs.Notice.{Notice}
use Rattle.px_model.specs.Sink.{Input as Stands, IsRising, with_stream}
use Rattle.px_lane.proofs.Rising.{rising_each}
use Rattle.px_lane.specs.declared.input.Input.{Input}
use Rattle.px_lane.specs.Inputs.{input_of, inputs_of, HasRoom}

-- the first i inputs are changed and told of
pub record Done (f : Stands → Stands) (g : Stands → List (Notice Stream)) (old now : List Input) (before after : List (Notice Stream)) (i : ℕ) : Type 0 where
  pub front : inputs_of (take i now) ≡ map f (inputs_of (take i old))
  pub rest : drop i now ≡ drop i old
  pub noticed : after ≡ before ++ flat_map g (inputs_of (take i old))
  pub room : (r b : ℕ) → AllByRecursion (HasRoom r b) old → AllByRecursion (HasRoom r b) now

-- the input that is next
same_next : (old now : List Input) (i : ℕ) (d : Input) → drop i now ≡ drop i old → slice_index_or old i d ≡ slice_index_or now i d
same_next old now i d e =
    let n : i + 0 ≡ i = omega arith in
    sym (ap (λ (k : ℕ). get_or old k d) n) ∙ sym (get_or-drop i old 0 d) ∙ sym (ap (λ (xs : List Input). get_or xs 0 d) e)
    ∙ get_or-drop i now 0 d ∙ ap (λ (k : ℕ). get_or now k d) n

one_more : (old : List Input) (i : ℕ) (d x : Input) → i < length old → slice_index_or old i d ≡ x → take (i + 1) old ≡ take i old ++ x ∷ []
one_more old i d x l e = take_more old i d l ∙ ap (λ (y : Input). take i old ++ y ∷ []) e

all_set : (r b : ℕ) (now : List Input) (i : ℕ) (d y : Input) → i < length now → (Input.stream (slice_index_or now i d)).room ≤ y.stream.room → (Input.stream (slice_index_or now i d)).block_room ≤ y.stream.block_room
    → AllByRecursion (HasRoom r b) now → AllByRecursion (HasRoom r b) (slice_set now i y)
all_set r b [] i d y n l m h = h
all_set r b (z ∷ now) zero d y n l m h = ((omega (arith, l, h.0.0), omega (arith, m, h.0.1)), h.1)
all_set r b (z ∷ now) (suc i) d y n l m h = (h.0, all_set r b now i d y (omega (arith, n)) l m h.1)

no_more : (ns : List (Notice Stream)) → ns ++ [] ≡ ns
no_more [] = refl
no_more (m ∷ ns) = ap (λ (ks : List (Notice Stream)). m ∷ ks) (no_more ns)

more : (f : Stands → Stands) (g : Stands → List (Notice Stream)) (old now : List Input) (before after later : List (Notice Stream)) (i : ℕ) (d x y : Input)
    → Done f g old now before after i → i < length now → i < length old → slice_index_or now i d ≡ x → slice_index_or old i d ≡ x
    → input_of y ≡ f (input_of x) → (Input.stream (slice_index_or now i d)).room ≤ y.stream.room → (Input.stream (slice_index_or now i d)).block_room ≤ y.stream.block_room → later ≡ after ++ g (input_of x)
    → Done f g old (slice_set now i y) before later (i + 1)
more f g old now before after later i d x y done l m here there e room blocks noticed =
    let olds : inputs_of (take (i + 1) old) ≡ inputs_of (take i old) ++ input_of x ∷ [] = ap inputs_of (one_more old i d x m there) ∙ map-append input_of (take i old) (x ∷ []) in
    record {
      front = ap inputs_of (take_more_set now i y l)
          ∙ map-append input_of (take i now) (y ∷ [])
          ∙ (λ k. done.front k ++ e k ∷ [])
          ∙ sym (ap (map f) olds ∙ map-append f (inputs_of (take i old)) (input_of x ∷ []));
      rest = drop-set-lt (i + 1) now i y (omega arith)
          ∙ after_one now ∙ ap (drop 1) done.rest ∙ sym (after_one old);
      noticed = noticed
          ∙ ap (λ (ns : List (Notice Stream)). ns ++ g (input_of x)) done.noticed
          ∙ append_assoc before (flat_map g (inputs_of (take i old))) (g (input_of x))
          ∙ ap (λ (ns : List (Notice Stream)). before ++ ns)
          (sym (ap (flat_map g) olds
          ∙ flat_map-append g (inputs_of (take i old)) (input_of x ∷ [])
          ∙ ap (λ (ns : List (Notice Stream)). flat_map g (inputs_of (take i old)) ++ ns) (no_more (g (input_of x)))));
      room = λ r b h. all_set r b now i d y l room blocks (done.room r b h);
    }
  where
    after_one : (xs : List Input) → drop (i + 1) xs ≡ drop 1 (drop i xs)
    after_one xs = sym (drop-drop 1 i xs)

pub done_more : (f : Stands → Stands) (g : Stands → List (Notice Stream)) (old now : List Input) (before after later : List (Notice Stream)) (i : ℕ) (d y : Input)
    → Done f g old now before after i → i < length now → length now ≡ length old
    → input_of y ≡ f (input_of (slice_index_or now i d)) → (Input.stream (slice_index_or now i d)).room ≤ y.stream.room → (Input.stream (slice_index_or now i d)).block_room ≤ y.stream.block_room → later ≡ after ++ g (input_of (slice_index_or now i d))
    → Done f g old (slice_set now i y) before later (i + 1)
done_more f g old now before after later i d y done l n e room blocks noticed =
    more f g old now before after later i d (slice_index_or now i d) y done l (omega (arith, l, n)) refl (same_next old now i d done.rest) e room blocks noticed

fits : (g : Stands → List (Notice Stream)) (old : List Input) (before after : List (Notice Stream)) (i : ℕ) (d x : Input) (capacity : ℕ)
    → after ≡ before ++ flat_map g (inputs_of (take i old)) → i < length old → slice_index_or old i d ≡ x
    → length before + length (flat_map g (inputs_of old)) ≤ capacity
    → length after + length (g (input_of x)) ≤ capacity
fits g old before after i d x capacity noticed l there room =
    let all : inputs_of old ≡ inputs_of (take i old) ++ input_of x ∷ inputs_of (drop (i + 1) old) =
    ap inputs_of (sym (take-append-drop i old)) ∙ map-append input_of (take i old) (drop i old)
    ∙ ap (λ (xs : List Input). inputs_of (take i old) ++ inputs_of xs) (drop_more old i d l ∙ ap (λ (z : Input). z ∷ drop (i + 1) old) there) in
    let said : length after ≡ length before + length (flat_map g (inputs_of (take i old))) = ap (λ (ns : List (Notice Stream)). length ns) noticed ∙ length-append before (flat_map g (inputs_of (take i old))) in
    let whole : length (flat_map g (inputs_of old)) ≡ length (flat_map g (inputs_of (take i old))) + (length (g (input_of x)) + length (flat_map g (inputs_of (drop (i + 1) old)))) =
    ap (λ (xs : List Stands). length (flat_map g xs)) all
    ∙ ap (λ (ns : List (Notice Stream)). length ns) (flat_map-append g (inputs_of (take i old)) (input_of x ∷ inputs_of (drop (i + 1) old)))
    ∙ length-append (flat_map g (inputs_of (take i old))) (g (input_of x) ++ flat_map g (inputs_of (drop (i + 1) old)))
    ∙ ap (λ (k : ℕ). length (flat_map g (inputs_of (take i old))) + k) (length-append (g (input_of x)) (flat_map g (inputs_of (drop (i + 1) old)))) in
    omega (arith, said, whole, room)

-- there is room for its notices
pub done_fits : (f : Stands → Stands) (g : Stands → List (Notice Stream)) (old now : List Input) (before after : List (Notice Stream)) (i : ℕ) (d : Input) (capacity : ℕ)
    → Done f g old now before after i → i < length now → length now ≡ length old
    → length before + length (flat_map g (inputs_of old)) ≤ capacity
    → length after + length (g (input_of (slice_index_or now i d))) ≤ capacity
done_fits f g old now before after i d capacity done l n room =
    fits g old before after i d (slice_index_or now i d) capacity done.noticed (omega (arith, l, n)) (same_next old now i d done.rest) room

-- ---- the inputs after it

pub all_of_it : (items new : List Input) (n : ℕ) → length items ≡ n → length new ≡ length items → take n (new ++ drop (length new) items) ≡ new
all_of_it items new n e l =
    ap (λ (rest : List Input). take n (new ++ rest)) (drop_all (length new) items (omega (arith, l)))
    ∙ take-append-le n new [] (omega (arith, e, l))
    ∙ take_all n new (omega (arith, e, l))

pub in_place : (items new : List Input) (n room left blocks capacity : ℕ) → length items ≡ n → length new ≡ length items
    → IsRising (inputs_of new) → AllByRecursion (HasRoom left blocks) new → left ≤ room → n + room ≤ capacity
    → IsRising (inputs_of (take n (new ++ drop (length new) items))) × AllByRecursion (HasRoom left blocks) (take n (new ++ drop (length new) items)) × (n + left ≤ capacity)
in_place items new n room left blocks capacity e l rising rooms less fits =
    subst (λ (xs : List Input). IsRising (inputs_of xs) × AllByRecursion (HasRoom left blocks) xs × (n + left ≤ capacity)) (sym (all_of_it items new n e l))
    (rising, rooms, omega (arith, less, fits))

pub rooms_in_place : (f : Stream → Stream) (items new : List Input) (n room blocks capacity : ℕ) → length items ≡ n → length new ≡ length items
    → inputs_of new ≡ map (with_stream f) (inputs_of items) → ((r b : ℕ) → AllByRecursion (HasRoom r b) items → AllByRecursion (HasRoom r b) new)
    → IsRising (inputs_of items) × AllByRecursion (HasRoom room blocks) items × (n + room ≤ capacity)
    → IsRising (inputs_of (take n (new ++ drop (length new) items))) × AllByRecursion (HasRoom room blocks) (take n (new ++ drop (length new) items)) × (n + room ≤ capacity)
rooms_in_place f items new n room blocks capacity e l changed rooms keeps =
    in_place items new n room room blocks capacity e l (subst IsRising (sym changed) (rising_each f (inputs_of items) keeps.0)) (rooms room blocks keeps.1) (omega arith) keeps.2

-- A queue of several takes the place of another.
use Rattle.std.proofs.Common.{arith, rules, ◌≡◌, ℕ, ◌+◌, ◌-◌, ◌<◌, ◌≤◌, List, [], ◌∷◌, ◌++◌, suc, zero, length, get_or, slice_set, drop, Option, None, Some, IsNone, IsSome, refl, sym, ap, ◌∙◌}
use Rattle.std.specs.Option.{option_to_list}
use Rattle.std.proofs.lemmas.List.{set-get_or}
use Rattle.std.specs.VecDeque.{deque_len, deque_capacity}
use Rattle.std.specs.declared.collections.VecDeque.{VecDeque}
use Rattle.px_types.specs.declared.ids.SinkId.{SinkId}
use Rattle.px_msg.specs.declared.message.Msg.{Msg}
use Rattle.px_state.specs.Out.{rest_of, room_past, with_less_room}
use Rattle.px_state.specs.Tables.{lists_of, rooms_of, HasPlaces, HasPlacesAt, HavePlaces}

pub set_lists : {P Z : Type 0} (queues : List (VecDeque (Msg P) Z)) (i : ℕ) (q : VecDeque (Msg P) Z) → lists_of (slice_set queues i q) ≡ slice_set (lists_of queues) i q.items
set_lists [] i q = refl
set_lists (x ∷ queues) zero q = refl
set_lists (x ∷ queues) (suc i) q = ap (λ lists. x.items ∷ lists) (set_lists queues i q)

pub get_lists : {P Z : Type 0} (queues : List (VecDeque (Msg P) Z)) (i : ℕ) (d : VecDeque (Msg P) Z) → i < length queues → get_or (lists_of queues) i [] ≡ (get_or queues i d).items
get_lists [] i d within = absurd (omega arith)
get_lists (x ∷ queues) zero d within = refl
get_lists (x ∷ queues) (suc i) d within = get_lists queues i d (omega arith)

pub set_lists_to : {P Z : Type 0} (queues : List (VecDeque (Msg P) Z)) (i : ℕ) (q : VecDeque (Msg P) Z) (ms : List (Msg P)) → q.items ≡ ms → lists_of (slice_set queues i q) ≡ slice_set (lists_of queues) i ms
set_lists_to queues i q ms same = set_lists queues i q ∙ ap (slice_set (lists_of queues) i) same

-- what isn't there isn't set
pub set_past : {A : Type 0} (xs : List A) (i : ℕ) (a : A) → length xs ≤ i → slice_set xs i a ≡ xs
set_past [] i a past = refl
set_past (x ∷ xs) zero a past = absurd (omega arith)
set_past (x ∷ xs) (suc i) a past = ap (λ ys. x ∷ ys) (set_past xs i a (omega arith))

pub length_lists : {P Z : Type 0} (queues : List (VecDeque (Msg P) Z)) → length (lists_of queues) ≡ length queues
length_lists [] = refl
length_lists (x ∷ queues) = ap suc (length_lists queues)

pub fewer_places : {P Z : Type 0} (n : ℕ) (queues : List (VecDeque (Msg P) Z)) → HavePlaces (n + 1) queues → HavePlaces n queues
fewer_places n [] have = tt
fewer_places n (x ∷ queues) have = (omega (arith, have.0), fewer_places n queues have.1)

pub set_places : {P Z : Type 0} (n : ℕ) (queues : List (VecDeque (Msg P) Z)) (i : ℕ) (q : VecDeque (Msg P) Z) → HavePlaces n queues → HasPlaces n q → HavePlaces n (slice_set queues i q)
set_places n [] i q have has = tt
set_places n (x ∷ queues) zero q have has = (has, have.1)
set_places n (x ∷ queues) (suc i) q have has = (have.0, set_places n queues i q have.1 has)

pub get_places : {P Z : Type 0} (n : ℕ) (queues : List (VecDeque (Msg P) Z)) (i : ℕ) (d : VecDeque (Msg P) Z) → i < length queues → HavePlaces n queues → HasPlaces n (get_or queues i d)
get_places n [] i d within have = absurd (omega arith)
get_places n (x ∷ queues) zero d within have = have.0
get_places n (x ∷ queues) (suc i) d within have = get_places n queues i d (omega arith) have.1

pub places_at : {P Z : Type 0} (n : ℕ) (queues : List (VecDeque (Msg P) Z)) (i : ℕ) (d : VecDeque (Msg P) Z) → i < length queues → HasPlacesAt n i queues → HasPlaces n (get_or queues i d)
places_at n [] i d within has = absurd (omega arith)
places_at n (x ∷ queues) zero d within has = has
places_at n (x ∷ queues) (suc i) d within has = places_at n queues i d (omega arith) has

pub set_places_at : {P Z : Type 0} (n : ℕ) (queues : List (VecDeque (Msg P) Z)) (i : ℕ) (q : VecDeque (Msg P) Z) → HasPlaces n q → HasPlacesAt n i (slice_set queues i q)
set_places_at n [] i q has = tt
set_places_at n (x ∷ queues) zero q has = has
set_places_at n (x ∷ queues) (suc i) q has = set_places_at n queues i q has

-- those before a place have so many, and the one there gets them
pub one_more_has : {P Z : Type 0} (n : ℕ) (queues : List (VecDeque (Msg P) Z)) (i : ℕ) (q : VecDeque (Msg P) Z) → ((k : ℕ) → k < i → HasPlacesAt n k queues) → HasPlaces n q → (k : ℕ) → k < i + 1 → HasPlacesAt n k (slice_set queues i q)
one_more_has n [] i q have has k below = tt
one_more_has n (x ∷ queues) zero q have has zero below = has
one_more_has n (x ∷ queues) zero q have has (suc k) below = absurd (omega arith)
one_more_has n (x ∷ queues) (suc i) q have has zero below = have 0 (omega arith)
one_more_has n (x ∷ queues) (suc i) q have has (suc k) below = one_more_has n queues i q (λ j less. have (suc j) (omega arith)) has k (omega arith)

pub all_have : {P Z : Type 0} (n : ℕ) (queues : List (VecDeque (Msg P) Z)) → ((k : ℕ) → k < length queues → HasPlacesAt n k queues) → HavePlaces n queues
all_have n [] have = tt
all_have n (x ∷ queues) have = (have 0 (omega arith), all_have n queues (λ k less. have (suc k) (omega arith)))

-- a queue with the same messages takes the place of another
pub same_lists : {P Z : Type 0} (queues : List (VecDeque (Msg P) Z)) (i : ℕ) (d q : VecDeque (Msg P) Z) → q.items ≡ (get_or queues i d).items → lists_of (slice_set queues i q) ≡ lists_of queues
same_lists [] i d q same = refl
same_lists (x ∷ queues) zero d q same = ap (λ ms. ms ∷ lists_of queues) same
same_lists (x ∷ queues) (suc i) d q same = ap (λ lists. x.items ∷ lists) (same_lists queues i d q same)

-- ---- how many more messages the queues take in

pub set_rooms : {P Z : Type 0} (queues : List (VecDeque (Msg P) Z)) (i : ℕ) (q : VecDeque (Msg P) Z) → rooms_of (slice_set queues i q) ≡ slice_set (rooms_of queues) i (deque_capacity q - deque_len q)
set_rooms [] i q = refl
set_rooms (x ∷ queues) zero q = refl
set_rooms (x ∷ queues) (suc i) q = ap (λ rooms. (deque_capacity x - deque_len x) ∷ rooms) (set_rooms queues i q)

pub get_rooms : {P Z : Type 0} (queues : List (VecDeque (Msg P) Z)) (i : ℕ) (d : VecDeque (Msg P) Z) → i < length queues → get_or (rooms_of queues) i 0 ≡ deque_capacity (get_or queues i d) - deque_len (get_or queues i d)
get_rooms [] i d within = absurd (omega arith)
get_rooms (x ∷ queues) zero d within = refl
get_rooms (x ∷ queues) (suc i) d within = get_rooms queues i d (omega arith)

-- the queue at a place has one place more or less
pub set_room_to : {P Z : Type 0} (queues : List (VecDeque (Msg P) Z)) (i : ℕ) (q : VecDeque (Msg P) Z) (room : ℕ) → deque_capacity q - deque_len q ≡ room → rooms_of (slice_set queues i q) ≡ slice_set (rooms_of queues) i room
set_room_to queues i q room same = set_rooms queues i q ∙ ap (slice_set (rooms_of queues) i) same

-- the first message leaves its place
pub room_popped : {P Z M : Type 0} (first : Option M) (queues : List (VecDeque (Msg P) Z)) (sink : SinkId) (d q : VecDeque (Msg P) Z) → sink.0 < length queues → deque_capacity q ≡ deque_capacity (get_or queues sink.0 d) → deque_len q + length (option_to_list first) ≡ deque_len (get_or queues sink.0 d) → deque_len (get_or queues sink.0 d) ≤ deque_capacity (get_or queues sink.0 d)
    → rooms_of (slice_set queues sink.0 q) ≡ room_past first sink (rooms_of queues)
room_popped None queues sink d q within same less fits =
    set_room_to queues sink.0 q (get_or (rooms_of queues) sink.0 0) (omega (arith, same, less, get_rooms queues sink.0 d within)) ∙ set-get_or (rooms_of queues) sink.0 0
room_popped (Some m) queues sink d q within same less fits =
    set_room_to queues sink.0 q (get_or (rooms_of queues) sink.0 0 + 1) (omega (arith, same, less, fits, get_rooms queues sink.0 d within))

-- one more takes a place
pub room_pushed : {P Z : Type 0} (queues : List (VecDeque (Msg P) Z)) (sink : SinkId) (d q : VecDeque (Msg P) Z) → sink.0 < length queues → deque_capacity q ≡ deque_capacity (get_or queues sink.0 d) → deque_len q ≡ deque_len (get_or queues sink.0 d) + 1
    → rooms_of (slice_set queues sink.0 q) ≡ with_less_room sink (rooms_of queues)
room_pushed queues sink d q within same more =
    set_room_to queues sink.0 q (get_or (rooms_of queues) sink.0 0 - 1) (omega (arith, same, more, get_rooms queues sink.0 d within))

-- none was there
pub no_room_past : {P Z : Type 0} (queues : List (VecDeque (Msg P) Z)) (i : ℕ) → length queues ≤ i → get_or (rooms_of queues) i 0 ≡ 0
no_room_past [] i past = refl
no_room_past (x ∷ queues) zero past = absurd (omega arith)
no_room_past (x ∷ queues) (suc i) past = no_room_past queues i (omega arith)

-- ---- the first of a list

pub rest_is_dropped : {A : Type 0} (xs : List A) → drop 1 xs ≡ rest_of xs
rest_is_dropped [] = refl
rest_is_dropped (x ∷ xs) = refl

pub none_left : {A : Type 0} (first : Option A) (old new : List A) → old ≡ option_to_list first ++ new → IsNone first → new ≡ old
none_left None old new whole none = sym whole
none_left (Some x) old new whole none = absurd (search rules)

pub one_less : {A : Type 0} (first : Option A) (old new : ℕ) → new + length (option_to_list first) ≡ old → IsSome first → new + 1 ≤ old
one_less None old new whole some = absurd (search rules)
one_less (Some x) old new whole some = omega (arith, whole)

pub many_places : {P Z : Type 0} (n more : ℕ) (queues : List (VecDeque (Msg P) Z)) → HavePlaces (n + more) queues → HavePlaces n queues
many_places n more [] have = tt
many_places n more (x ∷ queues) have = (omega (arith, have.0), many_places n more queues have.1)

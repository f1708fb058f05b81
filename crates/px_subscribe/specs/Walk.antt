-- How the events of a facility are found: from the infos of two moments, each object by its index.
use Rattle.std.specs.Prelude.{⊤, ◌≤◌, ℕ, ◌+◌, cond, ◌&&◌, nat_eq, nat_le, nat_lt, min, List, [], ◌∷◌, Option, None, Some, option_map, option_to_list}
use Rattle.std.specs.List.{find}
use Rattle.px_subscribe.specs.declared.event.Facility.{Facility}
use Rattle.px_subscribe.specs.declared.event.Kind.{Kind}
use Rattle.px_subscribe.specs.declared.event.Event.{Event}
use Rattle.px_subscribe.specs.Became.{event, events_of}

-- the event of one object, where there is one
abbrev pub said : Facility → ℕ → Option Kind → List Event
said facility index kind = option_to_list (option_map (event facility index) kind)

-- the first object with an index
abbrev pub object_at : {A : Type 0} → (A → ℕ) → List A → ℕ → Option A
object_at index xs i = find (λ x. nat_eq (index x) i) xs

-- the events of the objects of a facility
abbrev pub events_in : {A : Type 0} → Facility → (A → ℕ) → (A → List ℕ) → List A → List A → ℕ → List Event
events_in facility index bytes before after given = events_of facility bytes (object_at index before) (object_at index after) given

-- ---- lists in which indices rise

-- each index is at least `least`, and above those before it
abbrev pub RisesFrom : {A : Type 0} → (A → ℕ) → ℕ → List A → Type 0
RisesFrom index least [] = ⊤
RisesFrom index least (x ∷ xs) = (least ≤ index x) × RisesFrom index (index x + 1) xs

-- the first one's index, at most `end`
abbrev pub first_index : {A : Type 0} → (A → ℕ) → List A → ℕ → ℕ
first_index index [] end = end
first_index index (x ∷ xs) end = min end (index x)

-- the first one, where it has this index, and the others
abbrev pub head_at : {A : Type 0} → (A → ℕ) → ℕ → List A → Option A
head_at index i [] = None
head_at index i (x ∷ xs) = cond (nat_eq (index x) i) (Some x) None

abbrev pub rest_at : {A : Type 0} → (A → ℕ) → ℕ → List A → List A
rest_at index i [] = []
rest_at index i (x ∷ xs) = cond (nat_eq (index x) i) xs (x ∷ xs)

-- ---- any lists: the least index from one on, or the end where none lies below it

abbrev pub next_in : {A : Type 0} → (A → ℕ) → List A → ℕ → ℕ → ℕ
next_in index [] from end = end
next_in index (x ∷ xs) from end = next_in index xs from (cond (nat_le from (index x) && nat_lt (index x) end) (index x) end)

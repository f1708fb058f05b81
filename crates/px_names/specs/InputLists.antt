-- The property lists of sink inputs: each is found by its input's index.
use Rattle.std.specs.Prelude.{⊤, ℕ, ◌+◌, ◌≤◌, Bool, cond, nat_eq, List, [], ◌∷◌, Option, None, Some}
use Rattle.std.specs.List.{find}
use Rattle.px_types.specs.declared.ids.InputId.{InputId}
use Rattle.px_tag.specs.PropList.{Property}
use Rattle.px_names.specs.declared.input_lists.InputList.{InputList}

-- the lists, and the number of lists that the table holds without memory
pub record RoomyLists : Type 0 where
  pub items : List InputList
  pub places : ℕ

-- it is the list of the input with an index
abbrev pub is_of : InputId → InputList → Bool
is_of input l = nat_eq l.input.0 input.0

-- the properties of a list; empty where there is none
abbrev pub properties_of : Option InputList → List Property
properties_of None = []
properties_of (Some l) = l.list

-- the list of an input; empty where it has none
abbrev pub list_of : List InputList → InputId → List Property
list_of lists input = properties_of (find (is_of input) lists)

-- the lists, with that of an input set; a new one comes after the others
abbrev pub with_list_of : InputId → List Property → List InputList → List InputList
with_list_of input list [] = record { input = input; list = list } ∷ []
with_list_of input list (l ∷ lists) = cond (is_of input l) (record l { list = list } ∷ lists) (l ∷ with_list_of input list lists)

-- the lists without that of an input
abbrev pub without_list_of : InputId → List InputList → List InputList
without_list_of input [] = []
without_list_of input (l ∷ lists) = cond (is_of input l) lists (l ∷ without_list_of input lists)

-- the indices of the inputs rise: each is at least `least`, and above those before it
abbrev pub RisesFrom : ℕ → List InputList → Type 0
RisesFrom least [] = ⊤
RisesFrom least (l ∷ lists) = (least ≤ l.input.0) × RisesFrom (l.input.0 + 1) lists

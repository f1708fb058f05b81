-- The words of `ctl`: the path of a server's socket, and an errand. Own.
use Rattle.std.specs.Prelude.{◌≡◌, ℕ, Bool, true, false, cond, ◌&&◌, bytes_eq, List, [], ◌∷◌, Option, None, Some, option_map, codes}
use Rattle.px_client.specs.declared.errand.Errand.{Errand}
use Rattle.px_client.specs.declared.errand.Errand.TheVariants.{List as list_inputs, Volume, Mute, SinkVolume, Move, Kill}
use Rattle.px_client.specs.Errand.{IsErrand}
use Rattle.px_ctl.specs.declared.words.ControlWords.{ControlWords}
use Rattle.px_ctl.specs.Number.{number_in, in_64_bits, in_32_bits}

-- ---- the errand

-- a number of 32 bits: the index of an input, or a volume
abbrev pub index_in : List ℕ → Option ℕ
index_in word = in_32_bits (in_64_bits (number_in word))

abbrev pub switch_in : List ℕ → Option Bool
switch_in word = cond (bytes_eq word (codes "on")) (Some true) (cond (bytes_eq word (codes "off")) (Some false) None)

abbrev pub volume_of : Option ℕ → Option ℕ → Option Errand
volume_of None value = None
volume_of (Some input) None = None
volume_of (Some input) (Some value) = Some (Volume input value)

abbrev pub mute_of : Option ℕ → Option Bool → Option Errand
mute_of None on = None
mute_of (Some input) None = None
mute_of (Some input) (Some on) = Some (Mute input on)

abbrev pub sink_volume_of : List ℕ → Option ℕ → Option Errand
sink_volume_of name None = None
sink_volume_of name (Some value) = Some (SinkVolume name value)

abbrev pub move_of : Option ℕ → List ℕ → Option Errand
move_of None name = None
move_of (Some input) name = Some (Move input name)

-- list
abbrev pub of_one : List ℕ → Option Errand
of_one word = cond (bytes_eq word (codes "list")) (Some list_inputs) None

-- kill INPUT
abbrev pub of_two : List ℕ → List ℕ → Option Errand
of_two first second = cond (bytes_eq first (codes "kill")) (option_map Kill (index_in second)) None

-- volume INPUT VALUE, mute INPUT on or off, sink-volume NAME VALUE, or move INPUT NAME
abbrev pub of_three : List ℕ → List ℕ → List ℕ → Option Errand
of_three first second third =
    cond (bytes_eq first (codes "volume")) (volume_of (index_in second) (index_in third))
    (cond (bytes_eq first (codes "mute")) (mute_of (index_in second) (switch_in third))
    (cond (bytes_eq first (codes "sink-volume")) (sink_volume_of second (index_in third))
    (cond (bytes_eq first (codes "move")) (move_of (index_in second) third) None)))

-- the errand of these words, with any name and volume
abbrev pub errand_in : List (List ℕ) → Option Errand
errand_in [] = None
errand_in (a ∷ []) = of_one a
errand_in (a ∷ b ∷ []) = of_two a b
errand_in (a ∷ b ∷ c ∷ []) = of_three a b c
errand_in (a ∷ b ∷ c ∷ d ∷ more) = None

-- ---- the whole words

-- words that begin with `ctl`
abbrev pub is_ctl : List (List ℕ) → Bool
is_ctl [] = false
is_ctl (word ∷ words) = bytes_eq word (codes "ctl")

-- the words after `ctl --socket`: a path, and the rest
abbrev pub after_socket : List (List ℕ) → Option (List ℕ × List (List ℕ))
after_socket [] = None
after_socket (a ∷ []) = None
after_socket (a ∷ b ∷ []) = None
after_socket (a ∷ b ∷ path ∷ rest) = cond (bytes_eq a (codes "ctl") && bytes_eq b (codes "--socket")) (Some (path, rest)) None

-- `ctl --socket PATH`, and the words of an errand with a name and a volume that a server takes
pub record IsSaid (texts : List (List ℕ)) (said : ControlWords) : Type 0 where
  pub rest : List (List ℕ)
  pub after : after_socket texts ≡ Some (said.socket, rest)
  pub gives : errand_in rest ≡ Some said.errand
  pub allowed : IsErrand said.errand

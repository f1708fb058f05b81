-- Plain words of `serve`: `serve`, followed by its settings in any order. Own.
use Rattle.std.specs.Prelude.{◌≡◌, ◌≢◌, ◌≤◌, ◌+◌, ⊤, ℕ, Bool, true, false, List, [], ◌∷◌, None, Some, IsTrue, codes, decimal, if◌then◌else◌}
use Rattle.std.specs.List.{All, flat_map}
use Rattle.std.specs.Str.{bytes_eq}
use Rattle.px_names.specs.Source.{is_source_name}
use Rattle.px_app.specs.declared.serve_words.words.ServeWords.{ServeWords}

-- one setting: the paths of the header file, the socket and the folder for what is played, the number of links to accept, whether histories are
-- stored in memory, that a tape is recorded, and the name of the default source
pub data Setting : Type 0 where
  Header : List ℕ → Setting
  Socket : List ℕ → Setting
  Out : List ℕ → Setting
  Accept : ℕ → Setting
  History : Bool → Setting
  Tape : Setting
  Source : List ℕ → Setting

-- the name of its option
abbrev pub option_of : Setting → List ℕ
option_of (Header path) = codes "header"
option_of (Socket path) = codes "socket"
option_of (Out path) = codes "out"
option_of (Accept links) = codes "accept"
option_of (History memory) = codes "history"
option_of Tape = codes "tape"
option_of (Source name) = codes "source"

abbrev pub history_word : Bool → List ℕ
history_word memory = if memory then codes "memory" else codes "none"

-- its words
abbrev pub spelling : Setting → List (List ℕ)
spelling (Header path) = codes "--header" ∷ path ∷ []
spelling (Socket path) = codes "--socket" ∷ path ∷ []
spelling (Out path) = codes "--out" ∷ path ∷ []
spelling (Accept links) = codes "--accept" ∷ decimal links ∷ []
spelling (History memory) = codes "--history" ∷ history_word memory ∷ []
spelling Tape = codes "--tape" ∷ []
spelling (Source name) = codes "--source" ∷ name ∷ []

-- a value isn't empty, and doesn't begin with `-` (45)
abbrev pub IsValue : List ℕ → Type 0
IsValue [] = ⊥
IsValue (first ∷ rest) = first ≢ 45

abbrev pub IsPlain : Setting → Type 0
IsPlain (Header path) = IsValue path
IsPlain (Socket path) = IsValue path
IsPlain (Out path) = IsValue path
IsPlain (Accept links) = (1 ≤ links) × (links ≤ 65535)
IsPlain (Source name) = IsValue name × IsTrue (is_source_name name)
IsPlain _ = ⊤

-- the options have this setting
abbrev pub Says : ServeWords → Setting → Type 0
Says said (Header path) = said.options.header ≡ path
Says said (Socket path) = said.options.socket ≡ path
Says said (Out path) = said.options.out ≡ path
Says said (Accept links) = said.options.accept ≡ links
Says said (History memory) = said.options.memory ≡ memory
Says said Tape = said.tape ≡ true
Says said (Source name) = said.source ≡ Some name

-- the number of settings with this option
abbrev pub times : List ℕ → List Setting → ℕ
times name [] = 0
times name (setting ∷ rest) = (if bytes_eq (option_of setting) name then 1 else 0) + times name rest

-- The words are plain, and give these options: each of the four required options stands once, and each of the other three once or not at all.
pub record Plain (words : List (List ℕ)) (said : ServeWords) : Type 0 where
  pub settings : List Setting
  pub spelled : words ≡ codes "serve" ∷ flat_map spelling settings
  pub plain : All IsPlain settings
  pub says : All (Says said) settings
  pub header : times (codes "header") settings ≡ 1
  pub socket : times (codes "socket") settings ≡ 1
  pub out : times (codes "out") settings ≡ 1
  pub accept : times (codes "accept") settings ≡ 1
  pub history : times (codes "history") settings ≤ 1
  pub no_history : times (codes "history") settings ≡ 0 → said.options.memory ≡ false
  pub tape : times (codes "tape") settings ≤ 1
  pub no_tape : times (codes "tape") settings ≡ 0 → said.tape ≡ false
  pub source : times (codes "source") settings ≤ 1
  pub no_source : times (codes "source") settings ≡ 0 → said.source ≡ None

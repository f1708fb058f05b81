-- The command `serve` as clap reads it, and the options that its matches give. Own.
use Rattle.std.specs.Prelude.{◌≡◌, ◌≢◌, ◌⊎◌, ◌≤◌, ℕ, Bool, pos, true, false, List, [], ◌∷◌, Option, Some, None, IsSome, option_map, codes, if◌then◌else◌}
use Rattle.std.specs.Str.{bytes_eq}
use Rattle.std.specs.Str.Parse.{IsNumeral, digits_value, without_leading_plus}
use Rattle.clap.specs.Words.{App, Row, Rule, fault_of, first_of, matches_of, new_rule, one_of}
use Rattle.clap.specs.Simple.{new_shape}
use Rattle.clap.specs.declared.builder.action.ArgAction.TheVariants.{Set, SetTrue}
use Rattle.clap.specs.declared.builder.value_parser.ValueParser.TheVariants.{NonEmptyString, Signed}
use Rattle.px_names.specs.Source.{is_source_name}
use Rattle.px_app.specs.declared.serve_words.words.ServeWords.{ServeWords}

-- an option with one value
abbrev pub option_rule : List ℕ → Rule
option_rule name = record (new_rule name) { long = Some name; action = Some Set }

-- an option that must be there, whose value is a path
abbrev pub path_rule : List ℕ → Rule
path_rule name = record (option_rule name) { required = true; parser = Some NonEmptyString }

-- the number of links to accept, 1 to 65,535
abbrev pub accept_rule : Rule
accept_rule = record (option_rule (codes "accept")) { required = true; parser = Some (Signed (pos 1) (pos 65535)) }

-- whether a tape is recorded
abbrev pub tape_rule : Rule
tape_rule = record (new_rule (codes "tape")) { long = Some (codes "tape"); action = Some SetTrue }

-- the command: these options alone, and no help
abbrev pub serve_command : App
serve_command = record {
  top = record (new_shape (codes "serve")) {
    disable_help_flag = true;
    rules = path_rule (codes "header") ∷ path_rule (codes "socket") ∷ path_rule (codes "out") ∷ accept_rule
        ∷ option_rule (codes "history") ∷ option_rule (codes "source") ∷ tape_rule ∷ [];
  };
  subs = [];
}

-- what clap finds of each option in these words
abbrev pub rows : List (List ℕ) → List Row
rows words = matches_of serve_command words

-- the number that digits write, after a plus sign or none
abbrev pub number : List ℕ → ℕ
number text = digits_value 10 (without_leading_plus text)

-- whether histories are stored in memory, by the value of the option; without one they aren't
abbrev pub history_of : Option (List ℕ) → Option Bool
history_of None = Some false
history_of (Some word) = if bytes_eq word (codes "none") then Some false else (if bytes_eq word (codes "memory") then Some true else None)

-- the name of the default source, by the value of the option, where it is one; without one there is no name
abbrev pub source_of : Option (List ℕ) → Option (Option (List ℕ))
source_of None = Some None
source_of (Some name) = if is_source_name name then Some (Some name) else None

-- whether an option without a value is set, by the text that it leaves
abbrev pub is_set : Option (List ℕ) → Bool
is_set None = false
is_set (Some word) = bytes_eq word (codes "true")

-- the matches give these options
pub record Reads (rows : List Row) (said : ServeWords) : Type 0 where
  pub header : first_of (codes "header") rows ≡ Some said.options.header
  pub socket : first_of (codes "socket") rows ≡ Some said.options.socket
  pub out : first_of (codes "out") rows ≡ Some said.options.out
  pub accept : option_map number (one_of (codes "accept") rows) ≡ Some said.options.accept
  pub history : history_of (first_of (codes "history") rows) ≡ Some said.options.memory
  pub tape : said.tape ≡ is_set (first_of (codes "tape") rows)
  pub source : source_of (first_of (codes "source") rows) ≡ Some said.source

-- digits of a number of links, 1 to 65,535
abbrev pub IsLinks : List ℕ → Type 0
IsLinks text = IsNumeral 10 (without_leading_plus text) × (1 ≤ number text) × (number text ≤ 65535)

-- the required options are set, with a number of links
pub record HasOptions (rows : List Row) : Type 0 where
  pub header : IsSome (first_of (codes "header") rows)
  pub socket : IsSome (first_of (codes "socket") rows)
  pub out : IsSome (first_of (codes "out") rows)
  pub accept : (text : List ℕ) × (one_of (codes "accept") rows ≡ Some text) × IsLinks text

-- the history that they name isn't one, or the name of a source isn't one
abbrev pub IsUnknown : List Row → Type 0
IsUnknown rows = (history_of (first_of (codes "history") rows) ≡ None) ⊎ (source_of (first_of (codes "source") rows) ≡ None)

-- clap refuses the words, or names in them aren't known
abbrev pub Refused : List (List ℕ) → Type 0
Refused words = (fault_of serve_command words ≢ []) ⊎ IsUnknown (rows words)

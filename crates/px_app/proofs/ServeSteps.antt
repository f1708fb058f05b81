-- What clap's walk makes of the words of one setting, and of all.
use Rattle.std.proofs.Common.{◌≡◌, ◌∙◌, ◌<◌, ◌&&◌, ◌||◌, ◌==◌, ℕ, Bool, cond, true, false, not, refl, sym, ap, subst, arith, List, [], ◌∷◌, ◌++◌, map, length, Some, None, codes, nat_lt, lt-ltb}
use Rattle.std.specs.Prelude.{decimal}
use Rattle.std.specs.List.{fold}
use Rattle.std.specs.Option.{option_map_or}
use Rattle.std.specs.Str.{bytes_eq}
use Rattle.std.proofs.lemmas.Bool.{ne_eqb}
use Rattle.std.proofs.lemmas.List.{map-append}
use Rattle.clap.specs.Lexer.{long_of, short_of}
use Rattle.clap.specs.Simple.{Shape, built}
use Rattle.clap.specs.Takes.{settle_passes, step_passes, bundle_passes, flag_word_passes, turn_passes, walk_passes}
use Rattle.clap.specs.Walk.{Held, Row, Rule, Step, Text, Walk, after_step, has_row, idle, long_or_other, next, option, plain_word, settled, short_or_plain, trailing, walk_from, walked, with_values, without, word_met}
use Rattle.clap.specs.declared.builder.value_parser.Reading.TheVariants.{AsWritten}
use Rattle.clap.specs.declared.parser.matches.ValueSource.TheVariants.{CommandLine}
use Rattle.px_app.specs.ServeCommand.{serve_command}
use Rattle.px_app.specs.ServePlain.{Setting, Header, Socket, Out, Accept, History, Tape, Source, IsPlain, IsValue, history_word, option_of, spelling}
use Rattle.px_app.proofs.ServeRows.{row, value_of, how_of, used_once}
use Rattle.px_app.proofs.Links.{links_pass, links_first}

abbrev pub top : Shape
top = (built serve_command).top

abbrev pub rules : List Rule
rules = top.rules

-- the walk behind the name of an option
abbrev asked : Text → Held → Walk
asked id h = record { held = record (settled rules h) { pending = Some (id, []) }; waiting = option id; position = 1; is_trailing = false; stopped = None }

-- what is held behind its value
abbrev given : Text → Text → Held → Held
given id value h = record (settled rules h) { pending = Some (id, value ∷ []) }

abbrev taped : Held → Held
taped h = record h { rows = with_values (codes "tape") AsWritten CommandLine (codes "true" ∷ []) (without (codes "tape") (settled rules h).rows); pending = None }

-- what is held says these settings, and they pass
pub record Holds (h : Held) (done : List Setting) : Type 0 where
  pub rows : (settled rules h).rows ≡ map row done
  pub passes : settle_passes rules false h ≡ true

record IsNoFlag (word : Text) : Type 0 where
  dashes : bytes_eq word (45 ∷ 45 ∷ []) ≡ false
  long : long_of word ≡ None
  short : short_of word ≡ None

no_flag : (x : ℕ) (xs : Text) → (x == 45) ≡ false → IsNoFlag (x ∷ xs)
no_flag x xs e = record { dashes = rw e refl; long = rw e refl; short = rw e refl }

plain_met : (id word : Text) (h : Held) → IsNoFlag word → word_met rules [] false (option id) 1 word h ≡ plain_word rules (option id) word h
plain_met id word h bare =
    (λ i. cond (bare.dashes i) (h, trailing 1) (long_or_other rules (option id) word (bare.long i) h))
    ∙ ap (λ o. short_or_plain rules (option id) word o h) bare.short

second_walk : (id word : Text) (h : Held) → IsNoFlag word → plain_word rules (option id) word (asked id h).held ≡ (given id word h, next idle)
    → walked rules [] (asked id h) word ≡ walk_from (given id word h)
unfolding walked
second_walk id word h bare is =
    ap (λ (p : Held × Step). after_step rules word (asked id h) p.0 p.1) (plain_met id word (asked id h).held bare ∙ is)

second_passes : (id word : Text) (h : Held) → IsNoFlag word → plain_word rules (option id) word (asked id h).held ≡ (given id word h, next idle)
    → turn_passes top [] (asked id h) word ≡ true
second_passes id word h bare is =
    (λ i. (bare.dashes i || flag_word_passes rules false (bare.long i) word (asked id h).held)
    && step_passes top 1 ((plain_met id word (asked id h).held bare ∙ is) i).0 ((plain_met id word (asked id h).held bare ∙ is) i).1)
    ∙ ap (λ o. option_map_or (λ flags. bundle_passes rules false flags (asked id h).held) o true && true) bare.short

-- the walk goes on behind these words
abbrev pub Goes : Held → List Text → Held → List Text → Type 0
Goes h words after rest = (walk_passes top [] (walk_from h) words ≡ walk_passes top [] (walk_from after) rest)
    × (fold (walked rules []) (walk_from h) words ≡ fold (walked rules []) (walk_from after) rest)

two_words : (id flag value : Text) (h : Held) (rest : List Text) → IsNoFlag value → settle_passes rules false h ≡ true
    → walked rules [] (walk_from h) flag ≡ asked id h → turn_passes top [] (walk_from h) flag ≡ (settle_passes rules false h && true)
    → plain_word rules (option id) value (asked id h).held ≡ (given id value h, next idle)
    → Goes h (flag ∷ value ∷ rest) (given id value h) rest
unfolding walk_passes
two_words id flag value h rest bare passes first turn is = (
  (λ i. (turn ∙ ap (λ b. b && true) passes) i && walk_passes top [] (first i) (value ∷ rest))
      ∙ (λ i. second_passes id value h bare is i && walk_passes top [] (second_walk id value h bare is i) rest),
  (λ i. fold (walked rules []) (walked rules [] (first i) value) rest)
      ∙ ap (λ w. fold (walked rules []) w rest) (second_walk id value h bare is),
)

-- a path is no flag
path_first : (path : List ℕ) → IsValue path → (x : ℕ) × (xs : List ℕ) × (path ≡ x ∷ xs) × ((x == 45) ≡ false)
path_first [] value = absurd value
path_first (x ∷ xs) value = (x, xs, refl, ne_eqb _ _ value)

is_no_flag : (word : List ℕ) → (x : ℕ) × (xs : List ℕ) × (word ≡ x ∷ xs) × ((x == 45) ≡ false) → IsNoFlag word
is_no_flag word f = subst IsNoFlag (sym f.2) (no_flag f.0 f.1 f.3)

has_length : (word : List ℕ) → (x : ℕ) × (xs : List ℕ) × (word ≡ x ∷ xs) × ((x == 45) ≡ false) → nat_lt 0 (length word) ≡ true
has_length word f = lt-ltb 0 (length word) (subst (λ w. 0 < length w) (sym f.2) (omega arith))

history_bare : (memory : Bool) → IsNoFlag (history_word memory)
history_bare true = record { dashes = refl; long = refl; short = refl }
history_bare false = record { dashes = refl; long = refl; short = refl }

-- the tests of one use
use_once : (id : Text) (rows : List Row) (b : Bool) → has_row id rows ≡ false → b ≡ true → ((not (has_row id rows) || false) && (b && true)) ≡ true
use_once id rows b e f = rw (e, f) refl

-- what is held behind one more setting
abbrev pub held_by : Setting → Held → Held
held_by Tape h = taped h
held_by s h = given (option_of s) (value_of s) h

one_more : (s : Setting) (h : Held) (done : List Setting) → has_row (option_of s) (map row done) ≡ false → (settled rules h).rows ≡ map row done
    → with_values (option_of s) (how_of s) CommandLine (value_of s ∷ []) (without (option_of s) (settled rules h).rows) ≡ map row (done ++ s ∷ [])
one_more s h done fresh rows =
    ap (λ rs. with_values (option_of s) (how_of s) CommandLine (value_of s ∷ []) (without (option_of s) rs)) rows
    ∙ used_once (option_of s) (how_of s) CommandLine (value_of s ∷ []) (map row done) fresh
    ∙ sym (map-append row done (s ∷ []))

pub holds_more : (s : Setting) (h : Held) (done : List Setting) → IsPlain s → has_row (option_of s) (map row done) ≡ false → Holds h done → Holds (held_by s h) (done ++ s ∷ [])
holds_more (Header path) h done plain fresh holds = record {
  rows = one_more (Header path) h done fresh holds.rows;
  passes = use_once (codes "header") (settled rules h).rows (nat_lt 0 (length path)) (ap (has_row (codes "header")) holds.rows ∙ fresh) (has_length path (path_first path plain));
}
holds_more (Socket path) h done plain fresh holds = record {
  rows = one_more (Socket path) h done fresh holds.rows;
  passes = use_once (codes "socket") (settled rules h).rows (nat_lt 0 (length path)) (ap (has_row (codes "socket")) holds.rows ∙ fresh) (has_length path (path_first path plain));
}
holds_more (Out path) h done plain fresh holds = record {
  rows = one_more (Out path) h done fresh holds.rows;
  passes = use_once (codes "out") (settled rules h).rows (nat_lt 0 (length path)) (ap (has_row (codes "out")) holds.rows ∙ fresh) (has_length path (path_first path plain));
}
holds_more (Accept links) h done plain fresh holds = record {
  rows = one_more (Accept links) h done fresh holds.rows;
  passes = use_once (codes "accept") (settled rules h).rows _ (ap (has_row (codes "accept")) holds.rows ∙ fresh) (links_pass links plain.0 plain.1);
}
holds_more (History memory) h done plain fresh holds = record {
  rows = one_more (History memory) h done fresh holds.rows;
  passes = use_once (codes "history") (settled rules h).rows true (ap (has_row (codes "history")) holds.rows ∙ fresh) refl;
}
holds_more (Source name) h done plain fresh holds = record {
  rows = one_more (Source name) h done fresh holds.rows;
  passes = use_once (codes "source") (settled rules h).rows true (ap (has_row (codes "source")) holds.rows ∙ fresh) refl;
}
holds_more Tape h done plain fresh holds = record { rows = one_more Tape h done fresh holds.rows; passes = refl }

-- the words of one setting
pub goes : (s : Setting) (h : Held) (done : List Setting) (rest : List Text) → IsPlain s → has_row (option_of s) (map row done) ≡ false → Holds h done
    → Goes h (spelling s ++ rest) (held_by s h) rest
unfolding walked walk_passes
goes (Header path) h done rest plain fresh holds =
    two_words (codes "header") (codes "--header") path h rest (is_no_flag path (path_first path plain)) holds.passes refl refl refl
goes (Socket path) h done rest plain fresh holds =
    two_words (codes "socket") (codes "--socket") path h rest (is_no_flag path (path_first path plain)) holds.passes refl refl refl
goes (Out path) h done rest plain fresh holds =
    two_words (codes "out") (codes "--out") path h rest (is_no_flag path (path_first path plain)) holds.passes refl refl refl
goes (Accept links) h done rest plain fresh holds =
    two_words (codes "accept") (codes "--accept") (decimal links) h rest (is_no_flag (decimal links) (links_first links plain.1)) holds.passes refl refl refl
goes (History memory) h done rest plain fresh holds =
    two_words (codes "history") (codes "--history") (history_word memory) h rest (history_bare memory) holds.passes refl refl refl
goes (Source name) h done rest plain fresh holds =
    two_words (codes "source") (codes "--source") name h rest (is_no_flag name (path_first name plain.0)) holds.passes refl refl refl
goes Tape h done rest plain fresh holds = (
  (λ i. (holds.passes i && ((not (has_row (codes "tape") (holds.rows i)) || false) && true) && true) && walk_passes top [] (walk_from (taped h)) rest)
      ∙ ap (λ b. ((not b || false) && true) && true && walk_passes top [] (walk_from (taped h)) rest) fresh,
  refl,
)

-- Plain words are taken, and their matches say what they say.
use Rattle.std.proofs.Common.{◌≡◌, ◌∙◌, ◌≤◌, ◌&&◌, ℕ, Bool, cond, true, false, zero, suc, refl, sym, ap, subst, arith, List, [], ◌∷◌, ◌++◌, take, map, Option, Some, None, append-nil, append_assoc, codes, option_map, true≢false}
use Rattle.std.specs.List.{All, find, flat_map, fold, list_all}
use Rattle.std.specs.Option.{option_map_or, option_and_then}
use Rattle.std.specs.Prelude.{IsTrue, slice_get, unwrap_or}
use Rattle.std.specs.Str.{bytes_eq}
use Rattle.clap.specs.Facts.{explicit_source}
use Rattle.clap.specs.Simple.{built, filled, with_index}
use Rattle.clap.specs.Takes.{is_given, is_valid, level_passes, settle_passes, takes, walk_passes}
use Rattle.clap.specs.Walk.{Held, Row, Rule, Text, Walk, default_rows, finished, more_values, reading_by, with_values, first_of, has_row, is_empty, nothing_held, row_text, walk_from, walked, with_default}
use Rattle.clap.proofs.TakesLemmas.{leaf_takes}
use Rattle.clap.proofs.SimpleLemmas.{is_nil}
use Rattle.clap.proofs.WalkLemmas.{both}
use Rattle.clap.specs.Values.{read_as}
use Rattle.clap.specs.declared.builder.value_parser.Reading.TheVariants.{AsWritten}
use Rattle.clap.specs.declared.parser.matches.ValueSource.TheVariants.{DefaultValue}
use Rattle.px_names.specs.Source.{is_source_name}
use Rattle.px_app.specs.ServeCommand.{serve_command, Reads, history_of, is_set, number, rows, source_of, tape_rule}
use Rattle.px_app.specs.ServePlain.{Plain, Setting, Header, Socket, Out, Accept, History, Tape, Source, IsPlain, Says, option_of, spelling, times}
use Rattle.px_app.specs.declared.serve_words.words.ServeWords.{ServeWords}
use Rattle.px_app.proofs.ServeRows.{at_end, found, how_of, missing, not_before, row, value_of}
use Rattle.px_app.proofs.Links.{links_read}
use Rattle.px_app.proofs.ServeSteps.{Holds, goes, held_by, holds_more, rules, top}

-- each option stands at most once
abbrev Once : List Setting → Type 0
Once settings = (s : Setting) → times (option_of s) settings ≤ 1

once : (words : List (List ℕ)) (said : ServeWords) (p : Plain words said) → Once p.settings
once words said p (Header path) = omega (arith, p.header)
once words said p (Socket path) = omega (arith, p.socket)
once words said p (Out path) = omega (arith, p.out)
once words said p (Accept links) = omega (arith, p.accept)
once words said p (History memory) = p.history
once words said p Tape = p.tape
once words said p (Source name) = p.source

-- where the walk stands behind all settings
pub record Ends (h : Held) (done rest : List Setting) : Type 0 where
  pub after : Held
  pub holds : Holds after (done ++ rest)
  pub passes : walk_passes top [] (walk_from h) (flat_map spelling rest) ≡ true
  pub walked_to : fold (walked rules []) (walk_from h) (flat_map spelling rest) ≡ walk_from after

pub walks : (rest done : List Setting) (h : Held) → All IsPlain rest → Once (done ++ rest) → Holds h done → Ends h done rest
unfolding walk_passes
walks [] done h plain few holds = record { after = h; holds = subst (Holds h) (sym (append-nil done)) holds; passes = refl; walked_to = refl }
walks (s ∷ rest) done h plain few holds =
    let is_plain = plain 0 s (omega arith) in
    let fresh = not_before s done rest (few s) in
    let step = goes s h done (flat_map spelling rest) is_plain fresh holds in
    let same = append_assoc done (s ∷ []) rest in
    let more = walks rest (done ++ s ∷ []) (held_by s h) (λ k d lt. plain (suc k) d (omega arith)) (subst Once (sym same) few) (holds_more s h done is_plain fresh holds) in
    record {
      after = more.after;
      holds = subst (Holds more.after) same more.holds;
      passes = step.0 ∙ more.passes;
      walked_to = step.1 ∙ more.walked_to;
    }

pub some_same : {X : Type 0} {x y : X} → Some x ≡ Some y → x ≡ y
some_same {X} {x} {y} e = ap (λ (o : Option X). unwrap_or o x) e

-- ---- the defaults

abbrev tape_built : Rule
tape_built = with_index 1 (filled tape_rule)

abbrev no_tape_row : Row
no_tape_row = record { id = codes "tape"; values = codes "false" ∷ []; count = None; source = Some DefaultValue; reading = AsWritten }

no_default : (rows : List Row) (a : Rule) → a.defaults ≡ [] → with_default rows a ≡ rows
no_default rows a none = ap (λ (ds : List Text). cond (has_row a.id rows) rows (default_rows a.id (reading_by a) ds rows)) none ∙ same (has_row a.id rows)
  where
    same : (b : Bool) → cond b rows rows ≡ rows
    same true = refl
    same false = refl

defaults_added : (front : List Rule) (a : Rule) (rows : List Row) → list_all (λ r. is_empty r.defaults) front ≡ true → fold with_default rows (front ++ a ∷ []) ≡ with_default rows a
defaults_added [] a rows e = refl
defaults_added (f ∷ fs) a rows e =
    let parts = both (is_empty f.defaults) (list_all (λ r. is_empty r.defaults) fs) e in
    ap (λ x. fold with_default x (fs ++ a ∷ [])) (no_default rows f (is_nil f.defaults parts.0)) ∙ defaults_added fs a rows parts.1

-- the row of a tape that isn't asked for
abbrev tail_of : Bool → List Row
tail_of true = []
tail_of false = no_tape_row ∷ []

tape_default : (rows : List Row) → with_default rows tape_built ≡ rows ++ tail_of (has_row (codes "tape") rows)
tape_default rows = go (has_row (codes "tape") rows) refl
  where
    go : (b : Bool) → has_row (codes "tape") rows ≡ b
        → cond b rows (with_values (codes "tape") AsWritten DefaultValue (codes "false" ∷ []) rows) ≡ rows ++ tail_of b
    go true e = sym (append-nil rows)
    go false e = at_end (codes "tape") (more_values DefaultValue (codes "false" ∷ [])) (no_tape_row ∷ []) rows e

-- ---- what is found

-- a name of a source is read as it is
is_named : (name : List ℕ) → IsTrue (is_source_name name) → source_of (Some name) ≡ Some (Some name)
is_named name is = rw is refl

module _ (said : ServeWords) where
  header_says : (s : Setting) → Says said s → bytes_eq (option_of s) (codes "header") ≡ true → value_of s ≡ said.options.header
  header_says (Header path) says e = sym says
  header_says (Socket path) says e = absurd (true≢false (sym e))
  header_says (Out path) says e = absurd (true≢false (sym e))
  header_says (Accept links) says e = absurd (true≢false (sym e))
  header_says (History memory) says e = absurd (true≢false (sym e))
  header_says Tape says e = absurd (true≢false (sym e))
  header_says (Source name) says e = absurd (true≢false (sym e))

  socket_says : (s : Setting) → Says said s → bytes_eq (option_of s) (codes "socket") ≡ true → value_of s ≡ said.options.socket
  socket_says (Socket path) says e = sym says
  socket_says (Header path) says e = absurd (true≢false (sym e))
  socket_says (Out path) says e = absurd (true≢false (sym e))
  socket_says (Accept links) says e = absurd (true≢false (sym e))
  socket_says (History memory) says e = absurd (true≢false (sym e))
  socket_says Tape says e = absurd (true≢false (sym e))
  socket_says (Source name) says e = absurd (true≢false (sym e))

  out_says : (s : Setting) → Says said s → bytes_eq (option_of s) (codes "out") ≡ true → value_of s ≡ said.options.out
  out_says (Out path) says e = sym says
  out_says (Header path) says e = absurd (true≢false (sym e))
  out_says (Socket path) says e = absurd (true≢false (sym e))
  out_says (Accept links) says e = absurd (true≢false (sym e))
  out_says (History memory) says e = absurd (true≢false (sym e))
  out_says Tape says e = absurd (true≢false (sym e))
  out_says (Source name) says e = absurd (true≢false (sym e))

  accept_says : (s : Setting) → IsPlain s → Says said s → bytes_eq (option_of s) (codes "accept") ≡ true
      → number (read_as (how_of s) (value_of s)) ≡ said.options.accept
  accept_says (Accept links) plain says e = links_read links plain.1 ∙ sym says
  accept_says (Header path) plain says e = absurd (true≢false (sym e))
  accept_says (Socket path) plain says e = absurd (true≢false (sym e))
  accept_says (Out path) plain says e = absurd (true≢false (sym e))
  accept_says (History memory) plain says e = absurd (true≢false (sym e))
  accept_says Tape plain says e = absurd (true≢false (sym e))
  accept_says (Source name) plain says e = absurd (true≢false (sym e))

  history_says : (s : Setting) → Says said s → bytes_eq (option_of s) (codes "history") ≡ true → history_of (Some (value_of s)) ≡ Some said.options.memory
  history_says (History true) says e = ap Some (sym says)
  history_says (History false) says e = ap Some (sym says)
  history_says (Header path) says e = absurd (true≢false (sym e))
  history_says (Socket path) says e = absurd (true≢false (sym e))
  history_says (Out path) says e = absurd (true≢false (sym e))
  history_says (Accept links) says e = absurd (true≢false (sym e))
  history_says Tape says e = absurd (true≢false (sym e))
  history_says (Source name) says e = absurd (true≢false (sym e))

  tape_says : (s : Setting) → Says said s → bytes_eq (option_of s) (codes "tape") ≡ true → said.tape ≡ bytes_eq (value_of s) (codes "true")
  tape_says Tape says e = says
  tape_says (Header path) says e = absurd (true≢false (sym e))
  tape_says (Socket path) says e = absurd (true≢false (sym e))
  tape_says (Out path) says e = absurd (true≢false (sym e))
  tape_says (Accept links) says e = absurd (true≢false (sym e))
  tape_says (History memory) says e = absurd (true≢false (sym e))
  tape_says (Source name) says e = absurd (true≢false (sym e))

  source_says : (s : Setting) → IsPlain s → Says said s → bytes_eq (option_of s) (codes "source") ≡ true → source_of (Some (value_of s)) ≡ Some said.source
  source_says (Source name) plain says e = is_named name plain.1 ∙ ap Some (sym says)
  source_says (Header path) plain says e = absurd (true≢false (sym e))
  source_says (Socket path) plain says e = absurd (true≢false (sym e))
  source_says (Out path) plain says e = absurd (true≢false (sym e))
  source_says (Accept links) plain says e = absurd (true≢false (sym e))
  source_says (History memory) plain says e = absurd (true≢false (sym e))
  source_says Tape plain says e = absurd (true≢false (sym e))

abbrev first_text : Option Row → Option Text
first_text o = option_and_then (λ (r : Row). slice_get r.values 0) o

module _ (words : List (List ℕ)) (said : ServeWords) (p : Plain words said) where
  the_end : Ends nothing_held [] p.settings
  the_end = walks p.settings [] nothing_held p.plain (once words said p) (record { rows = refl; passes = refl })

  abbrev with_tape : Bool
  with_tape = has_row (codes "tape") (map row p.settings)

  abbrev left : List Row
  left = map row p.settings ++ tail_of with_tape

  finished_is : finished rules the_end.after ≡ left
  finished_is = ap (λ rs. fold with_default rs rules) the_end.holds.rows
      ∙ defaults_added (take 6 rules) tape_built (map row p.settings) refl ∙ tape_default (map row p.settings)

  abbrev Knows : Setting → Type 0
  Knows s = IsPlain s × Says said s

  knows : All Knows p.settings
  knows k d lt = (p.plain k d lt, p.says k d lt)

  -- an option that stands
  abbrev Stands : Text → Type 0
  Stands id = (s : Setting) × Knows s × (bytes_eq (option_of s) id ≡ true) × (find (λ r. bytes_eq r.id id) left ≡ Some (row s))

  stood : (id : Text) → 1 ≤ times id p.settings → Stands id
  stood id some = found Knows id p.settings (tail_of with_tape) knows some

  is_there : (id : Text) → Stands id → is_given id left ≡ true
  is_there id f = ap (λ o. option_map_or (λ (r : Row). explicit_source r.source) o false) f.3

  is_first : (id : Text) (f : Stands id) → first_of id left ≡ Some (value_of f.0)
  is_first id f = ap first_text f.3

  gap : (id : Text) → times id p.settings ≡ 0 → first_of id left ≡ first_text (find (λ r. bytes_eq r.id id) (tail_of with_tape))
  gap id none = ap first_text (missing id p.settings (tail_of with_tape) none).1

  header : Stands (codes "header")
  header = stood (codes "header") (omega (arith, p.header))

  socket : Stands (codes "socket")
  socket = stood (codes "socket") (omega (arith, p.socket))

  out : Stands (codes "out")
  out = stood (codes "out") (omega (arith, p.out))

  accept : Stands (codes "accept")
  accept = stood (codes "accept") (omega (arith, p.accept))

  is_here : is_valid top left false ≡ true
  is_here = λ i. is_there (codes "header") header i && (is_there (codes "socket") socket i && (is_there (codes "out") out i && (is_there (codes "accept") accept i && true)))

  abbrev behind : List Text
  behind = flat_map spelling p.settings

  level : level_passes top [] nothing_held behind false ≡ true
  level = (λ i. the_end.passes i && (settle_passes rules false (the_end.walked_to i).held && (true && is_valid top (finished rules (the_end.walked_to i).held) false)))
      ∙ (λ i. the_end.holds.passes i && is_valid top (finished_is i) false) ∙ is_here

  -- clap takes the words
  pub plain_taken : takes serve_command words ≡ true
  plain_taken = ap (takes serve_command) p.spelled ∙ leaf_takes (built serve_command) nothing_held behind refl level

  found_rows : rows words ≡ left
  found_rows = ap rows p.spelled ∙ ap (λ (w : Walk). finished rules w.held) the_end.walked_to ∙ finished_is

  history : history_of (first_of (codes "history") left) ≡ Some said.options.memory
  history = go (times (codes "history") p.settings) refl with_tape refl
    where
      go : (n : ℕ) → times (codes "history") p.settings ≡ n → (b : Bool) → with_tape ≡ b → history_of (first_of (codes "history") left) ≡ Some said.options.memory
      go zero none true e = ap history_of (gap (codes "history") none ∙ ap (λ t. first_text (find (λ r. bytes_eq r.id (codes "history")) (tail_of t))) e) ∙ ap Some (sym (p.no_history none))
      go zero none false e = ap history_of (gap (codes "history") none ∙ ap (λ t. first_text (find (λ r. bytes_eq r.id (codes "history")) (tail_of t))) e) ∙ ap Some (sym (p.no_history none))
      go (suc n) some b e =
          let f = stood (codes "history") (omega (arith, some)) in
          ap history_of (is_first (codes "history") f) ∙ history_says said f.0 f.1.1 f.2

  tape : said.tape ≡ is_set (first_of (codes "tape") left)
  tape = go (times (codes "tape") p.settings) refl
    where
      go : (n : ℕ) → times (codes "tape") p.settings ≡ n → said.tape ≡ is_set (first_of (codes "tape") left)
      go zero none =
          let bare : with_tape ≡ false = (missing (codes "tape") p.settings [] none).0 in
          p.no_tape none ∙ sym (ap is_set (gap (codes "tape") none ∙ ap (λ t. first_text (find (λ r. bytes_eq r.id (codes "tape")) (tail_of t))) bare))
      go (suc n) some =
          let f = stood (codes "tape") (omega (arith, some)) in
          tape_says said f.0 f.1.1 f.2 ∙ sym (ap is_set (is_first (codes "tape") f))

  source : source_of (first_of (codes "source") left) ≡ Some said.source
  source = go (times (codes "source") p.settings) refl with_tape refl
    where
      go : (n : ℕ) → times (codes "source") p.settings ≡ n → (b : Bool) → with_tape ≡ b → source_of (first_of (codes "source") left) ≡ Some said.source
      go zero none true e = ap source_of (gap (codes "source") none ∙ ap (λ t. first_text (find (λ r. bytes_eq r.id (codes "source")) (tail_of t))) e) ∙ ap Some (sym (p.no_source none))
      go zero none false e = ap source_of (gap (codes "source") none ∙ ap (λ t. first_text (find (λ r. bytes_eq r.id (codes "source")) (tail_of t))) e) ∙ ap Some (sym (p.no_source none))
      go (suc n) some b e =
          let f = stood (codes "source") (omega (arith, some)) in
          ap source_of (is_first (codes "source") f) ∙ source_says said f.0 f.1.0 f.1.1 f.2

  reads_left : Reads left said
  reads_left = record {
    header = is_first (codes "header") header ∙ ap Some (header_says said header.0 header.1.1 header.2);
    socket = is_first (codes "socket") socket ∙ ap Some (socket_says said socket.0 socket.1.1 socket.2);
    out = is_first (codes "out") out ∙ ap Some (out_says said out.0 out.1.1 out.2);
    accept = ap (λ o. option_map number (option_and_then row_text o)) accept.3 ∙ ap Some (accept_says said accept.0 accept.1.0 accept.1.1 accept.2);
    history = history;
    tape = tape;
    source = source;
  }

  -- and its matches say what they say
  pub plain_read : Reads (rows words) said
  plain_read = subst (λ rs. Reads rs said) (sym found_rows) reads_left

-- matches say one thing only
pub same_said : (found : List Row) (a b : ServeWords) → Reads found a → Reads found b → a ≡ b
same_said found a b p q =
    let header = some_same (sym p.header ∙ q.header) in
    let socket = some_same (sym p.socket ∙ q.socket) in
    let out = some_same (sym p.out ∙ q.out) in
    let accept = some_same (sym p.accept ∙ q.accept) in
    let memory = some_same (sym p.history ∙ q.history) in
    let tape = p.tape ∙ sym q.tape in
    let source = some_same (sym p.source ∙ q.source) in
    λ i. record { options = record { header = header i; socket = socket i; out = out i; accept = accept i; memory = memory i }; tape = tape i; source = source i }

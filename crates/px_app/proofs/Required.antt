-- After a parse of this command the options that must be there are there.
use Rattle.std.proofs.Common.{◌≡◌, ◌∙◌, ◌<◌, ◌≤◌, ◌==◌, ℕ, Bool, cond, drop, take, true, false, zero, suc, not, refl, sym, ap, subst, arith, inl, inr, List, [], ◌∷◌, map, length, Option, Some, None, codes, is_some, true≢false}
use Rattle.std.specs.List.{list_all, slice_index_or}
use Rattle.std.specs.Prelude.{IsSome, pos, unwrap_or}
use Rattle.std.specs.Str.{bytes_eq}
use Rattle.std.specs.Str.Parse.{starts_with_minus}
use Rattle.std.proofs.lemmas.Int.{ints}
use Rattle.clap.specs.Built.{IsAuto, IsParsedFrom, IsPlain}
use Rattle.clap.specs.Facts.{args_of, least_values, unwrap_or_range}
use Rattle.clap.specs.Lexer.{without_minus}
use Rattle.clap.specs.Matches.{first_value, found_of, one_text}
use Rattle.clap.specs.Simple.{App, IsSimple, Shape, app_of, is_ready, is_ready_leaf, shape_of}
use Rattle.clap.specs.Valid.{IsFreeArg}
use Rattle.clap.specs.Values.{Accepts, IsSignedIn, read_as, reading_of}
use Rattle.clap.specs.Walk.{Rule, Text, first_of, rows_of, rule_of}
use Rattle.clap.specs.declared.builder.action.ArgAction.TheVariants.{Set}
use Rattle.clap.specs.declared.builder.arg.Arg.{Arg}
use Rattle.clap.specs.declared.builder.command.Command.{Command}
use Rattle.clap.specs.declared.builder.command.Command.TheViews.{out-Command}
use Rattle.clap.specs.declared.builder.value_parser.ValueParser.{ValueParser}
use Rattle.clap.specs.declared.builder.value_parser.ValueParser.TheVariants.{Signed}
use Rattle.clap.specs.declared.parser.matches.ArgMatches.{ArgMatches}
use Rattle.clap.proofs.CallerLemmas.{required_has_value}
use Rattle.clap.proofs.CallerReads.{required_reads}
use Rattle.clap.proofs.SimpleLemmas.{HasPlainFields, is_false, plain_fields, ready_simple, simple_groups}
use Rattle.clap.proofs.TakesLemmas.{each_rule, free_arg}
use Rattle.clap.proofs.WalkLemmas.{both, first_value-rows, one_text-rows}
use Rattle.px_app.specs.ServeCommand.{HasOptions, IsLinks, serve_command}

abbrev pub the_rules : List Rule
the_rules = serve_command.top.rules

rule_at : (xs : List Arg) (k : ℕ) (d : Arg) → k < length xs → rule_of (slice_index_or xs k d) ≡ slice_index_or (map rule_of xs) k (rule_of d)
rule_at [] k d lt = absurd (omega arith)
rule_at (x ∷ xs) zero d lt = refl
rule_at (x ∷ xs) (suc k) d lt = rule_at xs k d (omega arith)

same_length : (xs : List Arg) → length (map rule_of xs) ≡ length xs
same_length [] = refl
same_length (x ∷ xs) = ap suc (same_length xs)

-- ---- an id that one rule has alone

abbrev none_named : Text → List Rule → Bool
none_named id rs = list_all (λ r. not (bytes_eq r.id id)) rs

not_named : (id : Text) (rs : List Rule) (r0 : Rule) (j : ℕ) → none_named id rs ≡ true → j < length rs → bytes_eq (slice_index_or rs j r0).id id ≡ true → ⊥
not_named id [] r0 j all lt h = absurd (omega arith)
not_named id (r ∷ rs) r0 zero all lt h =
    let parts = both (not (bytes_eq r.id id)) (none_named id rs) all in
    absurd (true≢false (sym h ∙ is_false (bytes_eq r.id id) parts.0))
not_named id (r ∷ rs) r0 (suc j) all lt h =
    let parts = both (not (bytes_eq r.id id)) (none_named id rs) all in
    not_named id rs r0 j parts.1 (omega arith) h

alone : (id : Text) (rs : List Rule) (k : ℕ) (r0 : Rule) (j : ℕ) → none_named id (take k rs) ≡ true → none_named id (drop (suc k) rs) ≡ true → j < length rs
    → bytes_eq (slice_index_or rs j r0).id id ≡ true → j ≡ k
alone id [] k r0 j before behind lt h = absurd (omega arith)
alone id (r ∷ rs) zero r0 zero before behind lt h = refl
alone id (r ∷ rs) zero r0 (suc j) before behind lt h = absurd (not_named id rs r0 j behind (omega arith) h)
alone id (r ∷ rs) (suc k) r0 zero before behind lt h =
    let parts = both (not (bytes_eq r.id id)) (none_named id (take k rs)) before in
    absurd (true≢false (sym h ∙ is_false (bytes_eq r.id id) parts.0))
alone id (r ∷ rs) (suc k) r0 (suc j) before behind lt h =
    let parts = both (not (bytes_eq r.id id)) (none_named id (take k rs)) before in
    ap suc (alone id rs k r0 j parts.1 behind (omega arith) h)

differs : (id other : Text) → bytes_eq id id ≡ true → bytes_eq id other ≡ false → id ≡ other → ⊥
differs id other same apart e = true≢false (sym same ∙ ap (bytes_eq id) e ∙ apart)

-- ---- the number of links

without_minus-cond : (t : List ℕ) → without_minus t ≡ cond (starts_with_minus t) (drop 1 t) t
without_minus-cond [] = refl
without_minus-cond (x ∷ xs) = go (x == 45)
  where
    go : (b : Bool) → unwrap_or (cond b (Some xs) None) (x ∷ xs) ≡ cond b xs (x ∷ xs)
    go true = refl
    go false = refl

signed_links : (t : List ℕ) → IsSignedIn (pos 1) (pos 65535) t → IsLinks (without_minus t)
signed_links t passed = subst IsLinks (sym (without_minus-cond t)) (go (starts_with_minus t) refl)
  where
    go : (b : Bool) → starts_with_minus t ≡ b → IsLinks (cond (starts_with_minus t) (drop 1 t) t)
    go true minus =
        let low = rw minus at passed.2 in
        absurd (omega (arith, ints))
    go false minus =
        let numeral = rw minus at passed.0 in
        let low = rw minus at passed.2 in
        let high = rw minus at passed.3 in
        rw minus (numeral, omega (arith, ints), omega (arith, ints))

module _ (c : Command) (is : app_of c ≡ serve_command) where
  shape : shape_of c ≡ serve_command.top
  shape = ap (λ (a : App). a.top) is

  rules_are : map rule_of (args_of c) ≡ the_rules
  rules_are = ap (λ (a : App). a.top.rules) is

  simple : IsSimple c
  simple = ready_simple c (ap is_ready shape) (ap (λ (a : App). list_all is_ready_leaf a.subs) is)

  plain_c : HasPlainFields c
  plain_c = plain_fields c (ap (λ (s : Shape). s.is_plain) shape)

  free : (k : ℕ) (d : Arg) → k < length (args_of c) → IsFreeArg (slice_index_or (args_of c) k d)
  free k d lt = free_arg (slice_index_or (args_of c) k d) (simple.args k d lt)
      (each_rule (λ a. a.is_free) (args_of c) (ap (list_all (λ (a : Rule). a.is_free)) rules_are) k d lt)

  excludes_nothing : IsPlain c
  excludes_nothing = (
    λ k d lt.
        let f = free k d lt in
        (f.exclusive, f.conflicts, f.overrides, simple_groups c (ap (list_all (λ (a : Rule). a.is_simple)) rules_are) k d lt),
    plain_c.groups,
  )

  negates : (out-Command c).subcommand_negates_reqs ≡ false
  negates = ap (λ (s : Shape). s.subcommand_negates_reqs) shape

  seven : length (args_of c) ≡ 7
  seven = sym (same_length (args_of c)) ∙ ap length rules_are

  at_place : (k : ℕ) (d : Arg) → k < 7 → rule_of (slice_index_or (args_of c) k d) ≡ slice_index_or the_rules k (rule_of d)
  at_place k d lt = rule_at (args_of c) k d (omega (arith, seven)) ∙ ap (λ rs. slice_index_or rs k (rule_of d)) rules_are

  -- what holds of the argument at a place, by its rule
  module _ (m : ArgMatches) (p : IsParsedFrom c m) (k : ℕ) (d : Arg) (id : Text) (lt : k < 7) (named : (slice_index_or the_rules k (rule_of d)).id ≡ id)
      (required : (slice_index_or the_rules k (rule_of d)).required ≡ true) (set : (slice_index_or the_rules k (rule_of d)).action ≡ Some Set)
      (range : (slice_index_or the_rules k (rule_of d)).range ≡ None) (before : none_named id (take k the_rules) ≡ true) (behind : none_named id (drop (suc k) the_rules) ≡ true)
      (same : bytes_eq id id ≡ true) (some : bytes_eq id [] ≡ false) (no_help : bytes_eq id (codes "help") ≡ false) (no_version : bytes_eq id (codes "version") ≡ false) where
    a : Arg
    a = slice_index_or (args_of c) k d

    place : rule_of (slice_index_or (args_of c) k d) ≡ slice_index_or the_rules k (rule_of d)
    place = at_place k d lt

    inside : k < length (args_of c)
    inside = omega (arith, seven)

    is_id : (slice_index_or (args_of c) k d).id.now ≡ id
    is_id = ap (λ (r : Rule). r.id) place ∙ named

    is_required : (slice_index_or (args_of c) k d).required ≡ true
    is_required = ap (λ (r : Rule). r.required) place ∙ required

    is_set : (slice_index_or (args_of c) k d).action ≡ Some Set
    is_set = ap (λ (r : Rule). r.action) place ∙ set

    has_least : 1 ≤ least_values (slice_index_or (args_of c) k d)
    has_least = subst (λ o. 1 ≤ (unwrap_or_range o).start_inclusive) (sym (ap (λ (r : Rule). r.range) place ∙ range)) (omega arith)

    unique : (j : ℕ) (e : Arg) → j < length (args_of c) → bytes_eq (slice_index_or (args_of c) j e).id.now (slice_index_or (args_of c) k d).id.now ≡ true → j ≡ k
    unique j e low h =
        let under : j < 7 = omega (arith, seven) in
        alone id the_rules k (rule_of e) j before behind under
        (sym (ap (λ (r : Rule). bytes_eq r.id id) (at_place j e under)) ∙ sym (ap (bytes_eq (slice_index_or (args_of c) j e).id.now) is_id) ∙ h)

    is_named : (slice_index_or (args_of c) k d).id.now ≡ [] → ⊥
    is_named e = differs id [] same some (sym is_id ∙ e)

    is_own : IsAuto (slice_index_or (args_of c) k d) → ⊥
    is_own (inl e) = differs id (codes "help") same no_help (sym is_id ∙ e)
    is_own (inr e) = differs id (codes "version") same no_version (sym is_id ∙ e)

    text_there : is_some (first_value (found_of m) id) ≡ true
    text_there = subst (λ w. is_some (first_value (found_of m) w) ≡ true) is_id
        (required_has_value c m p excludes_nothing plain_c.globals negates k d inside is_required is_set (simple.args k d inside).delimiter has_least unique is_named is_own)

    number_there : (q : ValueParser) → (slice_index_or the_rules k (rule_of d)).parser ≡ Some q
        → (t : List ℕ) × (one_text (found_of m) id ≡ Some (read_as (reading_of q) t)) × Accepts (slice_index_or (args_of c) k d).ignore_case q t
    number_there q parser =
        let got = required_reads c m p excludes_nothing plain_c.globals negates k d inside is_required is_set (simple.args k d inside).delimiter has_least unique is_named is_own
        q (ap (λ (r : Rule). r.parser) place ∙ parser) in
        (got.0, subst (λ w. one_text (found_of m) w ≡ Some (read_as (reading_of q) got.0)) is_id got.1, got.2)

  some_is : (o : Option Text) → is_some o ≡ true → IsSome o
  some_is None e = absurd (true≢false (sym e))
  some_is (Some x) e = refl

  by_rows : (m : ArgMatches) (id : Text) → is_some (first_value (found_of m) id) ≡ true → IsSome (first_of id (rows_of (found_of m)))
  by_rows m id e = subst IsSome (first_value-rows (found_of m) id) (some_is (first_value (found_of m) id) e)

  -- a parse that succeeds has them all
  all_there : (m : ArgMatches) → IsParsedFrom c m → Arg → HasOptions (rows_of (found_of m))
  all_there m p d =
      let links = number_there m p 3 d (codes "accept") (omega arith) refl refl refl refl refl refl refl refl refl refl (Signed (pos 1) (pos 65535)) refl in
      record {
        header = by_rows m (codes "header") (text_there m p 0 d (codes "header") (omega arith) refl refl refl refl refl refl refl refl refl refl);
        socket = by_rows m (codes "socket") (text_there m p 1 d (codes "socket") (omega arith) refl refl refl refl refl refl refl refl refl refl);
        out = by_rows m (codes "out") (text_there m p 2 d (codes "out") (omega arith) refl refl refl refl refl refl refl refl refl refl);
        accept = (without_minus links.0, sym (one_text-rows (found_of m) (codes "accept")) ∙ links.1, signed_links links.0 links.2);
      }

  one_arg : (xs : List Arg) → 0 < length xs → Arg
  one_arg [] lt = absurd (omega arith)
  one_arg (x ∷ xs) lt = x

  pub has_options : (m : ArgMatches) → IsParsedFrom c m → HasOptions (rows_of (found_of m))
  has_options m p = all_there m p (one_arg (args_of c) (omega (arith, seven)))

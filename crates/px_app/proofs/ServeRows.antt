-- The rows that settings leave, and what is found in them.
use Rattle.std.proofs.Common.{◌≡◌, ◌∙◌, ◌+◌, ◌≤◌, ◌||◌, ℕ, Bool, cond, true, false, suc, refl, ap, arith, List, [], ◌∷◌, ◌++◌, map, Some, None, true≢false, append-nil, codes}
use Rattle.std.specs.List.{All, find}
use Rattle.std.specs.Prelude.{decimal}
use Rattle.std.specs.Str.{bytes_eq}
use Rattle.clap.specs.Walk.{Row, Text, at_row, has_row, more_values, with_values}
use Rattle.clap.specs.declared.builder.value_parser.Reading.{Reading}
use Rattle.clap.specs.declared.builder.value_parser.Reading.TheVariants.{AsWritten, WithoutMinus}
use Rattle.clap.specs.declared.parser.matches.ValueSource.{ValueSource}
use Rattle.clap.specs.declared.parser.matches.ValueSource.TheVariants.{CommandLine}
use Rattle.px_app.specs.ServePlain.{Setting, Header, Socket, Out, Accept, History, Tape, Source, history_word, option_of, times}

abbrev pub value_of : Setting → List ℕ
value_of (Header path) = path
value_of (Socket path) = path
value_of (Out path) = path
value_of (Accept links) = decimal links
value_of (History memory) = history_word memory
value_of Tape = codes "true"
value_of (Source name) = name

abbrev pub how_of : Setting → Reading
how_of (Accept links) = WithoutMinus
how_of _ = AsWritten

abbrev pub row : Setting → Row
row s = record {
  id = option_of s;
  values = value_of s ∷ [];
  count = None;
  source = Some CommandLine;
  reading = how_of s;
}

neither : (a b : Bool) → (a || b) ≡ false → (a ≡ false) × (b ≡ false)
neither true b e = absurd (true≢false e)
neither false b e = (refl, e)

-- a row joins at the end where the id has none
pub at_end : (id : Text) (change : Row → List Row) (missing rows : List Row) → has_row id rows ≡ false → at_row id change missing rows ≡ rows ++ missing
at_end id change missing [] e = refl
at_end id change missing (r ∷ rs) e =
    let parts = neither _ _ e in
    ap (λ b. cond b (change r ++ rs) (r ∷ at_row id change missing rs)) parts.0 ∙ ap (λ rest. r ∷ rest) (at_end id change missing rs parts.1)

-- a use of an option that wasn't there adds its row at the end
pub used_once : (id : Text) (how : Reading) (source : ValueSource) (values : List Text) (rows : List Row) → has_row id rows ≡ false
    → with_values id how source values (at_row id (λ _. []) [] rows) ≡ rows ++ record { id = id; values = values; count = None; source = Some source; reading = how } ∷ []
used_once id how source values rows e =
    ap (with_values id how source values) (at_end id (λ _. []) [] rows e ∙ append-nil rows)
    ∙ at_end id (more_values source values) (record { id = id; values = values; count = None; source = Some source; reading = how } ∷ []) rows e

own_name : (s : Setting) → bytes_eq (option_of s) (option_of s) ≡ true
own_name (Header path) = refl
own_name (Socket path) = refl
own_name (Out path) = refl
own_name (Accept links) = refl
own_name (History memory) = refl
own_name Tape = refl
own_name (Source name) = refl

stands : (s : Setting) (before after : List Setting) → 1 ≤ times (option_of s) (before ++ s ∷ after)
stands s [] after = rw (own_name s) (omega arith)
stands s (b ∷ before) after = omega (arith, stands s before after)

-- what stands once didn't stand before
pub not_before : (s : Setting) (before after : List Setting) → times (option_of s) (before ++ s ∷ after) ≤ 1 → has_row (option_of s) (map row before) ≡ false
not_before s [] after few = refl
not_before s (b ∷ before) after few = go (bytes_eq (option_of b) (option_of s)) (not_before s before after) few
  where
    go : (t : Bool) → (times (option_of s) (before ++ s ∷ after) ≤ 1 → has_row (option_of s) (map row before) ≡ false)
        → cond t 1 0 + times (option_of s) (before ++ s ∷ after) ≤ 1 → (t || has_row (option_of s) (map row before)) ≡ false
    go true below few = absurd (omega (arith, stands s before after))
    go false below few = below (omega arith)

-- what stands is found, with all that is known of it
pub found : (P : Setting → Type 0) (id : Text) (settings : List Setting) (tail : List Row) → All P settings → 1 ≤ times id settings
    → (s : Setting) × P s × (bytes_eq (option_of s) id ≡ true) × (find (λ r. bytes_eq r.id id) (map row settings ++ tail) ≡ Some (row s))
found P id [] tail all some = absurd (omega arith)
found P id (s ∷ rest) tail all some = go (bytes_eq (option_of s) id) refl (found P id rest tail (λ k d lt. all (suc k) d (omega arith))) some
  where
    go : (t : Bool) → bytes_eq (option_of s) id ≡ t
        → (1 ≤ times id rest → (x : Setting) × P x × (bytes_eq (option_of x) id ≡ true) × (find (λ r. bytes_eq r.id id) (map row rest ++ tail) ≡ Some (row x)))
        → 1 ≤ cond t 1 0 + times id rest
        → (x : Setting) × P x × (bytes_eq (option_of x) id ≡ true) × (cond t (Some (row s)) (find (λ r. bytes_eq r.id id) (map row rest ++ tail)) ≡ Some (row x))
    go true e below some = (s, all 0 s (omega arith), e, refl)
    go false e below some = below (omega arith)

-- what doesn't stand isn't found
pub missing : (id : Text) (settings : List Setting) (tail : List Row) → times id settings ≡ 0
    → (has_row id (map row settings) ≡ false) × (find (λ r. bytes_eq r.id id) (map row settings ++ tail) ≡ find (λ r. bytes_eq r.id id) tail)
missing id [] tail none = (refl, refl)
missing id (s ∷ rest) tail none = go (bytes_eq (option_of s) id) (missing id rest tail) none
  where
    go : (t : Bool)
        → (times id rest ≡ 0 → (has_row id (map row rest) ≡ false) × (find (λ r. bytes_eq r.id id) (map row rest ++ tail) ≡ find (λ r. bytes_eq r.id id) tail))
        → cond t 1 0 + times id rest ≡ 0
        → ((t || has_row id (map row rest)) ≡ false)
        × (cond t (Some (row s)) (find (λ r. bytes_eq r.id id) (map row rest ++ tail)) ≡ find (λ r. bytes_eq r.id id) tail)
    go true below none = absurd (omega arith)
    go false below none = below (omega arith)

-- what stands has a row
pub has_one : (id : Text) (settings : List Setting) → 1 ≤ times id settings → has_row id (map row settings) ≡ true
has_one id [] some = absurd (omega arith)
has_one id (s ∷ rest) some = go (bytes_eq (option_of s) id) (has_one id rest) some
  where
    go : (t : Bool) → (1 ≤ times id rest → has_row id (map row rest) ≡ true) → 1 ≤ cond t 1 0 + times id rest → (t || has_row id (map row rest)) ≡ true
    go true below some = refl
    go false below some = below (omega arith)

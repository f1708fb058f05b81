-- A list without several keys is what a pass over it leaves that skips them.
use Rattle.std.proofs.Common.{◌≡◌, ℕ, Bool, true, false, not, cond, ◌||◌, List, [], ◌∷◌, ◌+◌, ◌<◌, ◌≤◌, length, get_or, drop, refl, sym, ap, ◌∙◌}
use Rattle.std.specs.Prelude.{filter, fold}
use Rattle.std.specs.List.{list_all, list_any}
use Rattle.std.specs.Cmp.Lexicographic.{bytes_decides}
use Rattle.std.proofs.lemmas.List.{at_drop_more, at_drop_all}
use Rattle.std.proofs.lemmas.List.Sums.{AllPass-from_list_all}
use Rattle.px_tag.specs.PropList.{Property, same_key, is_key, is_value, is_property, is_proplist, is_distinct, has_key, with_value, without, with_all}
use Rattle.px_tag.proofs.Properties.{both, neither, proplist_without, copies}
use Rattle.px_ctl_info.specs.Properties.{has_keys, without_keys}
use Rattle.px_ctl_info.specs.Removed.{is_among, kept, marked, with_unmarked}

same_is : (a b : List ℕ) → same_key a b ≡ true → a ≡ b
same_is a b e = (bytes_decides a b).0 e

is_same : (a b : List ℕ) → a ≡ b → same_key a b ≡ true
is_same a b e = (bytes_decides a b).1 e

-- two keys that differ, the other way round
differ : (a b : List ℕ) → same_key a b ≡ false → same_key b a ≡ false
differ a b e = go (same_key b a) refl
  where
    go : (r : Bool) → same_key b a ≡ r → r ≡ false
    go false f = refl
    go true f = absurd (let g : same_key a b ≡ true = is_same a b (sym (same_is b a f)) in cc)

alike : (a b : List ℕ) → same_key a b ≡ true → same_key b a ≡ true
alike a b e = is_same b a (sym (same_is a b e))

negated : (b : Bool) → not b ≡ true → b ≡ false
negated true e = absurd cc
negated false e = refl

-- ---- without one key, and without others

-- a key that isn't there makes no difference
unheld : (list : List Property) (key : List ℕ) (keys : List (List ℕ)) → has_key list key ≡ false → filter (λ p. not (is_among keys p)) list ≡ filter (λ p. not (is_among (key ∷ keys) p)) list
unheld [] key keys none = refl
unheld (p ∷ list) key keys none =
    let h = neither (same_key key p.0) (has_key list key) none in
    go (is_among keys p) (unheld list key keys h.1) (differ key p.0 h.0)
  where
    go : (b : Bool) → filter (λ p. not (is_among keys p)) list ≡ filter (λ p. not (is_among (key ∷ keys) p)) list → same_key p.0 key ≡ false
        → cond (not b) (p ∷ filter (λ p. not (is_among keys p)) list) (filter (λ p. not (is_among keys p)) list) ≡ cond (not (same_key p.0 key || b)) (p ∷ filter (λ p. not (is_among (key ∷ keys) p)) list) (filter (λ p. not (is_among (key ∷ keys) p)) list)
    go true later other = rw other later
    go false later other = rw other (ap (λ (l : List Property). p ∷ l) later)

one_more : (list : List Property) (key : List ℕ) (keys : List (List ℕ)) → is_distinct list ≡ true → filter (λ p. not (is_among keys p)) (without list key) ≡ filter (λ p. not (is_among (key ∷ keys) p)) list
one_more [] key keys d = refl
one_more (p ∷ list) key keys d =
    let h = both (not (has_key list p.0)) (is_distinct list) d in
    go (same_key key p.0) refl (one_more list key keys h.1) (negated (has_key list p.0) h.0)
  where
    skip : (b : Bool) → same_key p.0 key ≡ false → filter (λ p. not (is_among keys p)) (without list key) ≡ filter (λ p. not (is_among (key ∷ keys) p)) list
        → cond (not b) (p ∷ filter (λ p. not (is_among keys p)) (without list key)) (filter (λ p. not (is_among keys p)) (without list key)) ≡ cond (not (same_key p.0 key || b)) (p ∷ filter (λ p. not (is_among (key ∷ keys) p)) list) (filter (λ p. not (is_among (key ∷ keys) p)) list)
    skip true other later = rw other later
    skip false other later = rw other (ap (λ (l : List Property). p ∷ l) later)

    go : (r : Bool) → same_key key p.0 ≡ r → filter (λ p. not (is_among keys p)) (without list key) ≡ filter (λ p. not (is_among (key ∷ keys) p)) list → has_key list p.0 ≡ false
        → filter (λ p. not (is_among keys p)) (cond r list (p ∷ without list key)) ≡ filter (λ p. not (is_among (key ∷ keys) p)) (p ∷ list)
    go true e later none =
        let absent : has_key list key ≡ false = ap (has_key list) (same_is key p.0 e) ∙ none in
        rw (alike key p.0 e) (unheld list key keys absent)
    go false e later none = skip (is_among keys p) (differ key p.0 e) later

none_among : (list : List Property) → list ≡ filter (λ p. not (is_among [] p)) list
none_among [] = refl
none_among (p ∷ list) = ap (λ (l : List Property). p ∷ l) (none_among list)

pub all_removed : (list : List Property) (keys : List (List ℕ)) → is_proplist list ≡ true → without_keys list keys ≡ filter (λ p. not (is_among keys p)) list
all_removed list [] rules = none_among list
all_removed list (key ∷ keys) rules =
    all_removed (without list key) keys (proplist_without list key rules) ∙ one_more list key keys (both (list_all is_property list) (is_distinct list) rules).1

-- the rules stay
pub still_rules : (list : List Property) (keys : List (List ℕ)) → is_proplist list ≡ true → is_proplist (without_keys list keys) ≡ true
still_rules list [] rules = rules
still_rules list (key ∷ keys) rules = still_rules (without list key) keys (proplist_without list key rules)

-- ---- the keys, marked in a list of their own

has_with : (list : List Property) (key value q : List ℕ) → has_key (with_value list key value) q ≡ (has_key list q || same_key q key)
has_with [] key value q = by (same_key q key)
  where
    by : (b : Bool) → (b || false) ≡ b
    by true = refl
    by false = refl
has_with (p ∷ list) key value q = go (same_key key p.0) refl (has_with list key value q)
  where
    twice : (a b : Bool) → (a || b) ≡ ((a || b) || a)
    twice true b = refl
    twice false true = refl
    twice false false = refl

    grouped : (a b c : Bool) → (a || (b || c)) ≡ ((a || b) || c)
    grouped true b c = refl
    grouped false b c = refl

    go : (r : Bool) → same_key key p.0 ≡ r → has_key (with_value list key value) q ≡ (has_key list q || same_key q key)
        → has_key (cond r ((p.0, value) ∷ list) (p ∷ with_value list key value)) q ≡ ((same_key q p.0 || has_key list q) || same_key q key)
    go true e ih = twice (same_key q p.0) (has_key list q) ∙ ap (λ k. (same_key q p.0 || has_key list q) || same_key q k) (sym (same_is key p.0 e))
    go false e ih = ap (λ (b : Bool). same_key q p.0 || b) ih ∙ grouped (same_key q p.0) (has_key list q) (same_key q key)

has_marked : (marks : List Property) (keys : List (List ℕ)) (q : List ℕ) → has_key (marked marks keys) q ≡ (has_key marks q || list_any (same_key q) keys)
has_marked marks [] q = by (has_key marks q)
  where
    by : (b : Bool) → b ≡ (b || false)
    by true = refl
    by false = refl
has_marked marks (key ∷ keys) q =
    has_marked (with_value marks key []) keys q ∙ ap (λ b. b || list_any (same_key q) keys) (has_with marks key [] q) ∙ grouped (has_key marks q) (same_key q key) (list_any (same_key q) keys)
  where
    grouped : (a b c : Bool) → ((a || b) || c) ≡ (a || (b || c))
    grouped true b c = refl
    grouped false b c = refl

kept_alike : (list : List Property) (marks : List Property) (keys : List (List ℕ)) → ((q : List ℕ) → has_key marks q ≡ list_any (same_key q) keys) → kept marks list ≡ filter (λ p. not (is_among keys p)) list
kept_alike [] marks keys same = refl
kept_alike (p ∷ list) marks keys same = rw (same p.0, kept_alike list marks keys same) refl

pub kept_is : (list : List Property) (keys : List (List ℕ)) → is_proplist list ≡ true → with_all [] (kept (marked [] keys) list) ≡ without_keys list keys
kept_is list keys rules =
    let left : kept (marked [] keys) list ≡ without_keys list keys = kept_alike list (marked [] keys) keys (λ q. has_marked [] keys q) ∙ sym (all_removed list keys rules) in
    ap (λ (l : List Property). with_all [] l) left ∙ copies (without_keys list keys) (still_rules list keys rules)

-- ---- a key that is there is a key

pub is_key_there : (list : List Property) (key : List ℕ) → is_proplist list ≡ true → has_key list key ≡ true → is_key key ≡ true
is_key_there list key rules there = go list (both (list_all is_property list) (is_distinct list) rules).0 there
  where
    go : (list : List Property) → list_all is_property list ≡ true → has_key list key ≡ true → is_key key ≡ true
    go [] all there = absurd cc
    go (p ∷ list) all there =
        let h = both (is_property p) (list_all is_property list) all in
        by (go list h.1) (same_key key p.0) refl h there
      where
        by : (has_key list key ≡ true → is_key key ≡ true) → (r : Bool) → same_key key p.0 ≡ r → (is_property p ≡ true) × (list_all is_property list ≡ true) → (r || has_key list key) ≡ true → is_key key ≡ true
        by later true e h t = ap is_key (same_is key p.0 e) ∙ (both (is_key p.0) (is_value p.1) h.0).0
        by later false e h t = later t

-- ---- a pass over the list

-- the next property is kept or skipped
pub kept_next : (marks list made later : List Property) (i : ℕ) (d : Property) → i < length list → later ≡ with_unmarked marks made (get_or list i d) → with_all later (kept marks (drop (i + 1) list)) ≡ with_all made (kept marks (drop i list))
kept_next marks list made later i d within is =
    by (has_key marks (get_or list i d).0) refl ∙ sym (at_drop_more (λ l. with_all made (kept marks l)) list i d within)
  where
    by : (b : Bool) → has_key marks (get_or list i d).0 ≡ b → with_all later (kept marks (drop (i + 1) list)) ≡ with_all made (kept marks (get_or list i d ∷ drop (i + 1) list))
    by true e = rw (is, e) refl
    by false e = rw (is, e) refl

-- none is left
pub kept_last : (marks list made all : List Property) (i : ℕ) → length list ≤ i → with_all made (kept marks (drop i list)) ≡ all → made ≡ all
kept_last marks list made all i done before = sym (at_drop_all (λ l. with_all made (kept marks l)) list i done) ∙ before

-- a list has each of several keys
pub has_each : (list : List Property) (keys : List (List ℕ)) (i : ℕ) (key : List ℕ) → has_keys list keys ≡ true → i < length keys → key ≡ get_or keys i key → has_key list key ≡ true
has_each list keys i key all within is = ap (has_key list) is ∙ AllPass-from_list_all (has_key list) keys all i key within

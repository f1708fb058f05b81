-- Property lists keep their rules, and are what the table's entries say.
use Rattle.std.proofs.Common.{◌≡◌, ℕ, ◌+◌, ◌≤◌, Bool, true, false, not, cond, ◌&&◌, ◌||◌, nat_eq, List, [], ◌∷◌, ◌++◌, length, map, take, Option, None, Some, refl, sym, ap, ◌∙◌, append_assoc, length-append, slice_get, get_or, is_some, nat_lt, leb-true, arith}
use Rattle.std.specs.Prelude.{◌==◌, nat_le}
use Rattle.std.proofs.lemmas.Bool.{eqb-true}
use Rattle.std.specs.Global.{Vec}
use Rattle.std.specs.Option.{option_map}
use Rattle.std.specs.Map.{lookup}
use Rattle.std.proofs.lemmas.List.Sums.{AllPass-from_list_all, fold_more}
use Rattle.std.proofs.lemmas.Option.{slice_get_within, get_or_from_slice_get, slice_get-map}
use Rattle.indexmap.specs.IndexMap.{insert_entry, insert_all, shift_remove_entry}
use Rattle.std.specs.Cmp.Lexicographic.{pointwise, bytes_decides}
use Rattle.std.specs.List.{list_all}
use Rattle.std.proofs.lemmas.List.{append-nil, take_more, take-append-le}
use Rattle.std.specs.List.{take-map}
use Rattle.px_tag.specs.Item.{is_text}
use Rattle.px_tag.specs.PropList.{Property, same_key, is_key, is_key_byte, is_property, is_proplist, has_key, is_distinct, value_of, with_value, without, with_all, with_missing, meaning}

pub both : (x y : Bool) → (x && y) ≡ true → (x ≡ true) × (y ≡ true)
both true y e = (refl, e)
both false y e = absurd cc

pub neither : (x y : Bool) → (x || y) ≡ false → (x ≡ false) × (y ≡ false)
neither true y e = absurd cc
neither false y e = (refl, e)

pub nor : (x y : Bool) → x ≡ false → y ≡ false → (x || y) ≡ false
nor x y e f = rw (e, f) refl

pub and : (x y : Bool) → x ≡ true → y ≡ true → (x && y) ≡ true
and x y e f = rw (e, f) refl

negated : (b : Bool) → not b ≡ true → b ≡ false
negated true e = absurd cc
negated false e = refl

same_is : (a b : List ℕ) → same_key a b ≡ true → a ≡ b
same_is a b e = (bytes_decides a b).0 e

is_same : (a b : List ℕ) → a ≡ b → same_key a b ≡ true
is_same a b e = (bytes_decides a b).1 e

-- two keys that differ, the other way round
differ : (a b : List ℕ) → same_key a b ≡ false → same_key b a ≡ false
differ a b e = go (same_key b a) refl
  where
    go : (r : Bool) → same_key b a ≡ r → r ≡ false
    go false f = refl
    go true f = absurd (let g : same_key a b ≡ true = is_same a b (sym (same_is b a f)) in cc)

-- another key is there as before
has_with : (list : List Property) (key value q : List ℕ) → same_key q key ≡ false → has_key (with_value list key value) q ≡ has_key list q
has_with [] key value q apart = rw apart refl
has_with (p ∷ list) key value q apart = go (same_key key p.0) (has_with list key value q apart)
  where
    go : (r : Bool) → has_key (with_value list key value) q ≡ has_key list q → has_key (cond r ((p.0, value) ∷ list) (p ∷ with_value list key value)) q ≡ has_key (p ∷ list) q
    go true ih = refl
    go false ih = ap (λ (b : Bool). same_key q p.0 || b) ih

distinct_with : (list : List Property) (key value : List ℕ) → is_distinct list ≡ true → is_distinct (with_value list key value) ≡ true
distinct_with [] key value d = refl
distinct_with (p ∷ list) key value d =
    let h = both (not (has_key list p.0)) (is_distinct list) d in
    go (same_key key p.0) refl (distinct_with list key value h.1)
  where
    go : (r : Bool) → same_key key p.0 ≡ r → is_distinct (with_value list key value) ≡ true → is_distinct (cond r ((p.0, value) ∷ list) (p ∷ with_value list key value)) ≡ true
    go true e ih = d
    go false e ih =
        let h = both (not (has_key list p.0)) (is_distinct list) d in
        let same : has_key (with_value list key value) p.0 ≡ has_key list p.0 = has_with list key value p.0 (differ key p.0 e) in
        and (not (has_key (with_value list key value) p.0)) (is_distinct (with_value list key value)) (ap not same ∙ h.0) ih

rules_with : (list : List Property) (key value : List ℕ) → is_property (key, value) ≡ true → list_all is_property list ≡ true → list_all is_property (with_value list key value) ≡ true
rules_with [] key value is all = and (is_property (key, value)) true is refl
rules_with (p ∷ list) key value is all =
    let h = both (is_property p) (list_all is_property list) all in
    go (same_key key p.0) refl (rules_with list key value is h.1)
  where
    go : (r : Bool) → same_key key p.0 ≡ r → list_all is_property (with_value list key value) ≡ true → list_all is_property (cond r ((p.0, value) ∷ list) (p ∷ with_value list key value)) ≡ true
    go true e ih =
        let h = both (is_property p) (list_all is_property list) all in
        let key_is : key ≡ p.0 = same_is key p.0 e in
        let first : is_property (p.0, value) ≡ true = rw (← key_is) is in
        and (is_property (p.0, value)) (list_all is_property list) first h.1
    go false e ih =
        let h = both (is_property p) (list_all is_property list) all in
        and (is_property p) (list_all is_property (with_value list key value)) h.0 ih

pub proplist_with : (list : List Property) (key value : List ℕ) → is_property (key, value) ≡ true → is_proplist list ≡ true → is_proplist (with_value list key value) ≡ true
proplist_with list key value is all =
    let h = both (list_all is_property list) (is_distinct list) all in
    and (list_all is_property (with_value list key value)) (is_distinct (with_value list key value)) (rules_with list key value is h.0) (distinct_with list key value h.1)

-- what isn't there isn't there once a key is gone
has_without : (list : List Property) (key q : List ℕ) → has_key list q ≡ false → has_key (without list key) q ≡ false
has_without [] key q none = refl
has_without (p ∷ list) key q none =
    let h = neither (same_key q p.0) (has_key list q) none in
    go (same_key key p.0) h (has_without list key q h.1)
  where
    go : (r : Bool) → (same_key q p.0 ≡ false) × (has_key list q ≡ false) → has_key (without list key) q ≡ false → has_key (cond r list (p ∷ without list key)) q ≡ false
    go true h ih = h.1
    go false h ih = nor (same_key q p.0) (has_key (without list key) q) h.0 ih

distinct_without : (list : List Property) (key : List ℕ) → is_distinct list ≡ true → is_distinct (without list key) ≡ true
distinct_without [] key d = refl
distinct_without (p ∷ list) key d =
    let h = both (not (has_key list p.0)) (is_distinct list) d in
    go (same_key key p.0) h (distinct_without list key h.1)
  where
    go : (r : Bool) → (not (has_key list p.0) ≡ true) × (is_distinct list ≡ true) → is_distinct (without list key) ≡ true → is_distinct (cond r list (p ∷ without list key)) ≡ true
    go true h ih = h.1
    go false h ih =
        let none : has_key (without list key) p.0 ≡ false = has_without list key p.0 (negated (has_key list p.0) h.0) in
        and (not (has_key (without list key) p.0)) (is_distinct (without list key)) (ap not none) ih

rules_without : (list : List Property) (key : List ℕ) → list_all is_property list ≡ true → list_all is_property (without list key) ≡ true
rules_without [] key all = refl
rules_without (p ∷ list) key all =
    let h = both (is_property p) (list_all is_property list) all in
    go (same_key key p.0) h (rules_without list key h.1)
  where
    go : (r : Bool) → (is_property p ≡ true) × (list_all is_property list ≡ true) → list_all is_property (without list key) ≡ true → list_all is_property (cond r list (p ∷ without list key)) ≡ true
    go true h ih = h.1
    go false h ih = and (is_property p) (list_all is_property (without list key)) h.0 ih

pub proplist_without : (list : List Property) (key : List ℕ) → is_proplist list ≡ true → is_proplist (without list key) ≡ true
proplist_without list key all =
    let h = both (list_all is_property list) (is_distinct list) all in
    and (list_all is_property (without list key)) (is_distinct (without list key)) (rules_without list key h.0) (distinct_without list key h.1)

-- ---- a list taken over whole

append_new : (front : List Property) (key value : List ℕ) → has_key front key ≡ false → with_value front key value ≡ front ++ (key, value) ∷ []
append_new [] key value none = refl
append_new (p ∷ front) key value none =
    let h = neither (same_key key p.0) (has_key front key) none in
    rw h.0 (ap (λ (l : List Property). p ∷ l) (append_new front key value h.1))

-- none of the keys of the one list is among those of the other
abbrev apart : List Property → List Property → Bool
apart front [] = true
apart front (p ∷ list) = not (has_key front p.0) && apart front list

has_append : (front : List Property) (p : Property) (q : List ℕ) → has_key front q ≡ false → same_key q p.0 ≡ false → has_key (front ++ p ∷ []) q ≡ false
has_append [] p q none other = rw other refl
has_append (f ∷ front) p q none other =
    let h = neither (same_key q f.0) (has_key front q) none in
    nor (same_key q f.0) (has_key (front ++ p ∷ []) q) h.0 (has_append front p q h.1 other)

-- what is apart from a front and from the property behind it
apart_append : (front list : List Property) (p : Property) → apart front list ≡ true → has_key list p.0 ≡ false → apart (front ++ p ∷ []) list ≡ true
apart_append front [] p e none = refl
apart_append front (x ∷ list) p e none =
    let h = both (not (has_key front x.0)) (apart front list) e in
    let n = neither (same_key p.0 x.0) (has_key list p.0) none in
    let new : has_key (front ++ p ∷ []) x.0 ≡ false = has_append front p x.0 (negated (has_key front x.0) h.0) (differ p.0 x.0 n.0) in
    and (not (has_key (front ++ p ∷ []) x.0)) (apart (front ++ p ∷ []) list) (ap not new) (apart_append front list p h.1 n.1)

with_apart : (front list : List Property) → apart front list ≡ true → is_distinct list ≡ true → with_all front list ≡ front ++ list
with_apart front [] e d = sym (append-nil front)
with_apart front (p ∷ list) e d =
    let h = both (not (has_key front p.0)) (apart front list) e in
    let k = both (not (has_key list p.0)) (is_distinct list) d in
    let one : with_value front p.0 p.1 ≡ front ++ p ∷ [] = append_new front p.0 p.1 (negated (has_key front p.0) h.0) in
    let rest : with_all (front ++ p ∷ []) list ≡ (front ++ p ∷ []) ++ list = with_apart (front ++ p ∷ []) list (apart_append front list p h.1 (negated (has_key list p.0) k.0)) k.1 in
    ap (λ (l : List Property). with_all l list) one ∙ rest ∙ append_assoc front (p ∷ []) list

apart_empty : (list : List Property) → apart [] list ≡ true
apart_empty [] = refl
apart_empty (p ∷ list) = apart_empty list

-- a list in which no key is there twice means itself
pub meaning_same : (list : List Property) → is_distinct list ≡ true → meaning list ≡ list
meaning_same list d = with_apart [] list (apart_empty list) d

pub copies : (list : List Property) → is_proplist list ≡ true → meaning list ≡ list
copies list e = meaning_same list (both (list_all is_property list) (is_distinct list) e).1

-- a property at an index keeps the rules
pub rules_at : (list : List Property) (i : ℕ) (p : Property) → list_all is_property list ≡ true → slice_get list i ≡ Some p → is_property p ≡ true
rules_at list i p all e =
    let within = slice_get_within list i p e in
    let at = get_or_from_slice_get list i p p e in
    let pass : is_property (get_or list i p) ≡ true = AllPass-from_list_all is_property list all i p within in
    rw at at pass

-- ---- the entries of the table

abbrev pub Entry : Type 0
Entry = Vec ℕ × Vec ℕ

abbrev pub seen : Entry → Property
seen e = (e.0.items, e.1.items)

pub seen_insert : (entries : List Entry) (key value : Vec ℕ) → map seen (insert_entry (λ x y. pointwise nat_eq x.items y.items) entries key value) ≡ with_value (map seen entries) key.items value.items
seen_insert [] key value = refl
seen_insert (e ∷ entries) key value = go (pointwise nat_eq key.items e.0.items) (seen_insert entries key value)
  where
    go : (r : Bool) → map seen (insert_entry (λ x y. pointwise nat_eq x.items y.items) entries key value) ≡ with_value (map seen entries) key.items value.items
        → map seen (cond r ((e.0, value) ∷ entries) (e ∷ insert_entry (λ x y. pointwise nat_eq x.items y.items) entries key value)) ≡ cond r ((e.0.items, value.items) ∷ map seen entries) (seen e ∷ with_value (map seen entries) key.items value.items)
    go true ih = refl
    go false ih = ap (λ (l : List Property). seen e ∷ l) ih

pub seen_remove : (entries : List Entry) (key : List ℕ) → map seen (shift_remove_entry (λ k. pointwise nat_eq key k.items) entries) ≡ without (map seen entries) key
seen_remove [] key = refl
seen_remove (e ∷ entries) key = go (pointwise nat_eq key e.0.items) (seen_remove entries key)
  where
    go : (r : Bool) → map seen (shift_remove_entry (λ k. pointwise nat_eq key k.items) entries) ≡ without (map seen entries) key
        → map seen (cond r entries (e ∷ shift_remove_entry (λ k. pointwise nat_eq key k.items) entries)) ≡ cond r (map seen entries) (seen e ∷ without (map seen entries) key)
    go true ih = refl
    go false ih = ap (λ (l : List Property). seen e ∷ l) ih

pub seen_get : (entries : List Entry) (key : List ℕ) → value_of (map seen entries) key ≡ option_map (λ v. v.items) (lookup (λ k. pointwise nat_eq key k.items) entries)
seen_get [] key = refl
seen_get (e ∷ entries) key = go (pointwise nat_eq key e.0.items) (seen_get entries key)
  where
    go : (r : Bool) → value_of (map seen entries) key ≡ option_map (λ v. v.items) (lookup (λ k. pointwise nat_eq key k.items) entries)
        → cond r (Some e.1.items) (value_of (map seen entries) key) ≡ option_map (λ v. v.items) (cond r (Some e.1) (lookup (λ k. pointwise nat_eq key k.items) entries))
    go true ih = refl
    go false ih = ih

pub seen_has : (list : List Property) (key : List ℕ) → has_key list key ≡ is_some (value_of list key)
seen_has [] key = refl
seen_has (p ∷ list) key = go (same_key key p.0) (seen_has list key)
  where
    go : (r : Bool) → has_key list key ≡ is_some (value_of list key) → (r || has_key list key) ≡ is_some (cond r (Some p.1) (value_of list key))
    go true ih = refl
    go false ih = ih

pub seen_rules : (entries : List Entry) (i : ℕ) (e : Entry) → is_proplist (map seen entries) ≡ true → slice_get entries i ≡ Some e → is_property (seen e) ≡ true
seen_rules entries i e rules at =
    let h = both (list_all is_property (map seen entries)) (is_distinct (map seen entries)) rules in
    let found : slice_get (map seen entries) i ≡ Some (seen e) = rw (slice_get-map seen entries i, at) refl in
    rules_at (map seen entries) i (seen e) h.0 found

-- ---- one list taken into another, property by property

pub with_next : (list others : List Property) (i : ℕ) (p : Property) → slice_get others i ≡ Some p → with_all list (take (i + 1) others) ≡ with_value (with_all list (take i others)) p.0 p.1
with_next list others i p e =
    let at : get_or others i p ≡ p = get_or_from_slice_get others i p p e in
    fold_more (λ done q. with_value done q.0 q.1) list others i p (slice_get_within others i p e) ∙ ap (λ (q : Property). with_value (with_all list (take i others)) q.0 q.1) at

abbrev pub with_one_missing : List Property → Property → List Property
with_one_missing done p = cond (has_key done p.0) done (with_value done p.0 p.1)

pub missing_next : (list others : List Property) (i : ℕ) (p : Property) → slice_get others i ≡ Some p → with_missing list (take (i + 1) others) ≡ with_one_missing (with_missing list (take i others)) p
missing_next list others i p e =
    let at : get_or others i p ≡ p = get_or_from_slice_get others i p p e in
    fold_more with_one_missing list others i p (slice_get_within others i p e) ∙ ap (with_one_missing (with_missing list (take i others))) at

pub is_some_map : {A B : Type 0} (f : A → B) (o : Option A) → is_some (option_map f o) ≡ is_some o
is_some_map f None = refl
is_some_map f (Some x) = refl

pub there_is : (entries : List Entry) (key : List ℕ) (found : Option (Vec ℕ)) → found ≡ lookup (λ k. pointwise nat_eq key k.items) entries → is_some found ≡ has_key (map seen entries) key
there_is entries key found e =
    let v : Vec ℕ → List ℕ = λ (vec : Vec ℕ). vec.items in
    ap is_some e ∙ sym (seen_has (map seen entries) key ∙ ap is_some (seen_get entries key) ∙ is_some_map v (lookup (λ k. pointwise nat_eq key k.items) entries))

not_zero : (b : ℕ) → is_key_byte b ≡ true → not (b == 0) ≡ true
not_zero b e = go (b == 0) refl
  where
    go : (r : Bool) → (b == 0) ≡ r → not r ≡ true
    go false f = refl
    go true f = absurd (let some : 1 ≤ b = leb-true 1 b (both (nat_le 1 b) (nat_le b 0x7F) e).0 in let none : b ≡ 0 = eqb-true b 0 f in omega arith)

key_bytes_text : (key : List ℕ) → list_all is_key_byte key ≡ true → is_text key ≡ true
key_bytes_text [] e = refl
key_bytes_text (b ∷ key) e =
    let h = both (is_key_byte b) (list_all is_key_byte key) e in
    and (not (b == 0)) (is_text key) (not_zero b h.0) (key_bytes_text key h.1)

-- a key is a string
pub key_is_text : (key : List ℕ) → is_key key ≡ true → is_text key ≡ true
key_is_text key e = key_bytes_text key (both (nat_lt 0 (length key)) (list_all is_key_byte key) e).1

pub taken_next : (list : List Property) (i : ℕ) (p : Property) → slice_get list i ≡ Some p → take (i + 1) list ≡ take i list ++ p ∷ []
taken_next list i p e =
    let within = slice_get_within list i p e in
    let at : get_or list i p ≡ p = get_or_from_slice_get list i p p e in
    take_more list i p within ∙ ap (λ (q : Property). take i list ++ q ∷ []) at

-- ---- an update in place

-- a key that is new leaves what was there in front
pub front_with : (list : List Property) (key value : List ℕ) (n : ℕ) → has_key list key ≡ false → n ≤ length list → take n (with_value list key value) ≡ take n list
front_with list key value n none within = ap (take n) (append_new list key value none) ∙ take-append-le n list ((key, value) ∷ []) within

pub longer_with : (list : List Property) (key value : List ℕ) → has_key list key ≡ false → length list ≤ length (with_value list key value)
longer_with list key value none = omega (arith, ap length (append_new list key value none), length-append list ((key, value) ∷ []))

-- the first entries of a table are the first properties
pub seen_front : (n : ℕ) (entries made : List Entry) (list : List Property) → made ≡ take n entries → take n (map seen entries) ≡ list → map seen made ≡ list
seen_front n entries made list front first = ap (map seen) front ∙ sym (take-map seen n entries) ∙ first

-- the entries of another table, each inserted in turn
pub seen_insert_all : (entries others : List Entry) → map seen (insert_all (λ x y. pointwise nat_eq x.items y.items) entries others) ≡ with_all (map seen entries) (map seen others)
seen_insert_all entries [] = refl
seen_insert_all entries (e ∷ others) =
    seen_insert_all (insert_entry (λ x y. pointwise nat_eq x.items y.items) entries e.0 e.1) others
    ∙ ap (λ (l : List Property). with_all l (map seen others)) (seen_insert entries e.0 e.1)

pub proplist_with_all : (list others : List Property) → list_all is_property others ≡ true → is_proplist list ≡ true → is_proplist (with_all list others) ≡ true
proplist_with_all list [] all is = is
proplist_with_all list (p ∷ others) all is =
    let h = both (is_property p) (list_all is_property others) all in
    proplist_with_all (with_value list p.0 p.1) others h.1 (proplist_with list p.0 p.1 h.0 is)

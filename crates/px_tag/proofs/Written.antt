-- Property lists as they are written: each has one spelling, and what it means is a property list.
use Rattle.std.proofs.Common.{◌≡◌, ℕ, zero, suc, ◌+◌, ◌^◌, ◌<◌, ◌≤◌, true, cond, ◌&&◌, eqb, List, [], ◌∷◌, ◌++◌, length, Option, None, Some, Result, Ok, Err, refl, sym, ap, subst, ◌∙◌, append_assoc, leb-true, arith}
use Rattle.std.specs.Prelude.{nat_le}
use Rattle.std.specs.Int.{w32, to_be_bytes}
use Rattle.std.specs.List.{flat_map, list_all}
use Rattle.std.proofs.lemmas.Bool.{eqb-true, eq-eqb}
use Rattle.std.proofs.lemmas.List.{length-append}
use Rattle.std.proofs.lemmas.List.Concat.{flat_map-cons}
use Rattle.px_tag.specs.declared.fault.TagFault.{TagFault}
use Rattle.px_tag.specs.declared.fault.TagFault.TheVariants.{Short, BadValue}
use Rattle.px_tag.specs.PropList.{Property, is_key, is_value, is_property, is_proplist, is_distinct, with_value, with_all, meaning}
use Rattle.px_tag.specs.declared.fault.ListFault.{ListFault}
use Rattle.px_tag.specs.declared.fault.ListFault.TheVariants.{Tag, NoMemory}
use Rattle.px_tag.specs.Place.{GivesList, Place, offset_of, ◌>>=◌}
use Rattle.px_tag.specs.Law.{AreBytes, Stands, HasOneSpelling}
use Rattle.px_tag.specs.Item.{number, text, arbitrary, property, proplist, AreProperties, IsPropList}
use Rattle.px_tag.specs.Reading.{next_at, tagged_at, field_at, bytes_at, number_at, text_at, value_at, keyed_at, property_at, followed_by, properties_at, written_at, listed_at, proplist_at}
use Rattle.px_tag.proofs.Steps.{bind_ok, checked, ok_is, Stands-then, one_from_again}
use Rattle.px_tag.proofs.Fields.{tagged_found, tagged_again, wide32, field_found, field_again, bytes_found, bytes_again}
use Rattle.px_tag.proofs.Items.{number_law, text_law, counted_stands}
use Rattle.px_tag.proofs.Properties.{both, and, key_is_text, meaning_same, proplist_with}

-- ---- a property's value

abbrev value_part : List ℕ → List ℕ
value_part value = number (length value) ++ arbitrary value

value_fits : (value : List ℕ) → is_value value ≡ true → length value < 2 ^ 32
value_fits value e = omega (arith, leb-true (length value) 65536 e)

value_again : (value : List ℕ) (size : ℕ) (behind : List ℕ) → is_value value ≡ true → value_at (record { size = size; rest = value_part value ++ behind }) ≡ Ok (value, record { size = size; rest = behind })
unfolding value_at arbitrary
value_again value size behind is =
    let n = length value in
    let lt = value_fits value is in
    let cells = to_be_bytes w32 n in
    let regrouped : value_part value ++ behind ≡ number n ++ (0x78 ∷ cells ++ (value ++ behind)) = append_assoc (number n) (arbitrary value) behind ∙ ap (λ (r : List ℕ). number n ++ (0x78 ∷ r)) (append_assoc cells value behind) in
    let same : (eqb n n && nat_le n 65536) ≡ true = and (eqb n n) (nat_le n 65536) (eq-eqb n n refl) is in
    ap (λ (r : List ℕ). value_at (record { size = size; rest = r })) regrouped ∙ rw (number_law.again n size (0x78 ∷ cells ++ (value ++ behind)) lt, tagged_again 0x78 size (cells ++ (value ++ behind)), field_again w32 (2 ^ 32) wide32 n size (value ++ behind) lt, same, bytes_again value size behind) refl

value_found : (place : Place) (value : List ℕ) (after : Place) → AreBytes place.rest → value_at place ≡ Ok (value, after) → Stands (value_part value) place after × (is_value value ≡ true)
unfolding value_at arbitrary
value_found place value after fits e =
    let a = bind_ok (number_at place) (λ size. tagged_at 0x78 size.1 >>= λ field. field_at w32 field >>= λ count. cond (eqb count.0 size.0 && nat_le size.0 65536) (bytes_at size.0 count.1) (Err (BadValue (offset_of size.1)))) (value, after) e in
    let no = BadValue (offset_of a.0.1) in
    let b = bind_ok (tagged_at 0x78 a.0.1) (λ field. field_at w32 field >>= λ count. cond (eqb count.0 a.0.0 && nat_le a.0.0 65536) (bytes_at a.0.0 count.1) (Err no)) (value, after) a.2 in
    let c = bind_ok (field_at w32 b.0) (λ count. cond (eqb count.0 a.0.0 && nat_le a.0.0 65536) (bytes_at a.0.0 count.1) (Err no)) (value, after) b.2 in
    let g = checked (eqb c.0.0 a.0.0 && nat_le a.0.0 65536) no (bytes_at a.0.0 c.0.1) (value, after) c.2 in
    let h = both (eqb c.0.0 a.0.0) (nat_le a.0.0 65536) g.0 in
    let size = number_law.found place a.0.0 a.0.1 fits a.1 in
    let tag = tagged_found 0x78 a.0.1 b.0 size.0.are_bytes b.1 in
    let count = field_found w32 (2 ^ 32) wide32 b.0 c.0.0 c.0.1 tag.are_bytes c.1 in
    let bytes = bytes_found a.0.0 c.0.1 value after count.0.are_bytes g.1 in
    let count_is : c.0.0 ≡ a.0.0 = eqb-true _ _ h.0 in
    let item = counted_stands value b.0 c.0.1 after c.0.0 count.0 bytes.0 (bytes.1 ∙ sym count_is) in
    let first : Stands (number (length value)) place a.0.1 = rw bytes.1 size.0 in
    let second : Stands (arbitrary value) a.0.1 after = Stands-then (0x78 ∷ []) (to_be_bytes w32 (length value) ++ value) a.0.1 b.0 after tag item in
    (Stands-then (number (length value)) (arbitrary value) place a.0.1 after first second, rw bytes.1 h.1)

-- ---- a property

pub property_again : (p : Property) (size : ℕ) (behind : List ℕ) → is_property p ≡ true → property_at (record { size = size; rest = property p ++ behind }) ≡ Ok (Some p, record { size = size; rest = behind })
unfolding property_at property
property_again p size behind is =
    let h = both (is_key p.0) (is_value p.1) is in
    let regrouped : property p ++ behind ≡ text (Some p.0) ++ (value_part p.1 ++ behind) = ap (λ (r : List ℕ). r ++ behind) (append_assoc (text (Some p.0)) (number (length p.1)) (arbitrary p.1)) ∙ append_assoc (text (Some p.0)) (value_part p.1) behind in
    ap (λ (r : List ℕ). property_at (record { size = size; rest = r })) regrouped ∙ rw (text_law.again (Some p.0) size (value_part p.1 ++ behind) (key_is_text p.0 h.0), h.0, value_again p.1 size behind h.1) refl

pub end_again : (size : ℕ) (behind : List ℕ) → property_at (record { size = size; rest = 0x4E ∷ behind }) ≡ Ok (None, record { size = size; rest = behind })
unfolding property_at text_at next_at
end_again size behind = refl

keyed_found : (key : Option (List ℕ)) (start place : Place) (p : Property) (after : Place) → AreBytes place.rest → keyed_at start key place ≡ Ok (Some p, after) → (key ≡ Some p.0) × Stands (value_part p.1) place after × (is_property p ≡ true)
keyed_found None start place p after fits e =
    let bad : (let x : Option Property × Place = (None, place) in x) ≡ (Some p, after) = ok_is (None, place) (Some p, after) e in
    absurd (let none : (let o : Option Property = None in o) ≡ Some p = ap (λ (x : Option Property × Place). x.0) bad in cc)
keyed_found (Some key) start place p after fits e =
    let made : (List ℕ × Place) → Result (Option Property × Place) TagFault = λ value. Ok (Some (key, value.0), value.1) in
    let g = checked (is_key key) (BadValue (offset_of start)) (value_at place >>= made) (Some p, after) e in
    let v = bind_ok (value_at place) made (Some p, after) g.1 in
    let f = value_found place v.0.0 v.0.1 fits v.1 in
    let made_is : (Some (key, v.0.0), v.0.1) ≡ (Some p, after) = ok_is (Some (key, v.0.0), v.0.1) (Some p, after) v.2 in
    let p_is : (key, v.0.0) ≡ p = some_is (key, v.0.0) p (ap (λ (x : Option Property × Place). x.0) made_is) in
    let after_is : v.0.1 ≡ after = ap (λ (x : Option Property × Place). x.1) made_is in
    let rules : is_property (key, v.0.0) ≡ true = and (is_key key) (is_value v.0.0) g.0 f.1 in
    subst (λ (q : Property). (Some key ≡ Some q.0) × Stands (value_part q.1) place after × (is_property q ≡ true)) p_is (refl, subst (λ (x : Place). Stands (value_part v.0.0) place x) after_is f.0, rules)
  where
    some_is : (x y : Property) → (let o : Option Property = Some x in o) ≡ Some y → x ≡ y
    some_is x y e = cc

pub property_found : (place : Place) (p : Property) (after : Place) → AreBytes place.rest → property_at place ≡ Ok (Some p, after) → Stands (property p) place after × (is_property p ≡ true)
unfolding property_at property
property_found place p after fits e =
    let k = bind_ok (text_at place) (λ key. keyed_at place key.0 key.1) (Some p, after) e in
    let t = text_law.found place k.0.0 k.0.1 fits k.1 in
    let v = keyed_found k.0.0 place k.0.1 p after t.0.are_bytes k.2 in
    let key : Stands (text (Some p.0)) place k.0.1 = subst (λ (v : Option (List ℕ)). Stands (text v) place k.0.1) v.0 t.0 in
    let whole = Stands-then (text (Some p.0)) (value_part p.1) place k.0.1 after key v.1 in
    (rw (append_assoc (text (Some p.0)) (number (length p.1)) (arbitrary p.1)) whole, v.2)

keyed_end : (key : Option (List ℕ)) (start place after : Place) → keyed_at start key place ≡ Ok (None, after) → (key ≡ None) × (place ≡ after)
keyed_end None start place after e = (refl, ap (λ (x : Option Property × Place). x.1) (ok_is (None, place) (None, after) e))
keyed_end (Some key) start place after e =
    let made : (List ℕ × Place) → Result (Option Property × Place) TagFault = λ value. Ok (Some (key, value.0), value.1) in
    let g = checked (is_key key) (BadValue (offset_of start)) (value_at place >>= made) (None, after) e in
    let v = bind_ok (value_at place) made (None, after) g.1 in
    absurd (let bad : (Some (key, v.0.0), v.0.1) ≡ (None, after) = ok_is (Some (key, v.0.0), v.0.1) (None, after) v.2 in
    let none : (let o : Option Property = Some (key, v.0.0) in o) ≡ None = ap (λ (x : Option Property × Place). x.0) bad in cc)

pub end_found : (place after : Place) → AreBytes place.rest → property_at place ≡ Ok (None, after) → Stands (0x4E ∷ []) place after
unfolding property_at text
end_found place after fits e =
    let k = bind_ok (text_at place) (λ key. keyed_at place key.0 key.1) (None, after) e in
    let t = text_law.found place k.0.0 k.0.1 fits k.1 in
    let v = keyed_end k.0.0 place k.0.1 after k.2 in
    let key : Stands (text None) place k.0.1 = subst (λ (v : Option (List ℕ)). Stands (text v) place k.0.1) v.0 t.0 in
    subst (λ (x : Place). Stands (0x4E ∷ []) place x) v.1 key

-- ---- the list

abbrev ended : List Property → List ℕ
ended list = flat_map property list ++ 0x4E ∷ []

abbrev Found : Place → List Property → Place → Type 0
Found place list after = Stands (ended list) place after × (list_all is_property list ≡ true)

followed_found : (most : ℕ) (first : Option Property) (start place : Place) (list : List Property) (after : Place) → AreBytes start.rest → property_at start ≡ Ok (first, place)
    → ((others : List Property) → AreBytes place.rest → properties_at most place ≡ Ok (others, after) → Found place others after)
    → followed_by first place (properties_at most place) ≡ Ok (list, after) → Found start list after
followed_found most None start place list after fits one rest e =
    let stands = end_found start place fits one in
    subst (λ (x : List Property × Place). Found start x.0 x.1) (ok_is ([], place) (list, after) e) (stands, refl)
followed_found most (Some p) start place list after fits one rest e =
    let o = bind_ok (properties_at most place) (λ others. Ok (p ∷ others.0, others.1)) (list, after) e in
    let made = ok_is (p ∷ o.0.0, o.0.1) (list, after) o.2 in
    let end_is : o.0.1 ≡ after = ap (λ (x : List Property × Place). x.1) made in
    let read : properties_at most place ≡ Ok (o.0.0, after) = o.1 ∙ ap (λ (x : Place). Ok (o.0.0, x)) end_is in
    let first = property_found start p place fits one in
    let others = rest o.0.0 first.0.are_bytes read in
    let whole = Stands-then (property p) (ended o.0.0) start place after first.0 others.0 in
    let grouped : property p ++ ended o.0.0 ≡ ended (p ∷ o.0.0) = sym (append_assoc (property p) (flat_map property o.0.0) (0x4E ∷ [])) ∙ ap (λ (x : List ℕ). x ++ 0x4E ∷ []) (sym (flat_map-cons property p o.0.0)) in
    let stands : Stands (ended (p ∷ o.0.0)) start after = subst (λ (x : List ℕ). Stands x start after) grouped whole in
    let rules : list_all is_property (p ∷ o.0.0) ≡ true = and (is_property p) (list_all is_property o.0.0) first.1 others.1 in
    subst (λ (x : List Property). Found start x after) (ap (λ (x : List Property × Place). x.0) made) (stands, rules)

properties_found : (most : ℕ) (place : Place) (list : List Property) (after : Place) → AreBytes place.rest → properties_at most place ≡ Ok (list, after) → Found place list after
unfolding properties_at
properties_found zero place list after fits e = absurd cc
properties_found (suc most) place list after fits e =
    let a = bind_ok (property_at place) (λ first. followed_by first.0 first.1 (properties_at most first.1)) (list, after) e in
    followed_found most a.0.0 place a.0.1 list after fits a.1 (λ others bytes read. properties_found most a.0.1 others after bytes read) a.2

properties_again : (most : ℕ) (list : List Property) (size : ℕ) (behind : List ℕ) → length list < most → list_all is_property list ≡ true → properties_at most (record { size = size; rest = ended list ++ behind }) ≡ Ok (list, record { size = size; rest = behind })
unfolding properties_at
properties_again zero list size behind lt rules = absurd (omega arith)
properties_again (suc most) [] size behind lt rules = rw (end_again size behind) refl
properties_again (suc most) (p ∷ list) size behind lt rules =
    let h = both (is_property p) (list_all is_property list) rules in
    let less : length list < most = omega arith in
    let regrouped : ended (p ∷ list) ++ behind ≡ property p ++ (ended list ++ behind) = ap (λ (x : List ℕ). (x ++ 0x4E ∷ []) ++ behind) (flat_map-cons property p list) ∙ ap (λ (x : List ℕ). x ++ behind) (append_assoc (property p) (flat_map property list) (0x4E ∷ [])) ∙ append_assoc (property p) (ended list) behind in
    ap (λ (r : List ℕ). properties_at (suc most) (record { size = size; rest = r })) regrouped ∙ rw (property_again p size (ended list ++ behind) h.0, properties_again most list size behind less h.1) refl

length_property : (p : Property) → 0 < length (property p)
unfolding property text
length_property p = omega arith

enough : (list : List Property) → length list < length (ended list)
enough [] = omega arith
enough (p ∷ list) =
    let more : length (property p ++ flat_map property list) ≡ length (property p) + length (flat_map property list) = length-append (property p) (flat_map property list) in
    let cons : flat_map property (p ∷ list) ≡ property p ++ flat_map property list = flat_map-cons property p list in
    omega (arith, enough list, length_property p, more, ap length cons, length-append (flat_map property list) (0x4E ∷ []), length-append (flat_map property (p ∷ list)) (0x4E ∷ []))

written_again : (list : List Property) (size : ℕ) (behind : List ℕ) → AreProperties list → written_at (record { size = size; rest = proplist list ++ behind }) ≡ Ok (list, record { size = size; rest = behind })
unfolding written_at proplist
written_again list size behind rules =
    let most = length (ended list ++ behind) in
    let lt : length list < most = omega (arith, enough list, length-append (ended list) behind) in
    rw (tagged_again 0x50 size (ended list ++ behind)) (properties_again most list size behind lt rules)

written_found : (place : Place) (list : List Property) (after : Place) → AreBytes place.rest → written_at place ≡ Ok (list, after) → Stands (proplist list) place after × AreProperties list
unfolding written_at proplist
written_found place list after fits e =
    let a = bind_ok (tagged_at 0x50 place) (λ field. properties_at (length field.rest) field) (list, after) e in
    let t = tagged_found 0x50 place a.0 fits a.1 in
    let f = properties_found (length a.0.rest) a.0 list after t.are_bytes a.2 in
    (Stands-then (0x50 ∷ []) (ended list) place a.0 after t f.0, f.1)

pub written_law : HasOneSpelling AreProperties proplist written_at
written_law = record { again = written_again; found = written_found; one = one_from_again AreProperties proplist written_at written_again }

-- ---- what it means

rules_of : (list : List Property) → IsPropList list → (list_all is_property list ≡ true) × (is_distinct list ≡ true)
rules_of list is = both (list_all is_property list) (is_distinct list) is

pub list_again : (list : List Property) (size : ℕ) (behind : List ℕ) → IsPropList list → proplist_at (record { size = size; rest = proplist list ++ behind }) ≡ Ok (list, record { size = size; rest = behind })
unfolding proplist_at
list_again list size behind is =
    let h = rules_of list is in
    rw (written_again list size behind h.0, meaning_same list h.1) refl

with_all_rules : (list others : List Property) → is_proplist list ≡ true → list_all is_property others ≡ true → is_proplist (with_all list others) ≡ true
with_all_rules list [] is rules = is
with_all_rules list (p ∷ others) is rules =
    let h = both (is_property p) (list_all is_property others) rules in
    with_all_rules (with_value list p.0 p.1) others (proplist_with list p.0 p.1 h.0 is) h.1

-- what a written list means is a property list
pub meaning_rules : (written : List Property) → AreProperties written → IsPropList (meaning written)
meaning_rules written rules = with_all_rules [] written refl rules

-- ---- one property after another, as a loop reads them

abbrev pub with_earlier : List Property → Result (List Property × Place) TagFault → Result (List Property × Place) TagFault
with_earlier list (Ok others) = Ok (with_all list others.0, others.1)
with_earlier list (Err fault) = Err fault

with_earlier_next : (list : List Property) (p : Property) (read : Result (List Property × Place) TagFault) → with_earlier list (read >>= λ others. Ok (p ∷ others.0, others.1)) ≡ with_earlier (with_value list p.0 p.1) read
with_earlier_next list p (Ok others) = refl
with_earlier_next list p (Err fault) = refl

with_earlier_meaning : (read : Result (List Property × Place) TagFault) → (read >>= λ written. Ok (meaning written.0, written.1)) ≡ with_earlier [] read
with_earlier_meaning (Ok written) = refl
with_earlier_meaning (Err fault) = refl

empty_fails : (size : ℕ) (rest : List ℕ) → length rest ≤ 0 → property_at (record { size = size; rest = rest }) ≡ Err (Short size)
unfolding property_at text_at next_at
empty_fails size [] le = refl
empty_fails size (b ∷ rest) le = absurd (omega arith)

pub list_ends : (most : ℕ) (place : Place) (list : List Property) (behind : Place) → length behind.rest < length place.rest → length place.rest ≤ most → property_at place ≡ Ok (None, behind) → with_earlier list (properties_at most place) ≡ Ok (list, behind)
unfolding properties_at
list_ends zero place list behind less room e = absurd (omega arith)
list_ends (suc most) place list behind less room e = rw e refl

fault_is : (f g : TagFault) → (let r : Result (Option Property × Place) TagFault = Err f in r) ≡ Err g → f ≡ g
fault_is f g e = cc

pub list_fails : (most : ℕ) (place : Place) (list : List Property) (fault : TagFault) → length place.rest ≤ most → property_at place ≡ Err fault → with_earlier list (properties_at most place) ≡ Err fault
unfolding properties_at
list_fails zero place list fault room e = ap (λ (f : TagFault). Err f) (fault_is (Short place.size) fault (sym (empty_fails place.size place.rest room) ∙ e))
list_fails (suc most) place list fault room e = rw e refl

pub list_goes_on : (most : ℕ) (place : Place) (list : List Property) (p : Property) (behind : Place) → length behind.rest < length place.rest → length place.rest ≤ most → property_at place ≡ Ok (Some p, behind)
    → (fewer : ℕ) × (length behind.rest ≤ fewer) × (with_earlier list (properties_at most place) ≡ with_earlier (with_value list p.0 p.1) (properties_at fewer behind))
unfolding properties_at
list_goes_on zero place list p behind less room e = absurd (omega arith)
list_goes_on (suc most) place list p behind less room e = (most, omega arith, rw e (with_earlier_next list p (properties_at most behind)))

pub listed_is : (place : Place) → listed_at place ≡ with_earlier [] (properties_at (length place.rest) place)
listed_is place = with_earlier_meaning (properties_at (length place.rest) place)

pub list_is : (place field : Place) → tagged_at 0x50 place ≡ Ok field → proplist_at place ≡ listed_at field
unfolding proplist_at written_at
list_is place field e = rw e refl

pub list_untagged : (place : Place) (fault : TagFault) → tagged_at 0x50 place ≡ Err fault → proplist_at place ≡ Err fault
unfolding proplist_at written_at
list_untagged place fault e = rw e refl

-- a fault of a list is the same, whatever else is read with it
pub fault_of_list : {X Z Y : Type 0} (view : X → Y) (other : Z → Y) (fault : ListFault) (read : Result Y TagFault) → GivesList view (Err fault) read → GivesList other (Err fault) read
fault_of_list view other (Tag fault) read is = is
fault_of_list view other NoMemory read is = tt

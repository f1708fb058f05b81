-- What is read is spelled there.
use Rattle.std.proofs.Common.{◌≡◌, ℕ, zero, suc, ◌<◌, ◌≤◌, ◌^◌, Bool, true, false, cond, ltb, eqb, List, [], ◌∷◌, ◌++◌, length, map, Option, None, Some, Result, Ok, Err, refl, sym, ap, subst, ◌∙◌, append_assoc, arith}
use Rattle.std.specs.List.{flat_map, AllByRecursion}
use Rattle.std.proofs.lemmas.Bool.{ltb-false, eqb-true}
use Rattle.std.proofs.lemmas.List.{nil_from_length, append-nil}
use Rattle.std.proofs.lemmas.List.Concat.{flat_map-cons}
use Rattle.px_tag.specs.declared.fault.TagFault.{TagFault}
use Rattle.px_tag.specs.declared.fault.TagFault.TheVariants.{Left}
use Rattle.px_tag.specs.PropList.{Property, meaning as properties_meant}
use Rattle.px_tag.specs.Place.{Place, Reading, start_of, offset_of, ◌>>=◌}
use Rattle.px_tag.specs.Law.{AreBytes, Stands}
use Rattle.px_tag.specs.Item.{number, text, proplist, IsText, IsPropList}
use Rattle.px_tag.specs.Reading.{number_at, flag_at, text_at, counted_at, spec_at, map_at, volumes_at, time_at, written_at, proplist_at, end_at}
use Rattle.px_tag.proofs.Steps.{bind_ok, check_ok, ok_is, Stands-then}
use Rattle.px_tag.proofs.Items.{number_law, flag_law, text_law, counted_law}
use Rattle.px_tag.proofs.Parts.{spec_law, map_law, volumes_law, time_law}
use Rattle.px_tag.proofs.Written.{written_law, meaning_rules}
use Rattle.px_cmd.specs.declared.fault.CmdFault.{CmdFault}
use Rattle.px_cmd.specs.declared.fault.CmdFault.TheVariants.{Unknown}
use Rattle.px_cmd.specs.Field.{Kind, u32, bool, string, cookie, sample_spec, positions, volumes, time_value, properties, keys, Field, Number, Flag, String, Cookie, SampleSpec, Positions, Volumes, TimeValue, Properties, Keys, cookie_length, spelling, keys_spelling, key_then, keys_at, field_at, fields_at}
use Rattle.px_cmd.specs.Table.{kinds_of}
use Rattle.px_cmd.specs.Packet.{head_at, all_fields, protocol, fields_or, command_at, with_number, meant_behind, meaning}
use Rattle.px_cmd.specs.Law.{kind_of, IsField, IsSpelledAs, AreSpelledAs, IsPacketOf}

-- ---- keys

-- keys stand there, each a text
abbrev KeysStand : List (List ℕ) → Place → Place → Type 0
KeysStand list place after = Stands (keys_spelling list) place after × AllByRecursion (λ key. IsText (Some key)) list

key_found : (most : ℕ) (key : Option (List ℕ)) (start place : Place) (list : List (List ℕ)) (after : Place) → Stands (text key) start place → IsText key
    → ((others : List (List ℕ)) → AreBytes place.rest → keys_at most place ≡ Ok (others, after) → KeysStand others place after)
    → key_then key place (keys_at most place) ≡ Ok (list, after) → KeysStand list start after
key_found most None start place list after one is rest e =
    let p : List (List ℕ) × Place = ([], place) in
    subst (λ (x : List (List ℕ) × Place). KeysStand x.0 start x.1) (ok_is p (list, after) e) (one, tt)
key_found most (Some key) start place list after one is rest e =
    let o = bind_ok (keys_at most place) (λ others. Ok (key ∷ others.0, others.1)) (list, after) e in
    let p : List (List ℕ) × Place = (key ∷ o.0.0, o.0.1) in
    let made : p ≡ (list, after) = ok_is p (list, after) o.2 in
    let end_is : o.0.1 ≡ after = ap (λ (x : List (List ℕ) × Place). x.1) made in
    let read : keys_at most place ≡ Ok (o.0.0, after) = o.1 ∙ ap (λ (x : Place). Ok (o.0.0, x)) end_is in
    let others = rest o.0.0 one.are_bytes read in
    let whole = Stands-then (text (Some key)) (keys_spelling o.0.0) start place after one others.0 in
    let grouped : text (Some key) ++ keys_spelling o.0.0 ≡ keys_spelling (key ∷ o.0.0) = sym (append_assoc (text (Some key)) (flat_map (λ k. text (Some k)) o.0.0) (text None)) ∙ ap (λ (x : List ℕ). x ++ text None) (sym (flat_map-cons (λ k. text (Some k)) key o.0.0)) in
    let stands : Stands (keys_spelling (key ∷ o.0.0)) start after = subst (λ (x : List ℕ). Stands x start after) grouped whole in
    subst (λ (x : List (List ℕ)). KeysStand x start after) (ap (λ (x : List (List ℕ) × Place). x.0) made) (stands, (is, others.1))

keys_found : (most : ℕ) (place : Place) (list : List (List ℕ)) (after : Place) → AreBytes place.rest → keys_at most place ≡ Ok (list, after) → KeysStand list place after
unfolding keys_at
keys_found zero place list after fits e = absurd cc
keys_found (suc most) place list after fits e =
    let a = bind_ok (text_at place) (λ key. key_then key.0 key.1 (keys_at most key.1)) (list, after) e in
    let t = text_law.found place a.0.0 a.0.1 fits a.1 in
    key_found most a.0.0 place a.0.1 list after t.0 t.1 (λ others bytes read. keys_found most a.0.1 others after bytes read) a.2

-- ---- fields

-- a field of a kind stands there
abbrev FieldStands : Kind → Field → Place → Place → Type 0
FieldStands kind field place after = (kind ≡ kind_of field) × (front : List ℕ) × IsSpelledAs field front × Stands front place after × IsField field

module _ {A : Type 0} (kind : Kind) (make : A → Field) (read : Reading A) (spelled : A → List ℕ) where
  abbrev made : Result (A × Place) TagFault → Result (Field × Place) TagFault
  made value = value >>= λ x. Ok (make x.0, x.1)

  made_found : (place : Place) (field : Field) (after : Place) → ((value : A) (behind : Place) → read place ≡ Ok (value, behind) → FieldStands kind (make value) place behind)
      → made (read place) ≡ Ok (field, after) → FieldStands kind field place after
  made_found place field after one e =
      let a = bind_ok (read place) (λ x. Ok (make x.0, x.1)) (field, after) e in
      let p : Field × Place = (make a.0.0, a.0.1) in
      subst (λ (x : Field × Place). FieldStands kind x.0 place x.1) (ok_is p (field, after) a.2) (one a.0.0 a.0.1 a.1)

list_found : (place : Place) (list : List Property) (after : Place) → AreBytes place.rest → proplist_at place ≡ Ok (list, after) → FieldStands properties (Properties list) place after
unfolding proplist_at
list_found place list after fits e =
    let a = bind_ok (written_at place) (λ written. Ok (properties_meant written.0, written.1)) (list, after) e in
    let w = written_law.found place a.0.0 a.0.1 fits a.1 in
    let p : List Property × Place = (properties_meant a.0.0, a.0.1) in
    let made : p ≡ (list, after) = ok_is p (list, after) a.2 in
    let list_is : properties_meant a.0.0 ≡ list = ap (λ (x : List Property × Place). x.0) made in
    let after_is : a.0.1 ≡ after = ap (λ (x : List Property × Place). x.1) made in
    let rules : IsPropList list = subst (λ (l : List Property). IsPropList l) list_is (meaning_rules a.0.0 w.1) in
    (refl, proplist a.0.0, (a.0.0, w.1, sym list_is, refl), subst (λ (x : Place). Stands (proplist a.0.0) place x) after_is w.0, rules)

field_found : (kind : Kind) (place : Place) (field : Field) (after : Place) → AreBytes place.rest → field_at kind place ≡ Ok (field, after) → FieldStands kind field place after
field_found u32 place field after fits e = made_found u32 Number number_at (λ n. spelling (Number n)) place field after (λ n behind read. let law = number_law.found place n behind fits read in (refl, spelling (Number n), refl, law.0, law.1)) e
field_found bool place field after fits e = made_found bool Flag flag_at (λ b. spelling (Flag b)) place field after (λ b behind read. (refl, spelling (Flag b), refl, (flag_law.found place b behind fits read).0, tt)) e
field_found string place field after fits e = made_found string String text_at (λ s. spelling (String s)) place field after (λ s behind read. let law = text_law.found place s behind fits read in (refl, spelling (String s), refl, law.0, law.1)) e
field_found cookie place field after fits e =
    let law = counted_law cookie_length (omega arith) in
    made_found cookie Cookie (counted_at cookie_length) (λ c. spelling (Cookie c)) place field after (λ c behind read. let found = law.found place c behind fits read in (refl, spelling (Cookie c), refl, found.0, found.1)) e
field_found sample_spec place field after fits e = made_found sample_spec SampleSpec spec_at (λ s. spelling (SampleSpec s)) place field after (λ s behind read. let law = spec_law.found place s behind fits read in (refl, spelling (SampleSpec s), refl, law.0, law.1)) e
field_found positions place field after fits e = made_found positions Positions map_at (λ l. spelling (Positions l)) place field after (λ l behind read. let law = map_law.found place l behind fits read in (refl, spelling (Positions l), refl, law.0, law.1)) e
field_found volumes place field after fits e = made_found volumes Volumes volumes_at (λ l. spelling (Volumes l)) place field after (λ l behind read. let law = volumes_law.found place l behind fits read in (refl, spelling (Volumes l), refl, law.0, law.1)) e
field_found time_value place field after fits e = made_found time_value TimeValue time_at (λ t. spelling (TimeValue t)) place field after (λ t behind read. let law = time_law.found place t behind fits read in (refl, spelling (TimeValue t), refl, law.0, law.1)) e
field_found properties place field after fits e = made_found properties Properties proplist_at (λ l. spelling (Properties l)) place field after (λ l behind read. list_found place l behind fits read) e
field_found keys place field after fits e = made_found keys Keys (keys_at (length place.rest)) (λ l. spelling (Keys l)) place field after (λ l behind read. let found = keys_found (length place.rest) place l behind fits read in (refl, spelling (Keys l), refl, found.0, found.1)) e

-- fields of these kinds stand there
abbrev FieldsStand : List Kind → List Field → Place → Place → Type 0
FieldsStand kinds fields place after = (kinds ≡ map kind_of fields) × (cells : List ℕ) × AreSpelledAs fields cells × Stands cells place after × AllByRecursion IsField fields

spelled_cons : (field : Field) (fields : List Field) (front rest : List ℕ) → IsSpelledAs field front → AreSpelledAs fields rest → AreSpelledAs (field ∷ fields) (front ++ rest)
spelled_cons field fields front rest one others = (front, rest, one, others, refl)

fields_found : (kinds : List Kind) (place : Place) (fields : List Field) (after : Place) → AreBytes place.rest → fields_at kinds place ≡ Ok (fields, after) → FieldsStand kinds fields place after
fields_found [] place fields after fits e =
    let p : List Field × Place = ([], place) in
    let here : Stands [] place place = record { bytes = refl; size = refl; are_bytes = fits } in
    subst (λ (x : List Field × Place). FieldsStand [] x.0 place x.1) (ok_is p (fields, after) e) (refl, [], refl, here, tt)
fields_found (kind ∷ kinds) place fields after fits e =
    let a = bind_ok (field_at kind place) (λ first. fields_at kinds first.1 >>= λ others. Ok (first.0 ∷ others.0, others.1)) (fields, after) e in
    let b = bind_ok (fields_at kinds a.0.1) (λ others. Ok (a.0.0 ∷ others.0, others.1)) (fields, after) a.2 in
    let one = field_found kind place a.0.0 a.0.1 fits a.1 in
    let rest = fields_found kinds a.0.1 b.0.0 b.0.1 one.3.are_bytes b.1 in
    let p : List Field × Place = (a.0.0 ∷ b.0.0, b.0.1) in
    let kinds_are : kind ∷ kinds ≡ map kind_of (a.0.0 ∷ b.0.0) = ap (λ (k : Kind). k ∷ kinds) one.0 ∙ ap (λ (ks : List Kind). kind_of a.0.0 ∷ ks) rest.0 in
    let stands = Stands-then one.1 rest.1 place a.0.1 b.0.1 one.3 rest.3 in
    subst (λ (x : List Field × Place). FieldsStand (kind ∷ kinds) x.0 place x.1) (ok_is p (fields, after) b.2) (kinds_are, one.1 ++ rest.1, spelled_cons a.0.0 b.0.0 one.1 rest.1 one.2 rest.2, stands, (one.4, rest.4))

-- ---- the packet

meant_ok : (version : ℕ) (front : Result ((ℕ × ℕ) × Place) TagFault) (command : ℕ) (fields : List Field) → meant_behind version front ≡ Ok (command, fields) → (head : (ℕ × ℕ) × Place) × (front ≡ Ok head) × (with_number head.0.0 (command_at version head.0.0 head.1) ≡ Ok (command, fields))
meant_ok version (Ok head) command fields e = (head, refl, e)
meant_ok version (Err fault) command fields e = absurd cc

abbrev meant : ℕ × List Field → Result (ℕ × List Field) CmdFault
meant m = Ok m

meant_is : (a b : ℕ × List Field) → meant a ≡ meant b → a ≡ b
meant_is a b e = cc

with_ok : (n : ℕ) (read : Result (List Field) CmdFault) (command : ℕ) (fields : List Field) → with_number n read ≡ Ok (command, fields) → (n ≡ command) × (read ≡ Ok fields)
with_ok n (Ok read) command fields e =
    let is = meant_is (n, read) (command, fields) e in
    (ap (λ (m : ℕ × List Field). m.0) is, ap (λ (m : ℕ × List Field). Ok m.1) is)
with_ok n (Err fault) command fields e = absurd cc

protocol_ok : (read : Result (List Field) TagFault) (fields : List Field) → protocol read ≡ Ok fields → read ≡ Ok fields
protocol_ok (Ok x) fields e = let is : x ≡ fields = cc in ap (λ (l : List Field). Ok l) is
protocol_ok (Err fault) fields e = absurd cc

or_ok : (kinds : Option (List Kind)) (command : ℕ) (place : Place) (fields : List Field) → fields_or kinds command place ≡ Ok fields → (known : List Kind) × (kinds ≡ Some known) × (all_fields known place ≡ Ok fields)
or_ok None command place fields e = absurd cc
or_ok (Some known) command place fields e = (known, refl, protocol_ok (all_fields known place) fields e)

choice_ok : (above : Bool) (fault : CmdFault) (read : Result (List Field) CmdFault) (fields : List Field) → cond above (Err fault) read ≡ Ok fields → (above ≡ false) × (read ≡ Ok fields)
choice_ok true fault read fields e = absurd cc
choice_ok false fault read fields e = (refl, e)

command_ok : (version command : ℕ) (place : Place) (fields : List Field) → command_at version command place ≡ Ok fields → (command ≤ 104) × (fields_or (kinds_of version command) command place ≡ Ok fields)
unfolding command_at
command_ok version command place fields e =
    let g = choice_ok (ltb 104 command) (Unknown command) (fields_or (kinds_of version command) command place) fields e in
    (ltb-false _ _ g.0, g.1)

end_found : (place : Place) (nothing : Unit) → end_at place ≡ Ok nothing → place.rest ≡ []
unfolding end_at
end_found place nothing e =
    let g = check_ok (eqb (length place.rest) 0) (Left (offset_of place)) tt nothing e in
    nil_from_length place.rest (eqb-true _ _ g.0)

head_found : (place : Place) (head : ℕ × ℕ) (behind : Place) → AreBytes place.rest → head_at place ≡ Ok (head, behind) → Stands (number head.0 ++ number head.1) place behind × (head.1 < 2 ^ 32)
unfolding head_at
head_found place head behind fits e =
    let a = bind_ok (number_at place) (λ command. number_at command.1 >>= λ tag. Ok ((command.0, tag.0), tag.1)) (head, behind) e in
    let b = bind_ok (number_at a.0.1) (λ tag. Ok ((a.0.0, tag.0), tag.1)) (head, behind) a.2 in
    let one = number_law.found place a.0.0 a.0.1 fits a.1 in
    let two = number_law.found a.0.1 b.0.0 b.0.1 one.0.are_bytes b.1 in
    let p : (ℕ × ℕ) × Place = ((a.0.0, b.0.0), b.0.1) in
    subst (λ (x : (ℕ × ℕ) × Place). Stands (number x.0.0 ++ number x.0.1) place x.1 × (x.0.1 < 2 ^ 32)) (ok_is p (head, behind) b.2) (Stands-then (number a.0.0) (number b.0.0) place a.0.1 b.0.1 one.0 two.0, two.1)

pub packet_found : (version : ℕ) (packet : List ℕ) (command : ℕ) (fields : List Field) → AreBytes packet → meaning version packet ≡ Ok (command, fields) → IsPacketOf version packet command fields
unfolding meaning
packet_found version packet command fields fits e =
    let m = meant_ok version (head_at (start_of packet)) command fields e in
    let w = with_ok m.0.0.0 (command_at version m.0.0.0 m.0.1) command fields m.2 in
    let c = command_ok version m.0.0.0 m.0.1 fields w.1 in
    let k = or_ok (kinds_of version m.0.0.0) m.0.0.0 m.0.1 fields c.1 in
    let r = bind_ok (fields_at k.0 m.0.1) (λ read. end_at read.1 >>= λ nothing. Ok read.0) fields k.2 in
    let n = bind_ok (end_at r.0.1) (λ nothing. Ok r.0.0) fields r.2 in
    let fields_are : r.0.0 ≡ fields = ok_is r.0.0 fields n.2 in
    let front = head_found (start_of packet) m.0.0 m.0.1 fits m.1 in
    let found = fields_found k.0 m.0.1 r.0.0 r.0.1 front.0.are_bytes r.1 in
    let all : packet ≡ (number m.0.0.0 ++ number m.0.0.1) ++ (found.1 ++ r.0.1.rest) = front.0.bytes ∙ ap (λ (x : List ℕ). (number m.0.0.0 ++ number m.0.0.1) ++ x) found.3.bytes in
    let none : r.0.1.rest ≡ [] = end_found r.0.1 n.0 n.1 in
    let cells_only : found.1 ++ r.0.1.rest ≡ found.1 = ap (λ (x : List ℕ). found.1 ++ x) none ∙ append-nil found.1 in
    let whole : packet ≡ number m.0.0.0 ++ number m.0.0.1 ++ found.1 = all ∙ ap (λ (x : List ℕ). (number m.0.0.0 ++ number m.0.0.1) ++ x) cells_only in
    let made : IsPacketOf version packet m.0.0.0 r.0.0 = record { tag = m.0.0.1; cells = found.1; known = c.0; tagged = front.1; kinds = k.1 ∙ ap (λ (ks : List Kind). Some ks) found.0; each = found.4; spelled = found.2; whole = whole } in
    let renamed : IsPacketOf version packet command r.0.0 = subst (λ (x : ℕ). IsPacketOf version packet x r.0.0) w.0 made in
    subst (λ (x : List Field). IsPacketOf version packet command x) fields_are renamed

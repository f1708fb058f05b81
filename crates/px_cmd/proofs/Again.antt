-- What was spelled is read again.
use Rattle.std.proofs.Common.{◌≡◌, ℕ, zero, suc, ◌<◌, ◌≤◌, ◌^◌, List, [], ◌∷◌, ◌++◌, length, map, None, Some, Ok, refl, sym, ap, ◌∙◌, append_assoc, arith}
use Rattle.std.specs.List.{flat_map, AllByRecursion}
use Rattle.std.proofs.lemmas.List.{length-append, append-nil}
use Rattle.std.proofs.lemmas.List.Concat.{flat_map-cons}
use Rattle.px_tag.specs.Place.{Place, start_of}
use Rattle.px_tag.specs.Item.{number, text, proplist, AreProperties, IsText}
use Rattle.px_tag.specs.PropList.{Property, meaning as properties_meant}
use Rattle.px_tag.specs.Reading.{proplist_at, end_at}
use Rattle.px_tag.proofs.Items.{number_law, flag_law, text_law, counted_law}
use Rattle.px_tag.proofs.Parts.{spec_law, map_law, volumes_law, time_law}
use Rattle.px_tag.proofs.Written.{written_law, list_again}
use Rattle.px_cmd.specs.Field.{Field, Number, Flag, String, Cookie, SampleSpec, Positions, Volumes, TimeValue, Properties, Keys, cookie_length, spelling, keys_spelling, keys_at, field_at, fields_at}
use Rattle.px_cmd.specs.Table.{kinds_of, last_command}
use Rattle.px_cmd.specs.Packet.{head_at, taken, meaning}
use Rattle.px_cmd.specs.Law.{kind_of, IsField, IsCommand, IsPacketOf, IsSpelledAs, AreSpelledAs, packet_of}
use Rattle.px_cmd.proofs.Whole.{means}

length_text : (key : List ℕ) → 0 < length (text (Some key))
unfolding text
length_text key = omega arith

length_null : 0 < length (text None)
unfolding text
length_null = omega arith

enough : (list : List (List ℕ)) → length list < length (keys_spelling list)
enough [] = length_null
enough (key ∷ list) =
    let cons : flat_map (λ k. text (Some k)) (key ∷ list) ≡ text (Some key) ++ flat_map (λ k. text (Some k)) list = flat_map-cons (λ k. text (Some k)) key list in
    omega (arith, enough list, length_text key, ap length cons, length-append (text (Some key)) (flat_map (λ k. text (Some k)) list), length-append (flat_map (λ k. text (Some k)) list) (text None), length-append (flat_map (λ k. text (Some k)) (key ∷ list)) (text None))

keys_again : (most : ℕ) (list : List (List ℕ)) (size : ℕ) (behind : List ℕ) → length list < most → AllByRecursion (λ key. IsText (Some key)) list → keys_at most (record { size = size; rest = keys_spelling list ++ behind }) ≡ Ok (list, record { size = size; rest = behind })
unfolding keys_at
keys_again zero list size behind lt each = absurd (omega arith)
keys_again (suc most) [] size behind lt each = rw (text_law.again None size behind tt) refl
keys_again (suc most) (key ∷ list) size behind lt each =
    let less : length list < most = omega arith in
    let others = flat_map (λ k. text (Some k)) list in
    let regrouped : keys_spelling (key ∷ list) ++ behind ≡ text (Some key) ++ (keys_spelling list ++ behind) = ap (λ (x : List ℕ). (x ++ text None) ++ behind) (flat_map-cons (λ k. text (Some k)) key list) ∙ ap (λ (x : List ℕ). x ++ behind) (append_assoc (text (Some key)) others (text None)) ∙ append_assoc (text (Some key)) (keys_spelling list) behind in
    ap (λ (r : List ℕ). keys_at (suc most) (record { size = size; rest = r })) regrouped ∙ rw (text_law.again (Some key) size (keys_spelling list ++ behind) each.0, keys_again most list size behind less each.1) refl

field_again : (field : Field) (size : ℕ) (behind : List ℕ) → IsField field → field_at (kind_of field) (record { size = size; rest = spelling field ++ behind }) ≡ Ok (field, record { size = size; rest = behind })
field_again (Number n) size behind is = rw (number_law.again n size behind is) refl
field_again (Flag b) size behind is = rw (flag_law.again b size behind tt) refl
field_again (String s) size behind is = rw (text_law.again s size behind is) refl
field_again (Cookie bytes) size behind is = let law = counted_law cookie_length (omega arith) in rw (law.again bytes size behind is) refl
field_again (SampleSpec s) size behind is = rw (spec_law.again s size behind is) refl
field_again (Positions list) size behind is = rw (map_law.again list size behind is) refl
field_again (Volumes list) size behind is = rw (volumes_law.again list size behind is) refl
field_again (TimeValue t) size behind is = rw (time_law.again t size behind is) refl
field_again (Properties list) size behind is = rw (list_again list size behind is) refl
field_again (Keys list) size behind is =
    let room : length list < length (keys_spelling list ++ behind) = omega (arith, enough list, length-append (keys_spelling list) behind) in
    rw (keys_again (length (keys_spelling list ++ behind)) list size behind room is) refl

fields_again : (fields : List Field) (size : ℕ) (behind : List ℕ) → AllByRecursion IsField fields → fields_at (map kind_of fields) (record { size = size; rest = flat_map spelling fields ++ behind }) ≡ Ok (fields, record { size = size; rest = behind })
fields_again [] size behind each = refl
fields_again (field ∷ fields) size behind each =
    let regrouped : flat_map spelling (field ∷ fields) ++ behind ≡ spelling field ++ (flat_map spelling fields ++ behind) = ap (λ (x : List ℕ). x ++ behind) (flat_map-cons spelling field fields) ∙ append_assoc (spelling field) (flat_map spelling fields) behind in
    ap (λ (r : List ℕ). fields_at (map kind_of (field ∷ fields)) (record { size = size; rest = r })) regrouped ∙ rw (field_again field size (flat_map spelling fields ++ behind) each.0, fields_again fields size behind each.1) refl

head_again : (command tag size : ℕ) (behind : List ℕ) → command < 2 ^ 32 → tag < 2 ^ 32 → head_at (record { size = size; rest = number command ++ number tag ++ behind }) ≡ Ok ((command, tag), record { size = size; rest = behind })
unfolding head_at
head_again command tag size behind low high =
    ap (λ (r : List ℕ). head_at (record { size = size; rest = r })) (append_assoc (number command) (number tag) behind) ∙ rw (number_law.again command size (number tag ++ behind) low, number_law.again tag size behind high) refl

ended : (size : ℕ) → end_at (record { size = size; rest = [] }) ≡ Ok tt
unfolding end_at
ended size = refl

pub packet_again : (version command tag : ℕ) (fields : List Field) → IsCommand version command tag fields → meaning version (packet_of command tag fields) ≡ Ok (command, fields)
packet_again version command tag fields is =
    let cells = flat_map spelling fields in
    let packet = packet_of command tag fields in
    let size = length packet in
    let behind : Place = record { size = size; rest = cells } in
    let after : Place = record { size = size; rest = [] } in
    let front : head_at (start_of packet) ≡ Ok ((command, tag), behind) = head_again command tag size cells (omega (arith, is.known)) is.tagged in
    let read : fields_at (map kind_of fields) behind ≡ Ok (fields, after) = ap (λ (r : List ℕ). fields_at (map kind_of fields) (record { size = size; rest = r })) (sym (append-nil cells)) ∙ fields_again fields size [] is.each in
    let took : taken (kinds_of version command) command behind ≡ Ok (fields, after) = rw (is.kinds, read) refl in
    means version packet command tag behind front is.known fields after took (ended size)

-- ---- a packet that is spelled in any way

list_read : (list written : List Property) (size : ℕ) (behind : List ℕ) → AreProperties written → list ≡ properties_meant written → proplist_at (record { size = size; rest = proplist written ++ behind }) ≡ Ok (list, record { size = size; rest = behind })
unfolding proplist_at
list_read list written size behind are e = rw (written_law.again written size behind are, e) refl

field_read : (field : Field) (front : List ℕ) (size : ℕ) (behind : List ℕ) → IsField field → IsSpelledAs field front → field_at (kind_of field) (record { size = size; rest = front ++ behind }) ≡ Ok (field, record { size = size; rest = behind })
field_read (Number n) front size behind is e = rw e (field_again (Number n) size behind is)
field_read (Flag b) front size behind is e = rw e (field_again (Flag b) size behind is)
field_read (String s) front size behind is e = rw e (field_again (String s) size behind is)
field_read (Cookie bytes) front size behind is e = rw e (field_again (Cookie bytes) size behind is)
field_read (SampleSpec s) front size behind is e = rw e (field_again (SampleSpec s) size behind is)
field_read (Positions list) front size behind is e = rw e (field_again (Positions list) size behind is)
field_read (Volumes list) front size behind is e = rw e (field_again (Volumes list) size behind is)
field_read (TimeValue t) front size behind is e = rw e (field_again (TimeValue t) size behind is)
field_read (Properties list) front size behind is e = rw (e.3, list_read list e.0 size behind e.1 e.2) refl
field_read (Keys list) front size behind is e = rw e (field_again (Keys list) size behind is)

fields_read : (fields : List Field) (cells : List ℕ) (size : ℕ) (behind : List ℕ) → AllByRecursion IsField fields → AreSpelledAs fields cells → fields_at (map kind_of fields) (record { size = size; rest = cells ++ behind }) ≡ Ok (fields, record { size = size; rest = behind })
fields_read [] cells size behind each e = rw e refl
fields_read (field ∷ fields) cells size behind each e =
    let regrouped : cells ++ behind ≡ e.0 ++ (e.1 ++ behind) = ap (λ (x : List ℕ). x ++ behind) e.4 ∙ append_assoc e.0 e.1 behind in
    ap (λ (r : List ℕ). fields_at (map kind_of (field ∷ fields)) (record { size = size; rest = r })) regrouped ∙ rw (field_read field e.0 size (e.1 ++ behind) each.0 e.2, fields_read fields e.1 size behind each.1 e.3) refl

spelled_again : (version : ℕ) (cells : List ℕ) (command tag : ℕ) (fields : List Field) → command ≤ last_command → tag < 2 ^ 32 → kinds_of version command ≡ Some (map kind_of fields) → AllByRecursion IsField fields → AreSpelledAs fields cells → meaning version (number command ++ number tag ++ cells) ≡ Ok (command, fields)
spelled_again version cells command tag fields known tagged kinds each spelled =
    let packet = number command ++ number tag ++ cells in
    let size = length packet in
    let behind : Place = record { size = size; rest = cells } in
    let after : Place = record { size = size; rest = [] } in
    let front : head_at (start_of packet) ≡ Ok ((command, tag), behind) = head_again command tag size cells (omega (arith, known)) tagged in
    let read : fields_at (map kind_of fields) behind ≡ Ok (fields, after) = ap (λ (r : List ℕ). fields_at (map kind_of fields) (record { size = size; rest = r })) (sym (append-nil cells)) ∙ fields_read fields cells size [] each spelled in
    let took : taken (kinds_of version command) command behind ≡ Ok (fields, after) = rw (kinds, read) refl in
    means version packet command tag behind front known fields after took (ended size)

pub packet_read : (version : ℕ) (packet : List ℕ) (command : ℕ) (fields : List Field) → IsPacketOf version packet command fields → meaning version packet ≡ Ok (command, fields)
packet_read version packet command fields is = ap (meaning version) is.whole ∙ spelled_again version is.cells command is.tag fields is.known is.tagged is.kinds is.each is.spelled

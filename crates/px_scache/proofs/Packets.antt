-- The packets of a play: their parts, and how many bytes they have.
use Rattle.std.proofs.Common.{arith, ◌≡◌, ℕ, ◌+◌, ◌<◌, ◌≤◌, nat_le, ◌&&◌, Bool, true, false, List, [], ◌∷◌, ◌++◌, length, Option, None, Some, refl, sym, ap, ◌∙◌, append_assoc}
use Rattle.std.specs.Prelude.{IsTrue}
use Rattle.std.specs.List.{flat_map}
use Rattle.std.proofs.lemmas.Bool.{leb-true}
use Rattle.std.proofs.lemmas.List.{length-append}
use Rattle.std.proofs.lemmas.Grind.{flat_map-append}
use Rattle.px_tag.specs.Item.{number, text, flag, spec, channel_map, channel_volumes, proplist}
use Rattle.px_tag.specs.declared.raw.RawSpec.{RawSpec}
use Rattle.px_tag.specs.Item.{is_text}
use Rattle.px_outcome.specs.Target.{raw_of}
use Rattle.px_cmd.specs.Field.{Field, spelling}
use Rattle.px_scache.specs.declared.play.Play.{Play}
use Rattle.px_scache.specs.Play.{shape, buffering, manner, no_properties, later, create_packet, drain_packet, delete_packet, is_name, IsPlay}

five : (front : List ℕ) (a b c d e : List Field) → ((((front ++ flat_map spelling a) ++ flat_map spelling b) ++ flat_map spelling c) ++ flat_map spelling d) ++ flat_map spelling e ≡ front ++ flat_map spelling (a ++ (b ++ (c ++ (d ++ e))))
five front a b c d e =
    let F = λ (fields : List Field). flat_map spelling fields in
    append_assoc (((front ++ F a) ++ F b) ++ F c) (F d) (F e)
    ∙ append_assoc ((front ++ F a) ++ F b) (F c) (F d ++ F e)
    ∙ append_assoc (front ++ F a) (F b) (F c ++ (F d ++ F e))
    ∙ append_assoc front (F a) (F b ++ (F c ++ (F d ++ F e)))
    ∙ ap (λ (t : List ℕ). front ++ (F a ++ (F b ++ (F c ++ t)))) (sym (flat_map-append spelling d e))
    ∙ ap (λ (t : List ℕ). front ++ (F a ++ (F b ++ t))) (sym (flat_map-append spelling c (d ++ e)))
    ∙ ap (λ (t : List ℕ). front ++ (F a ++ t)) (sym (flat_map-append spelling b (c ++ (d ++ e))))
    ∙ ap (λ (t : List ℕ). front ++ t) (sym (flat_map-append spelling a (b ++ (c ++ (d ++ e)))))

-- the packet is its parts
pub create_joined : (tag : ℕ) (p : Play) → (((((number 3 ++ number tag) ++ flat_map spelling (shape p)) ++ flat_map spelling (buffering p)) ++ flat_map spelling manner) ++ flat_map spelling no_properties) ++ flat_map spelling later ≡ create_packet tag p
unfolding create_packet
create_joined tag p = five (number 3 ++ number tag) (shape p) (buffering p) manner no_properties later

front_size : (command tag : ℕ) → length (number command ++ number tag) ≡ 10
unfolding number
front_size command tag = refl

pub drain_size : (tag stream : ℕ) → length (drain_packet tag stream) ≡ 15
unfolding drain_packet number
drain_size tag stream = refl

pub delete_size : (tag stream : ℕ) → length (delete_packet tag stream) ≡ 15
unfolding delete_packet number
delete_size tag stream = refl

-- ---- CREATE_PLAYBACK_STREAM

pub both : (a b : Bool) → (a && b) ≡ true → (a ≡ true) × (b ≡ true)
both true b e = (refl, e)
both false b e = absurd cc

spec_size : (s : RawSpec) → length (spec s) ≡ 7
unfolding spec
spec_size s = refl

map_size : (positions : List ℕ) → length (channel_map positions) ≡ 2 + length positions
unfolding channel_map
map_size positions = omega arith

number_size : (n : ℕ) → length (number n) ≡ 5
unfolding number
number_size n = refl

text_size : (name : Option (List ℕ)) → IsTrue (is_name name) → length (text name) ≤ 66
unfolding text
text_size None is = omega arith
text_size (Some name) is =
    let few : length name ≤ 64 = leb-true (length name) 64 (both (nat_le (length name) 64) (is_text name) is).0 in
    omega (arith, few, length-append name (0 ∷ []))

shape_size : (p : Play) → IsPlay p → length (flat_map spelling (shape p)) ≤ 112
shape_size p is =
    let c : List ℕ = text p.sink.name ++ [] in
    let b : List ℕ = number p.sink.index ++ c in
    let a : List ℕ = channel_map p.sample.map ++ b in
    omega (
      arith,
      length-append (spec (raw_of p.sample.spec)) a,
      length-append (channel_map p.sample.map) b,
      length-append (number p.sink.index) c,
      length-append (text p.sink.name) [],
      spec_size (raw_of p.sample.spec),
      map_size p.sample.map,
      number_size p.sink.index,
      text_size p.sink.name is.name,
      is.sample.map.few,
    )

buffering_size : (p : Play) → length (flat_map spelling (buffering p)) ≡ 32
unfolding number flag channel_volumes
buffering_size p = refl

manner_size : length (flat_map spelling manner) ≡ 9
unfolding flag
manner_size = refl

no_properties_size : length (flat_map spelling no_properties) ≡ 2
unfolding proplist
no_properties_size = refl

later_size : length (flat_map spelling later) ≡ 7
unfolding flag
later_size = refl

create_size : (tag : ℕ) (p : Play) → IsPlay p → (0 < length (create_packet tag p)) × (length (create_packet tag p) ≤ 400)
create_size tag p is =
    let front = number 3 ++ number tag in
    let a = flat_map spelling (shape p) in
    let b = flat_map spelling (buffering p) in
    let c = flat_map spelling manner in
    let d = flat_map spelling no_properties in
    let e = flat_map spelling later in
    let whole : length (((((front ++ a) ++ b) ++ c) ++ d) ++ e) ≡ length (create_packet tag p) = ap (λ (t : List ℕ). length t) (create_joined tag p) in
    let one = length-append front a in
    let two = length-append (front ++ a) b in
    let three = length-append ((front ++ a) ++ b) c in
    let four = length-append (((front ++ a) ++ b) ++ c) d in
    let last = length-append ((((front ++ a) ++ b) ++ c) ++ d) e in (
      omega (arith, whole, one, two, three, four, last, front_size 3 tag, shape_size p is, buffering_size p, manner_size, no_properties_size, later_size),
      omega (arith, whole, one, two, three, four, last, front_size 3 tag, shape_size p is, buffering_size p, manner_size, no_properties_size, later_size),
    )

pub create_some : (tag : ℕ) (p : Play) → IsPlay p → 0 < length (create_packet tag p)
create_some tag p is = (create_size tag p is).0

pub create_few : (tag : ℕ) (p : Play) → IsPlay p → length (create_packet tag p) ≤ 400
create_few tag p is = (create_size tag p is).1

-- What the client takes for a reply has its layout.
use Rattle.std.proofs.Common.{◌≡◌, ℕ, zero, suc, ◌==◌, Bool, true, false, cond, List, [], ◌∷◌, ◌++◌, length, map, Option, Result, Ok, Err, refl, ap, sym, subst, ◌∙◌}
use Rattle.std.specs.List.{flat_map}
use Rattle.std.proofs.lemmas.Bool.{eqb-true}
use Rattle.std.proofs.lemmas.List.{nil_from_length, append-nil}
use Rattle.std.proofs.lemmas.List.Concat.{flat_map-cons}
use Rattle.px_tag.specs.declared.fault.TagFault.{TagFault}
use Rattle.px_tag.specs.declared.fault.TagFault.TheVariants.{Left}
use Rattle.px_tag.specs.declared.raw.RawSpec.{RawSpec}
use Rattle.px_tag.specs.PropList.{Property, meaning}
use Rattle.px_tag.specs.Place.{Place, start_of, offset_of, ◌>>=◌}
use Rattle.px_tag.specs.Law.{AreBytes, Stands}
use Rattle.px_tag.specs.Item.{number, text, usec, flag, spec, channel_map, channel_volumes, proplist}
use Rattle.px_tag.specs.Reading.{number_at, usec_at, flag_at, text_at, spec_at, map_at, volumes_at, written_at, proplist_at, end_at}
use Rattle.px_tag.proofs.Steps.{bind_ok, check_ok, ok_is, Stands-then}
use Rattle.px_tag.proofs.Items.{number_law, usec_law, flag_law, text_law}
use Rattle.px_tag.proofs.Parts.{spec_law, map_law, volumes_law}
use Rattle.px_tag.proofs.Written.{written_law}
use Rattle.px_cmd.specs.Packet.{head_at}
use Rattle.px_reply.specs.Front.{reply_to}
use Rattle.px_client.specs.declared.inputs.Input.{Input}
use Rattle.px_client.specs.declared.awaited.Awaited.{Awaited}
use Rattle.px_client.specs.declared.awaited.Awaited.TheVariants as awaits
use Rattle.px_client.specs.declared.answer.Verdict.{Verdict}
use Rattle.px_client.specs.declared.answer.Verdict.TheVariants.{Message, Reply, Other}
use Rattle.px_client.specs.Answers.{owner_at, loudness_at, state_at, input_at, none_or, inputs_at, only_number, fields_at, tag_of, reply_by, refusal_by, judged_behind, judged}
use Rattle.px_client.specs.Layout.{Entry, entry_cells, entry_shown, HasLayout}

list_found : (place : Place) (list : List Property) (after : Place) → AreBytes place.rest → proplist_at place ≡ Ok (list, after) → (written : List Property) × Stands (proplist written) place after
unfolding proplist_at
list_found place list after fits e =
    let a = bind_ok (written_at place) (λ written. Ok (meaning written.0, written.1)) (list, after) e in
    let p : List Property × Place = (meaning a.0.0, a.0.1) in
    let made : p ≡ (list, after) = ok_is p (list, after) a.2 in
    (a.0.0, subst (λ (x : Place). Stands (proplist a.0.0) place x) (ap (λ (x : List Property × Place). x.1) made) (written_law.found place a.0.0 a.0.1 fits a.1).0)

-- ---- an input

record OwnerStands (v : ℕ × ℕ) (place after : Place) : Type 0 where
  name : Option (List ℕ)
  owner : ℕ
  client : ℕ
  stands : Stands (number v.0 ++ (text name ++ (number owner ++ (number client ++ number v.1)))) place after

owner_found : (place : Place) (v : ℕ × ℕ) (after : Place) → AreBytes place.rest → owner_at place ≡ Ok (v, after) → OwnerStands v place after
unfolding owner_at
owner_found place v after fits e =
    let a0 = bind_ok (number_at place) (λ index. text_at index.1 >>= λ name. number_at name.1 >>= λ owner. number_at owner.1 >>= λ client. number_at client.1 >>= λ sink. Ok ((index.0, sink.0), sink.1)) (v, after) e in
    let x0 = (number_law.found place a0.0.0 a0.0.1 fits a0.1).0 in
    let a1 = bind_ok (text_at a0.0.1) (λ name. number_at name.1 >>= λ owner. number_at owner.1 >>= λ client. number_at client.1 >>= λ sink. Ok ((a0.0.0, sink.0), sink.1)) (v, after) a0.2 in
    let x1 = (text_law.found a0.0.1 a1.0.0 a1.0.1 x0.are_bytes a1.1).0 in
    let a2 = bind_ok (number_at a1.0.1) (λ owner. number_at owner.1 >>= λ client. number_at client.1 >>= λ sink. Ok ((a0.0.0, sink.0), sink.1)) (v, after) a1.2 in
    let x2 = (number_law.found a1.0.1 a2.0.0 a2.0.1 x1.are_bytes a2.1).0 in
    let a3 = bind_ok (number_at a2.0.1) (λ client. number_at client.1 >>= λ sink. Ok ((a0.0.0, sink.0), sink.1)) (v, after) a2.2 in
    let x3 = (number_law.found a2.0.1 a3.0.0 a3.0.1 x2.are_bytes a3.1).0 in
    let a4 = bind_ok (number_at a3.0.1) (λ sink. Ok ((a0.0.0, sink.0), sink.1)) (v, after) a3.2 in
    let x4 = (number_law.found a3.0.1 a4.0.0 a4.0.1 x3.are_bytes a4.1).0 in
    let p : (ℕ × ℕ) × Place = ((a0.0.0, a4.0.0), a4.0.1) in
    subst (λ (x : (ℕ × ℕ) × Place). OwnerStands x.0 place x.1) (ok_is p (v, after) a4.2)
    (record { name = a1.0.0; owner = a2.0.0; client = a3.0.0; stands = (Stands-then (number a0.0.0) (text a1.0.0 ++ (number a2.0.0 ++ (number a3.0.0 ++ (number a4.0.0)))) place a0.0.1 a4.0.1 x0 (Stands-then (text a1.0.0) (number a2.0.0 ++ (number a3.0.0 ++ (number a4.0.0))) a0.0.1 a1.0.1 a4.0.1 x1 (Stands-then (number a2.0.0) (number a3.0.0 ++ (number a4.0.0)) a1.0.1 a2.0.1 a4.0.1 x2 (Stands-then (number a3.0.0) (number a4.0.0) a2.0.1 a3.0.1 a4.0.1 x3 x4)))) })

record LoudnessStands (v : List ℕ) (place after : Place) : Type 0 where
  s : RawSpec
  positions : List ℕ
  stands : Stands (spec s ++ (channel_map positions ++ channel_volumes v)) place after

loudness_found : (place : Place) (v : List ℕ) (after : Place) → AreBytes place.rest → loudness_at place ≡ Ok (v, after) → LoudnessStands v place after
unfolding loudness_at
loudness_found place v after fits e =
    let a0 = bind_ok (spec_at place) (λ s. map_at s.1 >>= λ positions. volumes_at positions.1) (v, after) e in
    let x0 = (spec_law.found place a0.0.0 a0.0.1 fits a0.1).0 in
    let a1 = bind_ok (map_at a0.0.1) (λ positions. volumes_at positions.1) (v, after) a0.2 in
    let x1 = (map_law.found a0.0.1 a1.0.0 a1.0.1 x0.are_bytes a1.1).0 in
    let x2 = (volumes_law.found a1.0.1 v after x1.are_bytes a1.2).0 in
    record { s = a0.0.0; positions = a1.0.0; stands = (Stands-then (spec a0.0.0) (channel_map a1.0.0 ++ (channel_volumes v)) place a0.0.1 after x0 (Stands-then (channel_map a1.0.0) (channel_volumes v) a0.0.1 a1.0.1 after x1 x2)) }

record StateStands (v : Bool) (place after : Place) : Type 0 where
  buffered : ℕ
  latency : ℕ
  method : Option (List ℕ)
  driver : Option (List ℕ)
  properties : List Property
  stands : Stands (usec buffered ++ (usec latency ++ (text method ++ (text driver ++ (flag v ++ proplist properties))))) place after

state_found : (place : Place) (v : Bool) (after : Place) → AreBytes place.rest → state_at place ≡ Ok (v, after) → StateStands v place after
unfolding state_at
state_found place v after fits e =
    let a0 = bind_ok (usec_at place) (λ buffered. usec_at buffered.1 >>= λ latency. text_at latency.1 >>= λ method. text_at method.1 >>= λ driver. flag_at driver.1 >>= λ mute. proplist_at mute.1 >>= λ list. Ok (mute.0, list.1)) (v, after) e in
    let x0 = (usec_law.found place a0.0.0 a0.0.1 fits a0.1).0 in
    let a1 = bind_ok (usec_at a0.0.1) (λ latency. text_at latency.1 >>= λ method. text_at method.1 >>= λ driver. flag_at driver.1 >>= λ mute. proplist_at mute.1 >>= λ list. Ok (mute.0, list.1)) (v, after) a0.2 in
    let x1 = (usec_law.found a0.0.1 a1.0.0 a1.0.1 x0.are_bytes a1.1).0 in
    let a2 = bind_ok (text_at a1.0.1) (λ method. text_at method.1 >>= λ driver. flag_at driver.1 >>= λ mute. proplist_at mute.1 >>= λ list. Ok (mute.0, list.1)) (v, after) a1.2 in
    let x2 = (text_law.found a1.0.1 a2.0.0 a2.0.1 x1.are_bytes a2.1).0 in
    let a3 = bind_ok (text_at a2.0.1) (λ driver. flag_at driver.1 >>= λ mute. proplist_at mute.1 >>= λ list. Ok (mute.0, list.1)) (v, after) a2.2 in
    let x3 = (text_law.found a2.0.1 a3.0.0 a3.0.1 x2.are_bytes a3.1).0 in
    let a4 = bind_ok (flag_at a3.0.1) (λ mute. proplist_at mute.1 >>= λ list. Ok (mute.0, list.1)) (v, after) a3.2 in
    let x4 = (flag_law.found a3.0.1 a4.0.0 a4.0.1 x3.are_bytes a4.1).0 in
    let a5 = bind_ok (proplist_at a4.0.1) (λ list. Ok (a4.0.0, list.1)) (v, after) a4.2 in
    let x5 = (list_found a4.0.1 a5.0.0 a5.0.1 x4.are_bytes a5.1).1 in
    let written = (list_found a4.0.1 a5.0.0 a5.0.1 x4.are_bytes a5.1).0 in
    let p : Bool × Place = (a4.0.0, a5.0.1) in
    subst (λ (x : Bool × Place). StateStands x.0 place x.1) (ok_is p (v, after) a5.2)
    (record { buffered = a0.0.0; latency = a1.0.0; method = a2.0.0; driver = a3.0.0; properties = written; stands = (Stands-then (usec a0.0.0) (usec a1.0.0 ++ (text a2.0.0 ++ (text a3.0.0 ++ (flag a4.0.0 ++ (proplist written))))) place a0.0.1 a5.0.1 x0 (Stands-then (usec a1.0.0) (text a2.0.0 ++ (text a3.0.0 ++ (flag a4.0.0 ++ (proplist written)))) a0.0.1 a1.0.1 a5.0.1 x1 (Stands-then (text a2.0.0) (text a3.0.0 ++ (flag a4.0.0 ++ (proplist written))) a1.0.1 a2.0.1 a5.0.1 x2 (Stands-then (text a3.0.0) (flag a4.0.0 ++ (proplist written)) a2.0.1 a3.0.1 a5.0.1 x3 (Stands-then (flag a4.0.0) (proplist written) a3.0.1 a4.0.1 a5.0.1 x4 x5))))) })

record EntryStands (v : Input) (place after : Place) : Type 0 where
  entry : Entry
  stands : Stands (entry_cells entry) place after
  is : v ≡ entry_shown entry

input_found : (place : Place) (v : Input) (after : Place) → AreBytes place.rest → input_at place ≡ Ok (v, after) → EntryStands v place after
unfolding input_at
input_found place v after fits e =
    let a0 = bind_ok (owner_at place) (λ owner. loudness_at owner.1 >>= λ volume. state_at volume.1 >>= λ mute. Ok (record { index = owner.0.0; sink = owner.0.1; volume = volume.0; mute = mute.0 }, mute.1)) (v, after) e in
    let x0 = owner_found place a0.0.0 a0.0.1 fits a0.1 in
    let a1 = bind_ok (loudness_at a0.0.1) (λ volume. state_at volume.1 >>= λ mute. Ok (record { index = a0.0.0.0; sink = a0.0.0.1; volume = volume.0; mute = mute.0 }, mute.1)) (v, after) a0.2 in
    let x1 = loudness_found a0.0.1 a1.0.0 a1.0.1 x0.stands.are_bytes a1.1 in
    let a2 = bind_ok (state_at a1.0.1) (λ mute. Ok (record { index = a0.0.0.0; sink = a0.0.0.1; volume = a1.0.0; mute = mute.0 }, mute.1)) (v, after) a1.2 in
    let x2 = state_found a1.0.1 a2.0.0 a2.0.1 x1.stands.are_bytes a2.1 in
    let entry : Entry = record {
      index = a0.0.0.0;
      name = x0.name;
      owner = x0.owner;
      client = x0.client;
      sink = a0.0.0.1;
      spec = x1.s;
      map = x1.positions;
      volume = a1.0.0;
      buffered = x2.buffered;
      latency = x2.latency;
      method = x2.method;
      driver = x2.driver;
      mute = a2.0.0;
      properties = x2.properties;
    } in
    let p : Input × Place = (entry_shown entry, a2.0.1) in
    subst (λ (x : Input × Place). EntryStands x.0 place x.1) (ok_is p (v, after) a2.2)
    (record {
      entry = entry;
      stands = Stands-then _ _ place a0.0.1 a2.0.1 x0.stands (Stands-then _ _ a0.0.1 a1.0.1 a2.0.1 x1.stands x2.stands);
      is = refl;
    })

-- ---- the fields of a reply

end_found : (place : Place) → end_at place ≡ Ok tt → place.rest ≡ []
unfolding end_at
end_found place e =
    let c = check_ok (length place.rest == 0) (Left (offset_of place)) tt tt e in
    nil_from_length place.rest (eqb-true (length place.rest) 0 c.0)

abbrev InputsStand : List Input → Place → Type 0
InputsStand inputs place = (entries : List Entry) × (place.rest ≡ flat_map entry_cells entries) × (inputs ≡ map entry_shown entries)

nothing_found : (place : Place) (inputs : List Input) → end_at place ≡ Ok tt → (let r : Result (List Input) TagFault = Ok [] in r) ≡ Ok inputs → InputsStand inputs place
nothing_found place inputs e is = ([], end_found place e, sym (ok_is [] inputs is))

more_found : (most : ℕ) (place : Place) (inputs : List Input) (end : Result Unit TagFault) → AreBytes place.rest → end_at place ≡ end
    → none_or end (input_at place >>= λ first. inputs_at most first.1 >>= λ others. Ok (first.0 ∷ others)) ≡ Ok inputs
    → ((next : Place) (others : List Input) → AreBytes next.rest → inputs_at most next ≡ Ok others → InputsStand others next) → InputsStand inputs place
more_found most place inputs (Ok tt) fits is e later = nothing_found place inputs is e
more_found most place inputs (Err fault) fits is e later =
    let a = bind_ok (input_at place) (λ first. inputs_at most first.1 >>= λ others. Ok (first.0 ∷ others)) inputs e in
    let x = input_found place a.0.0 a.0.1 fits a.1 in
    let b = bind_ok (inputs_at most a.0.1) (λ others. Ok (a.0.0 ∷ others)) inputs a.2 in
    let rest = later a.0.1 b.0 x.stands.are_bytes b.1 in (
      x.entry ∷ rest.0,
      x.stands.bytes ∙ ap (λ (r : List ℕ). entry_cells x.entry ++ r) rest.1 ∙ sym (flat_map-cons entry_cells x.entry rest.0),
      sym (ok_is (a.0.0 ∷ b.0) inputs b.2) ∙ ap (λ (i : Input). i ∷ b.0) x.is ∙ ap (λ (is : List Input). entry_shown x.entry ∷ is) rest.2,
    )

inputs_found : (most : ℕ) (place : Place) (inputs : List Input) → AreBytes place.rest → inputs_at most place ≡ Ok inputs → InputsStand inputs place
inputs_found zero place inputs fits e =
    let a = bind_ok (end_at place) (λ end. Ok []) inputs e in
    nothing_found place inputs a.1 a.2
inputs_found (suc most) place inputs fits e = more_found most place inputs (end_at place) fits refl e (λ next others bytes read. inputs_found most next others bytes read)

number_found : (place : Place) (n : ℕ) → AreBytes place.rest → only_number place ≡ Ok n → place.rest ≡ number n
unfolding only_number
number_found place n fits e =
    let a = bind_ok (number_at place) (λ number. end_at number.1 >>= λ nothing. Ok number.0) n e in
    let x = (number_law.found place a.0.0 a.0.1 fits a.1).0 in
    let b = bind_ok (end_at a.0.1) (λ nothing. Ok a.0.0) n a.2 in
    x.bytes ∙ ap (λ (r : List ℕ). number a.0.0 ++ r) (end_found a.0.1 b.1) ∙ append-nil (number a.0.0) ∙ ap number (ok_is a.0.0 n b.2)

-- ---- a packet

reply_is : (r : Result (List Input) TagFault) (inputs : List Input) → reply_by r ≡ Reply inputs → r ≡ Ok inputs
reply_is (Ok is) inputs e = cc
reply_is (Err fault) inputs e = absurd cc

no_refusal : (r : Result ℕ TagFault) (inputs : List Input) → refusal_by r ≡ Reply inputs → ⊥
no_refusal (Ok code) inputs e = absurd cc
no_refusal (Err fault) inputs e = absurd cc

record IsFront (fits reply : Bool) (r : Verdict) (inputs : List Input) : Type 0 where
  fits_is : fits ≡ true
  reply_is_it : reply ≡ true
  read : r ≡ Reply inputs

front_is : (none fits reply error : Bool) (r s : Verdict) (inputs : List Input) → (s ≡ Reply inputs → ⊥) → cond none Message (cond fits (cond reply r (cond error s Other)) Other) ≡ Reply inputs → IsFront fits reply r inputs
front_is true fits reply error r s inputs never e = absurd cc
front_is false true true error r s inputs never e = record { fits_is = refl; reply_is_it = refl; read = e }
front_is false true false true r s inputs never e = absurd (never e)
front_is false true false false r s inputs never e = absurd cc
front_is false false reply error r s inputs never e = absurd cc

record Fronted (awaited : Awaited) (size : ℕ) (packet : List ℕ) (inputs : List Input) : Type 0 where
  place : Place
  bytes : packet ≡ reply_to (tag_of awaited) ++ place.rest
  fits : AreBytes place.rest
  read : fields_at awaited size place ≡ Ok inputs

head_found : (place : Place) (v : ℕ × ℕ) (after : Place) → AreBytes place.rest → head_at place ≡ Ok (v, after) → Stands (number v.0 ++ number v.1) place after
unfolding head_at
head_found place v after fits e =
    let a = bind_ok (number_at place) (λ command. number_at command.1 >>= λ tag. Ok ((command.0, tag.0), tag.1)) (v, after) e in
    let x = (number_law.found place a.0.0 a.0.1 fits a.1).0 in
    let b = bind_ok (number_at a.0.1) (λ tag. Ok ((a.0.0, tag.0), tag.1)) (v, after) a.2 in
    let y = (number_law.found a.0.1 b.0.0 b.0.1 x.are_bytes b.1).0 in
    let p : (ℕ × ℕ) × Place = ((a.0.0, b.0.0), b.0.1) in
    subst (λ (q : (ℕ × ℕ) × Place). Stands (number q.0.0 ++ number q.0.1) place q.1) (ok_is p (v, after) b.2)
    (Stands-then (number a.0.0) (number b.0.0) place a.0.1 b.0.1 x y)

by_head : (awaited : Awaited) (packet : List ℕ) (inputs : List Input) (head : Result ((ℕ × ℕ) × Place) TagFault) → AreBytes packet → head_at (start_of packet) ≡ head → judged_behind awaited (length packet) head ≡ Reply inputs
    → Fronted awaited (length packet) packet inputs
by_head awaited packet inputs (Err fault) fits is e = absurd cc
by_head awaited packet inputs (Ok head) fits is e =
    let size = length packet in
    let front = front_is (head.0.1 == 0xFFFFFFFF) (head.0.1 == tag_of awaited) (head.0.0 == 2) (head.0.0 == 0) (reply_by (fields_at awaited size head.1)) (refusal_by (only_number head.1)) inputs
    (no_refusal (only_number head.1) inputs) e in
    let stands = head_found (start_of packet) head.0 head.1 fits is in
    let command : head.0.0 ≡ 2 = eqb-true head.0.0 2 front.reply_is_it in
    let tag : head.0.1 ≡ tag_of awaited = eqb-true head.0.1 (tag_of awaited) front.fits_is in
    record {
      place = head.1;
      bytes = stands.bytes ∙ ap (λ (n : ℕ). (number n ++ number head.0.1) ++ head.1.rest) command ∙ ap (λ (n : ℕ). (number 2 ++ number n) ++ head.1.rest) tag;
      fits = stands.are_bytes;
      read = reply_is (fields_at awaited size head.1) inputs front.read;
    }

fronted : (awaited : Awaited) (packet : List ℕ) (inputs : List Input) → AreBytes packet → judged awaited packet ≡ Reply inputs → Fronted awaited (length packet) packet inputs
unfolding judged
fronted awaited packet inputs fits e = by_head awaited packet inputs (head_at (start_of packet)) fits refl e

pub layout_found : (awaited : Awaited) (packet : List ℕ) (inputs : List Input) → AreBytes packet → judged awaited packet ≡ Reply inputs → HasLayout awaited inputs packet
layout_found awaits.Version packet inputs fits e =
    let f = fronted awaits.Version packet inputs fits e in
    let a = bind_ok (only_number f.place) (λ version. Ok []) inputs f.read in
    (a.0, f.bytes ∙ ap (λ (r : List ℕ). reply_to 0 ++ r) (number_found f.place a.0 f.fits a.1), sym (ok_is [] inputs a.2))
layout_found awaits.Client packet inputs fits e =
    let f = fronted awaits.Client packet inputs fits e in
    let a = bind_ok (only_number f.place) (λ client. Ok []) inputs f.read in
    (a.0, f.bytes ∙ ap (λ (r : List ℕ). reply_to 1 ++ r) (number_found f.place a.0 f.fits a.1), sym (ok_is [] inputs a.2))
layout_found awaits.Nothing packet inputs fits e =
    let f = fronted awaits.Nothing packet inputs fits e in
    let a = bind_ok (end_at f.place) (λ nothing. Ok []) inputs f.read in
    (f.bytes ∙ ap (λ (r : List ℕ). reply_to 2 ++ r) (end_found f.place a.1) ∙ append-nil (reply_to 2), sym (ok_is [] inputs a.2))
layout_found awaits.List packet inputs fits e =
    let f = fronted awaits.List packet inputs fits e in
    let i = inputs_found (length packet) f.place inputs f.fits f.read in
    (i.0, f.bytes ∙ ap (λ (r : List ℕ). reply_to 2 ++ r) i.1, i.2)

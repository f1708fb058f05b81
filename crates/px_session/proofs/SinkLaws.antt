-- A speaker map, a sink, a list of sinks and a header have one spelling.
use Rattle.std.proofs.Common.{◌≡◌, ℕ, zero, suc, ◌≤◌, List, [], ◌∷◌, ◌++◌, length, refl, sym, ap, subst, ◌∙◌, arith, append_assoc, nat_le}
use Rattle.std.specs.List.{flat_map, AllByRecursion}
use Rattle.std.proofs.lemmas.Bool.{leb-true, le-leb}
use Rattle.std.proofs.lemmas.List.{append-nil}
use Rattle.std.proofs.lemmas.List.Elements.{All-from_recursion, recursion_from_All}
use Rattle.px_sample.specs.Format.{code_of}
use Rattle.px_chmap.specs.ChannelMap.{IsChannelMap}
use Rattle.px_header.specs.declared.header.SinkSpec.{SinkSpec}
use Rattle.px_header.specs.declared.header.Header.{Header}
use Rattle.px_session.specs.declared.form.Form.{Form}
use Rattle.px_session.specs.Place.{Reading, bytes_at}
use Rattle.px_session.specs.Field.{byte_at, word_at, ruled}
use Rattle.px_header.specs.HeaderRules.{is_from_to, is_depth, IsFromTo, IsSink, AreSinks, IsHeader}
use Rattle.px_session.specs.HeaderReading.{magic_at, name_at, spec_at, more_at, position_at, Room, room_at, sink_at, header_at}
use Rattle.px_session.specs.Spelling.{word, magic, sink, header}
use Rattle.px_session.specs.Law.{IsLaw}
use Rattle.px_session.proofs.FieldLaws.{Nothing, done_law, InTurn, then_law, Under, ruled_law, law_as, Raw, bytes_law, Byte, byte_law, word_law}
use Rattle.px_session.proofs.HeaderLaws.{both_true, and_true, within, is_within, Magic, magic_law, Named, name_law, Specified, spec_law}

-- ---- items in a row

abbrev pub Items : {A : Type 0} → (List A → A → List ℕ → Type 0) → List A → ℕ → List A → List ℕ → Type 0
Items Item earlier zero = Nothing earlier
Items Item earlier (suc n) = InTurn (Item earlier) (λ item. Items Item (earlier ++ item ∷ []) n)

pub more_law : {A : Type 0} {Item : List A → A → List ℕ → Type 0} (item_at : List A → Reading A) → ((earlier : List A) → IsLaw (item_at earlier) (Item earlier)) → (earlier : List A) (n : ℕ) → IsLaw (more_at item_at earlier n) (Items Item earlier n)
unfolding more_at
more_law item_at h earlier zero = done_law earlier
more_law item_at h earlier (suc n) = then_law (item_at earlier) _ (h earlier) (λ item. more_law item_at h (earlier ++ item ∷ []) n)

-- ---- a speaker map

abbrev pub Position : List ℕ → ℕ → List ℕ → Type 0
Position earlier = Under (λ p. nat_le p 50) Byte

pub record Mapped (n : ℕ) (map bytes : List ℕ) : Type 0 where
  pub size : length map ≡ n
  pub known : AllByRecursion (λ p. p ≤ 50) map
  pub bytes_is : bytes ≡ map

positions_to : (n : ℕ) (earlier all bytes : List ℕ) → Items Position earlier n all bytes → (all ≡ earlier ++ bytes) × (length bytes ≡ n) × AllByRecursion (λ p. p ≤ 50) bytes
positions_to zero earlier all bytes s = rw (s.1) (s.0 ∙ sym (append-nil earlier), refl, tt)
positions_to (suc n) earlier all bytes s =
    let r = positions_to n (earlier ++ s.front ∷ []) all s.back_bytes s.next in
    let is : bytes ≡ s.front ∷ s.back_bytes = s.joined ∙ ap (λ (b : List ℕ). b ++ s.back_bytes) s.first.0.1 in
    rw is (r.0 ∙ append_assoc earlier (s.front ∷ []) s.back_bytes, ap suc r.1, (leb-true s.front 50 s.first.1, r.2))

positions_from : (earlier map : List ℕ) → AllByRecursion (λ p. p ≤ 50) map → Items Position earlier (length map) (earlier ++ map) map
positions_from earlier [] known = (append-nil earlier, refl)
positions_from earlier (p ∷ map) known = record {
  front = p;
  front_bytes = p ∷ [];
  back_bytes = map;
  first = ((omega (arith, known.0), refl), le-leb p 50 known.0);
  next = subst (λ (all : List ℕ). Items Position (earlier ++ p ∷ []) (length map) all map) (append_assoc earlier (p ∷ []) map) (positions_from (earlier ++ p ∷ []) map known.1);
  joined = refl;
}

pub map_law : (n : ℕ) → IsLaw (more_at position_at [] n) (Mapped n)
map_law n = law_as (more_at position_at [] n)
    (λ map bytes s. (
    let r = positions_to n [] map bytes s in
    let is : map ≡ bytes = r.0 in
    record { size = ap (length {A = ℕ}) is ∙ r.1; known = subst (AllByRecursion (λ p. p ≤ 50)) (sym is) r.2; bytes_is = sym is }))
    (λ map bytes s. subst (λ (b : List ℕ). Items Position [] n map b) (sym s.bytes_is) (subst (λ (k : ℕ). Items Position [] k map map) s.size (positions_from [] map s.known)))
    (more_law position_at (λ earlier. ruled_law (λ p. nat_le p 50) byte_at byte_law) [] n)

is_map : (n : ℕ) (map : List ℕ) → IsFromTo 1 32 n → length map ≡ n → AllByRecursion (λ p. p ≤ 50) map → IsChannelMap map
is_map n map fit size known = record { some = omega (arith, fit.0); few = omega (arith, fit.1); known = All-from_recursion (λ p. p ≤ 50) map known }

-- ---- guard and depth

pub record Roomy (room : Room) (bytes : List ℕ) : Type 0 where
  pub depth : IsFromTo 1 65536 room.depth
  pub guard : room.guard ≤ room.depth
  pub bytes_is : bytes ≡ word room.guard ++ word room.depth

room_law : IsLaw room_at Roomy
unfolding room_at
room_law = law_as room_at
    (λ room bytes s. (
    let d = s.next in
    let rules = both_true (is_from_to 1 65536 d.front) (nat_le s.front d.front) d.first.1 in
    let made : Room = record { guard = s.front; depth = d.front } in
    let is : room ≡ made = d.next.0 in
    let spelled : bytes ≡ word s.front ++ word d.front =
    s.joined ∙ ap (λ (b : List ℕ). b ++ s.back_bytes) s.first.1
    ∙ ap (λ (b : List ℕ). word s.front ++ b) (d.joined ∙ ap (λ (b : List ℕ). d.front_bytes ++ b) d.next.1 ∙ append-nil d.front_bytes ∙ d.first.0.1) in
    subst (λ (z : Room). Roomy z bytes) (sym is) (record { depth = within 1 65536 d.front rules.0; guard = leb-true s.front d.front rules.1; bytes_is = spelled })))
    (λ room bytes s. record {
      front = room.guard;
      front_bytes = word room.guard;
      back_bytes = word room.depth;
      first = (omega (arith, s.depth.1, s.guard), refl);
      joined = s.bytes_is;
      next = record { front = room.depth; front_bytes = word room.depth; back_bytes = []; first = ((omega (arith, s.depth.1), refl), and_true (is_from_to 1 65536 room.depth) (nat_le room.guard room.depth) (is_within 1 65536 room.depth s.depth) (le-leb room.guard room.depth s.guard)); joined = refl; next = (refl, refl) };
    })
    (then_law word_at _ word_law (λ guard. then_law (ruled (is_depth guard) word_at) _ (ruled_law (is_depth guard) word_at word_law) (λ depth. done_law _)))

-- ---- a sink

abbrev pub Sunk : List SinkSpec → SinkSpec → List ℕ → Type 0
Sunk earlier s bytes = IsSink earlier s × (bytes ≡ sink s)

abbrev pub Parts : List SinkSpec → SinkSpec → List ℕ → Type 0
Parts earlier = InTurn (Named earlier) (λ name. InTurn Specified (λ spec. InTurn (Mapped spec.channels) (λ map. InTurn Roomy (λ room. Nothing (record { name = name; spec = spec; map = map; guard = room.guard; depth = room.depth })))))

sink_regrouped : (s : SinkSpec) → (length s.name ∷ s.name) ++ ((code_of s.spec.format ∷ s.spec.channels ∷ word s.spec.rate) ++ (s.map ++ ((word s.guard ++ word s.depth) ++ []))) ≡ sink s
unfolding sink
sink_regrouped s = simp (append_assoc, append-nil)

sink_to : (earlier : List SinkSpec) (s : SinkSpec) (bytes : List ℕ) → Parts earlier s bytes → Sunk earlier s bytes
sink_to earlier s bytes p =
    let spec = p.next in
    let map = p.next.next in
    let room = p.next.next.next in
    let made : SinkSpec = record { name = p.front; spec = spec.front; map = map.front; guard = room.front.guard; depth = room.front.depth } in
    let is : s ≡ made = room.next.0 in
    let lawful : IsSink earlier made = record {
      name_size = p.first.size;
      name = p.first.lawful;
      own_name = p.first.new;
      format = spec.first.format;
      channels = spec.first.channels;
      rate = spec.first.rate;
      map = is_map spec.front.channels map.front spec.first.channels map.first.size map.first.known;
      map_size = map.first.size;
      depth = room.first.depth;
      guard = room.first.guard;
    } in
    let tail : room.back_bytes ≡ [] = room.next.1 in
    let spelled : bytes ≡ sink made =
    p.joined ∙ ap (λ (b : List ℕ). b ++ p.back_bytes) p.first.bytes_is
    ∙ ap (λ (b : List ℕ). (length p.front ∷ p.front) ++ b) (spec.joined ∙ ap (λ (b : List ℕ). b ++ spec.back_bytes) spec.first.bytes_is
    ∙ ap (λ (b : List ℕ). (code_of spec.front.format ∷ spec.front.channels ∷ word spec.front.rate) ++ b) (map.joined ∙ ap (λ (b : List ℕ). b ++ map.back_bytes) map.first.bytes_is
    ∙ ap (λ (b : List ℕ). map.front ++ b) (room.joined ∙ ap (λ (b : List ℕ). b ++ room.back_bytes) room.first.bytes_is ∙ ap (λ (b : List ℕ). (word room.front.guard ++ word room.front.depth) ++ b) tail)))
    ∙ sink_regrouped made in
    subst (λ (z : SinkSpec). Sunk earlier z bytes) (sym is) (lawful, spelled)

sink_from : (earlier : List SinkSpec) (s : SinkSpec) (bytes : List ℕ) → Sunk earlier s bytes → Parts earlier s bytes
sink_from earlier s bytes p =
    let h = p.0 in
    let room : Room = record { guard = s.guard; depth = s.depth } in
    let rooms = word s.guard ++ word s.depth in
    let maps = s.map ++ (rooms ++ []) in
    let specs = (code_of s.spec.format ∷ s.spec.channels ∷ word s.spec.rate) ++ maps in
    record {
      front = s.name;
      front_bytes = length s.name ∷ s.name;
      back_bytes = specs;
      joined = p.1 ∙ sym (sink_regrouped s);
      first = record { size = h.name_size; lawful = h.name; new = h.own_name; bytes_is = refl };
      next = record {
        front = s.spec;
        front_bytes = code_of s.spec.format ∷ s.spec.channels ∷ word s.spec.rate;
        back_bytes = maps;
        joined = refl;
        first = record { format = h.format; channels = h.channels; rate = h.rate; bytes_is = refl };
        next = record {
          front = s.map;
          front_bytes = s.map;
          back_bytes = rooms ++ [];
          joined = refl;
          first = record { size = h.map_size; known = recursion_from_All (λ p. p ≤ 50) s.map h.map.known; bytes_is = refl };
          next = record {
            front = room;
            front_bytes = rooms;
            back_bytes = [];
            joined = refl;
            first = record { depth = h.depth; guard = h.guard; bytes_is = refl };
            next = (refl, refl);
          };
        };
      };
    }

pub sink_law : (earlier : List SinkSpec) → IsLaw (sink_at earlier) (Sunk earlier)
unfolding sink_at
sink_law earlier = law_as (sink_at earlier) (sink_to earlier) (sink_from earlier)
    (then_law (name_at earlier) _ (name_law earlier) (λ name. then_law spec_at _ spec_law (λ spec. then_law (more_at position_at [] spec.channels) _ (map_law spec.channels) (λ map. then_law room_at _ room_law (λ room. done_law _)))))

-- ---- sinks, and the header

pub record SunkAll (n : ℕ) (sinks : List SinkSpec) (bytes : List ℕ) : Type 0 where
  pub size : length sinks ≡ n
  pub lawful : AreSinks [] sinks
  pub bytes_is : bytes ≡ flat_map sink sinks

sinks_to : (n : ℕ) (earlier all : List SinkSpec) (bytes : List ℕ) → Items Sunk earlier n all bytes → (sinks : List SinkSpec) × (all ≡ earlier ++ sinks) × (length sinks ≡ n) × AreSinks earlier sinks × (bytes ≡ flat_map sink sinks)
sinks_to zero earlier all bytes s = ([], s.0 ∙ sym (append-nil earlier), refl, tt, s.1)
sinks_to (suc n) earlier all bytes s =
    let r = sinks_to n (earlier ++ s.front ∷ []) all s.back_bytes s.next in
    (s.front ∷ r.0, r.1 ∙ append_assoc earlier (s.front ∷ []) r.0, ap suc r.2, (s.first.0, r.3), s.joined ∙ ap (λ (b : List ℕ). b ++ s.back_bytes) s.first.1 ∙ ap (λ (b : List ℕ). sink s.front ++ b) r.4)

sinks_from : (earlier sinks : List SinkSpec) → AreSinks earlier sinks → Items Sunk earlier (length sinks) (earlier ++ sinks) (flat_map sink sinks)
sinks_from earlier [] lawful = (append-nil earlier, refl)
sinks_from earlier (s ∷ sinks) lawful = record {
  front = s;
  front_bytes = sink s;
  back_bytes = flat_map sink sinks;
  first = (lawful.0, refl);
  next = subst (λ (all : List SinkSpec). Items Sunk (earlier ++ s ∷ []) (length sinks) all (flat_map sink sinks)) (append_assoc earlier (s ∷ []) sinks) (sinks_from (earlier ++ s ∷ []) sinks lawful.1);
  joined = refl;
}

sinks_law : (n : ℕ) → IsLaw (more_at sink_at [] n) (SunkAll n)
sinks_law n = law_as (more_at sink_at [] n)
    (λ all bytes s. (
    let r = sinks_to n [] all bytes s in
    let is : all ≡ r.0 = r.1 in
    subst (λ (z : List SinkSpec). SunkAll n z bytes) (sym is) (record { size = r.2; lawful = r.3; bytes_is = r.4 })))
    (λ all bytes s. subst (λ (b : List ℕ). Items Sunk [] n all b) (sym s.bytes_is) (subst (λ (k : ℕ). Items Sunk [] k all (flat_map sink all)) s.size (sinks_from [] all s.lawful)))
    (more_law sink_at sink_law [] n)

abbrev pub Headed : Form × Header → List ℕ → Type 0
Headed x bytes = IsHeader x.1 × (bytes ≡ header x.0 x.1)

abbrev pub HeaderParts : Form × Header → List ℕ → Type 0
HeaderParts = InTurn Magic (λ form. InTurn (Raw 256) (λ cookie. InTurn (Under (is_from_to 1 16) Byte) (λ count. InTurn (SunkAll count) (λ sinks. Nothing (form, record { cookie = cookie; sinks = sinks })))))

header_regrouped : (form : Form) (h : Header) → magic form ++ (h.cookie ++ ((length h.sinks ∷ []) ++ (flat_map sink h.sinks ++ []))) ≡ header form h
unfolding header
header_regrouped form h = ap (λ (b : List ℕ). magic form ++ (h.cookie ++ (length h.sinks ∷ b))) (append-nil (flat_map sink h.sinks))

header_to : (x : Form × Header) (bytes : List ℕ) → HeaderParts x bytes → Headed x bytes
header_to x bytes p =
    let form = p.front in
    let cookie = p.next in
    let count = p.next.next in
    let sinks = p.next.next.next in
    let made : Header = record { cookie = cookie.front; sinks = sinks.front } in
    let is : x ≡ (form, made) = sinks.next.0 in
    let size : length sinks.front ≡ count.front = sinks.first.size in
    let lawful : IsHeader made = record {
      cookie = cookie.first.0;
      count = subst (IsFromTo 1 16) (sym size) (within 1 16 count.front count.first.1);
      sinks = sinks.first.lawful;
    } in
    let spelled : bytes ≡ header form made =
    p.joined ∙ ap (λ (b : List ℕ). b ++ p.back_bytes) p.first
    ∙ ap (λ (b : List ℕ). magic form ++ b) (cookie.joined ∙ ap (λ (b : List ℕ). b ++ cookie.back_bytes) cookie.first.1
    ∙ ap (λ (b : List ℕ). cookie.front ++ b) (count.joined ∙ ap (λ (b : List ℕ). b ++ count.back_bytes) (count.first.0.1 ∙ ap (λ (n : ℕ). n ∷ []) (sym size))
    ∙ ap (λ (b : List ℕ). (length sinks.front ∷ []) ++ b) (sinks.joined ∙ ap (λ (b : List ℕ). b ++ sinks.back_bytes) sinks.first.bytes_is ∙ ap (λ (b : List ℕ). flat_map sink sinks.front ++ b) sinks.next.1)))
    ∙ header_regrouped form made in
    subst (λ (z : Form × Header). Headed z bytes) (sym is) (lawful, spelled)

header_from : (x : Form × Header) (bytes : List ℕ) → Headed x bytes → HeaderParts x bytes
header_from x bytes p =
    let h = x.1 in
    let sinks = flat_map sink h.sinks ++ [] in
    let counted = (length h.sinks ∷ []) ++ sinks in
    record {
      front = x.0;
      front_bytes = magic x.0;
      back_bytes = h.cookie ++ counted;
      joined = p.1 ∙ sym (header_regrouped x.0 h);
      first = refl;
      next = record {
        front = h.cookie;
        front_bytes = h.cookie;
        back_bytes = counted;
        joined = refl;
        first = (p.0.cookie, refl);
        next = record {
          front = length h.sinks;
          front_bytes = length h.sinks ∷ [];
          back_bytes = sinks;
          joined = refl;
          first = ((omega (arith, p.0.count.1), refl), is_within 1 16 (length h.sinks) p.0.count);
          next = record { front = h.sinks; front_bytes = flat_map sink h.sinks; back_bytes = []; joined = refl; first = record { size = refl; lawful = p.0.sinks; bytes_is = refl }; next = (refl, refl) };
        };
      };
    }

pub header_law : IsLaw header_at Headed
unfolding header_at
header_law = law_as header_at header_to header_from
    (then_law magic_at _ magic_law (λ form. then_law (bytes_at 256) _ (bytes_law 256) (λ cookie. then_law (ruled (is_from_to 1 16) byte_at) _ (ruled_law (is_from_to 1 16) byte_at byte_law) (λ count. then_law (more_at sink_at [] count) _ (sinks_law count) (λ sinks. done_law _)))))

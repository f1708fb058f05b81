-- The items that have parts: time values, sample specs, channel maps and volumes.
use Rattle.std.proofs.Common.{◌≡◌, ℕ, ◌^◌, ◌<◌, ◌≤◌, false, cond, ltb, List, [], ◌∷◌, ◌++◌, length, get_or, All, Ok, Err, refl, subst, append_assoc}
use Rattle.std.specs.Int.{w32, to_be_bytes}
use Rattle.std.specs.List.{flat_map}
use Rattle.std.proofs.lemmas.Bool.{ltb-false, le-ltb}
use Rattle.std.proofs.lemmas.List.{get_or_append_left, get_or_default}
use Rattle.std.proofs.lemmas.List.Elements.{All-from_recursion, recursion_from_All}
use Rattle.px_tag.specs.declared.fault.TagFault.TheVariants.{BadValue}
use Rattle.px_tag.specs.declared.raw.RawSpec.{RawSpec}
use Rattle.px_tag.specs.declared.raw.TimeVal.{TimeVal}
use Rattle.px_tag.specs.Place.{Place, offset_of, ◌>>=◌}
use Rattle.px_tag.specs.Law.{AreBytes, Stands, HasOneSpelling}
use Rattle.px_tag.specs.Item.{spec, channel_map, channel_volumes, time, IsSpec, IsMap, IsVolumes, IsTime}
use Rattle.px_tag.specs.Reading.{next_at, tagged_at, field_at, bytes_at, fields_at, spec_at, map_at, volumes_at, time_at}
use Rattle.px_tag.proofs.Steps.{bind_ok, guard_ok, unless, ok_is, Stands-then, one_from_again}
use Rattle.px_tag.proofs.Fields.{next_found, next_again, tagged_found, tagged_again, wide32, field_found, field_again, bytes_found, bytes_again}
use Rattle.px_tag.proofs.Counts.{fields_found, fields_again}

-- ---- time values

time_again : (t : TimeVal) (size : ℕ) (behind : List ℕ) → IsTime t → time_at (record { size = size; rest = time t ++ behind }) ≡ Ok (t, record { size = size; rest = behind })
unfolding time time_at
time_again t size behind is =
    let low = to_be_bytes w32 t.micros in
    let regrouped = append_assoc (to_be_bytes w32 t.seconds) low behind in
    rw (tagged_again 0x54 size ((to_be_bytes w32 t.seconds ++ low) ++ behind), regrouped, field_again w32 (2 ^ 32) wide32 t.seconds size (low ++ behind) is.seconds, field_again w32 (2 ^ 32) wide32 t.micros size behind is.micros) refl

time_found : (place : Place) (t : TimeVal) (after : Place) → AreBytes place.rest → time_at place ≡ Ok (t, after) → Stands (time t) place after × IsTime t
unfolding time time_at
time_found place t after fits e =
    let a = bind_ok (tagged_at 0x54 place) (λ field. field_at w32 field >>= λ seconds. field_at w32 seconds.1 >>= λ micros. Ok (record { seconds = seconds.0; micros = micros.0 }, micros.1)) (t, after) e in
    let b = bind_ok (field_at w32 a.0) (λ seconds. field_at w32 seconds.1 >>= λ micros. Ok (record { seconds = seconds.0; micros = micros.0 }, micros.1)) (t, after) a.2 in
    let c = bind_ok (field_at w32 b.0.1) (λ micros. Ok (record { seconds = b.0.0; micros = micros.0 }, micros.1)) (t, after) b.2 in
    let tag = tagged_found 0x54 place a.0 fits a.1 in
    let high = field_found w32 (2 ^ 32) wide32 a.0 b.0.0 b.0.1 tag.are_bytes b.1 in
    let low = field_found w32 (2 ^ 32) wide32 b.0.1 c.0.0 c.0.1 high.0.are_bytes c.1 in
    let stands = Stands-then (0x54 ∷ []) (to_be_bytes w32 b.0.0 ++ to_be_bytes w32 c.0.0) place a.0 c.0.1 tag (Stands-then (to_be_bytes w32 b.0.0) (to_be_bytes w32 c.0.0) a.0 b.0.1 c.0.1 high.0 low.0) in
    let made : TimeVal = record { seconds = b.0.0; micros = c.0.0 } in
    subst (λ (p : TimeVal × Place). Stands (time p.0) place p.1 × IsTime p.0) (ok_is (made, c.0.1) (t, after) c.2) (stands, record { seconds = high.1; micros = low.1 })

pub time_law : HasOneSpelling IsTime time time_at
time_law = record { again = time_again; found = time_found; one = one_from_again IsTime time time_at time_again }

-- ---- sample specs

spec_again : (s : RawSpec) (size : ℕ) (behind : List ℕ) → IsSpec s → spec_at (record { size = size; rest = spec s ++ behind }) ≡ Ok (s, record { size = size; rest = behind })
unfolding spec spec_at
spec_again s size behind is =
    let rate = to_be_bytes w32 s.rate in
    let few : ltb 32 s.channels ≡ false = le-ltb _ _ is.channels in
    rw (tagged_again 0x61 size (s.format ∷ s.channels ∷ rate ++ behind), next_again s.format size (s.channels ∷ rate ++ behind), next_again s.channels size (rate ++ behind), field_again w32 (2 ^ 32) wide32 s.rate size behind is.rate, few) refl

spec_found : (place : Place) (s : RawSpec) (after : Place) → AreBytes place.rest → spec_at place ≡ Ok (s, after) → Stands (spec s) place after × IsSpec s
unfolding spec spec_at
spec_found place s after fits e =
    let no = BadValue (offset_of place) in
    let made : ℕ → ℕ → ℕ → RawSpec = λ format channels rate. record { format = format; channels = channels; rate = rate } in
    let a = bind_ok (tagged_at 0x61 place) (λ field. next_at field >>= λ format. next_at format.1 >>= λ channels. field_at w32 channels.1 >>= λ rate. cond (ltb 32 channels.0) (Err no) (Ok (made format.0 channels.0 rate.0, rate.1))) (s, after) e in
    let b = bind_ok (next_at a.0) (λ format. next_at format.1 >>= λ channels. field_at w32 channels.1 >>= λ rate. cond (ltb 32 channels.0) (Err no) (Ok (made format.0 channels.0 rate.0, rate.1))) (s, after) a.2 in
    let c = bind_ok (next_at b.0.1) (λ channels. field_at w32 channels.1 >>= λ rate. cond (ltb 32 channels.0) (Err no) (Ok (made b.0.0 channels.0 rate.0, rate.1))) (s, after) b.2 in
    let d = bind_ok (field_at w32 c.0.1) (λ rate. cond (ltb 32 c.0.0) (Err no) (Ok (made b.0.0 c.0.0 rate.0, rate.1))) (s, after) c.2 in
    let g = guard_ok (ltb 32 c.0.0) no (made b.0.0 c.0.0 d.0.0, d.0.1) (s, after) d.2 in
    let tag = tagged_found 0x61 place a.0 fits a.1 in
    let format = next_found a.0 b.0.0 b.0.1 tag.are_bytes b.1 in
    let channels = next_found b.0.1 c.0.0 c.0.1 format.0.are_bytes c.1 in
    let rate = field_found w32 (2 ^ 32) wide32 c.0.1 d.0.0 d.0.1 channels.0.are_bytes d.1 in
    let high = Stands-then (0x61 ∷ []) (b.0.0 ∷ []) place a.0 b.0.1 tag format.0 in
    let low = Stands-then (c.0.0 ∷ []) (to_be_bytes w32 d.0.0) b.0.1 c.0.1 d.0.1 channels.0 rate.0 in
    let stands = Stands-then (0x61 ∷ b.0.0 ∷ []) (c.0.0 ∷ to_be_bytes w32 d.0.0) place b.0.1 d.0.1 high low in
    subst (λ (p : RawSpec × Place). Stands (spec p.0) place p.1 × IsSpec p.0) g.1 (stands, record { format = format.1; channels = ltb-false _ _ g.0; rate = rate.1 })

pub spec_law : HasOneSpelling IsSpec spec spec_at
spec_law = record { again = spec_again; found = spec_found; one = one_from_again IsSpec spec spec_at spec_again }

-- ---- channel maps

map_again : (positions : List ℕ) (size : ℕ) (behind : List ℕ) → IsMap positions → map_at (record { size = size; rest = channel_map positions ++ behind }) ≡ Ok (positions, record { size = size; rest = behind })
unfolding channel_map map_at
map_again positions size behind is =
    let few : ltb 32 (length positions) ≡ false = le-ltb _ _ is.few in
    rw (tagged_again 0x6D size (length positions ∷ positions ++ behind), next_again (length positions) size (positions ++ behind), few, bytes_again positions size behind) refl

-- the front of bytes is bytes
front_bytes : (front behind : List ℕ) → AreBytes (front ++ behind) → All (λ b. b < 2 ^ 8) front
front_bytes front behind h = λ k d lt.
    let low : get_or (front ++ behind) k 0 < 256 = h k in
    let same : get_or (front ++ behind) k 0 ≡ get_or front k 0 = get_or_append_left front behind 0 k lt in
    let either : get_or front k d ≡ get_or front k 0 = get_or_default front k d 0 lt in
    rw (either, ← same) low

map_found : (place : Place) (positions : List ℕ) (after : Place) → AreBytes place.rest → map_at place ≡ Ok (positions, after) → Stands (channel_map positions) place after × IsMap positions
unfolding channel_map map_at
map_found place positions after fits e =
    let no = BadValue (offset_of place) in
    let a = bind_ok (tagged_at 0x6D place) (λ field. next_at field >>= λ count. cond (ltb 32 count.0) (Err no) (bytes_at count.0 count.1)) (positions, after) e in
    let b = bind_ok (next_at a.0) (λ count. cond (ltb 32 count.0) (Err no) (bytes_at count.0 count.1)) (positions, after) a.2 in
    let g = unless (ltb 32 b.0.0) no (bytes_at b.0.0 b.0.1) (positions, after) b.2 in
    let tag = tagged_found 0x6D place a.0 fits a.1 in
    let count = next_found a.0 b.0.0 b.0.1 tag.are_bytes b.1 in
    let items = bytes_found b.0.0 b.0.1 positions after count.0.are_bytes g.1 in
    let counted : Stands (length positions ∷ []) a.0 b.0.1 = rw items.1 count.0 in
    let few : b.0.0 ≤ 32 = ltb-false _ _ g.0 in
    let bytes : AreBytes (positions ++ after.rest) = rw items.0.bytes at count.0.are_bytes in
    let stands = Stands-then (0x6D ∷ []) (length positions ∷ positions) place a.0 after tag (Stands-then (length positions ∷ []) positions a.0 b.0.1 after counted items.0) in
    (stands, record { few = rw items.1 few; bytes = front_bytes positions after.rest bytes })

pub map_law : HasOneSpelling IsMap channel_map map_at
map_law = record { again = map_again; found = map_found; one = one_from_again IsMap channel_map map_at map_again }

-- ---- channel volumes

volumes_again : (volumes : List ℕ) (size : ℕ) (behind : List ℕ) → IsVolumes volumes → volumes_at (record { size = size; rest = channel_volumes volumes ++ behind }) ≡ Ok (volumes, record { size = size; rest = behind })
unfolding channel_volumes volumes_at
volumes_again volumes size behind is =
    let few : ltb 32 (length volumes) ≡ false = le-ltb _ _ is.few in
    let items = flat_map (to_be_bytes w32) volumes in
    rw (tagged_again 0x76 size (length volumes ∷ items ++ behind), next_again (length volumes) size (items ++ behind), few, fields_again volumes size behind (recursion_from_All (λ v. v < 2 ^ 32) volumes is.each)) refl

volumes_found : (place : Place) (volumes : List ℕ) (after : Place) → AreBytes place.rest → volumes_at place ≡ Ok (volumes, after) → Stands (channel_volumes volumes) place after × IsVolumes volumes
unfolding channel_volumes volumes_at
volumes_found place volumes after fits e =
    let no = BadValue (offset_of place) in
    let a = bind_ok (tagged_at 0x76 place) (λ field. next_at field >>= λ count. cond (ltb 32 count.0) (Err no) (fields_at count.0 count.1)) (volumes, after) e in
    let b = bind_ok (next_at a.0) (λ count. cond (ltb 32 count.0) (Err no) (fields_at count.0 count.1)) (volumes, after) a.2 in
    let g = unless (ltb 32 b.0.0) no (fields_at b.0.0 b.0.1) (volumes, after) b.2 in
    let tag = tagged_found 0x76 place a.0 fits a.1 in
    let count = next_found a.0 b.0.0 b.0.1 tag.are_bytes b.1 in
    let items = fields_found b.0.0 b.0.1 volumes after count.0.are_bytes g.1 in
    let counted : Stands (length volumes ∷ []) a.0 b.0.1 = rw items.1 count.0 in
    let few : b.0.0 ≤ 32 = ltb-false _ _ g.0 in
    let cells = flat_map (to_be_bytes w32) volumes in
    let stands = Stands-then (0x76 ∷ []) (length volumes ∷ cells) place a.0 after tag (Stands-then (length volumes ∷ []) cells a.0 b.0.1 after counted items.0) in
    (stands, record { few = rw items.1 few; each = All-from_recursion (λ v. v < 2 ^ 32) volumes items.2 })

pub volumes_law : HasOneSpelling IsVolumes channel_volumes volumes_at
volumes_law = record { again = volumes_again; found = volumes_found; one = one_from_again IsVolumes channel_volumes volumes_at volumes_again }

-- The parts of items: a tag byte, a number of a width, a count of bytes.
use Rattle.std.proofs.Common.{◌≡◌, ℕ, ◌^◌, ◌<◌, ◌≤◌, true, false, cond, ltb, eqb, List, [], ◌∷◌, ◌++◌, length, take, Ok, Err, refl, sym, ap, subst, arith}
use Rattle.std.specs.Int.{Width, w32, w64, byte_len, from_be_bytes, to_be_bytes}
use Rattle.std.proofs.lemmas.Bool.{ltb-false, le-ltb, eqb-true, eq-eqb}
use Rattle.std.proofs.lemmas.List.{take_at, drop_at, take-append-drop, length-append, length-take}
use Rattle.std.proofs.lemmas.Nat.{be_bytes_4, be_bytes_8, from_be_bytes-to_be_bytes_4, from_be_bytes-to_be_bytes_8}
use Rattle.px_tag.specs.declared.fault.TagFault.TheVariants.{Short, WrongTag}
use Rattle.px_tag.specs.Place.{Place, past, offset_of}
use Rattle.px_tag.specs.Law.{AreBytes, Stands}
use Rattle.px_tag.specs.Reading.{next_of, next_at, tagged_at, field_at, bytes_at}
use Rattle.px_tag.proofs.Steps.{AreBytes-drop, AreBytes-take, AreBytes-rest, guard_ok, check_ok, bind_ok, ok_is, pair_is}

-- ---- a tag byte

next_of_found : (bytes : List ℕ) (place : Place) (b : ℕ) (after : Place) → AreBytes bytes → next_of bytes place ≡ Ok (b, after) → (bytes ≡ b ∷ after.rest) × (after.size ≡ place.size) × AreBytes after.rest × (b < 2 ^ 8)
next_of_found [] place b after fits e = absurd cc
next_of_found (first ∷ rest) place b after fits e =
    let made : Place = record { size = place.size; rest = rest } in
    let low : first < 2 ^ 8 = fits 0 in
    subst (λ (p : ℕ × Place). (first ∷ rest ≡ p.0 ∷ p.1.rest) × (p.1.size ≡ place.size) × AreBytes p.1.rest × (p.0 < 2 ^ 8)) (ok_is (first, made) (b, after) e) (refl, refl, AreBytes-rest first rest fits, low)

pub next_found : (place : Place) (b : ℕ) (after : Place) → AreBytes place.rest → next_at place ≡ Ok (b, after) → Stands (b ∷ []) place after × (b < 2 ^ 8)
unfolding next_at
next_found place b after fits e =
    let t = next_of_found place.rest place b after fits e in
    (record { bytes = t.0; size = t.1; are_bytes = t.2 }, t.3)

pub next_again : (b size : ℕ) (behind : List ℕ) → next_at (record { size = size; rest = b ∷ behind }) ≡ Ok (b, record { size = size; rest = behind })
unfolding next_at
next_again b size behind = refl

pub tagged_found : (tag : ℕ) (place after : Place) → AreBytes place.rest → tagged_at tag place ≡ Ok after → Stands (tag ∷ []) place after
unfolding tagged_at
tagged_found tag place after fits e =
    let a = bind_ok (next_at place) (λ b. cond (eqb b.0 tag) (Ok b.1) (Err (WrongTag (offset_of place)))) after e in
    let n = next_found place a.0.0 a.0.1 fits a.1 in
    let g = check_ok (eqb a.0.0 tag) (WrongTag (offset_of place)) a.0.1 after a.2 in
    subst (λ (p : ℕ × Place). Stands (p.0 ∷ []) place p.1) (pair_is a.0.0 tag a.0.1 after (eqb-true _ _ g.0) g.1) n.0

pub tagged_again : (tag size : ℕ) (behind : List ℕ) → tagged_at tag (record { size = size; rest = tag ∷ behind }) ≡ Ok (record { size = size; rest = behind })
unfolding tagged_at next_at
tagged_again tag size behind =
    let same : eqb tag tag ≡ true = eq-eqb tag tag refl in
    rw same refl

-- ---- numbers

pub record IsWide (w : Width) (limit : ℕ) : Type 0 where
  pub len : (n : ℕ) → length (to_be_bytes w n) ≡ byte_len w
  pub back : (bytes : List ℕ) → length bytes ≡ byte_len w → AreBytes bytes → to_be_bytes w (from_be_bytes w bytes) ≡ bytes
  pub again : (n : ℕ) → n < limit → from_be_bytes w (to_be_bytes w n) ≡ n
  pub below : (bytes : List ℕ) → AreBytes bytes → from_be_bytes w bytes < limit

pub wide32 : IsWide w32 (2 ^ 32)
wide32 = record {
  len = λ n. refl;
  back = λ bytes len fits. be_bytes_4 bytes _ len fits refl;
  again = λ n lt. from_be_bytes-to_be_bytes_4 n lt;
  below = λ bytes fits. omega (arith, fits 0, fits 1, fits 2, fits 3);
}

pub wide64 : IsWide w64 (2 ^ 64)
wide64 = record {
  len = λ n. refl;
  back = λ bytes len fits. be_bytes_8 bytes _ len fits refl;
  again = λ n lt. from_be_bytes-to_be_bytes_8 n lt;
  below = λ bytes fits. omega (arith, fits 0, fits 1, fits 2, fits 3, fits 4, fits 5, fits 6, fits 7);
}

pub field_found : (w : Width) (limit : ℕ) (wide : IsWide w limit) (place : Place) (n : ℕ) (after : Place) → AreBytes place.rest → field_at w place ≡ Ok (n, after) → Stands (to_be_bytes w n) place after × (n < limit)
unfolding field_at
field_found w limit wide place n after fits e =
    let bytes = place.rest in
    let g = guard_ok (ltb (length bytes) (byte_len w)) (Short place.size) (from_be_bytes w (take (byte_len w) bytes), past (byte_len w) place) (n, after) e in
    let long : byte_len w ≤ length bytes = ltb-false _ _ g.0 in
    let n-is : from_be_bytes w (take (byte_len w) bytes) ≡ n = ap (λ (p : ℕ × Place). p.0) g.1 in
    let after-is : past (byte_len w) place ≡ after = ap (λ (p : ℕ × Place). p.1) g.1 in
    let front : to_be_bytes w n ≡ take (byte_len w) bytes = rw (← n-is) (wide.back (take (byte_len w) bytes) (omega (arith, length-take (byte_len w) bytes)) (AreBytes-take (byte_len w) bytes fits)) in
    let stands : Stands (to_be_bytes w n) place (past (byte_len w) place) = record { bytes = rw front (sym (take-append-drop (byte_len w) bytes)); size = refl; are_bytes = AreBytes-drop (byte_len w) bytes fits } in
    (subst (λ (p : Place). Stands (to_be_bytes w n) place p) after-is stands, rw (← n-is) (wide.below (take (byte_len w) bytes) (AreBytes-take (byte_len w) bytes fits)))

pub field_again : (w : Width) (limit : ℕ) (wide : IsWide w limit) (n size : ℕ) (behind : List ℕ) → n < limit → field_at w (record { size = size; rest = to_be_bytes w n ++ behind }) ≡ Ok (n, record { size = size; rest = behind })
unfolding field_at
field_again w limit wide n size behind lt =
    let len = wide.len n in
    let long : ltb (length (to_be_bytes w n ++ behind)) (byte_len w) ≡ false = le-ltb _ _ (omega (arith, length-append (to_be_bytes w n) behind)) in
    rw (long, take_at (to_be_bytes w n) behind (byte_len w) len, drop_at (to_be_bytes w n) behind (byte_len w) len, wide.again n lt) refl

-- ---- a count of bytes

pub bytes_found : (n : ℕ) (place : Place) (bytes : List ℕ) (after : Place) → AreBytes place.rest → bytes_at n place ≡ Ok (bytes, after) → Stands bytes place after × (length bytes ≡ n)
unfolding bytes_at
bytes_found n place bytes after fits e =
    let g = guard_ok (ltb (length place.rest) n) (Short place.size) (take n place.rest, past n place) (bytes, after) e in
    let long : n ≤ length place.rest = ltb-false _ _ g.0 in
    let len : length (take n place.rest) ≡ n = omega (arith, length-take n place.rest) in
    let stands : Stands (take n place.rest) place (past n place) = record { bytes = sym (take-append-drop n place.rest); size = refl; are_bytes = AreBytes-drop n place.rest fits } in
    subst (λ (p : List ℕ × Place). Stands p.0 place p.1 × (length p.0 ≡ n)) g.1 (stands, len)

pub bytes_again : (bytes : List ℕ) (size : ℕ) (behind : List ℕ) → bytes_at (length bytes) (record { size = size; rest = bytes ++ behind }) ≡ Ok (bytes, record { size = size; rest = behind })
unfolding bytes_at
bytes_again bytes size behind =
    let long : ltb (length (bytes ++ behind)) (length bytes) ≡ false = le-ltb _ _ (omega (arith, length-append bytes behind)) in
    rw (long, take_at bytes behind (length bytes) refl, drop_at bytes behind (length bytes) refl) refl

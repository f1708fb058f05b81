-- Each kind of item has one spelling for each value.
use Rattle.std.proofs.Common.{◌≡◌, ℕ, ◌^◌, ◌<◌, ℤ, Bool, true, false, cond, eqb, List, [], ◌∷◌, ◌++◌, length, Option, None, Some, Result, Ok, Err, refl, sym, subst, ◌∙◌, append_assoc, ◌⊎◌, inl, inr}
use Rattle.std.specs.Prelude.{FitsSigned}
use Rattle.std.specs.Int.{Width, w32, w64, to_be_bytes, cast_signed, cast_unsigned}
use Rattle.std.proofs.lemmas.Bool.{eqb-true, eq-eqb}
use Rattle.std.proofs.lemmas.Int.{of_z-to_z, to_z-of_z}
use Rattle.std.proofs.Math.Facts.{sfits_to_z}
use mir.ValLaws.{of_z_fits}
use Rattle.px_tag.specs.declared.fault.TagFault.{TagFault}
use Rattle.px_tag.specs.declared.fault.TagFault.TheVariants.{WrongTag, BadValue}
use Rattle.px_tag.specs.Place.{Place, Reading, offset_of, ◌>>=◌}
use Rattle.px_tag.specs.Law.{AreBytes, Stands, HasOneSpelling}
use Rattle.px_tag.specs.Item.{number, volume, byte, wide, signed, usec, flag, text, arbitrary, AnyFlag, IsText, IsCounted, HasLength}
use Rattle.px_tag.specs.Reading.{next_at, tagged_at, field_at, bytes_at, string_at, number_at, volume_at, byte_at, wide_at, signed_at, usec_at, flag_at, text_at, arbitrary_at, counted_at}
use Rattle.px_tag.proofs.Steps.{bind_ok, check_ok, checked, ok_is, Stands-then, one_from_again}
use Rattle.px_tag.proofs.Fields.{next_found, next_again, tagged_found, tagged_again, IsWide, wide32, wide64, field_found, field_again, bytes_found, bytes_again}
use Rattle.px_tag.proofs.Strings.{string_found, string_again}

-- ---- parts

next_law : HasOneSpelling (λ b. b < 2 ^ 8) (λ b. b ∷ []) next_at
next_law = record {
  again = λ b size behind lt. next_again b size behind;
  found = next_found;
  one = one_from_again (λ b. b < 2 ^ 8) (λ b. b ∷ []) next_at (λ b size behind lt. next_again b size behind);
}

field_law : (w : Width) (limit : ℕ) → IsWide w limit → HasOneSpelling (λ n. n < limit) (to_be_bytes w) (field_at w)
field_law w limit wide = record {
  again = field_again w limit wide;
  found = field_found w limit wide;
  one = one_from_again (λ n. n < limit) (to_be_bytes w) (field_at w) (field_again w limit wide);
}

-- a tag byte before a part
module _ {A : Type 0} (tag : ℕ) (IsValue : A → Type 0) (part : A → List ℕ) (read : Reading A) where
  abbrev read_tagged : Reading A
  read_tagged place = tagged_at tag place >>= read

  again_tagged : HasOneSpelling IsValue part read → (value : A) (size : ℕ) (behind : List ℕ) → IsValue value → read_tagged (record { size = size; rest = tag ∷ part value ++ behind }) ≡ Ok (value, record { size = size; rest = behind })
  again_tagged law value size behind is = rw (tagged_again tag size (part value ++ behind)) (law.again value size behind is)

  found_tagged : HasOneSpelling IsValue part read → (place : Place) (value : A) (after : Place) → AreBytes place.rest → read_tagged place ≡ Ok (value, after) → Stands (tag ∷ part value) place after × IsValue value
  found_tagged law place value after fits e =
      let a = bind_ok (tagged_at tag place) read (value, after) e in
      let t = tagged_found tag place a.0 fits a.1 in
      let f = law.found a.0 value after t.are_bytes a.2 in
      (Stands-then (tag ∷ []) (part value) place a.0 after t f.0, f.1)

  pub tagged_law : HasOneSpelling IsValue part read → HasOneSpelling IsValue (λ value. tag ∷ part value) read_tagged
  tagged_law law = record {
    again = again_tagged law;
    found = found_tagged law;
    one = one_from_again IsValue (λ value. tag ∷ part value) read_tagged (again_tagged law);
  }

-- ---- numbers

pub number_law : HasOneSpelling (λ n. n < 2 ^ 32) number number_at
unfolding number number_at
number_law = tagged_law 0x4C (λ n. n < 2 ^ 32) (to_be_bytes w32) (field_at w32) (field_law w32 (2 ^ 32) wide32)

pub volume_law : HasOneSpelling (λ n. n < 2 ^ 32) volume volume_at
unfolding volume volume_at
volume_law = tagged_law 0x56 (λ n. n < 2 ^ 32) (to_be_bytes w32) (field_at w32) (field_law w32 (2 ^ 32) wide32)

pub byte_law : HasOneSpelling (λ n. n < 2 ^ 8) byte byte_at
unfolding byte byte_at
byte_law = tagged_law 0x42 (λ n. n < 2 ^ 8) (λ b. b ∷ []) next_at next_law

pub wide_law : HasOneSpelling (λ n. n < 2 ^ 64) wide wide_at
unfolding wide wide_at
wide_law = tagged_law 0x52 (λ n. n < 2 ^ 64) (to_be_bytes w64) (field_at w64) (field_law w64 (2 ^ 64) wide64)

pub usec_law : HasOneSpelling (λ n. n < 2 ^ 64) usec usec_at
unfolding usec usec_at
usec_law = tagged_law 0x55 (λ n. n < 2 ^ 64) (to_be_bytes w64) (field_at w64) (field_law w64 (2 ^ 64) wide64)

-- ---- signed numbers

abbrev signed_part : ℤ → List ℕ
signed_part z = to_be_bytes w64 (cast_unsigned w64 z)

abbrev signed_read : Reading ℤ
signed_read place = field_at w64 place >>= λ bits. Ok (cast_signed w64 bits.0, bits.1)

signed_again : (z : ℤ) (size : ℕ) (behind : List ℕ) → FitsSigned w64 z → signed_read (record { size = size; rest = signed_part z ++ behind }) ≡ Ok (z, record { size = size; rest = behind })
signed_again z size behind fits =
    let n = cast_unsigned w64 z in
    rw (field_again w64 (2 ^ 64) wide64 n size behind (of_z_fits w64 z fits).fits, to_z-of_z w64 z fits) refl

signed_found : (place : Place) (z : ℤ) (after : Place) → AreBytes place.rest → signed_read place ≡ Ok (z, after) → Stands (signed_part z) place after × FitsSigned w64 z
signed_found place z after fits e =
    let a = bind_ok (field_at w64 place) (λ bits. Ok (cast_signed w64 bits.0, bits.1)) (z, after) e in
    let f = field_found w64 (2 ^ 64) wide64 place a.0.0 a.0.1 fits a.1 in
    let same : cast_unsigned w64 (cast_signed w64 a.0.0) ≡ a.0.0 = of_z-to_z w64 a.0.0 f.1 in
    let stands : Stands (signed_part (cast_signed w64 a.0.0)) place a.0.1 = rw same f.0 in
    subst (λ (p : ℤ × Place). Stands (signed_part p.0) place p.1 × FitsSigned w64 p.0) (ok_is (cast_signed w64 a.0.0, a.0.1) (z, after) a.2) (stands, sfits_to_z (record { fits = f.1 }))

pub signed_law : HasOneSpelling (FitsSigned w64) signed signed_at
unfolding signed signed_at
signed_law = tagged_law 0x72 (FitsSigned w64) signed_part signed_read (record {
  again = signed_again;
  found = signed_found;
  one = one_from_again (FitsSigned w64) signed_part signed_read signed_again;
})

-- ---- bools and strings

-- the way that a test went
chosen : {A : Type 0} (b : Bool) (x y z : A) → cond b x y ≡ z → ((b ≡ true) × (x ≡ z)) ⊎ ((b ≡ false) × (y ≡ z))
chosen true x y z e = inl (refl, e)
chosen false x y z e = inr (refl, e)

flag_again : (b : Bool) (size : ℕ) (behind : List ℕ) → AnyFlag b → flag_at (record { size = size; rest = flag b ++ behind }) ≡ Ok (b, record { size = size; rest = behind })
unfolding flag flag_at next_at
flag_again true size behind any = refl
flag_again false size behind any = refl

flag_made : (b : Bool) (tag : ℕ) (place next after : Place) → Stands (tag ∷ []) place next → flag b ≡ tag ∷ [] → next ≡ after → Stands (flag b) place after
flag_made b tag place next after stands spelled is = subst (λ (p : Place). Stands (flag b) place p) is (rw spelled stands)

flag_found : (place : Place) (b : Bool) (after : Place) → AreBytes place.rest → flag_at place ≡ Ok (b, after) → Stands (flag b) place after × AnyFlag b
unfolding flag flag_at
flag_found place b after fits e =
    let no = WrongTag (offset_of place) in
    let a = bind_ok (next_at place) (λ tag. cond (eqb tag.0 0x31) (Ok (true, tag.1)) (cond (eqb tag.0 0x30) (Ok (false, tag.1)) (Err no))) (b, after) e in
    let t = next_found place a.0.0 a.0.1 fits a.1 in
    elim (chosen (eqb a.0.0 0x31) (Ok (true, a.0.1)) (cond (eqb a.0.0 0x30) (Ok (false, a.0.1)) (Err no)) (Ok (b, after)) a.2) [
      | inl first ↦
          let tag : a.0.0 ≡ 0x31 = eqb-true _ _ first.0 in
          let stands : Stands (flag true) place a.0.1 = rw tag at t.0 in
          subst (λ (p : Bool × Place). Stands (flag p.0) place p.1 × AnyFlag p.0) (ok_is (true, a.0.1) (b, after) first.1) (stands, tt)
      | inr other ↦
          let g = check_ok (eqb a.0.0 0x30) no (false, a.0.1) (b, after) other.1 in
          let tag : a.0.0 ≡ 0x30 = eqb-true _ _ g.0 in
          let stands : Stands (flag false) place a.0.1 = rw tag at t.0 in
          subst (λ (p : Bool × Place). Stands (flag p.0) place p.1 × AnyFlag p.0) g.1 (stands, tt)
    ]

pub flag_law : HasOneSpelling AnyFlag flag flag_at
flag_law = record { again = flag_again; found = flag_found; one = one_from_again AnyFlag flag flag_at flag_again }

text_again : (v : Option (List ℕ)) (size : ℕ) (behind : List ℕ) → IsText v → text_at (record { size = size; rest = text v ++ behind }) ≡ Ok (v, record { size = size; rest = behind })
unfolding text text_at next_at
text_again None size behind is = refl
text_again (Some bytes) size behind is = rw (string_again bytes size behind is) refl

text_found : (place : Place) (v : Option (List ℕ)) (after : Place) → AreBytes place.rest → text_at place ≡ Ok (v, after) → Stands (text v) place after × IsText v
unfolding text text_at
text_found place v after fits e =
    let no = WrongTag (offset_of place) in
    let some : (List ℕ × Place) → Result (Option (List ℕ) × Place) TagFault = λ string. Ok (Some string.0, string.1) in
    let a = bind_ok (next_at place) (λ tag. cond (eqb tag.0 0x4E) (Ok (None, tag.1)) (cond (eqb tag.0 0x74) (string_at tag.1 >>= some) (Err no))) (v, after) e in
    let t = next_found place a.0.0 a.0.1 fits a.1 in
    elim (chosen (eqb a.0.0 0x4E) (Ok (None, a.0.1)) (cond (eqb a.0.0 0x74) (string_at a.0.1 >>= some) (Err no)) (Ok (v, after)) a.2) [
      | inl first ↦
          let tag : a.0.0 ≡ 0x4E = eqb-true _ _ first.0 in
          let stands : Stands (text None) place a.0.1 = rw tag at t.0 in
          subst (λ (p : Option (List ℕ) × Place). Stands (text p.0) place p.1 × IsText p.0) (ok_is (None, a.0.1) (v, after) first.1) (stands, tt)
      | inr other ↦
          let g = checked (eqb a.0.0 0x74) no (string_at a.0.1 >>= some) (v, after) other.1 in
          let tag : a.0.0 ≡ 0x74 = eqb-true _ _ g.0 in
          let s = bind_ok (string_at a.0.1) some (v, after) g.1 in
          let string = string_found a.0.1 s.0.0 s.0.1 t.0.are_bytes s.1 in
          let front : Stands (0x74 ∷ []) place a.0.1 = rw tag at t.0 in
          let stands = Stands-then (0x74 ∷ []) (s.0.0 ++ 0 ∷ []) place a.0.1 s.0.1 front string.0 in
          subst (λ (p : Option (List ℕ) × Place). Stands (text p.0) place p.1 × IsText p.0) (ok_is (Some s.0.0, s.0.1) (v, after) s.2) (stands, string.1)
    ]

pub text_law : HasOneSpelling IsText text text_at
text_law = record { again = text_again; found = text_found; one = one_from_again IsText text text_at text_again }

-- ---- arbitraries

abbrev counted : List ℕ → List ℕ
counted bytes = to_be_bytes w32 (length bytes) ++ bytes

abbrev counted_read : Reading (List ℕ)
counted_read place = field_at w32 place >>= λ count. bytes_at count.0 count.1

counted_again : (bytes : List ℕ) (size : ℕ) (behind : List ℕ) → IsCounted bytes → counted_read (record { size = size; rest = counted bytes ++ behind }) ≡ Ok (bytes, record { size = size; rest = behind })
counted_again bytes size behind lt =
    let regrouped = append_assoc (to_be_bytes w32 (length bytes)) bytes behind in
    rw (regrouped, field_again w32 (2 ^ 32) wide32 (length bytes) size (bytes ++ behind) lt, bytes_again bytes size behind) refl

pub counted_stands : (bytes : List ℕ) (place field after : Place) (n : ℕ) → Stands (to_be_bytes w32 n) place field → Stands bytes field after → length bytes ≡ n → Stands (counted bytes) place after
counted_stands bytes place field after n first others is =
    let count : Stands (to_be_bytes w32 (length bytes)) place field = rw is first in
    Stands-then (to_be_bytes w32 (length bytes)) bytes place field after count others

counted_found : (place : Place) (bytes : List ℕ) (after : Place) → AreBytes place.rest → counted_read place ≡ Ok (bytes, after) → Stands (counted bytes) place after × IsCounted bytes
counted_found place bytes after fits e =
    let b = bind_ok (field_at w32 place) (λ count. bytes_at count.0 count.1) (bytes, after) e in
    let f = field_found w32 (2 ^ 32) wide32 place b.0.0 b.0.1 fits b.1 in
    let r = bytes_found b.0.0 b.0.1 bytes after f.0.are_bytes b.2 in
    (counted_stands bytes place b.0.1 after b.0.0 f.0 r.0 r.1, rw r.1 f.1)

pub arbitrary_law : HasOneSpelling IsCounted arbitrary arbitrary_at
unfolding arbitrary arbitrary_at
arbitrary_law = tagged_law 0x78 IsCounted counted counted_read (record {
  again = counted_again;
  found = counted_found;
  one = one_from_again IsCounted counted counted_read counted_again;
})

-- an arbitrary whose count a rule fixes
module _ (n : ℕ) (small : n < 2 ^ 32) where
  fixed_again : (bytes : List ℕ) (size : ℕ) (behind : List ℕ) → HasLength n bytes → counted_at n (record { size = size; rest = arbitrary bytes ++ behind }) ≡ Ok (bytes, record { size = size; rest = behind })
  unfolding arbitrary counted_at
  fixed_again bytes size behind is =
      let lt : length bytes < 2 ^ 32 = rw is small in
      let regrouped = append_assoc (to_be_bytes w32 (length bytes)) bytes behind in
      let same : eqb (length bytes) n ≡ true = eq-eqb _ _ is in
      let read : bytes_at n (record { size = size; rest = bytes ++ behind }) ≡ Ok (bytes, record { size = size; rest = behind }) = rw (← is) (bytes_again bytes size behind) in
      rw (tagged_again 0x78 size (counted bytes ++ behind), regrouped, field_again w32 (2 ^ 32) wide32 (length bytes) size (bytes ++ behind) lt, same, read) refl

  fixed_found : (place : Place) (bytes : List ℕ) (after : Place) → AreBytes place.rest → counted_at n place ≡ Ok (bytes, after) → Stands (arbitrary bytes) place after × HasLength n bytes
  unfolding arbitrary counted_at
  fixed_found place bytes after fits e =
      let no = BadValue (offset_of place) in
      let a = bind_ok (tagged_at 0x78 place) (λ field. field_at w32 field >>= λ count. cond (eqb count.0 n) (bytes_at n count.1) (Err no)) (bytes, after) e in
      let t = tagged_found 0x78 place a.0 fits a.1 in
      let b = bind_ok (field_at w32 a.0) (λ count. cond (eqb count.0 n) (bytes_at n count.1) (Err no)) (bytes, after) a.2 in
      let f = field_found w32 (2 ^ 32) wide32 a.0 b.0.0 b.0.1 t.are_bytes b.1 in
      let g = checked (eqb b.0.0 n) no (bytes_at n b.0.1) (bytes, after) b.2 in
      let count : b.0.0 ≡ n = eqb-true _ _ g.0 in
      let r = bytes_found n b.0.1 bytes after f.0.are_bytes g.1 in
      let stands = counted_stands bytes a.0 b.0.1 after b.0.0 f.0 r.0 (r.1 ∙ sym count) in
      (Stands-then (0x78 ∷ []) (counted bytes) place a.0 after t stands, r.1)

  pub counted_law : HasOneSpelling (HasLength n) arbitrary (counted_at n)
  counted_law = record { again = fixed_again; found = fixed_found; one = one_from_again (HasLength n) arbitrary (counted_at n) fixed_again }

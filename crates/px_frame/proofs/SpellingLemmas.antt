-- Whole frames go on with one more frame, or with a descriptor that breaks a rule.
use Rattle.std.proofs.Common.{◌≡◌, ℕ, ◌+◌, ◌/◌, ◌%◌, ◌*◌, ◌^◌, ◌<◌, List, [], ◌∷◌, ◌++◌, length, refl, sym, subst, ◌∙◌, ap, inl, arith, append-nil, lit<, ℤ, Some, Fits}
use Rattle.std.proofs.Math.Facts.{Fits-of_z}
use Rattle.std.proofs.lemmas.Int.{to_z-of_z}
use Rattle.std.specs.Int.{cast_signed, cast_unsigned, w64}
use Rattle.std.specs.List.{flat_map}
use Rattle.px_frame.specs.declared.descriptor.Descriptor.{Descriptor}
use Rattle.px_frame.specs.declared.fault.FrameFault.{FrameFault}
use Rattle.px_frame.specs.declared.frame.Frame.{Frame}
use Rattle.px_frame.specs.declared.frame.Body.{Body}
use Rattle.px_frame.specs.declared.frame.Body.TheVariants.{Control, Write}
use Rattle.px_frame.specs.Descriptor.{descriptor_bytes, HasWords, broken_rule, byte_offset, control_descriptor, data_descriptor, seek_of}
use Rattle.px_frame.specs.Frame.{Wire, wire_bytes, IsFrame, IsBody, body_of, offset_at}
use Rattle.px_frame.specs.Reading.{Splits, IsRead, Unfinished, Broken}
use Rattle.px_frame.specs.Spelling.{spelling_of, HasNumbers, AreWhole}
use Rattle.px_frame.proofs.FeedingLemmas.{body-control, body-write}
use Rattle.px_frame.proofs.ReadingLemmas.{splits-none, splits-one, splits-more, splits-on}
use Rattle.px_frame.proofs.WriteLemmas.{control-lawful, data-lawful}

-- a frame whose bytes are the spelling of a body, and that means this body
pub record IsSpelling (body : Body) : Type 0 where
  pub wire : Wire
  pub frame : IsFrame wire
  pub bytes : spelling_of body ≡ wire_bytes wire
  pub means : body_of wire.descriptor wire.payload ≡ body

-- the upper and the lower word of a number of 64 bits
upper : (n : ℕ) → n < 2 ^ 64 → n / 2 ^ 32 < 2 ^ 32
upper n h = omega arith

joined : (n : ℕ) → n / 2 ^ 32 * 2 ^ 32 + n % 2 ^ 32 ≡ n
joined n = omega arith

control : (packet : List ℕ) → IsBody (Control packet) → IsSpelling (Control packet)
control packet (some, few) =
    let d = control_descriptor (length packet) in
    record {
      wire = record { descriptor = d; payload = packet };
      frame = record {
        words = record { length = omega (arith, few); channel = lit< tt; offset_high = lit< tt; offset_low = lit< tt; flags = lit< tt };
        lawful = control-lawful (length packet) some few;
        whole = refl;
      };
      bytes = refl;
      means = body-control d packet refl;
    }

data_frame : (stream : ℕ) (offset : ℤ) (seek : ℕ) (bytes : List ℕ) → IsBody (Write stream offset seek bytes) → HasNumbers (Write stream offset seek bytes)
    → IsSpelling (Write stream offset seek bytes)
data_frame stream offset seek bytes (other, mode, some, few) (fits, signed) =
    let bits : Fits w64 (cast_unsigned w64 offset) = Fits-of_z signed in
    let d = data_descriptor (length bytes) stream offset seek in
    let there : byte_offset d ≡ offset = ap (cast_signed w64) (joined (cast_unsigned w64 offset)) ∙ to_z-of_z w64 offset signed in
    record {
      wire = record { descriptor = d; payload = bytes };
      frame = record {
        words = record { length = omega (arith, few); channel = fits; offset_high = upper (cast_unsigned w64 offset) bits.fits; offset_low = omega arith; flags = omega (arith, mode) };
        lawful = data-lawful (length bytes) stream offset seek some few other mode;
        whole = refl;
      };
      bytes = refl;
      means = body-write d bytes other
          ∙ (ap (λ o. Write stream o (seek_of d) bytes) there ∙ ap (λ s. Write stream offset s bytes) (omega (arith, mode)));
    }

pub spelled : (body : Body) → IsBody body → HasNumbers body → IsSpelling body
spelled (Control packet) lawful fits = control packet lawful
spelled (Write stream offset seek bytes) lawful fits = data_frame stream offset seek bytes lawful fits

-- ---- they go on

-- all of the bytes are before what follows whole frames
end-is : {bytes : List ℕ} {frames : List Frame} {end : ℕ} → Splits 0 bytes frames end [] → end ≡ length bytes
end-is s = omega (arith, s.after_is, ap length (s.bytes_are ∙ append-nil (flat_map wire_bytes s.whole)))

-- where they end is where all of the bytes do
settled : {bytes : List ℕ} {frames : List Frame} {end : ℕ} → Splits 0 bytes frames end [] → AreWhole bytes frames
settled {bytes} {frames} s = subst (λ n. Splits 0 bytes frames n []) (end-is s) s

pub no_bytes : AreWhole [] []
no_bytes = splits-none 0 []

pub one_more : (bytes : List ℕ) (frames : List Frame) (body : Body) → AreWhole bytes frames → IsBody body → HasNumbers body
    → AreWhole (bytes ++ spelling_of body) (frames ++ record { at = offset_at (length bytes + 20); body = body } ∷ [])
one_more bytes frames body before lawful fits =
    let s = spelled body lawful fits in
    let one = splits-one (length bytes) s.wire (spelling_of body) [] s.frame (s.bytes ∙ sym (append-nil (wire_bytes s.wire))) in
    let on = splits-on (splits-more (spelling_of body) before) refl one in
    subst (λ b. AreWhole (bytes ++ spelling_of body) (frames ++ record { at = offset_at (length bytes + 20); body = b } ∷ [])) s.means (settled on.splits)

pub whole-read : (bytes : List ℕ) (frames : List Frame) → AreWhole bytes frames → IsRead bytes frames Unfinished
whole-read bytes frames s = (length bytes, [], s, inl (lit< tt))

pub then-broken : (bytes : List ℕ) (frames : List Frame) (d : Descriptor) (fault : FrameFault) (place : ℕ) → AreWhole bytes frames → HasWords d → broken_rule d ≡ Some (fault, place)
    → IsRead (bytes ++ descriptor_bytes d) frames (Broken fault (offset_at (length bytes + place)))
then-broken bytes frames d fault place s words rule =
    (length bytes, descriptor_bytes d, splits-more (descriptor_bytes d) s, (place, (d, [], words, sym (append-nil (descriptor_bytes d)), rule), refl))

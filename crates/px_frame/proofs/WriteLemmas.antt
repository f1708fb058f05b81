-- What is written is one frame.
use Rattle.std.proofs.Common.{◌≡◌, ◌≢◌, ℕ, ◌+◌, ◌*◌, ◌/◌, ◌%◌, ◌^◌, ◌<◌, ◌≤◌, List, [], ◌∷◌, ◌++◌, length, refl, sym, ◌∙◌, ap, inl, arith, append_assoc, append-nil, lit<, None, ℤ, Fits}
use mir.Val.{SFits}
use Rattle.std.proofs.Math.Facts.{Fits-of_z}
use Rattle.std.specs.Int.{to_be_bytes, cast_signed, cast_unsigned, w32, w64}
use Rattle.std.proofs.lemmas.Grind.{common_steps}
use Rattle.std.proofs.lemmas.Int.{to_z-of_z}
use Rattle.px_frame.specs.declared.descriptor.Descriptor.{Descriptor}
use Rattle.px_frame.specs.declared.frame.Body.{Body}
use Rattle.px_frame.specs.declared.frame.Body.TheVariants.{Control, Write}
use Rattle.px_frame.specs.Descriptor.{descriptor_bytes, HasWords, broken_rule, byte_offset, seek_of, control_descriptor, data_descriptor}
use Rattle.px_frame.specs.Frame.{Wire, wire_bytes, body_of}
use Rattle.px_frame.specs.Reading.{IsRead, Unfinished}
use Rattle.px_frame.proofs.FeedingLemmas.{body-control, body-write}
use Rattle.px_frame.proofs.ReadingLemmas.{splits-one}

-- six parts, appended in turn
joined-six : (a b c d e p none one two three four five six : List ℕ) → none ≡ [] → one ≡ none ++ a → two ≡ one ++ b → three ≡ two ++ c → four ≡ three ++ d → five ≡ four ++ e → six ≡ five ++ p
    → six ≡ (a ++ (b ++ (c ++ (d ++ e)))) ++ p
joined-six a b c d e p none one two three four five six h i j k l m n = rw (n, m, l, k, j, i, h) (simp append_assoc)

-- the five words and the payload
pub written : (d : Descriptor) (p none one two three four five six v w x y z : List ℕ) → none ≡ [] → one ≡ none ++ v → two ≡ one ++ w → three ≡ two ++ x → four ≡ three ++ y → five ≡ four ++ z → six ≡ five ++ p
    → v ≡ to_be_bytes w32 d.length → w ≡ to_be_bytes w32 d.channel → x ≡ to_be_bytes w32 d.offset_high → y ≡ to_be_bytes w32 d.offset_low → z ≡ to_be_bytes w32 d.flags
    → six ≡ descriptor_bytes d ++ p
unfolding descriptor_bytes
written d p none one two three four five six v w x y z h i j k l m n e f g q r =
    joined-six (to_be_bytes w32 d.length) (to_be_bytes w32 d.channel) (to_be_bytes w32 d.offset_high) (to_be_bytes w32 d.offset_low) (to_be_bytes w32 d.flags) p
    none one two three four five six h (i ∙ ap (λ b. none ++ b) e) (j ∙ ap (λ b. one ++ b) f) (k ∙ ap (λ b. two ++ b) g) (l ∙ ap (λ b. three ++ b) q) (m ∙ ap (λ b. four ++ b) r) n

-- a lawful descriptor and its payload are read as one frame
frame-read : (d : Descriptor) (payload packet : List ℕ) (body : Body) → HasWords d → broken_rule d ≡ None → length payload ≡ d.length → body_of d payload ≡ body
    → packet ≡ descriptor_bytes d ++ payload → IsRead packet (record { at = 20; body = body } ∷ []) Unfinished
frame-read d payload packet body words lawful whole says e =
    let w : Wire = record { descriptor = d; payload = payload } in
    let splits = splits-one 0 w packet [] (record { words = words; lawful = lawful; whole = whole }) (e ∙ sym (append-nil (wire_bytes w))) in
    (0 + length (wire_bytes w), [], rw (← says) splits, inl (lit< tt))

pub control-lawful : (n : ℕ) → 0 < n → n ≤ 16777216 → broken_rule (control_descriptor n) ≡ None
control-lawful n some few = grind (arith, common_steps)

pub packet-read : (payload packet : List ℕ) → 0 < length payload → length payload ≤ 16777216 → packet ≡ descriptor_bytes (control_descriptor (length payload)) ++ payload
    → IsRead packet (record { at = 20; body = Control payload } ∷ []) Unfinished
packet-read payload packet some few e =
    let d = control_descriptor (length payload) in
    frame-read d payload packet (Control payload)
    (record { length = omega arith; channel = lit< tt; offset_high = lit< tt; offset_low = lit< tt; flags = lit< tt })
    (control-lawful (length payload) some few) refl (body-control d payload refl) e

pub data-lawful : (n stream : ℕ) (offset : ℤ) (seek : ℕ) → 0 < n → n ≤ 16777216 → stream ≢ 4294967295 → seek ≤ 3 → broken_rule (data_descriptor n stream offset seek) ≡ None
data-lawful n stream offset seek some few other mode = grind (arith, common_steps)

-- the two offset words are the offset
words-offset : (n stream : ℕ) (offset : ℤ) (seek : ℕ) → SFits w64 offset → byte_offset (data_descriptor n stream offset seek) ≡ offset
words-offset n stream offset seek fits =
    let b = cast_unsigned w64 offset in
    let whole : b / 2 ^ 32 * 2 ^ 32 + b % 2 ^ 32 ≡ b = omega arith in
    ap (cast_signed w64) whole ∙ to_z-of_z w64 offset fits

pub high-fits : (offset : ℤ) → SFits w64 offset → cast_unsigned w64 offset / 2 ^ 32 < 2 ^ 32
high-fits offset sfits =
    let fits : Fits w64 (cast_unsigned w64 offset) = Fits-of_z sfits in
    below (cast_unsigned w64 offset) fits.fits
  where
    below : (n : ℕ) → n < 2 ^ 64 → n / 2 ^ 32 < 2 ^ 32
    below n h = omega arith

pub data-read : (payload packet : List ℕ) (stream : ℕ) (offset : ℤ) (seek bits flags : ℕ) → 0 < length payload → length payload ≤ 16777216 → stream ≢ 4294967295 → seek ≤ 3 → stream < 2 ^ 32 → SFits w64 offset
    → bits ≡ cast_unsigned w64 offset → flags ≡ seek
    → packet ≡ descriptor_bytes (record { length = length payload; channel = stream; offset_high = bits / 2 ^ 32; offset_low = bits % 2 ^ 32; flags = flags }) ++ payload
    → IsRead packet (record { at = 20; body = Write stream offset seek payload } ∷ []) Unfinished
data-read payload packet stream offset seek bits flags some few other mode fits sfits b f e =
    let d = data_descriptor (length payload) stream offset seek in
    let spelled = λ (b f : ℕ). descriptor_bytes (record { length = length payload; channel = stream; offset_high = b / 2 ^ 32; offset_low = b % 2 ^ 32; flags = f }) ++ payload in
    let there : packet ≡ descriptor_bytes d ++ payload = e ∙ (ap (λ b. spelled b flags) b ∙ ap (spelled (cast_unsigned w64 offset)) f) in
    frame-read d payload packet (Write stream offset seek payload)
    (record { length = omega arith; channel = fits; offset_high = high-fits offset sfits; offset_low = omega arith; flags = omega arith })
    (data-lawful (length payload) stream offset seek some few other mode) refl
    (body-write d payload other
    ∙ (ap (λ o. Write stream o (seek_of d) payload) (words-offset (length payload) stream offset seek sfits) ∙ ap (λ s. Write stream offset s payload) (omega arith)))
    there

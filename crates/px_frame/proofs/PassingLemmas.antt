-- A decoder that passes over a frame goes on as if it had been fed the frame's spelling.
use Rattle.std.proofs.Common.{◌≡◌, ℕ, ◌+◌, ◌<◌, false, nat_eq, List, [], ◌∷◌, ◌++◌, length, sym, subst, ap, inl, inr, arith, append-nil, lit<, length-append, Some, option_map, ◌∙◌, ℤ}
use Rattle.std.specs.Global.{Vec}
use Rattle.std.proofs.lemmas.Bool.Decides.{eqb_tells}
use Rattle.std.proofs.lemmas.Option.{none-some, same_Some}
use Rattle.px_frame.specs.declared.descriptor.Descriptor.{Descriptor}
use Rattle.px_frame.specs.declared.frame.Frame.{Frame}
use Rattle.px_frame.specs.declared.frame.Body.{Body}
use Rattle.px_frame.specs.declared.frame.Body.TheVariants.{Control as control, Write as write}
use Rattle.px_frame.specs.declared.stage.Part.{Part}
use Rattle.px_frame.specs.declared.stage.Part.TheVariants.{Control, Write}
use Rattle.px_frame.specs.Descriptor.{descriptor_bytes, control_descriptor, data_descriptor}
use Rattle.px_frame.specs.Feeding.{Feeds}
use Rattle.px_frame.specs.Frame.{wire_bytes, IsBody, offset_at}
use Rattle.px_frame.specs.Progress.{Progress, Within, Stopped, Lost, HasFed, next_start, passed_over}
use Rattle.px_frame.specs.Reading.{Splits, IsRead, Unfinished}
use Rattle.px_frame.specs.Spelling.{spelling_of, HasNumbers}
use Rattle.px_frame.specs.Stage.{held_of}
use Rattle.px_frame.proofs.DecoderLemmas.{read-fed, fed-on}
use Rattle.px_frame.proofs.DescriptorLemmas.{length-descriptor_bytes}
use Rattle.px_frame.proofs.ReadingLemmas.{splits-one}
use Rattle.px_frame.proofs.SpellingLemmas.{spelled}

-- ---- a part with a whole descriptor isn't new

not_zero : (n : ℕ) → 0 < n → false ≡ nat_eq n 0
not_zero n h = elim (eqb_tells n 0) [
  | inl zero ↦ absurd (omega (arith, zero.1))
  | inr other ↦ sym other.0
]

held-some : (d : Descriptor) (bytes : List ℕ) → false ≡ nat_eq (length (descriptor_bytes d ++ bytes)) 0
held-some d bytes =
    not_zero (length (descriptor_bytes d ++ bytes)) (omega (arith, length-append {A = ℕ} (descriptor_bytes d) bytes, length-descriptor_bytes d))

pub control-held : (part : Part) (d : Descriptor) (bytes : Vec ℕ) (missing : ℕ) → part ≡ Control d bytes missing → false ≡ nat_eq (length (held_of part)) 0
control-held part d bytes missing e = subst (λ p. false ≡ nat_eq (length (held_of p)) 0) (sym e) (held-some d bytes.items)

pub write-held : (part : Part) (d : Descriptor) (bytes : List ℕ) (missing : ℕ) → part ≡ Write d bytes missing → false ≡ nat_eq (length (held_of part)) 0
write-held part d bytes missing e = subst (λ p. false ≡ nat_eq (length (held_of p)) 0) (sym e) (held-some d bytes)

-- ---- the length of a spelling

spelt-length : (d : Descriptor) (bytes : List ℕ) → 20 + length bytes ≡ length (descriptor_bytes d ++ bytes)
spelt-length d bytes = omega (arith, length-append {A = ℕ} (descriptor_bytes d) bytes, length-descriptor_bytes d)

pub control-length : (body : Body) (packet : List ℕ) → body ≡ control packet → 20 + length packet ≡ length (spelling_of body)
control-length body packet e = subst (λ b. 20 + length packet ≡ length (spelling_of b)) (sym e) (spelt-length (control_descriptor (length packet)) packet)

pub write-length : (body : Body) (stream : ℕ) (offset : ℤ) (seek : ℕ) (bytes : List ℕ) → body ≡ write stream offset seek bytes → 20 + length bytes ≡ length (spelling_of body)
write-length body stream offset seek bytes e =
    subst (λ b. 20 + length bytes ≡ length (spelling_of b)) (sym e) (spelt-length (data_descriptor (length bytes) stream offset seek) bytes)

-- ---- one frame

-- a feed of its spelling brings it, and nothing is left
feeds-one : (start : ℕ) (body : Body) → IsBody body → HasNumbers body
    → Feeds start [] (spelling_of body) (record { at = offset_at (start + 20); body = body } ∷ []) (offset_at (start + length (spelling_of body))) [] []
feeds-one start body lawful fits =
    let s = spelled body lawful fits in
    record {
      after = start + length (wire_bytes s.wire);
      splits = subst (λ b. Splits start (spelling_of body) (record { at = offset_at (start + 20); body = b } ∷ []) (start + length (wire_bytes s.wire)) []) s.means
          (splits-one start s.wire (spelling_of body) [] s.frame (s.bytes ∙ sym (append-nil (wire_bytes s.wire))));
      begun = inl (lit< tt);
      start_is = ap (λ (b : List ℕ). offset_at (start + length b)) s.bytes;
    }

passed : (start at : ℕ) (body : Body) (fed : List ℕ) (before : List Frame) → IsBody body → HasNumbers body → offset_at (start + 20) ≡ at → Feeds 0 [] fed before start [] []
    → Feeds 0 [] (fed ++ spelling_of body) (before ++ record { at = at; body = body } ∷ []) (offset_at (start + length (spelling_of body))) [] []
passed start at body fed before lawful fits e there =
    subst (λ n. Feeds 0 [] (fed ++ spelling_of body) (before ++ record { at = n; body = body } ∷ []) (offset_at (start + length (spelling_of body))) [] []) e
    (fed-on there (feeds-one start body lawful fits))

-- ---- the decoder

module _ (at : ℕ) (body : Body) (fed : List ℕ) (before : List Frame) (lawful : IsBody body) (fits : HasNumbers body) where
  -- where it stands then
  pub passed-on : (p : Progress) → option_map (λ (start : ℕ). offset_at (start + 20)) (next_start p) ≡ Some at → HasFed p fed before
      → HasFed (passed_over (length (spelling_of body)) p) (fed ++ spelling_of body) (before ++ record { at = at; body = body } ∷ [])
  passed-on (Within start []) e there = passed start at body fed before lawful fits (same_Some _ at e) there
  passed-on (Within start (byte ∷ held)) e there = absurd (none-some at e)
  passed-on (Stopped fault place) e there = absurd (none-some at e)
  passed-on Lost e there = absurd there

  -- what all the bytes are
  pub passed-read : (p : Progress) → option_map (λ (start : ℕ). offset_at (start + 20)) (next_start p) ≡ Some at → HasFed p fed before
      → IsRead (fed ++ spelling_of body) (before ++ record { at = at; body = body } ∷ []) Unfinished
  passed-read (Within start []) e there = read-fed (passed start at body fed before lawful fits (same_Some _ at e) there)
  passed-read (Within start (byte ∷ held)) e there = absurd (none-some at e)
  passed-read (Stopped fault place) e there = absurd (none-some at e)
  passed-read Lost e there = absurd there

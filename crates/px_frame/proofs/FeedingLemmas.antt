-- What a step brings, and that steps and pieces join.
use Rattle.std.proofs.Common.{◌≡◌, ℕ, ◌+◌, ◌-◌, ◌^◌, ◌<◌, ◌≤◌, min, List, [], ◌∷◌, ◌++◌, length, take, drop, refl, subst, sym, ◌∙◌, ap, inl, inr, arith, lit<, length-append, length-take, append_assoc, Some}
use Rattle.std.proofs.lemmas.Grind.{common_steps}
use Rattle.std.proofs.lemmas.List.{take-append-drop, take-take}
use Rattle.px_frame.specs.declared.descriptor.Descriptor.{Descriptor}
use Rattle.px_frame.specs.declared.fault.FrameFault.{FrameFault}
use Rattle.px_frame.specs.declared.frame.Body.{Body}
use Rattle.px_frame.specs.declared.frame.Body.TheVariants.{Control as control, Write as write}
use Rattle.px_frame.specs.declared.stage.Part.{Part}
use Rattle.px_frame.specs.declared.stage.Part.TheVariants.{Head, Control, Write}
use Rattle.px_frame.specs.declared.stage.Step.{Step}
use Rattle.px_frame.specs.Descriptor.{descriptor_bytes, HasWords, broken_rule, byte_offset, seek_of}
use Rattle.px_frame.specs.Frame.{Wire, wire_bytes, IsFrame, offset_at, frame_of, body_of}
use Rattle.px_frame.specs.Reading.{IsBegun}
use Rattle.px_frame.specs.Feeding.{Feeds, Breaks}
use Rattle.px_frame.specs.Stage.{IsAwaiting, IsStep, IsWhole, held_of, IsPart}
use Rattle.px_frame.proofs.ReadingLemmas.{splits-none, splits-one, length-wire}

-- what a step took stands behind what was held
taken-behind : (held piece now : List ℕ) (count : ℕ) → now ≡ held ++ take count piece → held ++ piece ≡ now ++ drop count piece
taken-behind held piece now count e =
    ap (λ b. held ++ b) (sym (take-append-drop count piece)) ∙ (sym (append_assoc held (take count piece) (drop count piece)) ∙ ap (λ b. b ++ drop count piece) (sym e))

-- a step that brings no frame
pub feeds-waiting : (start count : ℕ) (held piece now : List ℕ) → start < 2 ^ 64 → now ≡ held ++ take count piece → IsBegun now → Feeds start held piece [] start now (drop count piece)
feeds-waiting start count held piece now fits e begun = record {
  after = start;
  splits = rw (taken-behind held piece now count e) (splits-none start (now ++ drop count piece));
  begun = begun;
  start_is = omega arith;
}

-- a step that completes a frame
pub feeds-whole : (start count : ℕ) (held piece : List ℕ) (w : Wire) → IsFrame w → wire_bytes w ≡ held ++ take count piece
    → Feeds start held piece (frame_of start w ∷ []) (offset_at (offset_at (start + 20) + w.descriptor.length)) [] (drop count piece)
feeds-whole start count held piece w p e = record {
  after = start + length (wire_bytes w);
  splits = splits-one start w (held ++ piece) (drop count piece) p (taken-behind held piece (wire_bytes w) count e);
  begun = inl (lit< tt);
  start_is = omega (arith, length-wire w, p.whole);
}

-- a step that completes a descriptor which breaks a rule
pub breaks-here : (start place count : ℕ) (held piece : List ℕ) (d : Descriptor) (fault : FrameFault) → HasWords d → broken_rule d ≡ Some (fault, place)
    → descriptor_bytes d ≡ held ++ take count piece → Breaks start held piece [] fault (offset_at (start + place))
breaks-here start place count held piece d fault words rule e = record {
  after = start;
  rest = held ++ piece;
  splits = splits-none start (held ++ piece);
  ends = (place, (d, drop count piece, words, taken-behind held piece (descriptor_bytes d) count e, rule), refl);
}

-- a payload that is still to come
pub awaiting-begun : (d : Descriptor) (got : List ℕ) (missing : ℕ) → IsAwaiting d (length got) missing → IsBegun (descriptor_bytes d ++ got)
awaiting-begun d got missing p = inr (d, got, p.words, refl, p.lawful, omega (arith, p.whole, p.some))

-- a part of a payload, and more to come
pub payload-waiting : (d : Descriptor) (start count missing : ℕ) (got piece now : List ℕ) → start < 2 ^ 64 → IsAwaiting d (length got) missing
    → now ≡ got ++ take count piece → count ≤ length piece → count < missing
    → Feeds start (descriptor_bytes d ++ got) piece [] start (descriptor_bytes d ++ now) (drop count piece) × IsAwaiting d (length now) (missing - count)
payload-waiting d start count missing got piece now fits p e some few =
    let lengths : length now ≡ length got + count = ap length e ∙ omega (arith, length-append got (take count piece), length-take count piece) in
    let awaits : IsAwaiting d (length now) (missing - count) =
    record { words = p.words; lawful = p.lawful; whole = omega (arith, p.whole, lengths); some = omega arith } in (
      feeds-waiting start count (descriptor_bytes d ++ got) piece (descriptor_bytes d ++ now) fits
          (ap (λ b. descriptor_bytes d ++ b) e ∙ sym (append_assoc (descriptor_bytes d) got (take count piece)))
          (awaiting-begun d now (missing - count) awaits),
      awaits,
    )

-- the last part of a payload
pub payload-whole : (d : Descriptor) (start count missing : ℕ) (got piece now : List ℕ) → IsAwaiting d (length got) missing
    → now ≡ got ++ take count piece → count ≤ length piece → count ≡ missing
    → Feeds start (descriptor_bytes d ++ got) piece (frame_of start (record { descriptor = d; payload = now }) ∷ [])
    (offset_at (offset_at (start + 20) + d.length)) [] (drop count piece)
payload-whole d start count missing got piece now p e some all =
    let lengths : length now ≡ length got + count = ap length e ∙ omega (arith, length-append got (take count piece), length-take count piece) in
    feeds-whole start count (descriptor_bytes d ++ got) piece (record { descriptor = d; payload = now })
    (record { words = p.words; lawful = p.lawful; whole = omega (arith, p.whole, lengths) })
    (ap (λ b. descriptor_bytes d ++ b) e ∙ sym (append_assoc (descriptor_bytes d) got (take count piece)))

-- the body of a frame, by its channel
pub body-control : (d : Descriptor) (payload : List ℕ) → d.channel ≡ 4294967295 → body_of d payload ≡ control payload
body-control d payload e = grind (arith, common_steps)

pub body-write : (d : Descriptor) (payload : List ℕ) → (d.channel ≡ 4294967295 → ⊥) → body_of d payload ≡ write d.channel (byte_offset d) (seek_of d) payload
body-write d payload e = grind (arith, common_steps)

-- a step that brings a whole frame, as the code makes it
pub step-whole : (d : Descriptor) (start count missing : ℕ) (got piece now : List ℕ) (body : Body) (step : Step) → IsAwaiting d (length got) missing
    → now ≡ got ++ take count piece → count ≤ length piece → count ≡ missing → body_of d now ≡ body → IsWhole d body start count step
    → IsStep start (descriptor_bytes d ++ got) piece step
step-whole d start count missing got piece now body step p e some all b w =
    let fed = payload-whole d start count missing got piece now p e some all in
    subst (IsStep start (descriptor_bytes d ++ got) piece) (sym w.3)
    (rw w.1 (rw (← b) fed), w.2, omega (arith, p.some), some)

-- the front of a front
pub front-of_front : (got now piece : List ℕ) (count most room : ℕ) → count ≡ min (length (take most piece)) room → now ≡ got ++ take count (take most piece) → now ≡ got ++ take count piece
front-of_front got now piece count most room n e =
    e ∙ ap (λ b. got ++ b) (take-take count most piece (omega (arith, n, length-take most piece)))

-- a part of a frame is less than a frame
pub part-begun : (part : Part) → IsPart part → IsBegun (held_of part)
part-begun (Head bytes got) p = inl (omega (arith, p.1, length-take got bytes))
part-begun (Control d bytes missing) p = awaiting-begun d bytes.items missing p.0
part-begun (Write d bytes missing) p = awaiting-begun d bytes missing p.0

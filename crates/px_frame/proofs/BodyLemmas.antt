-- What is read is what a frame can say.
use Rattle.std.proofs.Common.{◌≡◌, ◌≢◌, ℕ, ◌+◌, ◌<◌, ◌≤◌, List, [], ◌∷◌, length, subst, sym, inl, inr, arith, None, All}
use Rattle.std.specs.List.{AllByRecursion}
use Rattle.std.proofs.lemmas.Grind.{common_steps}
use Rattle.std.proofs.lemmas.Bool.Decides.{eqb_tells}
use Rattle.std.proofs.lemmas.List.Elements.{All-from_recursion}
use Rattle.px_frame.specs.declared.descriptor.Descriptor.{Descriptor}
use Rattle.px_frame.specs.declared.frame.Frame.{Frame}
use Rattle.px_frame.specs.Descriptor.{broken_rule, seek_of}
use Rattle.px_frame.specs.Frame.{Wire, wire_bytes, IsFrame, IsBody, body_of}
use Rattle.px_frame.specs.Reading.{frames_from, Splits}
use Rattle.px_frame.proofs.FeedingLemmas.{body-control, body-write}

-- what a descriptor that breaks no rule says
some-length : (d : Descriptor) → broken_rule d ≡ None → 0 < d.length
some-length d e = grind (arith, common_steps)

few-length : (d : Descriptor) → broken_rule d ≡ None → d.length ≤ 16777216
few-length d e = grind (arith, common_steps)

known-seek : (d : Descriptor) → broken_rule d ≡ None → d.channel ≢ 4294967295 → seek_of d ≤ 3
known-seek d e other = grind (arith, common_steps)

-- a frame says what a frame can say
frame-body : (w : Wire) → IsFrame w → IsBody (body_of w.descriptor w.payload)
frame-body w p =
    let d = w.descriptor in
    let some : 0 < length w.payload = omega (arith, some-length d p.lawful, p.whole) in
    let few : length w.payload ≤ 16777216 = omega (arith, few-length d p.lawful, p.whole) in
    elim (eqb_tells d.channel 4294967295) [
      | inl control ↦ subst IsBody (sym (body-control d w.payload control.1)) (some, few)
      | inr other ↦ subst IsBody (sym (body-write d w.payload other.1)) (other.1, known-seek d p.lawful other.1, some, few)
    ]

bodies-from : (start : ℕ) (ws : List Wire) → AllByRecursion IsFrame ws → AllByRecursion (λ (frame : Frame). IsBody frame.body) (frames_from start ws)
bodies-from start [] p = tt
bodies-from start (w ∷ ws) p = (frame-body w p.0, bodies-from (start + length (wire_bytes w)) ws p.1)

-- so does each frame of a reading
pub bodies-read : {start after : ℕ} {bytes rest : List ℕ} {frames : List Frame} → Splits start bytes frames after rest → All (λ (frame : Frame). IsBody frame.body) frames
bodies-read {start} {frames = frames} s =
    All-from_recursion (λ (frame : Frame). IsBody frame.body) frames
    (subst (AllByRecursion (λ (frame : Frame). IsBody frame.body)) (sym s.frames_are) (bodies-from start s.whole s.each))

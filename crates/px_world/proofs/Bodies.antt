-- What the events of a run do to the core can be done: each step is lawful, and the world stays consistent.
use Rattle.std.proofs.Common.{◌≡◌, ◌≢◌, ℕ, zero, suc, ◌+◌, ◌<◌, ◌≤◌, arith, List, [], ◌∷◌, ◌++◌, map, length, take, drop, Option, None, Some, refl, sym, subst, inl, inr}
use Rattle.std.specs.Prelude.{nat_lt}
use Rattle.std.specs.List.{AllByRecursion}
use Rattle.std.proofs.Common.{length-take}
use Rattle.std.proofs.lemmas.Grind.{common_steps}
use Rattle.std.proofs.lemmas.Bool.{cond_both, ltb-false}
use Rattle.std.proofs.lemmas.Bool.Decides.{eqb_tells}
use Rattle.px_types.specs.declared.ids.ConnId.{ConnId}
use Rattle.px_frame.specs.declared.descriptor.Descriptor.{Descriptor}
use Rattle.px_frame.specs.declared.fault.FrameFault.{FrameFault}
use Rattle.px_frame.specs.declared.frame.Frame.{Frame}
use Rattle.px_frame.specs.Descriptor.{descriptor_in, broken_rule, seek_of}
use Rattle.px_frame.specs.Frame.{IsBody, body_of, frame_of}
use Rattle.px_frame.specs.Reading.{Ending, Unfinished, Broken}
use Rattle.px_frame.specs.Meaning.{Meaning, unfinished, described, meant_from, meaning_of, frames_in, ending_in}
use Rattle.px_frame.proofs.FeedingLemmas.{body-control, body-write}
use Rattle.px_model.specs.Stream.{Stream}
use Rattle.px_core.specs.Consistency.{IsStep, Spares}
use Rattle.px_core.specs.Parcels.{given_in}
use Rattle.px_core.specs.Step.{Step, frame}
use Rattle.px_world.specs.Event.{new_frames, fault_steps, new_fault, bytes_steps}

-- ---- the frames of a connection's bytes have possible bodies

some-length : (d : Descriptor) → broken_rule d ≡ None → 0 < d.length
some-length d e = grind (arith, common_steps)

few-length : (d : Descriptor) → broken_rule d ≡ None → d.length ≤ 16777216
few-length d e = grind (arith, common_steps)

known-seek : (d : Descriptor) → broken_rule d ≡ None → d.channel ≢ 4294967295 → seek_of d ≤ 3
known-seek d e other = grind (arith, common_steps)

possible-body : (d : Descriptor) (payload : List ℕ) → broken_rule d ≡ None → length payload ≡ d.length → IsBody (body_of d payload)
possible-body d payload lawful whole =
    let some : 0 < length payload = omega (arith, some-length d lawful, whole) in
    let few : length payload ≤ 16777216 = omega (arith, few-length d lawful, whole) in
    elim (eqb_tells d.channel 4294967295) [
      | inl control ↦ subst IsBody (sym (body-control d payload control.1)) (some, few)
      | inr other ↦ subst IsBody (sym (body-write d payload other.1)) (other.1, known-seek d lawful other.1, some, few)
    ]

abbrev HaveBodies : List Frame → Type 0
HaveBodies frames = AllByRecursion (λ (f : Frame). IsBody f.body) frames

described-bodies : (start : ℕ) (d : Descriptor) (part : List ℕ) (rule : Option (FrameFault × ℕ)) (later : Meaning) → broken_rule d ≡ rule → HaveBodies later.frames → HaveBodies (described start d part rule later).frames
described-bodies start d part (Some rule) later e h = tt
described-bodies start d part None later e h =
    cond_both (nat_lt (length part) d.length) unfinished (record { frames = frame_of start (record { descriptor = d; payload = take d.length part }) ∷ later.frames; ending = later.ending }) (λ m. HaveBodies (Meaning.frames m))
    (λ few. tt)
    (λ many. (possible-body d (take d.length part) e (omega (arith, length-take d.length part, ltb-false (length part) d.length many)), h))

meant-bodies : (most start : ℕ) (bytes : List ℕ) → HaveBodies (meant_from most start bytes).frames
meant-bodies zero start bytes = tt
meant-bodies (suc most) start bytes =
    let d : Descriptor = descriptor_in (take 20 bytes) in
    cond_both (nat_lt (length bytes) 20) unfinished
    (described start (descriptor_in (take 20 bytes)) (drop 20 bytes) (broken_rule (descriptor_in (take 20 bytes)))
    (meant_from most (start + (20 + (descriptor_in (take 20 bytes)).length)) (drop (descriptor_in (take 20 bytes)).length (drop 20 bytes))))
    (λ m. HaveBodies (Meaning.frames m))
    (λ few. tt)
    (λ many. described-bodies start (descriptor_in (take 20 bytes)) (drop 20 bytes) (broken_rule (descriptor_in (take 20 bytes)))
    (meant_from most (start + (20 + (descriptor_in (take 20 bytes)).length)) (drop (descriptor_in (take 20 bytes)).length (drop 20 bytes))) refl
    (meant-bodies most (start + (20 + (descriptor_in (take 20 bytes)).length)) (drop (descriptor_in (take 20 bytes)).length (drop 20 bytes))))

frames-bodies : (bytes : List ℕ) → HaveBodies (frames_in bytes)
unfolding meaning_of
frames-bodies bytes = meant-bodies (suc (length bytes)) 0 bytes

drop-bodies : (n : ℕ) (frames : List Frame) → HaveBodies frames → HaveBodies (drop n frames)
drop-bodies zero frames h = h
drop-bodies (suc n) [] h = tt
drop-bodies (suc n) (f ∷ frames) h = drop-bodies n frames h.1

-- ---- the steps for the bytes of a connection

-- a step can be done, hands out nothing and gives up nothing
pub record IsPlain (s : Step Stream) : Type 0 where
  pub is : IsStep s
  pub spares : (sink : _) → Spares sink s
  pub gives : given_in s ≡ []

abbrev pub ArePlain : List (Step Stream) → Type 0
ArePlain steps = AllByRecursion IsPlain steps

pub plain-join : (xs ys : List (Step Stream)) → ArePlain xs → ArePlain ys → ArePlain (xs ++ ys)
plain-join [] ys h k = k
plain-join (x ∷ xs) ys h k = (h.0, plain-join xs ys h.1 k)

frames-plain : (conn : ConnId) (frames : List Frame) → HaveBodies frames → ArePlain (map (frame conn) frames)
frames-plain conn [] h = tt
frames-plain conn (f ∷ frames) h = (record { is = h.0; spares = λ sink. tt; gives = refl }, frames-plain conn frames h.1)

fault-plain : (conn : ConnId) (e : Ending) → ArePlain (fault_steps conn e)
fault-plain conn Unfinished = tt
fault-plain conn (Broken fault at) = (record { is = tt; spares = λ sink. tt; gives = refl }, tt)

new-fault-plain : (conn : ConnId) (before after : Ending) → ArePlain (new_fault conn before after)
new-fault-plain conn Unfinished after = fault-plain conn after
new-fault-plain conn (Broken fault at) after = tt

pub bytes-plain : (conn : ConnId) (received bytes : List ℕ) → ArePlain (bytes_steps conn received bytes)
bytes-plain conn received bytes =
    plain-join (map (frame conn) (new_frames received bytes)) (new_fault conn (ending_in received) (ending_in (received ++ bytes)))
    (frames-plain conn (new_frames received bytes) (drop-bodies (length (frames_in received)) (frames_in (received ++ bytes)) (frames-bodies (received ++ bytes))))
    (new-fault-plain conn (ending_in received) (ending_in (received ++ bytes)))

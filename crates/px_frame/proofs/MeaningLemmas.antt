-- What a list of bytes is read as is its reading.
use Rattle.std.proofs.Common.{◌≡◌, ℕ, zero, suc, ◌+◌, ◌<◌, ◌≤◌, List, [], ◌∷◌, ◌++◌, length, take, drop, refl, sym, subst, ◌∙◌, ap, inl, inr, arith, length-append, length-drop, length-take, append_assoc, false, Option, Some, None}
use Rattle.std.specs.Prelude.{nat_lt}
use Rattle.std.proofs.lemmas.Bool.{cond_both, cond-true, cond-false, ltb-true, ltb-false, lt-ltb, le-ltb}
use Rattle.std.proofs.lemmas.List.{take-append-drop, take_at, drop_at}
use Rattle.px_frame.specs.declared.descriptor.Descriptor.{Descriptor}
use Rattle.px_frame.specs.declared.fault.FrameFault.{FrameFault}
use Rattle.px_frame.specs.declared.frame.Frame.{Frame}
use Rattle.px_frame.specs.Descriptor.{descriptor_bytes, descriptor_in, HasWords, broken_rule, AreBytes}
use Rattle.px_frame.specs.Frame.{Wire, wire_bytes, IsFrame, offset_at, frame_of}
use Rattle.px_frame.specs.Reading.{frames_from, Splits, Ending, Unfinished, Broken, IsBegun, IsEnding, IsRead}
use Rattle.std.specs.List.{flat_map, AllByRecursion}
use Rattle.px_frame.specs.Meaning.{Meaning, unfinished, described, meant_from, meaning_of, frames_in, ending_in}
use Rattle.px_frame.proofs.DescriptorLemmas.{length-descriptor_bytes, descriptor_in-bytes, take-bytes, drop-bytes, words-descriptor_in, bytes-descriptor_in}
use Rattle.px_frame.proofs.ReadingLemmas.{splits-none, splits-one, splits-on, length-wire, ending-offset}

-- the bytes from an offset on are read so
record IsMeant (start : ℕ) (bytes : List ℕ) (m : Meaning) : Type 0 where
  after : ℕ
  rest : List ℕ
  splits : Splits start bytes m.frames after rest
  ends : IsEnding after rest m.ending

-- an ending that stands at the start
meant-here : (start : ℕ) (bytes : List ℕ) (ending : Ending) → IsEnding start bytes ending → IsMeant start bytes (record { frames = []; ending = ending })
meant-here start bytes ending ends = record { after = start; rest = bytes; splits = splits-none start bytes; ends = ends }

-- a frame, and the meaning of what follows
meant-after : (start : ℕ) (w : Wire) (bytes later : List ℕ) (m : Meaning) → IsFrame w → bytes ≡ wire_bytes w ++ later → IsMeant (start + length (wire_bytes w)) later m
    → IsMeant start bytes (record { frames = frame_of start w ∷ m.frames; ending = m.ending })
meant-after start w bytes later m p e f =
    let on = splits-on (splits-one start w bytes later p e) refl f.splits in
    record { after = on.end; rest = f.rest; splits = on.splits; ends = ending-offset f.after on.end f.rest m.ending (sym on.same) f.ends }

module _ (start : ℕ) (d : Descriptor) (part bytes : List ℕ) (words : HasWords d) (e : bytes ≡ descriptor_bytes d ++ part) (m : Meaning)
    (next : IsMeant (start + (20 + d.length)) (drop d.length part) m) where
  whole_frame : broken_rule d ≡ None → d.length ≤ length part
      → IsMeant start bytes (record { frames = frame_of start (record { descriptor = d; payload = take d.length part }) ∷ m.frames; ending = m.ending })
  whole_frame lawful many =
      let w : Wire = record { descriptor = d; payload = take d.length part } in
      let size : length (take d.length part) ≡ d.length = omega (arith, length-take d.length part) in
      let whole : IsFrame w = record { words = words; lawful = lawful; whole = size } in
      let cut : bytes ≡ wire_bytes w ++ drop d.length part =
      e ∙ (ap (λ b. descriptor_bytes d ++ b) (sym (take-append-drop d.length part)) ∙ sym (append_assoc (descriptor_bytes d) (take d.length part) (drop d.length part))) in
      let there : 20 + d.length ≡ length (wire_bytes w) = sym (length-wire w ∙ ap (λ n. 20 + n) size) in
      meant-after start w bytes (drop d.length part) m whole cut (rw (sym there) next)

  meant-described : (rule : Option (FrameFault × ℕ)) → broken_rule d ≡ rule → IsMeant start bytes (described start d part rule m)
  meant-described (Some rule) broken = meant-here start bytes (Broken rule.0 (offset_at (start + rule.1))) (rule.1, (d, part, words, e, broken), refl)
  meant-described None lawful =
      cond_both (nat_lt (length part) d.length) unfinished
      (record { frames = frame_of start (record { descriptor = d; payload = take d.length part }) ∷ m.frames; ending = m.ending })
      (IsMeant start bytes)
      (λ few. meant-here start bytes Unfinished (inr (d, part, words, e, lawful, ltb-true (length part) d.length few)))
      (λ many. whole_frame lawful (ltb-false (length part) d.length many))

meant : (fuel start : ℕ) (bytes : List ℕ) → length bytes < fuel → AreBytes bytes → IsMeant start bytes (meant_from fuel start bytes)
meant zero start bytes short fits = absurd (omega arith)
meant (suc fuel) start bytes short fits =
    cond_both (nat_lt (length bytes) 20) unfinished
    (described start (descriptor_in (take 20 bytes)) (drop 20 bytes) (broken_rule (descriptor_in (take 20 bytes)))
    (meant_from fuel (start + (20 + (descriptor_in (take 20 bytes)).length)) (drop (descriptor_in (take 20 bytes)).length (drop 20 bytes))))
    (IsMeant start bytes)
    (λ few. meant-here start bytes Unfinished (inl (ltb-true (length bytes) 20 few)))
    (λ more.
    let many : 20 ≤ length bytes = ltb-false (length bytes) 20 more in
    let head = take-bytes 20 bytes fits in
    let twenty : length (take 20 bytes) ≡ 20 = omega (arith, length-take 20 bytes) in
    let cut : bytes ≡ descriptor_bytes (descriptor_in (take 20 bytes)) ++ drop 20 bytes =
    sym (take-append-drop 20 bytes) ∙ ap (λ b. b ++ drop 20 bytes) (sym (bytes-descriptor_in (take 20 bytes) head twenty)) in
    meant-described start (descriptor_in (take 20 bytes)) (drop 20 bytes) bytes (words-descriptor_in (take 20 bytes) head) cut
    (meant_from fuel (start + (20 + (descriptor_in (take 20 bytes)).length)) (drop (descriptor_in (take 20 bytes)).length (drop 20 bytes)))
    (meant fuel (start + (20 + (descriptor_in (take 20 bytes)).length)) (drop (descriptor_in (take 20 bytes)).length (drop 20 bytes))
    (omega (arith, short, many, length-drop 20 bytes, length-drop (descriptor_in (take 20 bytes)).length (drop 20 bytes)))
    (drop-bytes (descriptor_in (take 20 bytes)).length (drop 20 bytes) (drop-bytes 20 bytes fits)))
    (broken_rule (descriptor_in (take 20 bytes))) refl)

pub meaning-read : (bytes : List ℕ) → AreBytes bytes → IsRead bytes (meaning_of bytes).frames (meaning_of bytes).ending
unfolding meaning_of
meaning-read bytes fits =
    let f = meant (suc (length bytes)) 0 bytes (omega arith) fits in
    (f.after, f.rest, f.splits, f.ends)

-- ---- and it has no other, also where some of its numbers are no bytes

-- behind a descriptor stands what it is read with
meant-descriptor : (most start : ℕ) (d : Descriptor) (behind bytes : List ℕ) → HasWords d → bytes ≡ descriptor_bytes d ++ behind
    → meant_from (suc most) start bytes ≡ described start d behind (broken_rule d) (meant_from most (start + (20 + d.length)) (drop d.length behind))
meant-descriptor most start d behind bytes words e =
    let front : take 20 bytes ≡ descriptor_bytes d = ap (take 20) e ∙ take_at (descriptor_bytes d) behind 20 (length-descriptor_bytes d) in
    let rest : drop 20 bytes ≡ behind = ap (drop 20) e ∙ drop_at (descriptor_bytes d) behind 20 (length-descriptor_bytes d) in
    let there : descriptor_in (take 20 bytes) ≡ d = ap descriptor_in front ∙ descriptor_in-bytes d words in
    let long : nat_lt (length bytes) 20 ≡ false = le-ltb (length bytes) 20 (omega (arith, ap length e, length-append (descriptor_bytes d) behind, length-descriptor_bytes d)) in
    cond-false (nat_lt (length bytes) 20) unfinished
    (described start (descriptor_in (take 20 bytes)) (drop 20 bytes) (broken_rule (descriptor_in (take 20 bytes)))
    (meant_from most (start + (20 + (descriptor_in (take 20 bytes)).length)) (drop (descriptor_in (take 20 bytes)).length (drop 20 bytes)))) long
    ∙ ap (λ b. described start (descriptor_in (take 20 bytes)) b (broken_rule (descriptor_in (take 20 bytes)))
    (meant_from most (start + (20 + (descriptor_in (take 20 bytes)).length)) (drop (descriptor_in (take 20 bytes)).length b))) rest
    ∙ ap (λ x. described start x behind (broken_rule x) (meant_from most (start + (20 + Descriptor.length x)) (drop (Descriptor.length x) behind))) there

-- less than a frame
meant-begun : (fuel start : ℕ) (bytes : List ℕ) → IsBegun bytes → meant_from fuel start bytes ≡ unfinished
meant-begun zero start bytes begun = refl
meant-begun (suc fuel) start bytes (inl short) =
    cond-true (nat_lt (length bytes) 20) unfinished
    (described start (descriptor_in (take 20 bytes)) (drop 20 bytes) (broken_rule (descriptor_in (take 20 bytes)))
    (meant_from fuel (start + (20 + (descriptor_in (take 20 bytes)).length)) (drop (descriptor_in (take 20 bytes)).length (drop 20 bytes))))
    (lt-ltb (length bytes) 20 short)
meant-begun (suc fuel) start bytes (inr (d, part, words, e, lawful, few)) =
    meant-descriptor fuel start d part bytes words e
    ∙ ap (λ rule. described start d part rule (meant_from fuel (start + (20 + d.length)) (drop d.length part))) lawful
    ∙ cond-true (nat_lt (length part) d.length) unfinished
    (record {
      frames = frame_of start (record { descriptor = d; payload = take d.length part })
          ∷ (meant_from fuel (start + (20 + d.length)) (drop d.length part)).frames;
      ending = (meant_from fuel (start + (20 + d.length)) (drop d.length part)).ending;
    })
    (lt-ltb (length part) d.length few)

-- a rest with its ending
meant-ending : (fuel start : ℕ) (bytes : List ℕ) (ending : Ending) → length bytes < fuel → IsEnding start bytes ending
    → meant_from fuel start bytes ≡ record { frames = []; ending = ending }
meant-ending fuel start bytes Unfinished short begun = meant-begun fuel start bytes begun
meant-ending zero start bytes (Broken fault at) short broken = absurd (omega arith)
meant-ending (suc fuel) start bytes (Broken fault at) short (place, (d, later, words, e, rule), at_is) =
    meant-descriptor fuel start d later bytes words e
    ∙ ap (λ r. described start d later r (meant_from fuel (start + (20 + d.length)) (drop d.length later))) rule
    ∙ ap (λ n. record { frames = []; ending = Broken fault n }) (sym at_is)

-- one whole frame with what stands behind it
meant-frame : (fuel start : ℕ) (w : Wire) (behind bytes : List ℕ) → IsFrame w → bytes ≡ descriptor_bytes w.descriptor ++ (w.payload ++ behind)
    → meant_from (suc fuel) start bytes ≡ record {
      frames = frame_of start w ∷ (meant_from fuel (start + length (wire_bytes w)) behind).frames;
      ending = (meant_from fuel (start + length (wire_bytes w)) behind).ending;
    }
meant-frame fuel start w behind bytes p e =
    let d = w.descriptor in
    let enough : nat_lt (length (w.payload ++ behind)) d.length ≡ false =
    le-ltb (length (w.payload ++ behind)) d.length (omega (arith, p.whole, length-append w.payload behind)) in
    let here : take d.length (w.payload ++ behind) ≡ w.payload = take_at w.payload behind d.length p.whole in
    let there : drop d.length (w.payload ++ behind) ≡ behind = drop_at w.payload behind d.length p.whole in
    let size : 20 + d.length ≡ length (wire_bytes w) = sym (length-wire w ∙ ap (λ n. 20 + n) p.whole) in
    meant-descriptor fuel start d (w.payload ++ behind) bytes p.words e
    ∙ ap (λ rule. described start d (w.payload ++ behind) rule (meant_from fuel (start + (20 + d.length)) (drop d.length (w.payload ++ behind)))) p.lawful
    ∙ cond-false (nat_lt (length (w.payload ++ behind)) d.length) unfinished
    (record {
      frames = frame_of start (record { descriptor = d; payload = take d.length (w.payload ++ behind) })
          ∷ (meant_from fuel (start + (20 + d.length)) (drop d.length (w.payload ++ behind))).frames;
      ending = (meant_from fuel (start + (20 + d.length)) (drop d.length (w.payload ++ behind))).ending;
    }) enough
    ∙ ap (λ b. let m : Meaning = record {
      frames = frame_of start (record { descriptor = d; payload = take d.length (w.payload ++ behind) }) ∷ (meant_from fuel (start + (20 + d.length)) b).frames;
      ending = (meant_from fuel (start + (20 + d.length)) b).ending;
    } in m) there
    ∙ ap (λ b. let m : Meaning = record {
      frames = frame_of start (record { descriptor = d; payload = b }) ∷ (meant_from fuel (start + (20 + d.length)) behind).frames;
      ending = (meant_from fuel (start + (20 + d.length)) behind).ending;
    } in m) here
    ∙ ap (λ n. let m : Meaning = record {
      frames = frame_of start w ∷ (meant_from fuel (start + n) behind).frames;
      ending = (meant_from fuel (start + n) behind).ending;
    } in m) size

-- whole frames, and then a rest with its ending
meant-whole : (fuel start : ℕ) (ws : List Wire) (bytes rest : List ℕ) (ending : Ending) → length bytes < fuel → AllByRecursion IsFrame ws
    → bytes ≡ flat_map wire_bytes ws ++ rest → IsEnding (start + length (flat_map wire_bytes ws)) rest ending
    → meant_from fuel start bytes ≡ record { frames = frames_from start ws; ending = ending }
meant-whole zero start ws bytes rest ending short each e ends = absurd (omega arith)
meant-whole (suc fuel) start [] bytes rest ending short each e ends =
    let there : start + 0 ≡ start = omega arith in
    meant-ending (suc fuel) start bytes ending short (rw e (rw there at ends))
meant-whole (suc fuel) start (w ∷ ws) bytes rest ending short each e ends =
    let cut : bytes ≡ descriptor_bytes w.descriptor ++ (w.payload ++ (flat_map wire_bytes ws ++ rest)) =
    e ∙ append_assoc (wire_bytes w) (flat_map wire_bytes ws) rest ∙ append_assoc (descriptor_bytes w.descriptor) w.payload (flat_map wire_bytes ws ++ rest) in
    let fewer : length (flat_map wire_bytes ws ++ rest) < fuel =
    omega (
      arith,
      short,
      ap length e,
      ap length (append_assoc (wire_bytes w) (flat_map wire_bytes ws) rest),
      length-append (wire_bytes w) (flat_map wire_bytes ws ++ rest),
      length-wire w,
    ) in
    let at : start + length (flat_map wire_bytes (w ∷ ws)) ≡ start + length (wire_bytes w) + length (flat_map wire_bytes ws) =
    omega (arith, length-append (wire_bytes w) (flat_map wire_bytes ws)) in
    let rest_is : meant_from fuel (start + length (wire_bytes w)) (flat_map wire_bytes ws ++ rest) ≡ record { frames = frames_from (start + length (wire_bytes w)) ws; ending = ending } =
    meant-whole fuel (start + length (wire_bytes w)) ws (flat_map wire_bytes ws ++ rest) rest ending fewer each.1 refl (subst (λ n. IsEnding n rest ending) at ends) in
    meant-frame fuel start w (flat_map wire_bytes ws ++ rest) bytes each.0 cut
    ∙ ap (λ (m : Meaning). let k : Meaning = record { frames = frame_of start w ∷ m.frames; ending = m.ending } in k) rest_is

read-meant : (bytes : List ℕ) (frames : List Frame) (ending : Ending) → IsRead bytes frames ending → meant_from (suc (length bytes)) 0 bytes ≡ record { frames = frames; ending = ending }
read-meant bytes frames ending (after, rest, s, ends) =
    meant-whole (suc (length bytes)) 0 s.whole bytes rest ending (omega arith) s.each s.bytes_are (subst (λ n. IsEnding n rest ending) s.after_is ends)
    ∙ ap (λ fs. let m : Meaning = record { frames = fs; ending = ending } in m) (sym s.frames_are)

pub read-only : (bytes : List ℕ) (frames : List Frame) (ending : Ending) → IsRead bytes frames ending → (frames ≡ frames_in bytes) × (ending ≡ ending_in bytes)
unfolding meaning_of
read-only bytes frames ending read =
    let same = read-meant bytes frames ending read in
    (ap (λ m. Meaning.frames m) (sym same), ap (λ m. Meaning.ending m) (sym same))

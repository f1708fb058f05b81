-- What whole frames and a rest keep: they go on, and each list of bytes has one reading.
use Rattle.std.proofs.Common.{◌≡◌, ℕ, zero, suc, ◌+◌, ◌<◌, ◌≤◌, List, [], ◌∷◌, ◌++◌, length, take, drop, refl, sym, ◌∙◌, ap, inl, inr, ◌⊎◌, arith, length-append, length-drop, length-take, append_assoc, append-nil, Option, Some, None}
use Rattle.std.specs.List.{flat_map, AllByRecursion}
use Rattle.std.proofs.lemmas.List.{take-append-drop}
use Rattle.std.proofs.lemmas.List.Concat.{flat_map-append}
use Rattle.px_frame.specs.declared.descriptor.Descriptor.{Descriptor}
use Rattle.px_frame.specs.declared.fault.FrameFault.{FrameFault}
use Rattle.px_frame.specs.declared.frame.Frame.{Frame}
use Rattle.px_frame.specs.Descriptor.{descriptor_bytes, HasWords, broken_rule, AreBytes, descriptor_in}
use Rattle.px_frame.specs.Frame.{Wire, wire_bytes, IsFrame, offset_at, body_of, frame_of}
use Rattle.px_frame.specs.Reading.{frames_from, Splits, IsBegun, IsBroken, Ending, Unfinished, Broken, IsEnding, IsRead, HasOneReading}
use Rattle.px_frame.proofs.DescriptorLemmas.{length-descriptor_bytes, descriptor-unique, take-bytes, drop-bytes, words-descriptor_in, bytes-descriptor_in}

-- offsets that are kept as one number count on as one
offset_at-add : (a b n : ℕ) → offset_at a ≡ offset_at b → offset_at (a + n) ≡ offset_at (b + n)
offset_at-add a b n e = omega arith

-- and frames there say the same
frames_from-offset : (a b : ℕ) (ws : List Wire) → offset_at a ≡ offset_at b → frames_from a ws ≡ frames_from b ws
frames_from-offset a b [] e = refl
frames_from-offset a b (w ∷ ws) e =
    let at = offset_at-add a b 20 e in
    let rest = frames_from-offset (a + length (wire_bytes w)) (b + length (wire_bytes w)) ws (offset_at-add a b (length (wire_bytes w)) e) in
    let P : ℕ → List Frame → Type 0 = λ n fs. record { at = n; body = body_of w.descriptor w.payload } ∷ fs ≡ frames_from b (w ∷ ws) in
    rw (at, rest) refl

frames_from-append : (start : ℕ) (ws vs : List Wire) → frames_from start (ws ++ vs) ≡ frames_from start ws ++ frames_from (start + length (flat_map wire_bytes ws)) vs
frames_from-append start [] vs = ap (λ n. frames_from n vs) (omega arith)
frames_from-append start (w ∷ ws) vs =
    ap (λ fs. frame_of start w ∷ fs)
    (frames_from-append (start + length (wire_bytes w)) ws vs
    ∙ ap (λ n. frames_from (start + length (wire_bytes w)) ws ++ frames_from n vs) (omega (arith, length-append (wire_bytes w) (flat_map wire_bytes ws))))

each-append : (ws vs : List Wire) → AllByRecursion IsFrame ws → AllByRecursion IsFrame vs → AllByRecursion IsFrame (ws ++ vs)
each-append [] vs p q = q
each-append (w ∷ ws) vs p q = (p.0, each-append ws vs p.1 q)

-- no whole frames
pub splits-none : (start : ℕ) (bytes : List ℕ) → Splits start bytes [] start bytes
splits-none start bytes = record {
  whole = [];
  each = tt;
  bytes_are = refl;
  frames_are = refl;
  after_is = omega arith;
}

-- one whole frame
pub splits-one : (start : ℕ) (w : Wire) (bytes rest : List ℕ) → IsFrame w → bytes ≡ wire_bytes w ++ rest → Splits start bytes (frame_of start w ∷ []) (start + length (wire_bytes w)) rest
splits-one start w bytes rest p e = record {
  whole = w ∷ [];
  each = (p, tt);
  bytes_are = e ∙ ap (λ b. b ++ rest) (sym (append-nil (wire_bytes w)));
  frames_are = refl;
  after_is = omega (arith, length-append (wire_bytes w) []);
}

-- more bytes belong to the rest
pub splits-more : {start after : ℕ} {bytes rest : List ℕ} {frames : List Frame} (more : List ℕ) → Splits start bytes frames after rest → Splits start (bytes ++ more) frames after (rest ++ more)
splits-more more s = record {
  whole = s.whole;
  each = s.each;
  bytes_are = ap (λ b. b ++ more) s.bytes_are ∙ append_assoc _ _ more;
  frames_are = s.frames_are;
  after_is = s.after_is;
}

-- the rest has whole frames of its own
pub record GoesOn (start : ℕ) (bytes : List ℕ) (frames : List Frame) (after : ℕ) (rest : List ℕ) : Type 0 where
  pub end : ℕ
  pub splits : Splits start bytes frames end rest
  pub same : offset_at end ≡ offset_at after

pub splits-on : {start after from end : ℕ} {bytes rest last : List ℕ} {frames more : List Frame} →
    Splits start bytes frames after rest → offset_at after ≡ offset_at from → Splits from rest more end last → GoesOn start bytes (frames ++ more) end last
splits-on {start} {after} {from} {end} {bytes} {rest} {last} {frames} {more} s e t = record {
  end = after + length (flat_map wire_bytes t.whole);
  splits = record {
    whole = s.whole ++ t.whole;
    each = each-append s.whole t.whole s.each t.each;
    bytes_are =
        s.bytes_are ∙ (ap (λ b. flat_map wire_bytes s.whole ++ b) t.bytes_are
        ∙ (sym (append_assoc (flat_map wire_bytes s.whole) (flat_map wire_bytes t.whole) last) ∙ ap (λ b. b ++ last) (sym (flat_map-append wire_bytes s.whole t.whole))));
    frames_are =
        let there : more ≡ frames_from (start + length (flat_map wire_bytes s.whole)) t.whole =
        t.frames_are ∙ (sym (frames_from-offset after from t.whole e) ∙ ap (λ n. frames_from n t.whole) s.after_is) in
        rw (there, s.frames_are) (sym (frames_from-append start s.whole t.whole));
    after_is = omega (arith, s.after_is, ap length (flat_map-append wire_bytes s.whole t.whole), length-append (flat_map wire_bytes s.whole) (flat_map wire_bytes t.whole));
  };
  same =
      let at = offset_at-add after from (length (flat_map wire_bytes t.whole)) e in
      at ∙ ap offset_at (sym t.after_is);
}

-- equal lists that begin with parts of one length
parts-same : (a b x y : List ℕ) → length a ≡ length b → a ++ x ≡ b ++ y → (a ≡ b) × (x ≡ y)
parts-same [] [] x y n e = (refl, e)
parts-same [] (c ∷ b) x y n e = absurd (omega arith)
parts-same (c ∷ a) [] x y n e = absurd (omega arith)
parts-same (c ∷ a) (d ∷ b) x y n e =
    let tails : a ++ x ≡ b ++ y = cc in
    let lengths : length a ≡ length b = omega arith in
    let rest = parts-same a b x y lengths tails in
    let heads : c ≡ d = cc in
    let front : a ≡ b = rest.0 in
    (cc, rest.1)

-- the same frame begins equal bytes
wire-same : (w v : Wire) → w.descriptor ≡ v.descriptor → w.payload ≡ v.payload → w ≡ v
wire-same w v p q =
    let made = λ (d : Descriptor) (b : List ℕ). let x : Wire = record { descriptor = d; payload = b } in x in
    let same : made w.descriptor w.payload ≡ made v.descriptor v.payload = rw (p, q) refl in
    same

frame-unique : (w v : Wire) (x y : List ℕ) → IsFrame w → IsFrame v → wire_bytes w ++ x ≡ wire_bytes v ++ y → (w ≡ v) × (x ≡ y)
frame-unique w v x y p q e =
    let regrouped : descriptor_bytes w.descriptor ++ (w.payload ++ x) ≡ descriptor_bytes v.descriptor ++ (v.payload ++ y) =
    sym (append_assoc _ w.payload x) ∙ (e ∙ append_assoc _ v.payload y) in
    let head = descriptor-unique w.descriptor v.descriptor (w.payload ++ x) (v.payload ++ y) p.words q.words regrouped in
    let lengths : length w.payload ≡ length v.payload = p.whole ∙ (ap (λ d. d.length) head.0 ∙ sym q.whole) in
    let tail = parts-same w.payload v.payload x y lengths head.1 in
    (wire-same w v head.0 tail.0, tail.1)

pub length-wire : (w : Wire) → length (wire_bytes w) ≡ 20 + length w.payload
length-wire w = length-append (descriptor_bytes w.descriptor) w.payload ∙ ap (λ n. n + length w.payload) (length-descriptor_bytes w.descriptor)

wire-then : (w : Wire) (x : List ℕ) → wire_bytes w ++ x ≡ descriptor_bytes w.descriptor ++ (w.payload ++ x)
wire-then w x = append_assoc (descriptor_bytes w.descriptor) w.payload x

-- a descriptor that breaks a rule isn't one that breaks none
not-both : (d e : Descriptor) (b : FrameFault × ℕ) → d ≡ e → broken_rule d ≡ None → broken_rule e ≡ Some b → ⊥
not-both d e b same none some =
    let clash : ◌≡◌ {A = Option (FrameFault × ℕ)} None (Some b) = sym none ∙ (ap broken_rule same ∙ some) in
    cc

-- less than a frame doesn't begin with one
begun-not_frame : (w : Wire) (rest x : List ℕ) → IsFrame w → rest ≡ wire_bytes w ++ x → IsBegun rest → ⊥
begun-not_frame w rest x p e begun =
    elim begun [
      | inl short ↦ omega (arith, short, ap length e, length-append (wire_bytes w) x, length-wire w)
      | inr b ↦
          let same = descriptor-unique b.0 w.descriptor b.1 (w.payload ++ x) b.2 p.words (sym b.3 ∙ (e ∙ wire-then w x)) in
          omega (arith, b.5, p.whole, ap length same.1, length-append w.payload x, ap (λ d. d.length) same.0)
    ]

-- nor does a descriptor that breaks a rule begin one
broken-not_frame : (w : Wire) (rest x : List ℕ) (fault : FrameFault) (place : ℕ) → IsFrame w → rest ≡ wire_bytes w ++ x → IsBroken rest fault place → ⊥
broken-not_frame w rest x fault place p e b =
    let same = descriptor-unique b.0 w.descriptor b.1 (w.payload ++ x) b.2 p.words (sym b.3 ∙ (e ∙ wire-then w x)) in
    not-both w.descriptor b.0 (fault, place) (sym same.0) p.lawful b.4

-- nor does it stand in less than a frame
broken-not_begun : (rest : List ℕ) (fault : FrameFault) (place : ℕ) → IsBegun rest → IsBroken rest fault place → ⊥
broken-not_begun rest fault place begun b =
    elim begun [
      | inl short ↦ omega (arith, short, ap length b.3, length-append (descriptor_bytes b.0) b.1, length-descriptor_bytes b.0)
      | inr g ↦
          let same = descriptor-unique g.0 b.0 g.1 b.1 g.2 b.2 (sym g.3 ∙ b.3) in
          not-both g.0 b.0 (fault, place) same.0 g.4 b.4
    ]

-- a fault of these bytes is this one
broken-unique : (rest : List ℕ) (fault other : FrameFault) (place there : ℕ) → IsBroken rest fault place → IsBroken rest other there → (fault ≡ other) × (place ≡ there)
broken-unique rest fault other place there b c =
    let same = descriptor-unique b.0 c.0 b.1 c.1 b.2 c.2 (sym b.3 ∙ c.3) in
    let rules : ◌≡◌ {A = Option (FrameFault × ℕ)} (Some (fault, place)) (Some (other, there)) = sym b.4 ∙ (ap broken_rule same.0 ∙ c.4) in
    let pairs : ◌≡◌ {A = FrameFault × ℕ} (fault, place) (other, there) = cc in
    (ap (λ p. p.0) pairs, ap (λ p. p.1) pairs)

-- the same rest at the same offset ends in one way
ending-unique : (after : ℕ) (rest : List ℕ) (one other : Ending) → IsEnding after rest one → IsEnding after rest other → one ≡ other
ending-unique after rest Unfinished Unfinished p q = refl
ending-unique after rest Unfinished (Broken fault at) p q = absurd (broken-not_begun rest fault q.0 p q.1)
ending-unique after rest (Broken fault at) Unfinished p q = absurd (broken-not_begun rest fault p.0 q p.1)
ending-unique after rest (Broken fault at) (Broken other there) p q =
    let same = broken-unique rest fault other p.0 q.0 p.1 q.1 in
    let offsets : at ≡ there = p.2 ∙ (ap (λ n. offset_at (after + n)) same.1 ∙ sym q.2) in
    let faults : fault ≡ other = same.0 in
    cc

-- a rest that has an ending begins with no whole frame
ending-not_frame : (after : ℕ) (w : Wire) (rest x : List ℕ) (ending : Ending) → IsFrame w → rest ≡ wire_bytes w ++ x → IsEnding after rest ending → ⊥
ending-not_frame after w rest x Unfinished p e begun = begun-not_frame w rest x p e begun
ending-not_frame after w rest x (Broken fault at) p e b = broken-not_frame w rest x fault b.0 p e b.1

-- two readings of the same bytes have the same frames and the same rest
wholes-unique : (ws vs : List Wire) (x y : List ℕ) (a b : ℕ) (one other : Ending) → AllByRecursion IsFrame ws → AllByRecursion IsFrame vs
    → flat_map wire_bytes ws ++ x ≡ flat_map wire_bytes vs ++ y → IsEnding a x one → IsEnding b y other → (ws ≡ vs) × (x ≡ y)
wholes-unique [] [] x y a b one other p q e r s = (refl, e)
wholes-unique [] (v ∷ vs) x y a b one other p q e r s =
    absurd (ending-not_frame a v x (flat_map wire_bytes vs ++ y) one q.0 (e ∙ append_assoc (wire_bytes v) (flat_map wire_bytes vs) y) r)
wholes-unique (w ∷ ws) [] x y a b one other p q e r s =
    absurd (ending-not_frame b w y (flat_map wire_bytes ws ++ x) other p.0 (sym e ∙ append_assoc (wire_bytes w) (flat_map wire_bytes ws) x) s)
wholes-unique (w ∷ ws) (v ∷ vs) x y a b one other p q e r s =
    let head = frame-unique w v (flat_map wire_bytes ws ++ x) (flat_map wire_bytes vs ++ y) p.0 q.0
    (sym (append_assoc (wire_bytes w) (flat_map wire_bytes ws) x) ∙ (e ∙ append_assoc (wire_bytes v) (flat_map wire_bytes vs) y)) in
    let tail = wholes-unique ws vs x y a b one other p.1 q.1 head.1 r s in
    let first : w ≡ v = head.0 in
    let others : ws ≡ vs = tail.0 in
    (cc, tail.1)

-- each list of bytes has at most one reading
pub reading-unique : (bytes : List ℕ) (frames others : List Frame) (one other : Ending) → IsRead bytes frames one → IsRead bytes others other → (others ≡ frames) × (other ≡ one)
reading-unique bytes frames others one other p q =
    let s = p.2 in
    let t = q.2 in
    let same = wholes-unique t.whole s.whole q.1 p.1 q.0 p.0 other one t.each s.each (sym t.bytes_are ∙ s.bytes_are) q.3 p.3 in
    let there : q.0 ≡ p.0 = t.after_is ∙ (ap (λ ws. 0 + length (flat_map wire_bytes ws)) same.0 ∙ sym s.after_is) in (
      t.frames_are ∙ (ap (frames_from 0) same.0 ∙ sym s.frames_are),
      ending-unique p.0 p.1 other one (rw there at (rw same.1 at q.3)) p.3,
    )

-- some reading from there on
record Found (start : ℕ) (bytes : List ℕ) : Type 0 where
  frames : List Frame
  after : ℕ
  rest : List ℕ
  ending : Ending
  splits : Splits start bytes frames after rest
  ends : IsEnding after rest ending

-- an ending that stands at the start
found-here : (start : ℕ) (bytes : List ℕ) (ending : Ending) → IsEnding start bytes ending → Found start bytes
found-here start bytes ending ends = record {
  frames = [];
  after = start;
  rest = bytes;
  ending = ending;
  splits = splits-none start bytes;
  ends = ends;
}

-- what matters of the offset is what is kept of it
pub ending-offset : (a b : ℕ) (rest : List ℕ) (ending : Ending) → offset_at a ≡ offset_at b → IsEnding a rest ending → IsEnding b rest ending
ending-offset a b rest Unfinished e begun = begun
ending-offset a b rest (Broken fault at) e p = (p.0, p.1, p.2 ∙ offset_at-add a b p.0 e)

-- a frame, and a reading of what follows
found-after : (start : ℕ) (w : Wire) (bytes later : List ℕ) → IsFrame w → bytes ≡ wire_bytes w ++ later → Found (start + length (wire_bytes w)) later → Found start bytes
found-after start w bytes later p e f =
    let on = splits-on (splits-one start w bytes later p e) refl f.splits in
    record {
      frames = frame_of start w ∷ f.frames;
      after = on.end;
      rest = f.rest;
      ending = f.ending;
      splits = on.splits;
      ends = ending-offset f.after on.end f.rest f.ending (sym on.same) f.ends;
    }

-- one number is below another, or it isn't
lt-or-le : (a b : ℕ) → (a < b) ⊎ (b ≤ a)
lt-or-le a zero = inr (omega arith)
lt-or-le zero (suc b) = inl (omega arith)
lt-or-le (suc a) (suc b) = elim (lt-or-le a b) [ inl h ↦ inl (omega arith) | inr h ↦ inr (omega arith) ]

-- behind a whole descriptor, where all shorter lists have a reading
module _ (fuel : ℕ) (next : (start : ℕ) (bytes : List ℕ) → length bytes < fuel → AreBytes bytes → Found start bytes)
    (start : ℕ) (d : Descriptor) (part bytes : List ℕ) (words : HasWords d) (fits : AreBytes part) (e : bytes ≡ descriptor_bytes d ++ part) (short : length bytes ≤ fuel) where
  found-lawful : broken_rule d ≡ None → (length part < d.length) ⊎ (d.length ≤ length part) → Found start bytes
  found-lawful lawful (inl few) = found-here start bytes Unfinished (inr (d, part, words, e, lawful, few))
  found-lawful lawful (inr many) =
      let w : Wire = record { descriptor = d; payload = take d.length part } in
      let whole : IsFrame w = record { words = words; lawful = lawful; whole = omega (arith, length-take d.length part) } in
      let cut : bytes ≡ wire_bytes w ++ drop d.length part =
      e ∙ (ap (λ b. descriptor_bytes d ++ b) (sym (take-append-drop d.length part)) ∙ sym (wire-then w (drop d.length part))) in
      found-after start w bytes (drop d.length part) whole cut
      (next (start + length (wire_bytes w)) (drop d.length part)
      (omega (arith, length-drop d.length part, ap length e, length-append (descriptor_bytes d) part, length-descriptor_bytes d))
      (drop-bytes d.length part fits))

  found-descriptor : (rule : Option (FrameFault × ℕ)) → broken_rule d ≡ rule → Found start bytes
  found-descriptor None lawful = found-lawful lawful (lt-or-le (length part) d.length)
  found-descriptor (Some b) rule =
      found-here start bytes (Broken b.0 (offset_at (start + b.1))) (b.1, (d, part, words, e, rule), refl)

found : (fuel start : ℕ) (bytes : List ℕ) → length bytes < fuel → AreBytes bytes → Found start bytes
found zero start bytes short fits = absurd (omega arith)
found (suc fuel) start bytes short fits =
    elim (lt-or-le (length bytes) 20) [
      | inl few ↦ found-here start bytes Unfinished (inl few)
      | inr many ↦
          let head = take-bytes 20 bytes fits in
          let d = descriptor_in (take 20 bytes) in
          let twenty : length (take 20 bytes) ≡ 20 = omega (arith, length-take 20 bytes) in
          let cut : bytes ≡ descriptor_bytes d ++ drop 20 bytes =
          sym (take-append-drop 20 bytes) ∙ ap (λ b. b ++ drop 20 bytes) (sym (bytes-descriptor_in (take 20 bytes) head twenty)) in
          found-descriptor fuel (found fuel) start d (drop 20 bytes) bytes (words-descriptor_in (take 20 bytes) head) (drop-bytes 20 bytes fits) cut (omega arith)
          (broken_rule d) refl
    ]

-- each list of bytes has a reading, and no other
pub one-reading : (bytes : List ℕ) → AreBytes bytes → HasOneReading bytes
one-reading bytes fits =
    let f = found (suc (length bytes)) 0 bytes (omega arith) fits in
    let read : IsRead bytes f.frames f.ending = (f.after, f.rest, f.splits, f.ends) in
    (f.frames, f.ending, read, λ others other p. reading-unique bytes f.frames others f.ending other read p)

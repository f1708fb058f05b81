-- The segments that a feed gives are those that a connection's bytes newly have.
use Rattle.std.proofs.Common.{◌≡◌, ℕ, ◌+◌, ◌<◌, ◌≤◌, ◌^◌, List, [], ◌∷◌, ◌++◌, map, length, take, drop, refl, ap, sym, subst, ◌∙◌, append-nil, arith, inl, inr, drop-drop}
use Rattle.std.proofs.lemmas.Bool.{cond_both}
use Rattle.std.proofs.lemmas.List.{append_assoc, length-append, map-append, drop-append-le, take-append-le}
use Rattle.std.proofs.Math.Seq.{drop-append_seam, drop-length}
use Rattle.std.specs.Prelude.{◌==◌}
use Rattle.std.specs.List.{flat_map, AllByRecursion}
use Rattle.px_frame.specs.declared.descriptor.Descriptor.{Descriptor}
use Rattle.px_frame.specs.declared.fault.FrameFault.{FrameFault}
use Rattle.px_frame.specs.declared.frame.Frame.{Frame}
use Rattle.px_frame.specs.declared.frame.Body.{Body}
use Rattle.px_frame.specs.declared.frame.Body.TheVariants.{Control, Write}
use Rattle.px_types.specs.declared.limits.TheConstants.{CONTROL_CHANNEL}
use Rattle.px_frame.specs.Descriptor.{descriptor_bytes, byte_offset, seek_of}
use Rattle.px_frame.specs.Frame.{Wire, wire_bytes, frame_of, IsFrame}
use Rattle.px_frame.specs.Meaning.{frames_in, ending_in}
use Rattle.px_frame.specs.Reading.{Ending, Unfinished, Broken, IsRead, Splits, frames_from, IsBegun}
use Rattle.px_frame.proofs.DescriptorLemmas.{length-descriptor_bytes, descriptor-unique}
use Rattle.px_frame.proofs.DecoderLemmas.{failed-more}
use Rattle.px_frame.proofs.MeaningLemmas.{read-only}
use Rattle.px_frame.proofs.ReadingLemmas.{length-wire}
use Rattle.px_sieve.specs.Segment.{payload_of, size_of, size_of_all, rest_in, faulty_at, segments_in, new_segments}
use Rattle.px_sieve.specs.Standing.{IsShort}
use Rattle.px_sieve.specs.declared.segment.Segment.TheVariants.{Whole, Faulty}

-- ---- sizes

size-frame : (start : ℕ) (w : Wire) → size_of (frame_of start w) ≡ length (wire_bytes w)
size-frame start w =
    cond_both (w.descriptor.channel == CONTROL_CHANNEL) (Control w.payload) (Write w.descriptor.channel (byte_offset w.descriptor) (seek_of w.descriptor) w.payload)
    (λ (b : Body). 20 + length (payload_of b) ≡ length (wire_bytes w)) (λ e. sym (length-wire w)) (λ e. sym (length-wire w))

size-frames : (start : ℕ) (ws : List Wire) → size_of_all (frames_from start ws) ≡ length (flat_map wire_bytes ws)
size-frames start [] = refl
size-frames start (w ∷ ws) =
    ap (λ n. n + size_of_all (frames_from (start + length (wire_bytes w)) ws)) (size-frame start w)
    ∙ ap (λ n. length (wire_bytes w) + n) (size-frames (start + length (wire_bytes w)) ws)
    ∙ sym (length-append (wire_bytes w) (flat_map wire_bytes ws))

pub size-append : (fs gs : List Frame) → size_of_all (fs ++ gs) ≡ size_of_all fs + size_of_all gs
size-append [] gs = omega arith
size-append (f ∷ fs) gs = let h = size-append fs gs in omega (arith, h)

-- ---- the rest after whole frames

-- the bytes before it
record Front (bytes rest : List ℕ) (frames : List Frame) : Type 0 where
  whole : List ℕ
  joined : bytes ≡ whole ++ rest
  size : length whole ≡ size_of_all frames

front-of : (bytes rest : List ℕ) (frames : List Frame) (after : ℕ) → Splits 0 bytes frames after rest → Front bytes rest frames
front-of bytes rest frames after s = record {
  whole = flat_map wire_bytes s.whole;
  joined = s.bytes_are;
  size = sym (ap size_of_all s.frames_are ∙ size-frames 0 s.whole);
}

pub rest-is : (bytes rest : List ℕ) (frames : List Frame) (after : ℕ) → Splits 0 bytes frames after rest → rest ≡ drop (size_of_all frames) bytes
rest-is bytes rest frames after s =
    let front = front-of bytes rest frames after s in
    sym (ap (drop (size_of_all frames)) front.joined ∙ ap (λ n. drop n (front.whole ++ rest)) (sym front.size) ∙ drop-append_seam front.whole rest)

-- all whole frames stand in the bytes
pub size-fits : (bytes rest : List ℕ) (frames : List Frame) (after : ℕ) → Splits 0 bytes frames after rest → size_of_all frames ≤ length bytes
size-fits bytes rest frames after s =
    let front = front-of bytes rest frames after s in
    omega (arith, front.size, ap length front.joined, length-append front.whole rest)

-- ---- a frame that further bytes complete

-- its bytes, and those before and after it
record Stands (f : Frame) (before : List Frame) (ws : List Wire) : Type 0 where
  wire : Wire
  is_frame : IsFrame wire
  size : size_of f ≡ length (wire_bytes wire)
  earlier : List ℕ
  later : List ℕ
  joined : flat_map wire_bytes ws ≡ earlier ++ (wire_bytes wire ++ later)
  fits : length earlier ≡ size_of_all before

first-same : (x y : Frame) (xs ys : List Frame) → x ∷ xs ≡ y ∷ ys → x ≡ y
first-same x y xs ys e = cc

others-same : (x y : Frame) (xs ys : List Frame) → x ∷ xs ≡ y ∷ ys → xs ≡ ys
others-same x y xs ys e = cc

none-some : (x : Frame) (xs : List Frame) → [] ≡ x ∷ xs → ⊥
none-some x xs e = cc

stands-at : (before : List Frame) (f : Frame) (after : List Frame) (start : ℕ) (ws : List Wire) → AllByRecursion IsFrame ws → frames_from start ws ≡ before ++ (f ∷ after) → Stands f before ws
stands-at [] f after start [] all e = absurd (none-some f after e)
stands-at [] f after start (w ∷ ws) all e =
    let same = first-same (frame_of start w) f (frames_from (start + length (wire_bytes w)) ws) after e in
    record {
      wire = w;
      is_frame = all.0;
      size = sym (ap size_of same) ∙ size-frame start w;
      earlier = [];
      later = flat_map wire_bytes ws;
      joined = refl;
      fits = refl;
    }
stands-at (g ∷ before) f after start [] all e = absurd (none-some g (before ++ (f ∷ after)) e)
stands-at (g ∷ before) f after start (w ∷ ws) all e =
    let more = frames_from (start + length (wire_bytes w)) ws in
    let same = first-same (frame_of start w) g more (before ++ (f ∷ after)) e in
    let s = stands-at before f after (start + length (wire_bytes w)) ws all.1 (others-same (frame_of start w) g more (before ++ (f ∷ after)) e) in
    record {
      wire = s.wire;
      is_frame = s.is_frame;
      size = s.size;
      earlier = wire_bytes w ++ s.earlier;
      later = s.later;
      joined = ap (λ l. wire_bytes w ++ l) s.joined ∙ sym (append_assoc (wire_bytes w) s.earlier (wire_bytes s.wire ++ s.later));
      fits = length-append (wire_bytes w) s.earlier ∙ ap (λ n. length (wire_bytes w) + n) s.fits ∙ ap (λ n. n + size_of_all before) (sym (size-frame start w) ∙ ap size_of same);
    }

-- less than a frame has fewer bytes than a frame that begins with it
begun-shorter : (w : Wire) (rest piece x : List ℕ) → IsFrame w → rest ++ piece ≡ wire_bytes w ++ x → IsBegun rest → length rest ≤ length (wire_bytes w)
begun-shorter w rest piece x p e begun =
    elim begun [
      | inl short ↦ omega (arith, short, length-wire w)
      | inr b ↦
          let same = descriptor-unique b.0 w.descriptor (b.1 ++ piece) (w.payload ++ x) b.2 p.words
          (sym (append_assoc (descriptor_bytes b.0) b.1 piece) ∙ sym (ap (λ l. l ++ piece) b.3) ∙ e ∙ append_assoc (descriptor_bytes w.descriptor) w.payload x) in
          let here : length b.1 < w.descriptor.length = subst (λ (d : Descriptor). length b.1 < d.length) same.0 b.5 in
          omega (arith, here, p.whole, length-wire w, ap length b.3, length-append (descriptor_bytes b.0) b.1, length-descriptor_bytes b.0)
    ]

-- and fits in 64 bits
begun-fits : (rest : List ℕ) → IsBegun rest → length rest < 2 ^ 64
begun-fits rest begun =
    elim begun [
      | inl short ↦ omega (arith, short)
      | inr b ↦ let words = b.2.length in omega (arith, words, b.5, ap length b.3, length-append (descriptor_bytes b.0) b.1, length-descriptor_bytes b.0)
    ]

-- ---- a feed that gives frames

module _ (received piece : List ℕ) (before more : List Frame) (ending : Ending) (was : IsRead received before Unfinished) (now : IsRead (received ++ piece) (before ++ more) ending) where
  -- the rest before it
  begun : IsBegun (drop (size_of_all before) received)
  begun = subst IsBegun (rest-is received was.1 before was.0 was.2) was.3

  -- the bytes after whole frames, and the piece
  with-piece : drop (size_of_all before) (received ++ piece) ≡ drop (size_of_all before) received ++ piece
  with-piece = drop-append-le (size_of_all before) received piece (size-fits received was.1 before was.0 was.2)

  pub short-before : IsShort (drop (size_of_all before) received) more
  short-before = go more now
    where
      go : (fs : List Frame) → IsRead (received ++ piece) (before ++ fs) ending → IsShort (drop (size_of_all before) received) fs
      go [] read = begun-fits (drop (size_of_all before) received) begun
      go (f ∷ fs) read =
          let rest = drop (size_of_all before) received in
          let s = stands-at before f fs 0 read.2.whole read.2.each (sym read.2.frames_are) in
          let cut : rest ++ piece ≡ wire_bytes s.wire ++ (s.later ++ read.1) =
          sym with-piece ∙ ap (drop (size_of_all before)) (read.2.bytes_are ∙ ap (λ l. l ++ read.1) s.joined ∙ append_assoc s.earlier (wire_bytes s.wire ++ s.later) read.1)
          ∙ ap (λ n. drop n (s.earlier ++ ((wire_bytes s.wire ++ s.later) ++ read.1))) (sym s.fits)
          ∙ drop-append_seam s.earlier ((wire_bytes s.wire ++ s.later) ++ read.1)
          ∙ append_assoc (wire_bytes s.wire) s.later read.1 in
          let shorter = begun-shorter s.wire rest piece (s.later ++ read.1) s.is_frame cut begun in
          (begun-fits rest begun, subst (λ n. length rest ≤ n) (sym s.size) shorter)

  -- the rest after it
  pub rest-after : drop (size_of_all (before ++ more)) (received ++ piece) ≡ drop (size_of_all more) (drop (size_of_all before) received ++ piece)
  rest-after =
      ap (λ n. drop n (received ++ piece)) (size-append before more)
      ∙ sym (drop-drop (size_of_all more) (size_of_all before) (received ++ piece))
      ∙ ap (drop (size_of_all more)) with-piece

-- ---- the segments that it gives

faulty-unfinished : (rest : List ℕ) (ending : Ending) → ending ≡ Unfinished → faulty_at rest ending ≡ []
faulty-unfinished rest ending e = ap (faulty_at rest) e

module _ (received piece : List ℕ) (more : List Frame) (ending : Ending) (was : IsRead received (frames_in received) Unfinished) (now : IsRead (received ++ piece) (frames_in received ++ more) ending) where
  pub frames-now : frames_in (received ++ piece) ≡ frames_in received ++ more
  frames-now = sym (read-only (received ++ piece) (frames_in received ++ more) ending now).0

  pub ending-now : ending_in (received ++ piece) ≡ ending
  ending-now = sym (read-only (received ++ piece) (frames_in received ++ more) ending now).1

  pub ending-was : ending_in received ≡ Unfinished
  ending-was = sym (read-only received (frames_in received) Unfinished was).1

  pub rest-now : rest_in (received ++ piece) ≡ drop (size_of_all more) (rest_in received ++ piece)
  rest-now = ap (λ fs. drop (size_of_all fs) (received ++ piece)) frames-now ∙ rest-after received piece (frames_in received) more ending was now

  segments-was : segments_in received ≡ map Whole (frames_in received)
  segments-was = ap (λ l. map Whole (frames_in received) ++ l) (faulty-unfinished (rest_in received) (ending_in received) ending-was) ∙ append-nil (map Whole (frames_in received))

  segments-now : segments_in (received ++ piece) ≡ map Whole (frames_in received) ++ (map Whole more ++ faulty_at (drop (size_of_all more) (rest_in received ++ piece)) ending)
  segments-now =
      ap (λ fs. map Whole fs ++ faulty_at (rest_in (received ++ piece)) (ending_in (received ++ piece))) frames-now
      ∙ ap (λ e. map Whole (frames_in received ++ more) ++ faulty_at (rest_in (received ++ piece)) e) ending-now
      ∙ ap (λ l. map Whole (frames_in received ++ more) ++ faulty_at l ending) rest-now
      ∙ ap (λ l. l ++ faulty_at (drop (size_of_all more) (rest_in received ++ piece)) ending) (map-append Whole (frames_in received) more)
      ∙ append_assoc (map Whole (frames_in received)) (map Whole more) (faulty_at (drop (size_of_all more) (rest_in received ++ piece)) ending)

  pub segments-given : new_segments received piece ≡ map Whole more ++ faulty_at (drop (size_of_all more) (rest_in received ++ piece)) ending
  segments-given =
      ap (λ l. drop (length l) (segments_in (received ++ piece))) segments-was
      ∙ ap (drop (length (map Whole (frames_in received)))) segments-now
      ∙ drop-append_seam (map Whole (frames_in received)) (map Whole more ++ faulty_at (drop (size_of_all more) (rest_in received ++ piece)) ending)

-- after a fault there are no more
module _ (received piece : List ℕ) (fault : FrameFault) (at : ℕ) (was : IsRead received (frames_in received) (Broken fault at)) where
  now-failed : IsRead (received ++ piece) (frames_in received) (Broken fault at)
  now-failed = failed-more piece was

  twenty-stays : take 20 (rest_in (received ++ piece)) ≡ take 20 (rest_in received)
  twenty-stays =
      let frames : frames_in (received ++ piece) ≡ frames_in received = sym (read-only (received ++ piece) (frames_in received) (Broken fault at) now-failed).0 in
      let rest : was.1 ≡ rest_in received = rest-is received was.1 (frames_in received) was.0 was.2 in
      let long : 20 ≤ length (rest_in received) =
      omega (arith, ap length (sym rest ∙ was.3.1.3), length-append (descriptor_bytes was.3.1.0) was.3.1.1, length-descriptor_bytes was.3.1.0) in
      ap (λ fs. take 20 (drop (size_of_all fs) (received ++ piece))) frames
      ∙ ap (take 20) (drop-append-le (size_of_all (frames_in received)) received piece (size-fits received was.1 (frames_in received) was.0 was.2))
      ∙ take-append-le 20 (rest_in received) piece long

  segments-stay : segments_in (received ++ piece) ≡ segments_in received
  segments-stay =
      ap (λ fs. map Whole fs ++ faulty_at (rest_in (received ++ piece)) (ending_in (received ++ piece))) (sym (read-only (received ++ piece) (frames_in received) (Broken fault at) now-failed).0)
      ∙ ap (λ e. map Whole (frames_in received) ++ faulty_at (rest_in (received ++ piece)) e) (sym (read-only (received ++ piece) (frames_in received) (Broken fault at) now-failed).1)
      ∙ ap (λ l. map Whole (frames_in received) ++ Faulty l fault at ∷ []) twenty-stays
      ∙ ap (λ e. map Whole (frames_in received) ++ faulty_at (rest_in received) e) (read-only received (frames_in received) (Broken fault at) was).1

  pub segments-none : new_segments received piece ≡ []
  segments-none = ap (drop (length (segments_in received))) segments-stay ∙ drop-length (segments_in received)

  pub ending-failed : ending_in (received ++ piece) ≡ Broken fault at
  ending-failed = sym (read-only (received ++ piece) (frames_in received) (Broken fault at) now-failed).1

-- Frames of a buffer's bytes.
use Rattle.std.proofs.Common.{◌≡◌, ℕ, zero, suc, ◌+◌, ◌-◌, ◌*◌, ◌≤◌, List, [], ◌∷◌, ◌++◌, length, take, drop, refl, ap, sym, ◌∙◌, arith, drop-drop, length-drop, length-append}
use Rattle.std.proofs.Math.Nat.{add-mul}
use Rattle.std.proofs.Math.Seq.{take-add, drop-append_seam}
use Rattle.std.proofs.lemmas.List.{take-take, drop-take, take-append-drop, take-append-le, take_all, length-take-le}
use Rattle.std.specs.List.{concat}
use Rattle.px_model.specs.Frame.{Frame, frames_of}
use Rattle.px_model.specs.Sink.{Sink, Input}
use Rattle.px_lane.specs.Whole.{AreFramesOf}

one_more : (size n : ℕ) → suc n * size ≡ size + n * size
one_more size n = omega (arith, add-mul 1 n size)

pub length_frames : (size n : ℕ) (bytes : List ℕ) → length (frames_of size n bytes) ≡ n
length_frames size zero bytes = refl
length_frames size (suc n) bytes = ap suc (length_frames size n (drop size bytes))

-- the frames are those of as many bytes
pub frames_taken : (size n : ℕ) (bytes : List ℕ) → frames_of size n (take (n * size) bytes) ≡ frames_of size n bytes
frames_taken size zero bytes = refl
frames_taken size (suc n) bytes =
    ap (λ (m : ℕ). take size (take m bytes) ∷ frames_of size n (drop size (take m bytes))) (one_more size n)
    ∙ ap (λ (f : Frame). f ∷ frames_of size n (drop size (take (size + n * size) bytes))) (take-take size (size + n * size) bytes (omega arith))
    ∙ ap (λ (rest : List ℕ). take size bytes ∷ frames_of size n rest) (drop-take size (n * size) bytes)
    ∙ ap (λ (fs : List Frame). take size bytes ∷ fs) (frames_taken size n (drop size bytes))

-- those from frame k on
pub frames_dropped : (size k n : ℕ) (bytes : List ℕ) → drop k (frames_of size (k + n) bytes) ≡ frames_of size n (drop (k * size) bytes)
frames_dropped size zero n bytes = let e : 0 ≡ 0 * size = omega arith in let m : 0 + n ≡ n = omega arith in
    ap (λ (x : ℕ). frames_of size x bytes) m ∙ ap (λ (x : ℕ). frames_of size n (drop x bytes)) e
frames_dropped size (suc k) n bytes = let m : suc k + n ≡ suc (k + n) = omega arith in
    ap (λ (x : ℕ). drop (suc k) (frames_of size x bytes)) m
    ∙ frames_dropped size k n (drop size bytes)
    ∙ ap (λ (rest : List ℕ). frames_of size n rest) (drop-drop (k * size) size bytes)
    ∙ ap (λ (x : ℕ). frames_of size n (drop x bytes)) (sym (one_more size k))

-- the first k
pub frames_stay : (size k n : ℕ) (bytes : List ℕ) → take k (frames_of size (k + n) bytes) ≡ frames_of size k bytes
frames_stay size zero n bytes = refl
frames_stay size (suc k) n bytes = let m : suc k + n ≡ suc (k + n) = omega arith in
    ap (λ (x : ℕ). take (suc k) (frames_of size x bytes)) m
    ∙ ap (λ (fs : List Frame). take size bytes ∷ fs) (frames_stay size k n (drop size bytes))

-- the first k and the others
pub frames_joined : (size k n : ℕ) (bytes : List ℕ) → frames_of size (k + n) bytes ≡ frames_of size k bytes ++ frames_of size n (drop (k * size) bytes)
frames_joined size k n bytes =
    sym (take-append-drop k (frames_of size (k + n) bytes))
    ∙ ap (λ (fs : List Frame). fs ++ drop k (frames_of size (k + n) bytes)) (frames_stay size k n bytes)
    ∙ ap (λ (fs : List Frame). frames_of size k bytes ++ fs) (frames_dropped size k n bytes)

-- the frames of frames' bytes
pub frames_back : (size : ℕ) (frames : List Frame) → AreFramesOf size frames → frames_of size (length frames) (concat frames) ≡ frames
frames_back size [] are = refl
frames_back size (f ∷ frames) are =
    let first : take size (f ++ concat frames) ≡ f =
    take-append-le size f (concat frames) (omega (arith, are.0)) ∙ take_all size f (omega (arith, are.0)) in
    let rest : drop size (f ++ concat frames) ≡ concat frames =
    ap (λ (n : ℕ). drop n (f ++ concat frames)) (sym are.0) ∙ drop-append_seam f (concat frames) in
    ap (λ (g : Frame). g ∷ frames_of size (length frames) (drop size (f ++ concat frames))) first
    ∙ ap (λ (bytes : List ℕ). f ∷ frames_of size (length frames) bytes) rest
    ∙ ap (λ (fs : List Frame). f ∷ fs) (frames_back size frames are.1)

-- the bytes of frames of bytes
pub bytes_back : (size n : ℕ) (bytes : List ℕ) → concat (frames_of size n bytes) ≡ take (n * size) bytes
bytes_back size zero bytes = let e : 0 ≡ 0 * size = omega arith in ap (λ (m : ℕ). take m bytes) e
bytes_back size (suc n) bytes =
    ap (λ (rest : List ℕ). take size bytes ++ rest) (bytes_back size n (drop size bytes))
    ∙ sym (take-add size (n * size) bytes)
    ∙ ap (λ (m : ℕ). take m bytes) (sym (one_more size n))

-- ---- what a mixer does to its buffer

-- n frames leave the front, and m are left, where the bytes behind the first n frames moved to the front
pub frames_moved : (size n m : ℕ) (old new : List ℕ) → take (length old - n * size) new ≡ drop (n * size) old → (n + m) * size ≤ length old
    → frames_of size m new ≡ drop n (frames_of size (n + m) old)
frames_moved size n m old new moved fit =
    let fits : m * size ≤ length old - n * size = omega (arith, fit, add-mul n m size) in
    sym (frames_taken size m new)
    ∙ ap (λ (bytes : List ℕ). frames_of size m bytes)
    (sym (take-take (m * size) (length old - n * size) new fits)
    ∙ ap (λ (bytes : List ℕ). take (m * size) bytes) moved)
    ∙ frames_taken size m (drop (n * size) old)
    ∙ sym (frames_dropped size n m old)

-- k frames are kept, and others stand behind them, whatever stood there before
pub frames_renewed : (size k rest : ℕ) (old new : List ℕ) (fresh : List Frame) → new ≡ take (k * size) old ++ concat fresh → k * size ≤ length old → AreFramesOf size fresh
    → frames_of size (k + length fresh) new ≡ take k (frames_of size (k + rest) old) ++ fresh
frames_renewed size k rest old new fresh is fit are =
    let long : length (take (k * size) old) ≡ k * size = length-take-le (k * size) old fit in
    ap (λ (bytes : List ℕ). frames_of size (k + length fresh) bytes) is
    ∙ frames_joined size k (length fresh) (take (k * size) old ++ concat fresh)
    ∙ ap (λ (fs : List Frame). fs ++ frames_of size (length fresh) (drop (k * size) (take (k * size) old ++ concat fresh)))
    (sym (frames_taken size k (take (k * size) old ++ concat fresh))
    ∙ ap (λ (bytes : List ℕ). frames_of size k bytes)
    (take-append-le (k * size) (take (k * size) old) (concat fresh) (omega (arith, long)) ∙ take-take (k * size) (k * size) old (omega arith))
    ∙ frames_taken size k old
    ∙ sym (frames_stay size k rest old))
    ∙ ap (λ (fs : List Frame). take k (frames_of size (k + rest) old) ++ fs)
    (ap (λ (bytes : List ℕ). frames_of size (length fresh) bytes)
    (ap (λ (n : ℕ). drop n (take (k * size) old ++ concat fresh)) (sym long) ∙ drop-append_seam (take (k * size) old) (concat fresh))
    ∙ frames_back size fresh are)

length_whole : (size : ℕ) (frames : List Frame) → AreFramesOf size frames → length (concat frames) ≡ length frames * size
length_whole size [] are = omega arith
length_whole size (f ∷ frames) are =
    length-append f (concat frames) ∙ ap (λ (n : ℕ). n + length (concat frames)) are.0 ∙ ap (λ (n : ℕ). size + n) (length_whole size frames are.1) ∙ sym (one_more size (length frames))

-- others stand in place of some of them
pub frames_replaced : (size k rest : ℕ) (old new : List ℕ) (fresh : List Frame) → new ≡ take (k * size) old ++ (concat fresh ++ drop ((k + length fresh) * size) old)
    → k * size ≤ length old → AreFramesOf size fresh
    → frames_of size (k + (length fresh + rest)) new ≡ take k (frames_of size (k + (length fresh + rest)) old) ++ (fresh ++ drop (k + length fresh) (frames_of size (k + (length fresh + rest)) old))
frames_replaced size k rest old new fresh is fit are =
    let m = length fresh in
    let tail : List ℕ = drop ((k + length fresh) * size) old in
    let long : length (take (k * size) old) ≡ k * size = length-take-le (k * size) old fit in
    let inner : length (concat fresh) ≡ length fresh * size = length_whole size fresh are in
    let all : (k + length fresh) + rest ≡ k + (length fresh + rest) = omega arith in
    ap (λ (bytes : List ℕ). frames_of size (k + (length fresh + rest)) bytes) is
    ∙ frames_joined size k (length fresh + rest) (take (k * size) old ++ (concat fresh ++ tail))
    ∙ ap (λ (fs : List Frame). fs ++ frames_of size (length fresh + rest) (drop (k * size) (take (k * size) old ++ (concat fresh ++ tail))))
    (sym (frames_taken size k (take (k * size) old ++ (concat fresh ++ tail)))
    ∙ ap (λ (bytes : List ℕ). frames_of size k bytes)
    (take-append-le (k * size) (take (k * size) old) (concat fresh ++ tail) (omega (arith, long)) ∙ take-take (k * size) (k * size) old (omega arith))
    ∙ frames_taken size k old
    ∙ sym (frames_stay size k (length fresh + rest) old))
    ∙ ap (λ (bytes : List ℕ). take k (frames_of size (k + (length fresh + rest)) old) ++ frames_of size (length fresh + rest) bytes)
    (ap (λ (n : ℕ). drop n (take (k * size) old ++ (concat fresh ++ tail))) (sym long) ∙ drop-append_seam (take (k * size) old) (concat fresh ++ tail))
    ∙ ap (λ (fs : List Frame). take k (frames_of size (k + (length fresh + rest)) old) ++ fs)
    (frames_joined size (length fresh) rest (concat fresh ++ tail)
    ∙ ap (λ (fs : List Frame). fs ++ frames_of size rest (drop (length fresh * size) (concat fresh ++ tail)))
    (sym (frames_taken size (length fresh) (concat fresh ++ tail))
    ∙ ap (λ (bytes : List ℕ). frames_of size (length fresh) bytes)
    (take-append-le (length fresh * size) (concat fresh) tail (omega (arith, inner)) ∙ take_all (length fresh * size) (concat fresh) (omega (arith, inner)))
    ∙ frames_back size fresh are)
    ∙ ap (λ (fs : List Frame). fresh ++ fs)
    (ap (λ (bytes : List ℕ). frames_of size rest bytes)
    (ap (λ (n : ℕ). drop n (concat fresh ++ tail)) (sym inner) ∙ drop-append_seam (concat fresh) tail)
    ∙ sym (frames_dropped size (k + length fresh) rest old)
    ∙ ap (λ (n : ℕ). drop (k + length fresh) (frames_of size n old)) all))

-- the bytes of all frames but the first k
pub bytes_behind : (size k n : ℕ) (bytes : List ℕ) → length bytes ≡ (k + n) * size → concat (drop k (frames_of size (k + n) bytes)) ≡ drop (k * size) bytes
bytes_behind size k n bytes full =
    ap concat (frames_dropped size k n bytes) ∙ bytes_back size n (drop (k * size) bytes)
    ∙ take_all (n * size) (drop (k * size) bytes) (omega (arith, full, add-mul k n size, length-drop (k * size) bytes))

-- a sink with a horizon, a buffer and inputs
pub same_parts : (s : Sink) (h h' : ℕ) (b b' : List Frame) (i i' : List Input) → h ≡ h' → b ≡ b' → i ≡ i'
    → record s { horizon = h; buffer = b; inputs = i } ≡ record s { horizon = h'; buffer = b'; inputs = i' }
same_parts s h h' b b' i i' p q r = λ k. let t : Sink = record s { horizon = p k; buffer = q k; inputs = r k } in t

-- Frames of two channels, straight from the sums.
use Rattle.std.proofs.Common.{◌≡◌, ℕ, zero, suc, ◌+◌, ◌-◌, ◌*◌, ◌^◌, ◌<◌, ◌≤◌, ◌⊎◌, inl, inr, bit_or, List, ◌++◌, [], ◌∷◌, length, map, take, drop, get_or, slice_index_or, refl, ap, sym, ◌∙◌, subst, arith, append-nil, length-take, length-drop, ℤ, pos, FitsSigned, w16, w32, w64, to_z, of_z}
use Rattle.std.proofs.lemmas.Int.{to_z-of_z}
use Rattle.std.proofs.lemmas.Nat.{le_or_l, le_or_r}
use Rattle.std.proofs.lemmas.List.{get_or-take, get_or-drop, take_all}
use Rattle.std.specs.Int.{saturate_signed}
use Rattle.std.specs.List.{concat, flat_map, range_with_len}
use borrow.Rule.Slice.PartMut.{put_mid}
use Rattle.px_sample.specs.declared.format.Format.TheVariants.{S16Le}
use Rattle.px_sample.specs.WorkValue.{packed_sample}
use Rattle.px_kernel.specs.Kernel.{at}
use Rattle.px_mixcache.specs.Run.{KeptRun}
use Rattle.px_mixcache.specs.Cache.{run_at}
use Rattle.px_mixcache.specs.Packing.{frame_of, stereo_at, stereo_frames}
use Rattle.px_mixcache.proofs.Stretches.{run_more}

-- the bytes of a sum
abbrev pub shown : ℤ → List ℕ
shown sum = packed_sample S16Le (saturate_signed w16 sum)

-- a sum of a part of a run is that of the run
pub part_read : (sums part : List ℤ) (from frames k : ℕ) → part ≡ sums → k < frames → at (take (from + frames - from) (drop from part)) k ≡ at sums (from + k)
part_read sums part from frames k same less =
    get_or-take (from + frames - from) (drop from part) k (pos 0) (omega (arith, less)) ∙ get_or-drop from part k (pos 0) ∙ ap (λ (xs : List ℤ). get_or xs (from + k) (pos 0)) same

-- the sums that a run shows are its own
pub sums_are : (runs : List KeptRun) (c : ℕ) (run : KeptRun) (now : List ℤ) → now ≡ run.sums → run ≡ run_at runs c → now ≡ (run_at runs c).sums
sums_are runs c run now same here = same ∙ ap (λ (r : KeptRun). r.sums) here

-- a part of a run has as many sums as it should
pub part_long : (runs : List KeptRun) (c : ℕ) (now : List ℤ) (from frames : ℕ) → now ≡ (run_at runs c).sums → from + frames ≤ length (run_at runs c).sums
    → length (take (from + frames - from) (drop from now)) ≡ frames
part_long runs c now from frames same inside =
    omega (arith, length-take (from + frames - from) (drop from now), length-drop from now, ap length same, inside)

-- a sum of 32 bits fits 64
wider : (z : ℤ) → FitsSigned w32 z → FitsSigned w64 z
wider z fits = record { sfits = omega (arith, fits.sfits) }

-- the bytes of two sums, as machine words have them, are those of a frame
pub words_are : (left right : List ℤ) (k : ℕ) (frame : List ℕ) → FitsSigned w64 (at left k) → FitsSigned w64 (at right k)
    → frame ≡ shown (to_z w64 (of_z w64 (at left k))) ++ shown (to_z w64 (of_z w64 (at right k))) → frame ≡ stereo_at left right k
words_are left right k frame l r is =
    is
    ∙ ap (λ (x : ℤ). shown x ++ shown (to_z w64 (of_z w64 (at right k)))) (to_z-of_z w64 (at left k) l)
    ∙ ap (λ (x : ℤ). shown (at left k) ++ shown x) (to_z-of_z w64 (at right k) r)

pub small_is : (left right : List ℤ) (k : ℕ) (frame : List ℕ) → FitsSigned w32 (at left k) → FitsSigned w32 (at right k)
    → frame ≡ shown (to_z w64 (of_z w64 (at left k))) ++ shown (to_z w64 (of_z w64 (at right k))) → frame ≡ stereo_at left right k
small_is left right k frame l r = words_are left right k frame (wider (at left k) l) (wider (at right k) r)

-- the first four bytes of a list, before a rest
abbrev pub quad : List ℕ → List ℕ → List ℕ
quad f rest = slice_index_or f 0 0 ∷ slice_index_or f 1 0 ∷ slice_index_or f 2 0 ∷ slice_index_or f 3 0 ∷ rest

quad_is : (f rest : List ℕ) → length f ≡ 4 → quad f rest ≡ f ++ rest
quad_is [] rest four = absurd (omega (arith, four))
quad_is (a ∷ []) rest four = absurd (omega (arith, four))
quad_is (a ∷ b ∷ []) rest four = absurd (omega (arith, four))
quad_is (a ∷ b ∷ c ∷ []) rest four = absurd (omega (arith, four))
quad_is (a ∷ b ∷ c ∷ d ∷ []) rest four = refl
quad_is (a ∷ b ∷ c ∷ d ∷ e ∷ f) rest four = absurd (omega (arith, four))

one_quad : (f a rest : List ℕ) → f ≡ a → length a ≡ 4 → quad f rest ≡ a ++ rest
one_quad f a rest is four = ap (λ (x : List ℕ). quad x rest) is ∙ quad_is a rest four

-- four frames stand byte by byte
pub four_are : (left right : List ℤ) (k : ℕ) (f g h i : List ℕ)
    → f ≡ stereo_at left right k → g ≡ stereo_at left right (k + 1) → h ≡ stereo_at left right (k + 2) → i ≡ stereo_at left right (k + 3)
    → quad f (quad g (quad h (quad i []))) ≡ stereo_frames left right k 4
four_are left right k f g h i first second third fourth =
    let s = stereo_at left right in
    let two : k + 2 ≡ k + 1 + 1 = omega arith in
    let three : k + 3 ≡ k + 1 + 1 + 1 = omega arith in
    one_quad f (s k) (quad g (quad h (quad i []))) first refl
    ∙ ap (λ (x : List ℕ). s k ++ x) (one_quad g (s (k + 1)) (quad h (quad i [])) second refl)
    ∙ ap (λ (x : List ℕ). s k ++ (s (k + 1) ++ x)) (one_quad h (s (k + 1 + 1)) (quad i []) (third ∙ ap s two) refl)
    ∙ ap (λ (x : List ℕ). s k ++ (s (k + 1) ++ (s (k + 1 + 1) ++ x))) (one_quad i (s (k + 1 + 1 + 1)) [] (fourth ∙ ap s three) refl)

-- some frames stand after those before them
pub frames_more : (left right : List ℤ) (out ys : List ℕ) (k g a n m : ℕ) → a ≤ length out → m ≡ a + length ys
    → take a out ≡ stereo_frames left right 0 k → ys ≡ stereo_frames left right k g → take m (put_mid a n out ys) ≡ stereo_frames left right 0 (k + g)
frames_more left right out ys k g a n m room next before made =
    let here : k ≡ 0 + k = omega arith in
    run_more (stereo_at left right) out ys 0 k g a n m room next before (made ∙ ap (λ (j : ℕ). stereo_frames left right j g) here)

-- all frames stand where as many bytes do
pub all_stand : (out : List ℕ) (k n : ℕ) (frames : ℕ → List ℕ) → k ≡ n → length out ≡ n * 4 → take (k * 4) out ≡ frames k → out ≡ frames n
all_stand out k n frames same long before =
    sym (take_all (k * 4) out (omega (arith, long, same))) ∙ before ∙ ap frames same

lt-or-le : (a b : ℕ) → (a < b) ⊎ (b ≤ a)
lt-or-le a zero = inr (omega arith)
lt-or-le zero (suc b) = inl (omega arith)
lt-or-le (suc a) (suc b) = elim (lt-or-le a b) [ inl h ↦ inl (omega arith) | inr h ↦ inr (omega arith) ]

-- one more frame of sums that fit 32 bits
pub small_more : (left right : List ℤ) (all a b n : ℕ) → FitsSigned w64 (at left n) → FitsSigned w64 (at right n)
    → (all < 2 ^ 32 → (k : ℕ) → k < n → FitsSigned w32 (at left k) × FitsSigned w32 (at right k))
    → (a < 2 ^ 32 → FitsSigned w32 (to_z w64 (of_z w64 (at left n)))) → (b < 2 ^ 32 → FitsSigned w32 (to_z w64 (of_z w64 (at right n))))
    → bit_or (bit_or all a) b < 2 ^ 32 → (k : ℕ) → k < n + 1 → FitsSigned w32 (at left k) × FitsSigned w32 (at right k)
small_more left right all a b n fl fr before l r less k below =
    let both : bit_or all a < 2 ^ 32 = omega (arith, less, le_or_l (bit_or all a) b) in
    elim (lt-or-le k n) [
      | inl h ↦ before (omega (arith, both, le_or_l all a)) k h
      | inr h ↦
          let here : n ≡ k = omega (arith, h, below) in
          subst (λ (j : ℕ). FitsSigned w32 (at left j) × FitsSigned w32 (at right j)) here (
            subst (FitsSigned w32) (to_z-of_z w64 (at left n) fl) (l (omega (arith, both, le_or_r all a))),
            subst (FitsSigned w32) (to_z-of_z w64 (at right n) fr) (r (omega (arith, less, le_or_r (bit_or all a) b))),
          )
    ]

-- the bytes of two sums are those of a frame
stereo_is : (runs : List KeptRun) (k : ℕ) → length runs ≡ 2
    → shown (at (run_at runs 0).sums k) ++ shown (at (run_at runs 1).sums k) ≡ frame_of S16Le runs k
stereo_is runs k two =
    ap (λ (ys : List ℕ). shown (at (run_at runs 0).sums k) ++ ys) (sym (append-nil (shown (at (run_at runs 1).sums k))))
    ∙ ap (λ (n : ℕ). flat_map (λ (c : ℕ). shown (at (run_at runs c).sums k)) (range_with_len 0 n)) (sym two)

-- frames that are equal one by one
each_frame : (f g : ℕ → List ℕ) (a b n : ℕ) → ((k : ℕ) → k < n → f (a + k) ≡ g (b + k)) → concat (map f (range_with_len a n)) ≡ concat (map g (range_with_len b n))
each_frame f g a b zero each = refl
each_frame f g a b (suc n) each =
    let here : a ≡ a + 0 = omega arith in
    let there : b + 0 ≡ b = omega arith in
    ap (λ (ys : List ℕ). ys ++ concat (map f (range_with_len (a + 1) n))) (ap f here ∙ each 0 (omega arith) ∙ ap g there)
    ∙ ap (λ (ys : List ℕ). g b ++ ys) (each_frame f g (a + 1) (b + 1) n (λ k less.
    let left : a + 1 + k ≡ a + (k + 1) = omega arith in
    let right : b + (k + 1) ≡ b + 1 + k = omega arith in
    ap f left ∙ each (k + 1) (omega (arith, less)) ∙ ap g right))

-- the frames of two parts are those of the runs
pub parts_are : (runs : List KeptRun) (left right : List ℤ) (from frames : ℕ) → length runs ≡ 2
    → ((k : ℕ) → k < frames → at left k ≡ at (run_at runs 0).sums (from + k)) → ((k : ℕ) → k < frames → at right k ≡ at (run_at runs 1).sums (from + k))
    → stereo_frames left right 0 frames ≡ concat (map (frame_of S16Le runs) (range_with_len from frames))
parts_are runs left right from frames two lefts rights =
    each_frame (stereo_at left right) (frame_of S16Le runs) 0 from frames
    (λ k less.
    let here : 0 + k ≡ k = omega arith in
    ap (stereo_at left right) here
    ∙ ap (λ (x : ℤ). shown x ++ shown (at right k)) (lefts k less)
    ∙ ap (λ (x : ℤ). shown (at (run_at runs 0).sums (from + k)) ++ shown x) (rights k less)
    ∙ stereo_is runs (from + k) two)

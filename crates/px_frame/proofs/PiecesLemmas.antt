-- Pieces of a stream, and an error behind some of them.
use Rattle.std.proofs.Common.{◌≡◌, ℕ, zero, suc, ◌+◌, ◌<◌, ◌≤◌, List, [], ◌∷◌, ◌++◌, map, length, take, drop, get_or, refl, subst, sym, ◌∙◌, ap, inl, inr, arith, append_assoc, append-nil, add-one, lit<, Ok, Err}
use Rattle.std.proofs.lemmas.List.{take_all}
use Rattle.std.specs.Borrow.{Bor}
use Rattle.std.specs.List.{concat}
use Rattle.px_frame.specs.declared.fault.FrameError.{FrameError}
use Rattle.px_frame.specs.declared.fault.FrameError.TheVariants.{Fault, Failed, NoMemory}
use Rattle.px_frame.specs.declared.fault.FrameFault.{FrameFault}
use Rattle.px_frame.specs.declared.frame.Frame.{Frame}
use Rattle.px_frame.specs.Progress.{Progress, Answers}
use Rattle.px_frame.specs.Run.{IsBehind, IsSoFar}
use Rattle.px_frame.specs.Reading.{Unfinished, Broken, IsRead}
use Rattle.px_frame.proofs.DecoderLemmas.{failed-more}
use Rattle.px_frame.proofs.ReadingLemmas.{reading-unique, splits-none}

-- the bytes of pieces
abbrev pub joined : List (Bor (List ℕ)) → List ℕ
joined pieces = concat (map (λ piece. piece.now) pieces)

-- one piece more
pub joined-next : (ps : List (Bor (List ℕ))) (i : ℕ) (d : Bor (List ℕ)) → i < length ps → joined (take (suc i) ps) ≡ joined (take i ps) ++ (get_or ps i d).now
joined-next [] i d h = absurd (omega arith)
joined-next (p ∷ ps) zero d h = append-nil p.now
joined-next (p ∷ ps) (suc i) d h =
    ap (λ b. p.now ++ b) (joined-next ps i d (omega arith)) ∙ sym (append_assoc p.now (joined (take i ps)) (get_or ps i d).now)

-- all pieces: some, and those behind them
pub joined-cut : (ps : List (Bor (List ℕ))) (i : ℕ) → joined ps ≡ joined (take i ps) ++ joined (drop i ps)
joined-cut [] zero = refl
joined-cut [] (suc i) = refl
joined-cut (p ∷ ps) zero = refl
joined-cut (p ∷ ps) (suc i) = ap (λ b. p.now ++ b) (joined-cut ps i) ∙ sym (append_assoc p.now (joined (take i ps)) (joined (drop i ps)))

-- nothing says no frame and no fault
pub nothing-read : IsRead [] [] Unfinished
nothing-read = (0, [], splits-none 0 [], inl (lit< tt))

-- what was read without a fault has none
no-fault : (bytes : List ℕ) (frames : List Frame) (fault : FrameFault) (at : ℕ) → IsRead bytes frames Unfinished → IsRead bytes frames (Broken fault at) → ⊥
no-fault bytes frames fault at p q =
    let same = reading-unique bytes frames frames Unfinished (Broken fault at) p q in
    let clash : Broken fault at ≡ Unfinished = same.1 in
    cc

-- the error of a piece, behind the frames so far
error-answers : (taken piece later whole : List ℕ) (before : List Frame) (error given : FrameError) → whole ≡ (taken ++ piece) ++ later → IsRead taken before Unfinished
    → Answers taken before piece (Err error) → IsBehind before error given → Answers [] [] whole (Err given)
error-answers taken piece later whole before (Fault frames fault at) given e read answers (inl is) =
    subst (λ x. Answers [] [] whole (Err x)) (sym is)
    (rw e (failed-more later answers.0), nothing-read)
error-answers taken piece later whole before (Fault frames fault at) given e read answers (inr is) = subst (λ x. Answers [] [] whole (Err x)) (sym is) tt
error-answers taken piece later whole before (Failed fault at) given e read answers is = absurd (no-fault taken before fault at read answers)
error-answers taken piece later whole before NoMemory given e read answers is = subst (λ x. Answers [] [] whole (Err x)) (sym is) tt

-- the frames so far, of one piece more
pub next-so-far : (now : Progress) (ps : List (Bor (List ℕ))) (i : ℕ) (d : Bor (List ℕ)) (all : List Frame) → i < length ps
    → IsSoFar now (joined (take i ps) ++ (get_or ps i d).now) (Ok all) → IsSoFar now (joined (take (i + 1) ps)) (Ok all)
next-so-far now ps i d all h = subst (λ b. IsSoFar now b (Ok all)) (sym (rw add-one (joined-next ps i d h)))

-- an error behind some of the pieces
pub error-at : (now : Progress) (ps : List (Bor (List ℕ))) (i : ℕ) (d : Bor (List ℕ)) (error : FrameError) → i < length ps
    → IsSoFar now (joined (take i ps) ++ (get_or ps i d).now) (Err error) → Answers [] [] (joined ps) (Err error)
error-at now ps i d error h so-far =
    subst (λ b. Answers [] [] b (Err error))
    (sym (joined-cut ps (suc i) ∙ ap (λ b. b ++ joined (drop (suc i) ps)) (joined-next ps i d h)))
    (so-far (joined (drop (suc i) ps)))

-- an error behind the frames so far
pub error-more : (now : Progress) (fed piece : List ℕ) (all : List Frame) (error given : FrameError) → IsRead fed all Unfinished → Answers fed all piece (Err error) → IsBehind all error given
    → IsSoFar now (fed ++ piece) (Err given)
error-more now fed piece all error given read answers behind later = error-answers fed piece later ((fed ++ piece) ++ later) all error given refl read answers behind

-- what was read of all the pieces
pub all-read : (ps : List (Bor (List ℕ))) (i : ℕ) (all : List Frame) → length ps ≤ i → IsRead (joined (take i ps)) all Unfinished → IsRead (joined ps) all Unfinished
all-read ps i all h = subst (λ (qs : List (Bor (List ℕ))). IsRead (joined qs) all Unfinished) (take_all i ps h)

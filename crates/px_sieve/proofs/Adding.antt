-- Frames are added to those that wait, one after the other.
use Rattle.std.proofs.Common.{◌≡◌, List, [], ◌∷◌, ◌++◌, map, ap, sym, ◌∙◌}
use Rattle.std.proofs.lemmas.List.{append_assoc}
use Rattle.std.specs.List.{AllByRecursion}
use Rattle.px_frame.specs.declared.frame.Frame.{Frame}
use Rattle.px_sieve.specs.declared.segment.Segment.{Segment}
use Rattle.px_sieve.specs.declared.segment.Segment.TheVariants.{Whole}
use Rattle.px_sieve.specs.Standing.{IsPossible}

pub added-next : (waiting now total : List Segment) (frame : Frame) (rest all : List Frame) → now ≡ waiting ++ Whole frame ∷ [] → all ≡ frame ∷ rest → waiting ++ map Whole all ≡ total
    → now ++ map Whole rest ≡ total
added-next waiting now total frame rest all next front sum =
    ap (λ l. l ++ map Whole rest) next ∙ append_assoc waiting (Whole frame ∷ []) (map Whole rest) ∙ ap (λ fs. waiting ++ map Whole fs) (sym front) ∙ sum

pub possible-more : (waiting : List Segment) (segment : Segment) → AllByRecursion IsPossible waiting → IsPossible segment → AllByRecursion IsPossible (waiting ++ segment ∷ [])
possible-more [] segment all is = (is, tt)
possible-more (s ∷ waiting) segment all is = (all.0, possible-more waiting segment all.1 is)

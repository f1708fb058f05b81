-- Sums behind those of frames that were given up.
use Rattle.std.proofs.Common.{◌≡◌, ℕ, ◌+◌, ◌-◌, ◌≤◌, List, drop, length, ℤ, pos, w64, FitsSigned, arith, sym, subst, length-drop}
use Rattle.std.proofs.lemmas.Grind.{common_steps}
use borrow.Rule.Slice.PartMut.{put_mid}
use Rattle.std.proofs.lemmas.List.{get_or-drop, drop-drop}
use Rattle.px_mixcache.specs.Run.{AreWords}

-- where frames are given up, the others fit as before
pub words_behind : (frames : ℕ) (sums : List ℤ) → AreWords sums → AreWords (drop frames sums)
words_behind frames sums are k less =
    subst (FitsSigned w64) (sym (get_or-drop frames sums k (pos 0))) (are (frames + k) (omega (arith, less, length-drop frames sums)))

-- where frames are given up behind others
pub words_further : (gone frames : ℕ) (sums : List ℤ) → AreWords (drop gone sums) → AreWords (drop (gone + frames) sums)
words_further gone frames sums are = subst AreWords (drop-drop frames gone sums) (words_behind frames (drop gone sums) are)

-- what is put back behind them stands there
pub put_behind : (gone : ℕ) (sums new : List ℤ) → gone ≤ length sums → length new ≡ length sums - gone → drop gone (put_mid gone (length sums - gone) sums new) ≡ new
put_behind gone sums new inside long = grind (arith, common_steps)

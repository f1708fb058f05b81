-- Lists that a loop has gone through so far.
use Rattle.std.proofs.Common.{◌≡◌, ℕ, ◌+◌, ◌<◌, List, [], ◌∷◌, ◌++◌, length, take, ap, sym, ◌∙◌, Some}
use Rattle.std.specs.Prelude.{slice_get, slice_index_or}
use Rattle.std.specs.List.{concat}
use Rattle.std.proofs.lemmas.Grind.{take_at_read}
use Rattle.std.proofs.lemmas.List.{map-append, append-nil}
use Rattle.std.proofs.lemmas.List.Folds.{concat-append}
use Rattle.std.proofs.lemmas.Option.{slice_get_within, get_or_from_slice_get}
use Rattle.px_block.specs.HeldBlock.{HeldBlock, contents}

take_next : {A : Type 0} (xs : List A) (i : ℕ) (x : A) → i < length xs → x ≡ slice_index_or xs i x → take (i + 1) xs ≡ take i xs ++ x ∷ []
take_next xs i x l is = (take_at_read xs i x l).1 ∙ ap (λ y. take i xs ++ y ∷ []) (sym is)

pub take_got : {A : Type 0} (xs : List A) (i : ℕ) (x : A) → slice_get xs i ≡ Some x → take (i + 1) xs ≡ take i xs ++ x ∷ []
take_got xs i x is = take_next xs i x (slice_get_within xs i x is) (sym (get_or_from_slice_get xs i x x is))

pub more_bytes : (blocks : List HeldBlock) (i : ℕ) (b : HeldBlock) → i < length blocks → b ≡ slice_index_or blocks i b → concat (contents (take (i + 1) blocks)) ≡ concat (contents (take i blocks)) ++ b.bytes
more_bytes blocks i b l is =
    ap (λ (bs : List HeldBlock). concat (contents bs)) (take_next blocks i b l is)
    ∙ ap concat (map-append HeldBlock.bytes (take i blocks) (b ∷ []))
    ∙ concat-append (contents (take i blocks)) (b.bytes ∷ [])
    ∙ ap (λ (bs : List ℕ). concat (contents (take i blocks)) ++ bs) (append-nil b.bytes)

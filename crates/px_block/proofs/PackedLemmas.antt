-- How many bytes and blocks there are where bytes lie in blocks.
use Rattle.std.proofs.Common.{◌≡◌, ℕ, zero, suc, ◌+◌, ◌*◌, ◌-◌, ◌/◌, ◌%◌, ◌<◌, ◌≤◌, List, [], ◌∷◌, ◌++◌, length, refl, arith, length-append, append_assoc, append-nil, length-take, take, drop, min, sym, ap, ◌∙◌}
use Rattle.std.specs.Prelude.{slice_index_or, slice_set}
use Rattle.std.specs.List.{concat}
use Rattle.std.proofs.lemmas.List.Folds.{concat-append}
use Rattle.std.proofs.lemmas.List.{map-append, drop_more, get_or-map}
use Rattle.px_block.specs.HeldBlock.{HeldBlock, contents}
use Rattle.px_block.specs.Packed.{IsPacked, AreFull}

-- the bytes of blocks and of one more
pub contents_last : (blocks : List HeldBlock) (last : HeldBlock) → contents (blocks ++ last ∷ []) ≡ contents blocks ++ last.bytes ∷ []
contents_last blocks last = map-append HeldBlock.bytes blocks (last ∷ [])

-- there are as many
pub length_contents : (blocks : List HeldBlock) → length (contents blocks) ≡ length blocks
length_contents [] = refl
length_contents (b ∷ blocks) = omega (arith, length_contents blocks)

-- another memory under the same bytes
pub same_contents : (blocks : List HeldBlock) (i : ℕ) (b d : HeldBlock) → b.bytes ≡ (slice_index_or blocks i d).bytes → contents (slice_set blocks i b) ≡ contents blocks
same_contents [] i b d e = refl
same_contents (c ∷ blocks) zero b d e = ap (λ (bytes : List ℕ). bytes ∷ contents blocks) e
same_contents (c ∷ blocks) (suc i) b d e = ap (λ (more : List (List ℕ)). c.bytes ∷ more) (same_contents blocks i b d e)

-- the bytes of one, and of those behind it
pub contents_from : (blocks : List HeldBlock) (i : ℕ) (b : HeldBlock) → i < length blocks → b ≡ slice_index_or blocks i b → contents (drop i blocks) ≡ b.bytes ∷ contents (drop (i + 1) blocks)
contents_from blocks i b few is = ap contents (drop_more blocks i b few ∙ ap (λ (c : HeldBlock). c ∷ drop (i + 1) blocks) (sym is))

-- the bytes of one by its place
pub content_at : (blocks : List HeldBlock) (i : ℕ) (b : HeldBlock) → i < length blocks → b ≡ slice_index_or blocks i b → b.bytes ≡ slice_index_or (contents blocks) i b.bytes
content_at blocks i b few is = ap HeldBlock.bytes is ∙ sym (get_or-map HeldBlock.bytes blocks i b b.bytes few)

-- the count of blocks follows from the count of bytes
pub packed-count : (blocks : List (List ℕ)) → IsPacked blocks → length blocks ≡ (length (concat blocks) + 65535) / 65536
packed-count [] _ = refl
packed-count (block ∷ []) packed =
    omega (arith, packed.0, packed.1, length-append block [])
packed-count (block ∷ next ∷ blocks) packed =
    omega (arith, packed.2 (omega arith), packed-count (next ∷ blocks) packed.3, length-append block (concat (next ∷ blocks)))

-- full blocks have a whole number of times the size of one
pub full-length : (blocks : List (List ℕ)) → AreFull blocks → length (concat blocks) ≡ 65536 * length blocks
full-length [] _ = refl
full-length (block ∷ blocks) full =
    omega (arith, full.0, full-length blocks full.1, length-append block (concat blocks))

-- a last block that isn't empty may stand behind full ones
pub packed-behind_full : (blocks : List (List ℕ)) (last : List ℕ) → AreFull blocks → 0 < length last → length last ≤ 65536 → IsPacked (blocks ++ last ∷ [])
packed-behind_full [] last _ some few = (some, few, (λ h. omega arith), tt)
packed-behind_full (block ∷ blocks) last full some few =
    (omega (arith, full.0), omega (arith, full.0), (λ _. full.0), packed-behind_full blocks last full.1 some few)

-- before the last block all are full
pub full-before_last : (blocks : List (List ℕ)) (last : List ℕ) → IsPacked (blocks ++ last ∷ []) → AreFull blocks
full-before_last [] last _ = tt
full-before_last (block ∷ blocks) last packed =
    (packed.2 (omega (arith, length-append blocks (last ∷ []))), full-before_last blocks last packed.3)

-- the last one has no more bytes than a block can
pub last-fits : (blocks : List (List ℕ)) (last : List ℕ) → IsPacked (blocks ++ last ∷ []) → length last ≤ 65536
last-fits [] last packed = packed.1
last-fits (block ∷ blocks) last packed = last-fits blocks last packed.3

-- and where it is full too, all are
pub full-with_last : (blocks : List (List ℕ)) (last : List ℕ) → AreFull blocks → length last ≡ 65536 → AreFull (blocks ++ last ∷ [])
full-with_last [] last _ e = (e, tt)
full-with_last (block ∷ blocks) last full e = (full.0, full-with_last blocks last full.1 e)

-- the bytes of blocks and one more
pub concat-last : (blocks : List (List ℕ)) (last : List ℕ) → concat (blocks ++ last ∷ []) ≡ concat blocks ++ last
concat-last blocks last = rw concat-append (simp append-nil)

-- what room the last block has, by all the bytes
pub room-of_last : (blocks : List (List ℕ)) (last all : List ℕ) → AreFull blocks → length last < 65536 → concat blocks ++ last ≡ all → 65536 - length last ≡ 65536 - length all % 65536
room-of_last blocks last all full few e =
    rw (← e) (omega (arith, full-length blocks full, length-append (concat blocks) last))

-- what was put behind full blocks leaves them packed
pub packed-after_put : (blocks : List (List ℕ)) (last more new : List ℕ) (count : ℕ) → AreFull blocks → length last < 65536 → 0 < length more
    → count ≡ min (length more) (65536 - length last) → new ≡ last ++ take count more → IsPacked (blocks ++ new ∷ [])
packed-after_put blocks last more new count full few some is e =
    packed-behind_full blocks new full
    (rw e (omega (arith, length-append last (take count more), length-take count more)))
    (rw e (omega (arith, length-append last (take count more), length-take count more)))

-- and appends it to all the bytes
pub concat-after_put : (blocks : List (List ℕ)) (last new all put : List ℕ) → concat blocks ++ last ≡ all → new ≡ last ++ put → concat (blocks ++ new ∷ []) ≡ all ++ put
concat-after_put blocks last new all put before e =
    concat-last blocks new ∙ (ap (λ n. concat blocks ++ n) e ∙ (sym (append_assoc (concat blocks) last put) ∙ ap (λ n. n ++ put) before))

-- no blocks are full ones
pub full-none : (blocks : List (List ℕ)) → length blocks ≡ 0 → AreFull blocks
full-none [] _ = tt
full-none (block ∷ blocks) e = absurd (omega arith)

-- Chunks on a shelf that counts them, as a reference goes.
use Rattle.std.proofs.Common.{◌≡◌, ℕ, ◌+◌, ◌-◌, ◌<◌, ◌≤◌, List, [], ◌∷◌, ◌++◌, length, take, drop, refl, ap, sym, ◌∙◌, subst, arith, Option, Some, None, Bool, cond, ⊎_elim, length-append, length-drop}
use Rattle.std.specs.Prelude.{◌==◌}
use Rattle.std.specs.List.{AllByRecursion}
use Rattle.std.proofs.lemmas.Bool.{cases_eq, eq-eqb, ne_eqb}
use Rattle.std.proofs.lemmas.List.{append-nil, drop-append-le, take-append-le, length-take}
use Rattle.px_block.specs.Shelved.{Shelved, Shelves, under, references_to, one_of, bytes_of, released, blocks_on, SetsOnly}
use Rattle.px_block.proofs.Counting.{blocks_set, blocks_none}
use Rattle.px_queue.specs.Pieces.{Piece}
use Rattle.px_queue.specs.Laid.{Laid, piece_of, pieces_of, IsOn, refs_of, IsTied}

-- ---- lists

pub all_left : (P : Laid → Type 0) (xs ys : List Laid) → AllByRecursion P (xs ++ ys) → AllByRecursion P xs
all_left P [] ys all = tt
all_left P (x ∷ xs) ys all = (all.0, all_left P xs ys all.1)

pub all_right : (P : Laid → Type 0) (xs ys : List Laid) → AllByRecursion P (xs ++ ys) → AllByRecursion P ys
all_right P [] ys all = all
all_right P (x ∷ xs) ys all = all_right P xs ys all.1

pub all_both : (P : Laid → Type 0) (xs ys : List Laid) → AllByRecursion P xs → AllByRecursion P ys → AllByRecursion P (xs ++ ys)
all_both P [] ys l r = r
all_both P (x ∷ xs) ys l r = (l.0, all_both P xs ys l.1 r)

pub refs_both : (key : ℕ) (xs ys : List Laid) → refs_of key (xs ++ ys) ≡ refs_of key xs + refs_of key ys
refs_both key [] ys = omega arith
refs_both key (x ∷ xs) ys = let rest : refs_of key (xs ++ ys) ≡ refs_of key xs + refs_of key ys = refs_both key xs ys in omega arith

abbrev pub one : ℕ → Laid → ℕ
one key c = cond (c.key == key) 1 0

pub one_there : (c : Laid) (key : ℕ) → c.key ≡ key → one key c ≡ 1
one_there c key e = ap (λ (b : Bool). cond b 1 0) (eq-eqb c.key key e)

pub one_other : (c : Laid) (key : ℕ) → (c.key ≡ key → ⊥) → one key c ≡ 0
one_other c key n = ap (λ (b : Bool). cond b 1 0) (ne_eqb c.key key n)

-- no more references than chunks
pub refs_few : (key : ℕ) (xs : List Laid) → refs_of key xs ≤ length xs
refs_few key [] = omega arith
refs_few key (x ∷ xs) =
    let rest : refs_of key xs ≤ length xs = refs_few key xs in
    ⊎_elim
    (λ (e : x.key ≡ key). omega (arith, one_there x key e))
    (λ (n : x.key ≡ key → ⊥). omega (arith, one_other x key n))
    (cases_eq x.key key)

pub refs_first : (c : Laid) (xs : List Laid) → 1 ≤ refs_of c.key (c ∷ xs)
refs_first c xs = omega (arith, one_there c c.key refl)

-- ---- blocks that have the bytes that they had, and may have more

abbrev pub Extends : Shelves → Shelves → List Laid → Type 0
Extends s t xs = (key : ℕ) → 0 < refs_of key xs → (more : List ℕ) × (bytes_of (under t key) ≡ bytes_of (under s key) ++ more)

same_part : (place len : ℕ) (bs more : List ℕ) → place + len ≤ length bs → take len (drop place (bs ++ more)) ≡ take len (drop place bs)
same_part place len bs more fit =
    ap (take len) (drop-append-le place bs more (omega arith))
    ∙ take-append-le len (drop place bs) more (omega (arith, length-drop place bs))

same_piece : (s t : Shelves) (c : Laid) (more : List ℕ) → bytes_of (under t c.key) ≡ bytes_of (under s c.key) ++ more → IsOn s c → piece_of t c ≡ piece_of s c
same_piece s t c more e on =
    ap (λ (bs : List ℕ). record { at = c.at; bytes = take c.len (drop c.place bs) }) e
    ∙ ap (λ (bs : List ℕ). record { at = c.at; bytes = bs }) (same_part c.place c.len (bytes_of (under s c.key)) more on)

longer : (s t : Shelves) (c : Laid) (more : List ℕ) → bytes_of (under t c.key) ≡ bytes_of (under s c.key) ++ more → IsOn s c → IsOn t c
longer s t c more e on = omega (arith, on, ap length e, length-append (bytes_of (under s c.key)) more)

extends_rest : (s t : Shelves) (c : Laid) (xs : List Laid) → Extends s t (c ∷ xs) → Extends s t xs
extends_rest s t c xs ext key some = ext key (omega (arith, some))

pub same_pieces : (s t : Shelves) (xs : List Laid) → Extends s t xs → AllByRecursion (IsOn s) xs → pieces_of t xs ≡ pieces_of s xs
same_pieces s t [] ext on = refl
same_pieces s t (c ∷ xs) ext on =
    let more = ext c.key (refs_first c xs) in
    let first : piece_of t c ≡ piece_of s c = same_piece s t c more.0 more.1 on.0 in
    let rest : pieces_of t xs ≡ pieces_of s xs = same_pieces s t xs (extends_rest s t c xs ext) on.1 in
    cc

pub still_on : (s t : Shelves) (xs : List Laid) → Extends s t xs → AllByRecursion (IsOn s) xs → AllByRecursion (IsOn t) xs
still_on s t [] ext on = tt
still_on s t (c ∷ xs) ext on =
    let more = ext c.key (refs_first c xs) in
    (longer s t c more.0 more.1 on.0, still_on s t xs (extends_rest s t c xs ext) on.1)

pub extends_left : (s t : Shelves) (xs ys : List Laid) → Extends s t (xs ++ ys) → Extends s t xs
extends_left s t xs ys ext key some = ext key (omega (arith, some, refs_both key xs ys))

pub extends_right : (s t : Shelves) (xs ys : List Laid) → Extends s t (xs ++ ys) → Extends s t ys
extends_right s t xs ys ext key some = ext key (omega (arith, some, refs_both key xs ys))

pub pieces_left : (s t : Shelves) (xs ys : List Laid) → Extends s t (xs ++ ys) → AllByRecursion (IsOn s) (xs ++ ys) → pieces_of t xs ≡ pieces_of s xs
pieces_left s t xs ys ext on = same_pieces s t xs (extends_left s t xs ys ext) (all_left (IsOn s) xs ys on)

pub pieces_right : (s t : Shelves) (xs ys : List Laid) → Extends s t (xs ++ ys) → AllByRecursion (IsOn s) (xs ++ ys) → pieces_of t ys ≡ pieces_of s ys
pieces_right s t xs ys ext on = same_pieces s t ys (extends_right s t xs ys ext) (all_right (IsOn s) xs ys on)

pub same_extends : (s t : Shelves) (key : ℕ) → bytes_of (under t key) ≡ bytes_of (under s key) → (more : List ℕ) × (bytes_of (under t key) ≡ bytes_of (under s key) ++ more)
same_extends s t key e = ([], e ∙ sym (append-nil (bytes_of (under s key))))

-- ---- one reference less

released_bytes : (o : Option Shelved) → 1 < references_to o → bytes_of (released o) ≡ bytes_of o
released_bytes None h = refl
released_bytes (Some b) h = grind arith

released_refs : (o : Option Shelved) → references_to (released o) ≡ references_to o - 1
released_refs None = refl
released_refs (Some b) = grind arith

released_used : (o : Option Shelved) → one_of o ≤ references_to o → one_of (released o) ≤ references_to (released o)
released_used None h = omega arith
released_used (Some b) h = grind arith

module _ (s t : Shelves) (xs ys : List Laid) (c : Laid) (tied : IsTied s (xs ++ c ∷ ys)) (set : SetsOnly s t c.key (released (under s c.key))) where
  less_refs : (key : ℕ) → refs_of key (xs ++ c ∷ ys) ≡ one key c + refs_of key (xs ++ ys)
  less_refs key = omega (arith, refs_both key xs (c ∷ ys), refs_both key xs ys)

  pub less_extends : Extends s t (xs ++ ys)
  less_extends key some =
      ⊎_elim
      (λ (e : c.key ≡ key). subst (λ (k : ℕ). (more : List ℕ) × (bytes_of (under t k) ≡ bytes_of (under s k) ++ more)) e
      (same_extends s t c.key (ap bytes_of set.there ∙ released_bytes (under s c.key) (omega (arith, tied.counted c.key, less_refs c.key, one_there c c.key refl, subst (λ (k : ℕ). 0 < refs_of k (xs ++ ys)) (sym e) some)))))
      (λ (n : c.key ≡ key → ⊥). same_extends s t key (ap bytes_of (set.others key (λ e. n (sym e)))))
      (cases_eq c.key key)

  less_on : AllByRecursion (IsOn s) (xs ++ ys)
  less_on = all_both (IsOn s) xs ys (all_left (IsOn s) xs (c ∷ ys) tied.on) ((all_right (IsOn s) xs (c ∷ ys) tied.on).1)

  less_counted : (key : ℕ) → references_to (under t key) ≡ refs_of key (xs ++ ys)
  less_counted key =
      ⊎_elim
      (λ (e : c.key ≡ key). subst (λ (k : ℕ). references_to (under t k) ≡ refs_of k (xs ++ ys)) e
      (omega (arith, ap references_to set.there, released_refs (under s c.key), tied.counted c.key, less_refs c.key, one_there c c.key refl)))
      (λ (n : c.key ≡ key → ⊥). omega (arith, ap references_to (set.others key (λ e. n (sym e))), tied.counted key, less_refs key, one_other c key n))
      (cases_eq c.key key)

  less_used : (key : ℕ) → one_of (under t key) ≤ references_to (under t key)
  less_used key =
      ⊎_elim
      (λ (e : c.key ≡ key). subst (λ (k : ℕ). one_of (under t k) ≤ references_to (under t k)) e
      (subst (λ (o : Option Shelved). one_of o ≤ references_to o) (sym set.there) (released_used (under s c.key) (tied.used c.key))))
      (λ (n : c.key ≡ key → ⊥). subst (λ (o : Option Shelved). one_of o ≤ references_to o) (sym (set.others key (λ e. n (sym e)))) (tied.used key))
      (cases_eq c.key key)

  pub tied_less : IsTied t (xs ++ ys)
  tied_less = record { on = still_on s t (xs ++ ys) less_extends less_on; counted = less_counted; used = less_used }

  pub less_left : pieces_of t xs ≡ pieces_of s xs
  less_left = pieces_left s t xs ys less_extends less_on

  pub less_right : pieces_of t ys ≡ pieces_of s ys
  less_right = pieces_right s t xs ys less_extends less_on

-- it is counted, and there are no more references than chunks
pub refs_here : (s : Shelves) (xs ys : List Laid) (c : Laid) → IsTied s (xs ++ c ∷ ys) → 1 ≤ references_to (under s c.key)
refs_here s xs ys c tied = omega (arith, tied.counted c.key, refs_both c.key xs (c ∷ ys), refs_first c ys)

pub refs_countable : (s : Shelves) (xs : List Laid) (key : ℕ) → IsTied s xs → references_to (under s key) ≤ length xs
refs_countable s xs key tied = omega (arith, tied.counted key, refs_few key xs)

-- a block goes with its last reference, and not before
one_gone : (o : Option Shelved) → references_to o ≡ 1 → (one_of o ≡ 1) × (one_of (released o) ≡ 0)
one_gone None e = absurd (omega arith)
one_gone (Some b) e = (refl, grind arith)

one_stays : (o : Option Shelved) → 1 < references_to o → one_of (released o) ≡ one_of o
one_stays None h = refl
one_stays (Some b) h = grind arith

pub freed_count : (s t : Shelves) (key : ℕ) → SetsOnly s t key (released (under s key)) → references_to (under s key) ≡ 1 → 1 + blocks_on t ≡ blocks_on s
freed_count s t key set e =
    let gone = one_gone (under s key) e in
    omega (arith, blocks_set s t key (released (under s key)) set, gone.0, gone.1)

pub same_count : (s t : Shelves) (key : ℕ) → SetsOnly s t key (released (under s key)) → 1 < references_to (under s key) → blocks_on t ≡ blocks_on s
same_count s t key set e = omega (arith, blocks_set s t key (released (under s key)) set, one_stays (under s key) e)

-- no chunks lie in no blocks
pub none_tied : (s : Shelves) → IsTied s [] → blocks_on s ≡ 0
none_tied s tied = blocks_none s (λ key. omega (arith, tied.used key, tied.counted key))

pub nothing_tied : (s : Shelves) (items ys : List Laid) → IsTied s (items ++ ys) → length items ≡ 0 → length ys ≡ 0 → blocks_on s ≡ 0
nothing_tied s [] [] tied none rest = none_tied s tied
nothing_tied s [] (y ∷ ys) tied none rest = absurd (omega arith)
nothing_tied s (x ∷ items) ys tied none rest = absurd (omega arith)

-- ---- another part of the same block, in place of one

pub tied_other : (s : Shelves) (xs ys : List Laid) (c d : Laid) → IsTied s (xs ++ c ∷ ys) → d.key ≡ c.key → IsOn s d → IsTied s (xs ++ d ∷ ys)
tied_other s xs ys c d tied e on = record {
  on = all_both (IsOn s) xs (d ∷ ys) (all_left (IsOn s) xs (c ∷ ys) tied.on) (on, (all_right (IsOn s) xs (c ∷ ys) tied.on).1);
  counted = λ key.
      let same : one key d ≡ one key c = ap (λ (k : ℕ). cond (k == key) 1 0) e in
      omega (arith, tied.counted key, refs_both key xs (c ∷ ys), refs_both key xs (d ∷ ys));
  used = tied.used;
}

pub here_on : (s : Shelves) (xs ys : List Laid) (c : Laid) → IsTied s (xs ++ c ∷ ys) → IsOn s c
here_on s xs ys c tied = (all_right (IsOn s) xs (c ∷ ys) tied.on).0

pub long_piece : (s : Shelves) (c : Laid) → IsOn s c → length (Piece.bytes (piece_of s c)) ≡ c.len
long_piece s c on = omega (arith, length-take c.len (drop c.place (bytes_of (under s c.key))), length-drop c.place (bytes_of (under s c.key)))

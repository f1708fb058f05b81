-- Chunks on a shelf, as a block comes, gets a reference more, or more bytes.
use Rattle.std.proofs.Common.{◌≡◌, ℕ, ◌+◌, ◌<◌, ◌≤◌, List, [], ◌∷◌, ◌++◌, length, take, drop, refl, ap, sym, ◌∙◌, subst, arith, Option, Some, None, cond, ⊎_elim, length-append, length-drop}
use Rattle.std.specs.Prelude.{◌==◌}
use Rattle.std.specs.List.{AllByRecursion}
use Rattle.std.proofs.lemmas.Bool.{cases_eq}
use Rattle.std.proofs.lemmas.List.{append-nil, drop-append-le, take_all}
use Rattle.px_block.specs.Shelved.{Shelved, Shelves, under, references_to, one_of, bytes_of, retained, appended, blocks_on, SetsOnly}
use Rattle.px_block.proofs.Counting.{blocks_set}
use Rattle.px_queue.specs.Pieces.{Piece}
use Rattle.px_queue.specs.Laid.{Laid, piece_of, pieces_of, IsOn, refs_of, IsTied}
use Rattle.px_queue.proofs.Tied.{all_left, all_right, all_both, refs_both, one, one_there, one_other, Extends, same_pieces, still_on, extends_left, extends_right, pieces_left, pieces_right, same_extends, refs_here}

-- ---- one reference more

retained_bytes : (o : Option Shelved) → bytes_of (retained o) ≡ bytes_of o
retained_bytes None = refl
retained_bytes (Some b) = refl

retained_refs : (o : Option Shelved) → 1 ≤ references_to o → references_to (retained o) ≡ references_to o + 1
retained_refs None h = absurd (omega arith)
retained_refs (Some b) h = refl

retained_one : (o : Option Shelved) → one_of (retained o) ≡ one_of o
retained_one None = refl
retained_one (Some b) = refl

module _ (s t : Shelves) (xs ys : List Laid) (c l r : Laid) (tied : IsTied s (xs ++ c ∷ ys)) (set : SetsOnly s t c.key (retained (under s c.key)))
    (same_l : l.key ≡ c.key) (same_r : r.key ≡ c.key) where
  split_bytes : (key : ℕ) → bytes_of (under t key) ≡ bytes_of (under s key)
  split_bytes key =
      ⊎_elim
      (λ (e : c.key ≡ key). subst (λ (k : ℕ). bytes_of (under t k) ≡ bytes_of (under s k)) e (ap bytes_of set.there ∙ retained_bytes (under s c.key)))
      (λ (n : c.key ≡ key → ⊥). ap bytes_of (set.others key (λ e. n (sym e))))
      (cases_eq c.key key)

  split_extends : Extends s t (xs ++ c ∷ ys)
  split_extends key some = same_extends s t key (split_bytes key)

  split_refs : (key : ℕ) → refs_of key (xs ++ l ∷ (r ∷ ys)) ≡ refs_of key (xs ++ c ∷ ys) + one key c
  split_refs key =
      let left : one key l ≡ one key c = ap (λ (k : ℕ). cond (k == key) 1 0) same_l in
      let right : one key r ≡ one key c = ap (λ (k : ℕ). cond (k == key) 1 0) same_r in
      omega (arith, refs_both key xs (c ∷ ys), refs_both key xs (l ∷ (r ∷ ys)))

  split_counted : (key : ℕ) → references_to (under t key) ≡ refs_of key (xs ++ l ∷ (r ∷ ys))
  split_counted key =
      ⊎_elim
      (λ (e : c.key ≡ key). subst (λ (k : ℕ). references_to (under t k) ≡ refs_of k (xs ++ l ∷ (r ∷ ys))) e
      (omega (arith, ap references_to set.there, retained_refs (under s c.key) (refs_here s xs ys c tied), tied.counted c.key, split_refs c.key, one_there c c.key refl)))
      (λ (n : c.key ≡ key → ⊥). omega (arith, ap references_to (set.others key (λ e. n (sym e))), tied.counted key, split_refs key, one_other c key n))
      (cases_eq c.key key)

  split_used : (key : ℕ) → one_of (under t key) ≤ references_to (under t key)
  split_used key =
      ⊎_elim
      (λ (e : c.key ≡ key). subst (λ (k : ℕ). one_of (under t k) ≤ references_to (under t k)) e
      (omega (arith, ap references_to set.there, ap one_of set.there, retained_one (under s c.key), retained_refs (under s c.key) (refs_here s xs ys c tied), tied.used c.key)))
      (λ (n : c.key ≡ key → ⊥). subst (λ (o : Option Shelved). one_of o ≤ references_to o) (sym (set.others key (λ e. n (sym e)))) (tied.used key))
      (cases_eq c.key key)

  split_on : IsOn s l → IsOn s r → AllByRecursion (IsOn s) (xs ++ l ∷ (r ∷ ys))
  split_on on_l on_r = all_both (IsOn s) xs (l ∷ (r ∷ ys)) (all_left (IsOn s) xs (c ∷ ys) tied.on) (on_l, (on_r, (all_right (IsOn s) xs (c ∷ ys) tied.on).1))

  all_split : Extends s t (xs ++ l ∷ (r ∷ ys))
  all_split key some = same_extends s t key (split_bytes key)

  pub tied_split : IsOn s l → IsOn s r → IsTied t (xs ++ l ∷ (r ∷ ys))
  tied_split on_l on_r = record { on = still_on s t (xs ++ l ∷ (r ∷ ys)) all_split (split_on on_l on_r); counted = split_counted; used = split_used }

  pub split_left : pieces_of t xs ≡ pieces_of s xs
  split_left = pieces_left s t xs (c ∷ ys) split_extends tied.on

  pub split_right : pieces_of t ys ≡ pieces_of s ys
  split_right = same_pieces s t ys (λ key some. same_extends s t key (split_bytes key)) ((all_right (IsOn s) xs (c ∷ ys) tied.on).1)

  pub split_count : blocks_on t ≡ blocks_on s
  split_count = omega (arith, blocks_set s t c.key (retained (under s c.key)) set, retained_one (under s c.key))

  pub split_here : piece_of t l ≡ piece_of s l
  split_here = ap (λ (bs : List ℕ). record { at = l.at; bytes = take l.len (drop l.place bs) }) (split_bytes l.key)

  pub split_there : piece_of t r ≡ piece_of s r
  split_there = ap (λ (bs : List ℕ). record { at = r.at; bytes = take r.len (drop r.place bs) }) (split_bytes r.key)

-- ---- a block comes

module _ (s t : Shelves) (xs ys : List Laid) (c : Laid) (bytes : List ℕ) (tied : IsTied s (xs ++ ys)) (free : under s c.key ≡ None)
    (set : SetsOnly s t c.key (Some (record { bytes = bytes; references = 1 }))) (whole : (c.place ≡ 0) × (c.len ≡ length bytes)) where
  laid_none : refs_of c.key (xs ++ ys) ≡ 0
  laid_none = omega (arith, tied.counted c.key, ap references_to free)

  laid_extends : Extends s t (xs ++ ys)
  laid_extends key some =
      ⊎_elim
      (λ (e : c.key ≡ key). absurd (omega (arith, subst (λ (k : ℕ). 0 < refs_of k (xs ++ ys)) (sym e) some, laid_none)))
      (λ (n : c.key ≡ key → ⊥). same_extends s t key (ap bytes_of (set.others key (λ e. n (sym e)))))
      (cases_eq c.key key)

  laid_refs : (key : ℕ) → refs_of key (xs ++ c ∷ ys) ≡ refs_of key (xs ++ ys) + one key c
  laid_refs key = omega (arith, refs_both key xs (c ∷ ys), refs_both key xs ys)

  laid_counted : (key : ℕ) → references_to (under t key) ≡ refs_of key (xs ++ c ∷ ys)
  laid_counted key =
      ⊎_elim
      (λ (e : c.key ≡ key). subst (λ (k : ℕ). references_to (under t k) ≡ refs_of k (xs ++ c ∷ ys)) e
      (omega (arith, ap references_to set.there, laid_none, laid_refs c.key, one_there c c.key refl)))
      (λ (n : c.key ≡ key → ⊥). omega (arith, ap references_to (set.others key (λ e. n (sym e))), tied.counted key, laid_refs key, one_other c key n))
      (cases_eq c.key key)

  laid_used : (key : ℕ) → one_of (under t key) ≤ references_to (under t key)
  laid_used key =
      ⊎_elim
      (λ (e : c.key ≡ key). subst (λ (k : ℕ). one_of (under t k) ≤ references_to (under t k)) e
      (omega (arith, ap references_to set.there, ap one_of set.there)))
      (λ (n : c.key ≡ key → ⊥). subst (λ (o : Option Shelved). one_of o ≤ references_to o) (sym (set.others key (λ e. n (sym e)))) (tied.used key))
      (cases_eq c.key key)

  laid_on : IsOn t c
  laid_on = omega (arith, whole.0, whole.1, ap (λ (o : Option Shelved). length (bytes_of o)) set.there)

  pub tied_laid : IsTied t (xs ++ c ∷ ys)
  tied_laid = record {
    on = all_both (IsOn t) xs (c ∷ ys)
        (still_on s t xs (extends_left s t xs ys laid_extends) (all_left (IsOn s) xs ys tied.on))
        (laid_on, still_on s t ys (extends_right s t xs ys laid_extends) (all_right (IsOn s) xs ys tied.on));
    counted = laid_counted;
    used = laid_used;
  }

  pub laid_left : pieces_of t xs ≡ pieces_of s xs
  laid_left = pieces_left s t xs ys laid_extends tied.on

  pub laid_right : pieces_of t ys ≡ pieces_of s ys
  laid_right = pieces_right s t xs ys laid_extends tied.on

  pub laid_here : piece_of t c ≡ record { at = c.at; bytes = bytes }
  laid_here =
      ap (λ (bs : List ℕ). record { at = c.at; bytes = take c.len (drop c.place bs) }) (ap bytes_of set.there)
      ∙ ap (λ (n : ℕ). record { at = c.at; bytes = take c.len (drop n bytes) }) whole.0
      ∙ ap (λ (bs : List ℕ). record { at = c.at; bytes = bs }) (take_all c.len bytes (omega (arith, whole.1)))

  pub laid_count : blocks_on t ≡ blocks_on s + 1
  laid_count = omega (arith, blocks_set s t c.key (Some (record { bytes = bytes; references = 1 })) set, ap one_of free)

-- ---- a block has more bytes

appended_refs : (o : Option Shelved) (more : List ℕ) → references_to (appended o more) ≡ references_to o
appended_refs None more = refl
appended_refs (Some b) more = refl

appended_one : (o : Option Shelved) (more : List ℕ) → one_of (appended o more) ≡ one_of o
appended_one None more = refl
appended_one (Some b) more = refl

appended_bytes : (o : Option Shelved) (more : List ℕ) → 1 ≤ references_to o → bytes_of (appended o more) ≡ bytes_of o ++ more
appended_bytes None more h = absurd (omega arith)
appended_bytes (Some b) more h = refl

module _ (s t : Shelves) (items : List Laid) (key : ℕ) (more : List ℕ) (tied : IsTied s items) (there : 1 ≤ references_to (under s key)) (set : SetsOnly s t key (appended (under s key) more)) where
  pub grown_bytes : bytes_of (under t key) ≡ bytes_of (under s key) ++ more
  grown_bytes = ap bytes_of set.there ∙ appended_bytes (under s key) more there

  pub grown_extends : Extends s t items
  grown_extends k some =
      ⊎_elim
      (λ (e : key ≡ k). subst (λ (j : ℕ). (m : List ℕ) × (bytes_of (under t j) ≡ bytes_of (under s j) ++ m)) e (more, grown_bytes))
      (λ (n : key ≡ k → ⊥). same_extends s t k (ap bytes_of (set.others k (λ e. n (sym e)))))
      (cases_eq key k)

  grown_refs : (k : ℕ) → references_to (under t k) ≡ references_to (under s k)
  grown_refs k =
      ⊎_elim
      (λ (e : key ≡ k). subst (λ (j : ℕ). references_to (under t j) ≡ references_to (under s j)) e (ap references_to set.there ∙ appended_refs (under s key) more))
      (λ (n : key ≡ k → ⊥). ap references_to (set.others k (λ e. n (sym e))))
      (cases_eq key k)

  grown_one : (k : ℕ) → one_of (under t k) ≡ one_of (under s k)
  grown_one k =
      ⊎_elim
      (λ (e : key ≡ k). subst (λ (j : ℕ). one_of (under t j) ≡ one_of (under s j)) e (ap one_of set.there ∙ appended_one (under s key) more))
      (λ (n : key ≡ k → ⊥). ap one_of (set.others k (λ e. n (sym e))))
      (cases_eq key k)

  pub tied_grown : IsTied t items
  tied_grown = record {
    on = still_on s t items grown_extends tied.on;
    counted = λ k. grown_refs k ∙ tied.counted k;
    used = λ k. omega (arith, tied.used k, grown_refs k, grown_one k);
  }

  pub grown_count : blocks_on t ≡ blocks_on s
  grown_count = omega (arith, blocks_set s t key (appended (under s key) more) set, appended_one (under s key) more)

-- the chunk that ends with the block gets them
pub longer_on : (t : Shelves) (c d : Laid) (bs more : List ℕ) → bytes_of (under t c.key) ≡ bs ++ more → c.place + c.len ≡ length bs → d ≡ record c { len = c.len + length more } → IsOn t d
longer_on t c d bs more e whole is =
    subst (IsOn t) (sym is) (omega (arith, ap length e, length-append bs more))

pub longer_piece : (s t : Shelves) (c : Laid) (more : List ℕ) → bytes_of (under t c.key) ≡ bytes_of (under s c.key) ++ more → c.place + c.len ≡ length (bytes_of (under s c.key))
    → piece_of t (record c { len = c.len + length more }) ≡ record { at = c.at; bytes = Piece.bytes (piece_of s c) ++ more }
longer_piece s t c more e whole =
    let bs : List ℕ = bytes_of (under s c.key) in
    ap (λ (xs : List ℕ). record { at = c.at; bytes = xs })
    (ap (λ (xs : List ℕ). take (c.len + length more) (drop c.place xs)) e
    ∙ ap (take (c.len + length more)) (drop-append-le c.place bs more (omega arith))
    ∙ take_all (c.len + length more) (drop c.place bs ++ more) (omega (arith, length-append (drop c.place bs) more, length-drop c.place bs))
    ∙ ap (λ (xs : List ℕ). xs ++ more) (sym (take_all c.len (drop c.place bs) (omega (arith, length-drop c.place bs)))))

-- ---- nothing of a block changes

pub appended_none : (o : Option Shelved) → appended o [] ≡ o
appended_none None = refl
appended_none (Some b) = ap (λ (bs : List ℕ). Some (record b { bytes = bs })) (append-nil b.bytes)

pub no_longer : (s t : Shelves) (key : ℕ) → SetsOnly s t key (under s key) → SetsOnly s t key (appended (under s key) [])
no_longer s t key set = record { there = set.there ∙ sym (appended_none (under s key)); others = set.others }

-- ---- the block under a key as it was

pub under_same : (s t : Shelves) (key : ℕ) → SetsOnly s t key (under s key) → (k : ℕ) → under t k ≡ under s k
under_same s t key set k =
    ⊎_elim
    (λ (e : key ≡ k). subst (λ (j : ℕ). under t j ≡ under s j) e set.there)
    (λ (n : key ≡ k → ⊥). set.others k (λ e. n (sym e)))
    (cases_eq key k)

pub unchanged_extends : (s t : Shelves) (k : ℕ) → under t k ≡ under s k → (more : List ℕ) × (bytes_of (under t k) ≡ bytes_of (under s k) ++ more)
unchanged_extends s t k e = same_extends s t k (ap bytes_of e)

pub tied_same : (s t : Shelves) (items : List Laid) → ((k : ℕ) → under t k ≡ under s k) → IsTied s items → IsTied t items
tied_same s t items e tied = record {
  on = still_on s t items (λ k some. unchanged_extends s t k (e k)) tied.on;
  counted = λ k. ap references_to (e k) ∙ tied.counted k;
  used = λ k. omega (arith, tied.used k, ap references_to (e k), ap one_of (e k));
}

pub count_same : (s t : Shelves) (key : ℕ) → SetsOnly s t key (under s key) → blocks_on t ≡ blocks_on s
count_same s t key set = omega (arith, blocks_set s t key (under s key) set)

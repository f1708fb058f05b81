-- Blocks are laid one behind another.
use Rattle.std.proofs.Common.{◌≡◌, ℕ, ◌+◌, ◌-◌, ◌<◌, ◌≤◌, List, [], ◌∷◌, ◌++◌, length, take, drop, refl, ap, sym, ◌∙◌, subst, arith, Option, Some, None, ⊎_elim, length-drop, length-append, append_assoc}
use Rattle.std.specs.Prelude.{IsSome}
use Rattle.std.proofs.lemmas.Bool.{cases_lt, false≢true}
use Rattle.std.proofs.lemmas.List.{take-append-drop, take_at, drop_at, length-take-le}
use Rattle.px_model.proofs.Places.{get_left, get_right, got_elem}
use Rattle.std.specs.List.{concat}
use Rattle.px_block.specs.Given.{blocks_for}
use Rattle.px_block.specs.HeldBlock.{HeldBlock, contents}
use Rattle.px_block.specs.Packed.{IsPacked}
use Rattle.px_block.proofs.PackedLemmas.{length_contents, packed-count}
use Rattle.px_queue.specs.Pieces.{Piece, end_of, byte_in, first_of, byte_at, front_of, last_of, Rise}
use Rattle.px_queue.proofs.Bytes.{in_below, in_from, in_past, at_more, at_left, at_right, none_high, rise_both, rise_front, front_last}

first_some : (o p : Option ℕ) → IsSome o → first_of o p ≡ o
first_some None p h = absurd (false≢true h)
first_some (Some b) p h = refl

-- bytes in two parts
pub join_in : (at : ℕ) (xs ys : List ℕ) (i : ℕ) → byte_in (record { at = at; bytes = xs ++ ys }) i ≡ first_of (byte_in (record { at = at; bytes = xs }) i) (byte_in (record { at = at + length xs; bytes = ys }) i)
join_in at xs ys i =
    let both : Piece = record { at = at; bytes = xs ++ ys } in
    let left : Piece = record { at = at; bytes = xs } in
    let right : Piece = record { at = at + length xs; bytes = ys } in
    ⊎_elim
    (λ (low : i < at + length xs).
    ⊎_elim
    (λ (below : i < at). in_below both i below ∙ sym (ap (λ (o : Option ℕ). first_of o (byte_in right i)) (in_below left i below) ∙ in_below right i low))
    (λ (from : at ≤ i).
    let inside : i - at < length xs = omega arith in
    in_from both i from ∙ get_left xs ys (i - at) inside ∙ sym (in_from left i from)
    ∙ sym (first_some (byte_in left i) (byte_in right i) (subst (λ (o : Option ℕ). IsSome o) (sym (in_from left i from)) (got_elem xs (i - at) inside))))
    (cases_lt i at))
    (λ (high : at + length xs ≤ i).
    in_from both i (omega arith) ∙ get_right xs ys (i - (at + length xs)) (i - at) (omega arith) ∙ sym (in_from right i high)
    ∙ sym (ap (λ (o : Option ℕ). first_of o (byte_in right i)) (in_past left i high)))
    (cases_lt i (at + length xs))

-- the first n of all bytes, and one block of the others
pub next_taken : (all b r : List ℕ) (n : ℕ) → n ≤ length all → drop n all ≡ b ++ r → take (n + length b) all ≡ take n all ++ b
next_taken all b r n few e =
    ap (take (n + length b)) (sym (take-append-drop n all) ∙ ap (λ (xs : List ℕ). take n all ++ xs) e ∙ sym (append_assoc (take n all) b r))
    ∙ take_at (take n all ++ b) r (n + length b) (omega (arith, length-append (take n all) b, length-take-le n all few))

pub next_left : (all b r : List ℕ) (n : ℕ) → n ≤ length all → drop n all ≡ b ++ r → drop (n + length b) all ≡ r
next_left all b r n few e =
    ap (drop (n + length b)) (sym (take-append-drop n all) ∙ ap (λ (xs : List ℕ). take n all ++ xs) e ∙ sym (append_assoc (take n all) b r))
    ∙ drop_at (take n all ++ b) r (n + length b) (omega (arith, length-append (take n all) b, length-take-le n all few))

pub next_within : (all b r : List ℕ) (n : ℕ) → n ≤ length all → drop n all ≡ b ++ r → n + length b ≤ length all
next_within all b r n few e = omega (arith, ap length e, length-drop n all, length-append b r)

first_assoc : (o p q : Option ℕ) → first_of (first_of o p) q ≡ first_of o (first_of p q)
first_assoc None p q = refl
first_assoc (Some b) p q = refl

-- what stands there with the block
pub laid_bytes : (old : Option ℕ) (ps : List Piece) (at next i : ℕ) (all b r : List ℕ) (n : ℕ) → n ≤ length all → drop n all ≡ b ++ r → next ≡ at + n
    → byte_at ps i ≡ first_of old (byte_in (record { at = at; bytes = take n all }) i)
    → byte_at (ps ++ record { at = next; bytes = b } ∷ []) i ≡ first_of old (byte_in (record { at = at; bytes = take (n + length b) all }) i)
laid_bytes old ps at next i all b r n few e is before =
    let front : Option ℕ = byte_in (record { at = at; bytes = take n all }) i in
    let there : next ≡ at + length (take n all) = omega (arith, is, length-take-le n all few) in
    at_more ps (record { at = next; bytes = b }) i
    ∙ ap (λ (o : Option ℕ). first_of o (byte_in (record { at = next; bytes = b }) i)) before
    ∙ first_assoc old front (byte_in (record { at = next; bytes = b }) i)
    ∙ ap (λ (m : ℕ). first_of old (first_of front (byte_in (record { at = m; bytes = b }) i))) there
    ∙ ap (first_of old) (sym (join_in at (take n all) b i))
    ∙ ap (λ (xs : List ℕ). first_of old (byte_in (record { at = at; bytes = xs }) i)) (sym (next_taken all b r n few e))

pub laid_rise : (ps : List Piece) (next : ℕ) (b : List ℕ) → Rise 0 next ps → Rise 0 (next + length b) (ps ++ record { at = next; bytes = b } ∷ [])
laid_rise ps next b rise =
    let low : next ≤ next = omega arith in
    let high : next + length b ≤ next + length b = omega arith in
    rise_both 0 next (next + length b) ps (record { at = next; bytes = b } ∷ []) rise (low, high)

-- ---- a whole write

-- over what is left on both sides
pub over_bytes : (ps qs old : List Piece) (at i : ℕ) (all : List ℕ) (new : List Piece)
    → ((i : ℕ) → byte_at new i ≡ first_of (byte_at ps i) (byte_in (record { at = at; bytes = all }) i))
    → Rise 0 at ps → ((i : ℕ) → i < at → byte_at ps i ≡ byte_at old i)
    → ((i : ℕ) → i < at + length all → byte_at qs i ≡ None) → ((i : ℕ) → at + length all ≤ i → byte_at qs i ≡ byte_at old i)
    → byte_at (new ++ qs) i ≡ first_of (byte_in (record { at = at; bytes = all }) i) (byte_at old i)
over_bytes ps qs old at i all new laid rise low none high =
    let mine : Piece = record { at = at; bytes = all } in
    ⊎_elim
    (λ (before : i < at).
    at_left new qs i (none i (omega arith)) ∙ laid i
    ∙ ap (first_of (byte_at ps i)) (in_below mine i before) ∙ no_more (byte_at ps i) ∙ low i before
    ∙ sym (ap (λ (o : Option ℕ). first_of o (byte_at old i)) (in_below mine i before)))
    (λ (from : at ≤ i).
    ⊎_elim
    (λ (inside : i < at + length all).
    at_left new qs i (none i inside) ∙ laid i
    ∙ ap (λ (o : Option ℕ). first_of o (byte_in mine i)) (none_high 0 at ps i rise from)
    ∙ sym (first_some (byte_in mine i) (byte_at old i) (subst (λ (o : Option ℕ). IsSome o) (sym (in_from mine i from)) (got_elem all (i - at) (omega arith)))))
    (λ (past : at + length all ≤ i).
    at_right new qs i (laid i ∙ ap (λ (o : Option ℕ). first_of o (byte_in mine i)) (none_high 0 at ps i rise from) ∙ in_past mine i past)
    ∙ high i past
    ∙ sym (ap (λ (o : Option ℕ). first_of o (byte_at old i)) (in_past mine i past)))
    (cases_lt i (at + length all)))
    (cases_lt i at)
  where
    no_more : (o : Option ℕ) → first_of o None ≡ o
    no_more None = refl
    no_more (Some b) = refl

pub no_bytes : (bs : List HeldBlock) → length bs ≡ 0 → concat (contents bs) ≡ []
no_bytes [] none = refl
no_bytes (b ∷ bs) none = absurd (omega arith)

-- how many blocks there are, by their bytes
pub count_by_bytes : (bs : List HeldBlock) (bytes : List ℕ) → IsPacked (contents bs) → concat (contents bs) ≡ bytes → length bs ≡ blocks_for (length bytes)
count_by_bytes bs bytes packed e =
    sym (length_contents bs) ∙ packed-count (contents bs) packed ∙ ap (λ (xs : List ℕ). blocks_for (length xs)) e

-- ---- bytes behind the last piece

pub extended_bytes : (ps new : List Piece) (at i : ℕ) (more : List ℕ) → 0 < length ps → at ≡ end_of (last_of ps)
    → new ≡ front_of ps ++ record { at = (last_of ps).at; bytes = (last_of ps).bytes ++ more } ∷ []
    → byte_at new i ≡ first_of (byte_at ps i) (byte_in (record { at = at; bytes = more }) i)
extended_bytes ps new at i more some there is =
    let last : Piece = last_of ps in
    let mine : Piece = record { at = at; bytes = more } in
    ap (λ (xs : List Piece). byte_at xs i) is
    ∙ at_more (front_of ps) (record { at = last.at; bytes = last.bytes ++ more }) i
    ∙ ap (first_of (byte_at (front_of ps) i)) (join_in last.at last.bytes more i ∙ ap (λ (m : ℕ). first_of (byte_in last i) (byte_in (record { at = m; bytes = more }) i)) (sym there))
    ∙ sym (first_assoc (byte_at (front_of ps) i) (byte_in last i) (byte_in mine i))
    ∙ ap (λ (o : Option ℕ). first_of o (byte_in mine i)) (sym (ap (λ (xs : List Piece). byte_at xs i) (front_last ps some) ∙ at_more (front_of ps) last i))

pub extended_rise : (ps new : List Piece) (at : ℕ) (more : List ℕ) → Rise 0 at ps → 0 < length ps → at ≡ end_of (last_of ps)
    → new ≡ front_of ps ++ record { at = (last_of ps).at; bytes = (last_of ps).bytes ++ more } ∷ [] → Rise 0 (at + length more) new
extended_rise ps new at more rise some there is =
    let last : Piece = last_of ps in
    let low : last.at ≤ last.at = omega arith in
    let end : last.at + length (last.bytes ++ more) ≤ at + length more = omega (arith, length-append last.bytes more, there) in
    subst (Rise 0 (at + length more)) (sym is)
    (rise_both 0 last.at (at + length more) (front_of ps) (record { at = last.at; bytes = last.bytes ++ more } ∷ []) (rise_front 0 at (front_of ps) last (subst (Rise 0 at) (front_last ps some) rise)) (low, end))

-- The first input of each stream, where an input changes, goes or comes.
use Rattle.std.proofs.Common.{◌≡◌, ◌&&◌, not, nat_eq, Bool, true, false, cond, List, [], ◌∷◌, ◌++◌, Option, None, Some, IsSome, IfSome, refl, ap, sym, subst, ◌∙◌}
use Rattle.std.proofs.lemmas.Bool.{cond-true, cond-false, eqb-true, eq-eqb, and_from, false≢true}
use Rattle.std.proofs.lemmas.Option.{none-some, same_Some}
use Rattle.std.specs.List.{find}
use Rattle.std.specs.Option.{option_map}
use Rattle.indexmap.specs.IndexMap.{IndexMap, get, ContainsKey}
use Rattle.px_outcome.specs.declared.input.Input.{Input}
use Rattle.px_input_table.specs.declared.input_table.StreamKey.{StreamKey}
use Rattle.px_input_table.specs.Lists.{change_first, drop_first}
use Rattle.px_input_table.specs.Inputs.{leaving}
use Rattle.px_outcome.specs.Input.{goes_on, is_stream}
use Rattle.px_input_table.specs.InputTable.{key_of, same_stream, first_of, AreByStream}

-- ---- a choice at the head of a list

in_tail : {A : Type 0} (c : Bool) (v : A) (r : Option A) → IsSome r → IsSome (cond c (Some v) r)
in_tail true v r some = refl
in_tail false v r some = some

head_or_tail : {A : Type 0} (c d : Bool) (v u : A) (r t : Option A) → (d ≡ true → c ≡ true) → (IsSome t → IsSome r) → IsSome (cond d (Some u) t) → IsSome (cond c (Some v) r)
head_or_tail true d v u r t heads tails some = refl
head_or_tail false true v u r t heads tails some = absurd (false≢true (heads refl))
head_or_tail false false v u r t heads tails some = tails some

-- ---- one test finds x, which changes or goes: what another test finds that x doesn't pass

module _ {A : Type 0} (p is : A → Bool) (f : A → A) where
  pub found-changed : (xs : List A) (x : A) → find p xs ≡ Some x → is x ≡ false → is (f x) ≡ false → find is (change_first p f xs) ≡ find is xs
  found-changed [] x found was now = refl
  found-changed (y ∷ ys) x found was now = by (p y) refl (λ so. found-changed ys x (sym (cond-false (p y) (Some y) (find p ys) so) ∙ found) was now)
    where
      by : (b : Bool) → p y ≡ b → (p y ≡ false → find is (change_first p f ys) ≡ find is ys) → find is (change_first p f (y ∷ ys)) ≡ find is (y ∷ ys)
      by true so later =
          let here : y ≡ x = same_Some y x (sym (cond-true (p y) (Some y) (find p ys) so) ∙ found) in
          let was_here : is y ≡ false = ap is here ∙ was in
          let now_here : is (f y) ≡ false = ap (λ z. is (f z)) here ∙ now in
          rw (so, was_here, now_here) refl
      by false so later = rw so (ap (λ r. cond (is y) (Some y) r) (later so))

  pub found-dropped : (xs : List A) (x : A) → find p xs ≡ Some x → is x ≡ false → find is (drop_first p xs) ≡ find is xs
  found-dropped [] x found was = refl
  found-dropped (y ∷ ys) x found was = by (p y) refl (λ so. found-dropped ys x (sym (cond-false (p y) (Some y) (find p ys) so) ∙ found) was)
    where
      by : (b : Bool) → p y ≡ b → (p y ≡ false → find is (drop_first p ys) ≡ find is ys) → find is (drop_first p (y ∷ ys)) ≡ find is (y ∷ ys)
      by true so later =
          let here : y ≡ x = same_Some y x (sym (cond-true (p y) (Some y) (find p ys) so) ∙ found) in
          let was_here : is y ≡ false = ap is here ∙ was in
          rw (so, was_here) refl
      by false so later = rw so (ap (λ r. cond (is y) (Some y) r) (later so))

  pub none-changed : (xs : List A) → find p xs ≡ None → change_first p f xs ≡ xs
  none-changed [] none = refl
  none-changed (y ∷ ys) none = by (p y) refl (λ so. none-changed ys (sym (cond-false (p y) (Some y) (find p ys) so) ∙ none))
    where
      by : (b : Bool) → p y ≡ b → (p y ≡ false → change_first p f ys ≡ ys) → change_first p f (y ∷ ys) ≡ y ∷ ys
      by true so later = absurd (none-some y (sym none ∙ cond-true (p y) (Some y) (find p ys) so))
      by false so later = rw so (ap (λ zs. y ∷ zs) (later so))

  pub none-dropped : (xs : List A) → find p xs ≡ None → drop_first p xs ≡ xs
  none-dropped [] none = refl
  none-dropped (y ∷ ys) none = by (p y) refl (λ so. none-dropped ys (sym (cond-false (p y) (Some y) (find p ys) so) ∙ none))
    where
      by : (b : Bool) → p y ≡ b → (p y ≡ false → drop_first p ys ≡ ys) → drop_first p (y ∷ ys) ≡ y ∷ ys
      by true so later = absurd (none-some y (sym none ∙ cond-true (p y) (Some y) (find p ys) so))
      by false so later = rw so (ap (λ zs. y ∷ zs) (later so))

  -- what is found where an input changed or went, was found before
  pub some-changed : ((z : A) → is (f z) ≡ true → is z ≡ true) → (xs : List A) → IsSome (find is (change_first p f xs)) → IsSome (find is xs)
  some-changed keeps [] some = some
  some-changed keeps (y ∷ ys) some = by (p y) refl (some-changed keeps ys)
    where
      by : (b : Bool) → p y ≡ b → (IsSome (find is (change_first p f ys)) → IsSome (find is ys)) → IsSome (find is (y ∷ ys))
      by true so later =
          head_or_tail (is y) (is (f y)) y (f y) (find is ys) (find is ys) (keeps y) (λ h. h)
          (subst (λ zs. IsSome (find is zs)) (cond-true (p y) (f y ∷ ys) (y ∷ change_first p f ys) so) some)
      by false so later =
          head_or_tail (is y) (is y) y y (find is ys) (find is (change_first p f ys)) (λ h. h) later
          (subst (λ zs. IsSome (find is zs)) (cond-false (p y) (f y ∷ ys) (y ∷ change_first p f ys) so) some)

  pub some-dropped : (xs : List A) → IsSome (find is (drop_first p xs)) → IsSome (find is xs)
  some-dropped [] some = some
  some-dropped (y ∷ ys) some = by (p y) refl (some-dropped ys)
    where
      by : (b : Bool) → p y ≡ b → (IsSome (find is (drop_first p ys)) → IsSome (find is ys)) → IsSome (find is (y ∷ ys))
      by true so later = in_tail (is y) y (find is ys) (subst (λ zs. IsSome (find is zs)) (cond-true (p y) ys (y ∷ drop_first p ys) so) some)
      by false so later =
          head_or_tail (is y) (is y) y y (find is ys) (find is (drop_first p ys)) (λ h. h) later
          (subst (λ zs. IsSome (find is zs)) (cond-false (p y) ys (y ∷ drop_first p ys) so) some)

pub found-pushed : {A : Type 0} (is : A → Bool) (xs : List A) (x : A) → is x ≡ false → find is (xs ++ x ∷ []) ≡ find is xs
found-pushed is [] x not_it = cond-false (is x) (Some x) None not_it
found-pushed is (y ∷ ys) x not_it = ap (λ r. cond (is y) (Some y) r) (found-pushed is ys x not_it)

-- ---- streams

either_false : (a b c : Bool) → (a && b) ≡ false → (a && b && c) ≡ false
either_false true true c h = absurd (false≢true (sym h))
either_false true false c h = refl
either_false false b c h = refl

-- an input of a stream isn't one of another stream
pub apart : (key other : StreamKey) (x : Input) → key_of x ≡ key → same_stream key other ≡ false → is_stream other.conn other.stream x ≡ false
apart key other x is_key differ =
    let here : same_stream (key_of x) other ≡ false = ap (λ k. same_stream k other) is_key ∙ differ in
    either_false (nat_eq x.conn.0 other.conn.0) (nat_eq x.stream other.stream) (goes_on x) here

both : (a b : Bool) → (a && b) ≡ true → (a ≡ true) × (b ≡ true)
both true true h = (refl, refl)
both true false h = absurd (false≢true h)
both false b h = absurd (false≢true h)

same_first : (inputs : List Input) (key other : StreamKey) → same_stream key other ≡ true → first_of inputs key ≡ first_of inputs other
same_first inputs key other same =
    let h = both (nat_eq key.conn.0 other.conn.0) (nat_eq key.stream other.stream) same in
    let conn : key.conn.0 ≡ other.conn.0 = eqb-true key.conn.0 other.conn.0 h.0 in
    let stream : key.stream ≡ other.stream = eqb-true key.stream other.stream h.1 in
    λ i. find (λ x. nat_eq (Input.conn x).0 (conn i) && nat_eq x.stream (stream i) && goes_on x) inputs

-- a table stays one where only the inputs of a stream change, and that stream's entry is renewed
pub renewed : {S : Type 0} (was now : List Input) (table new : IndexMap StreamKey Input S) (key : StreamKey) → AreByStream was table
    → ((other : StreamKey) → get same_stream new other ≡ cond (same_stream key other) (first_of now key) (get same_stream table other))
    → ((other : StreamKey) → same_stream key other ≡ false → first_of now other ≡ first_of was other)
    → AreByStream now new
renewed was now table new key by_stream entries others other = by (same_stream key other) refl
  where
    by : (b : Bool) → same_stream key other ≡ b → get same_stream new other ≡ first_of now other
    by true so = entries other ∙ cond-true (same_stream key other) (first_of now key) (get same_stream table other) so ∙ same_first now key other so
    by false so = entries other ∙ cond-false (same_stream key other) (first_of now key) (get same_stream table other) so ∙ by_stream other ∙ sym (others other so)

-- what renewing an entry gives, where these are the inputs
abbrev pub Renews : {S : Type 0} → List Input → StreamKey → IndexMap StreamKey Input S → IndexMap StreamKey Input S → Type 0
Renews now key table new = (other : StreamKey) → get same_stream new other ≡ cond (same_stream key other) (first_of now key) (get same_stream table other)

module _ {S : Type 0} (inputs : List Input) (table : IndexMap StreamKey Input S) (by_stream : AreByStream inputs table) (p : Input → Bool) (key : StreamKey) where
  has_key : (x : Input) → find p inputs ≡ Some x → option_map key_of (find p inputs) ≡ Some key → key_of x ≡ key
  has_key x found at = same_Some (key_of x) key (sym (ap (λ r. option_map key_of r) found) ∙ at)

  nowhere : find p inputs ≡ None → option_map key_of (find p inputs) ≡ Some key → ⊥
  nowhere none at = none-some key (sym (ap (λ r. option_map key_of r) none) ∙ at)

  -- the first that is so changes, and is of the same stream
  pub holds-changed : (f : Input → Input) → ((z : Input) → key_of (f z) ≡ key_of z) → option_map key_of (find p inputs) ≡ Some key
      → (new : IndexMap StreamKey Input S) → Renews (change_first p f inputs) key table new → AreByStream (change_first p f inputs) new
  holds-changed f keeps at new renews = renewed inputs (change_first p f inputs) table new key by_stream renews others
    where
      others : (other : StreamKey) → same_stream key other ≡ false → first_of (change_first p f inputs) other ≡ first_of inputs other
      others other differ = by (find p inputs) refl
        where
          by : (r : Option Input) → find p inputs ≡ r → first_of (change_first p f inputs) other ≡ first_of inputs other
          by None none = absurd (nowhere none at)
          by (Some x) found =
              let is_key = has_key x found at in
              found-changed p (is_stream other.conn other.stream) f inputs x found (apart key other x is_key differ) (apart key other (f x) (keeps x ∙ is_key) differ)

  -- it goes
  pub holds-dropped : option_map key_of (find p inputs) ≡ Some key → (new : IndexMap StreamKey Input S) → Renews (drop_first p inputs) key table new → AreByStream (drop_first p inputs) new
  holds-dropped at new renews = renewed inputs (drop_first p inputs) table new key by_stream renews others
    where
      others : (other : StreamKey) → same_stream key other ≡ false → first_of (drop_first p inputs) other ≡ first_of inputs other
      others other differ = by (find p inputs) refl
        where
          by : (r : Option Input) → find p inputs ≡ r → first_of (drop_first p inputs) other ≡ first_of inputs other
          by None none = absurd (nowhere none at)
          by (Some x) found = found-dropped p (is_stream other.conn other.stream) (λ z. z) inputs x found (apart key other x (has_key x found at) differ)

  -- a stream that is there then, was there before
  pub there-changed : (f : Input → Input) → ((z : Input) → is_stream key.conn key.stream (f z) ≡ true → is_stream key.conn key.stream z ≡ true)
      → IsSome (first_of (change_first p f inputs) key) → ContainsKey same_stream table key
  there-changed f was some = subst IsSome (sym (by_stream key)) (some-changed p (is_stream key.conn key.stream) f was inputs some)

  pub there-dropped : IsSome (first_of (drop_first p inputs) key) → ContainsKey same_stream table key
  there-dropped some = subst IsSome (sym (by_stream key)) (some-dropped p (is_stream key.conn key.stream) (λ z. z) inputs some)

-- one more comes
pub holds-pushed : {S : Type 0} (inputs : List Input) (table : IndexMap StreamKey Input S) → AreByStream inputs table → (x : Input)
    → (new : IndexMap StreamKey Input S) → Renews (inputs ++ x ∷ []) (key_of x) table new → AreByStream (inputs ++ x ∷ []) new
holds-pushed inputs table by_stream x new renews =
    renewed inputs (inputs ++ x ∷ []) table new (key_of x) by_stream renews
    (λ other differ. found-pushed (is_stream other.conn other.stream) inputs x (apart (key_of x) other x refl differ))

never : (a b : Bool) → (a && b && not true) ≡ true → ⊥
never true true h = false≢true h
never true false h = false≢true h
never false b h = false≢true h

-- an input that has ended is no stream's
pub ended : (key : StreamKey) (z : Input) → is_stream key.conn key.stream (leaving z) ≡ true → is_stream key.conn key.stream z ≡ true
ended key z h = absurd (never (nat_eq z.conn.0 key.conn.0) (nat_eq z.stream key.stream) h)

-- what one test finds and another passes, the other finds too
passes : {A : Type 0} (p is : A → Bool) (xs : List A) (x : A) → find p xs ≡ Some x → is x ≡ true → IsSome (find is xs)
passes p is [] x found so = absurd (none-some x found)
passes {A} p is (y ∷ ys) x found so = by (p y) refl (λ off. passes p is ys x (sym (cond-false (p y) (Some y) (find p ys) off) ∙ found) so)
  where
    by : (b : Bool) → p y ≡ b → (p y ≡ false → IsSome (find is ys)) → IsSome (cond (is y) (Some y) (find is ys))
    by true on later =
        let here : y ≡ x = same_Some y x (sym (cond-true (p y) (Some y) (find p ys) on) ∙ found) in
        rw (ap is here ∙ so) refl
    by false off later = in_tail (is y) y (find is ys) (later off)

own_stream : (x : Input) → goes_on x ≡ true → is_stream x.conn x.stream x ≡ true
own_stream x goes =
    and_from (nat_eq x.conn.0 x.conn.0 && nat_eq x.stream x.stream) (goes_on x)
    (and_from (nat_eq x.conn.0 x.conn.0) (nat_eq x.stream x.stream) (eq-eqb x.conn.0 x.conn.0 refl) (eq-eqb x.stream x.stream refl))
    goes

-- the stream of an input that goes on is in the table
pub going-there : {S : Type 0} (inputs : List Input) (table : IndexMap StreamKey Input S) → AreByStream inputs table → (p : Input → Bool) (key : StreamKey) (o : Option Input) → find p inputs ≡ o
    → option_map key_of o ≡ Some key → IfSome o (λ x. goes_on x ≡ true) → ContainsKey same_stream table key
going-there inputs table by_stream p key None found at goes = absurd (none-some key at)
going-there inputs table by_stream p key (Some x) found at goes =
    subst IsSome (sym (by_stream key))
    (passes p (is_stream key.conn key.stream) inputs x found
    (subst (λ (k : StreamKey). is_stream k.conn k.stream x ≡ true) (same_Some (key_of x) key at) (own_stream x goes)))

-- no input, so no stream of it
pub unnamed : (r : Option Input) → None ≡ option_map key_of r → r ≡ None
unnamed None h = refl
unnamed (Some x) h = absurd (none-some (key_of x) h)

-- Inputs in rising index by their indices: which of those that pass a test a finite map has.
use Rattle.std.proofs.Common.{◌≡◌, ℕ, ◌<◌, ◌≤◌, List, [], ◌∷◌, ◌++◌, map, length, Option, Some, None, Bool, true, false, refl, ap, sym, subst, ◌∙◌, arith, cond}
use Rattle.std.specs.Prelude.{filter, flat_map, nat_eq, ◌+◌}
use Rattle.std.specs.Option.{option_to_list}
use Rattle.std.specs.List.{AllByRecursion, find}
use Rattle.std.specs.Ordering.{nat_cmp, eq_by_cmp}
use Rattle.std.specs.FinMap as finite
use Rattle.std.specs.Cmp.{nat_cmp_total}
use Rattle.std.proofs.lemmas.Bool.{cond_both, cond-true, cond-false, eqb-true, eqb-false, eq-eqb, ne_eqb}
use Rattle.std.proofs.lemmas.Bool.Decides.{nat_tests}
use Rattle.std.proofs.lemmas.List.{append-nil}
use Rattle.std.proofs.lemmas.Option.{none-some, same_Some}
use Rattle.px_types.specs.declared.ids.InputId.{InputId}
use Rattle.px_model.specs.Frame.{SampleSpec}
use Rattle.px_model.specs.Orderly.{Inputs}
use Rattle.px_msg.specs.declared.message.Msg.{Msg}
use Rattle.px_msg.specs.View.{sample_spec}
use Rattle.px_outcome.specs.declared.input.Input.{Input}
use Rattle.px_state.specs.State.{has_index}
use Rattle.px_state.specs.Change.{change_first, drop_first}
use Rattle.px_core.specs.Orderly.{entry_of, spec_in, specs_of}
use Rattle.px_core.specs.Consistency.{AllAbove, IsRising, brought_of}
use Rattle.px_core.proofs.ListLaws.{heads, tails, no_cons, found_all, all_change, all_drop, all_push}

-- ---- tests

pub same_key : (i k : ℕ) → eq_by_cmp nat_cmp i k ≡ nat_eq k i
same_key i k = grind (arith, nat_tests)

shadowed : {A : Type 0} (b : Bool) (x y z : A) → cond b x z ≡ cond b x (cond b y z)
shadowed true x y z = refl
shadowed false x y z = refl

swapped : {A : Type 0} (a j i : ℕ) → (a ≡ j → ⊥) → (x y z : A) → cond (nat_eq a i) x (cond (nat_eq j i) y z) ≡ cond (nat_eq j i) y (cond (nat_eq a i) x z)
swapped a j i apart x y z = step (nat_eq a i) refl
  where
    step : (b : Bool) → nat_eq a i ≡ b → cond b x (cond (nat_eq j i) y z) ≡ cond (nat_eq j i) y (cond b x z)
    step true e = sym (cond-false (nat_eq j i) y x (ne_eqb j i (λ (h : j ≡ i). apart (eqb-true a i e ∙ sym h))))
    step false e = refl

-- ---- what isn't there

pub none_above : (p : Input → Bool) (i : ℕ) (xs : List Input) → AllAbove i xs → spec_in p i xs ≡ None
none_above p i [] a = refl
none_above p i (x ∷ xs) a =
    cond-false (nat_eq x.index.0 i) (cond (p x) (Some (sample_spec x.spec)) None) (spec_in p i xs) (ne_eqb x.index.0 i (λ (e : x.index.0 ≡ i). absurd (omega (arith, a.0, e))))
    ∙ none_above p i xs a.1

pub none_below : (p : Input → Bool) (n : ℕ) (xs : List Input) → AllByRecursion (λ x. (Input.index x).0 < n) xs → spec_in p n xs ≡ None
none_below p n [] a = refl
none_below p n (x ∷ xs) a =
    cond-false (nat_eq x.index.0 n) (cond (p x) (Some (sample_spec x.spec)) None) (spec_in p n xs) (ne_eqb x.index.0 n (λ (e : x.index.0 ≡ n). absurd (omega (arith, a.0, e))))
    ∙ none_below p n xs a.1

-- ---- the map shows the look-up

found_step : (p : Input → Bool) (i : ℕ) (x : Input) (xs : List Input) → AllAbove x.index.0 xs → finite.find nat_cmp i (map entry_of (filter p xs)) ≡ spec_in p i xs → (b : Bool) → finite.find nat_cmp i (map entry_of (cond b (x ∷ filter p xs) (filter p xs))) ≡ cond (nat_eq x.index.0 i) (cond b (Some (sample_spec x.spec)) None) (spec_in p i xs)
found_step p i x xs a h true = λ k. cond (same_key i x.index.0 k) (Some (sample_spec x.spec)) (h k)
found_step p i x xs a h false =
    h
    ∙ cond_both (nat_eq x.index.0 i) None (spec_in p i xs) (λ o. spec_in p i xs ≡ o)
    (λ e. none_above p i xs (subst (λ n. AllAbove n xs) (eqb-true x.index.0 i e) a))
    (λ e. refl)

found : (p : Input → Bool) (i : ℕ) (xs : List Input) → IsRising xs → finite.find nat_cmp i (map entry_of (filter p xs)) ≡ spec_in p i xs
found p i [] r = refl
found p i (x ∷ xs) r = found_step p i x xs r.0 (found p i xs r.1) (p x)

pub get_in : (p : Input → Bool) (xs : List Input) → IsRising xs → (i : ℕ) → finite.get (specs_of (filter p xs)) i ≡ spec_in p i xs
get_in p xs r i = finite.get-from_entries nat_cmp_total (map entry_of (filter p xs)) i ∙ found p i xs r

-- the map is the one that answers so
pub same_specs : (m : Inputs) (p : Input → Bool) (xs : List Input) → IsRising xs → ((i : ℕ) → finite.get m i ≡ spec_in p i xs) → m ≡ specs_of (filter p xs)
same_specs m p xs r h = finite.same_map nat_cmp_total finite.nat_cmp-IsAntisymmetric m (specs_of (filter p xs)) (λ i. h i ∙ sym (get_in p xs r i))

-- where the maps are the same, what is found is
pub in_same : (p : Input → Bool) (xs ys : List Input) → IsRising xs → IsRising ys → map entry_of (filter p xs) ≡ map entry_of (filter p ys) → (i : ℕ) → spec_in p i xs ≡ spec_in p i ys
in_same p xs ys r s e i = sym (get_in p xs r i) ∙ ap (λ es. finite.get (finite.from_entries {R = nat_cmp} es) i) e ∙ get_in p ys s i

-- ---- the input that is found

abbrev Preserves : (Input → Input) → Type 0
Preserves f = (x : Input) → (f x).index.0 ≡ x.index.0

pub here_in : (p : Input → Bool) (j : InputId) (xs : List Input) (y : Input) → find (has_index j) xs ≡ Some y → spec_in p j.0 xs ≡ cond (p y) (Some (sample_spec y.spec)) None
here_in p j [] y e = absurd (none-some y e)
here_in p j (x ∷ xs) y e = step (here_in p j xs y) (nat_eq x.index.0 j.0) e
  where
    step : (find (has_index j) xs ≡ Some y → spec_in p j.0 xs ≡ cond (p y) (Some (sample_spec y.spec)) None) → (b : Bool) → cond b (Some x) (find (has_index j) xs) ≡ Some y → cond b (cond (p x) (Some (sample_spec x.spec)) None) (spec_in p j.0 xs) ≡ cond (p y) (Some (sample_spec y.spec)) None
    step later true f = ap (λ (z : Input). cond (p z) (Some (sample_spec z.spec)) None) (same_Some x y f)
    step later false f = later f

-- what a test finds is found by its index
pub found_by_index : (q : Input → Bool) (xs : List Input) → IsRising xs → (y : Input) → find q xs ≡ Some y → find (has_index y.index) xs ≡ Some y
found_by_index q [] r y e = e
found_by_index q (x ∷ xs) r y e = step (found_by_index q xs r.1 y) (q x) e
  where
    apart : x.index.0 < y.index.0 → nat_eq x.index.0 y.index.0 ≡ false
    apart l = ne_eqb x.index.0 y.index.0 (λ (h : x.index.0 ≡ y.index.0). absurd (omega (arith, l, h)))

    step : (find q xs ≡ Some y → find (has_index y.index) xs ≡ Some y) → (b : Bool) → cond b (Some x) (find q xs) ≡ Some y → cond (nat_eq x.index.0 y.index.0) (Some x) (find (has_index y.index) xs) ≡ Some y
    step later true f =
        cond-true (nat_eq x.index.0 y.index.0) (Some x) (find (has_index y.index) xs) (eq-eqb x.index.0 y.index.0 (ap (λ (z : Input). z.index.0) (same_Some x y f)))
        ∙ f
    step later false f =
        cond-false (nat_eq x.index.0 y.index.0) (Some x) (find (has_index y.index) xs) (apart (found_all (λ (z : Input). x.index.0 < z.index.0) q xs y r.0 f))
        ∙ later f

-- the input whose sample spec is there
pub record Found (p : Input → Bool) (j : InputId) (xs : List Input) (s : SampleSpec) : Type 0 where
  pub input : Input
  pub here : find (has_index j) xs ≡ Some input
  pub passes : p input ≡ true
  pub spec : sample_spec input.spec ≡ s

pub found_in : (p : Input → Bool) (j : InputId) (xs : List Input) (s : SampleSpec) → spec_in p j.0 xs ≡ Some s → Found p j xs s
found_in p j [] s e = absurd (none-some s e)
found_in p j (x ∷ xs) s e = step (found_in p j xs s) (nat_eq x.index.0 j.0) refl e
  where
    this : nat_eq x.index.0 j.0 ≡ true → (b : Bool) → p x ≡ b → cond b (Some (sample_spec x.spec)) None ≡ Some s → Found p j (x ∷ xs) s
    this h true t f = record { input = x; here = cond-true (nat_eq x.index.0 j.0) (Some x) (find (has_index j) xs) h; passes = t; spec = same_Some (sample_spec x.spec) s f }
    this h false t f = absurd (none-some s f)

    step : (spec_in p j.0 xs ≡ Some s → Found p j xs s) → (b : Bool) → nat_eq x.index.0 j.0 ≡ b → cond b (cond (p x) (Some (sample_spec x.spec)) None) (spec_in p j.0 xs) ≡ Some s → Found p j (x ∷ xs) s
    step later true h f = this h (p x) refl f
    step later false h f =
        let it : Found p j xs s = later f in
        record {
          input = it.input;
          here = cond-false (nat_eq x.index.0 j.0) (Some x) (find (has_index j) xs) h ∙ it.here;
          passes = it.passes;
          spec = it.spec;
        }

-- ---- one changes

change_in : (p : Input → Bool) (j : InputId) (f : Input → Input) → Preserves f → (xs : List Input) (y : Input) → find (has_index j) xs ≡ Some y → (i : ℕ) → spec_in p i (change_first (has_index j) f xs) ≡ cond (nat_eq j.0 i) (cond (p (f y)) (Some (sample_spec (f y).spec)) None) (spec_in p i xs)
change_in p j f keeps [] y e i = absurd (none-some y e)
change_in p j f keeps (x ∷ xs) y e i = step (λ g. change_in p j f keeps xs y g i) (nat_eq x.index.0 j.0) refl e
  where
    step : (find (has_index j) xs ≡ Some y → spec_in p i (change_first (has_index j) f xs) ≡ cond (nat_eq j.0 i) (cond (p (f y)) (Some (sample_spec (f y).spec)) None) (spec_in p i xs)) → (b : Bool) → nat_eq x.index.0 j.0 ≡ b → cond b (Some x) (find (has_index j) xs) ≡ Some y → spec_in p i (cond b (f x ∷ xs) (x ∷ change_first (has_index j) f xs)) ≡ cond (nat_eq j.0 i) (cond (p (f y)) (Some (sample_spec (f y).spec)) None) (cond (nat_eq x.index.0 i) (cond (p x) (Some (sample_spec x.spec)) None) (spec_in p i xs))
    step later true h g =
        (λ k. cond (nat_eq ((keeps x ∙ eqb-true x.index.0 j.0 h) k) i) (cond (p (f (same_Some x y g k))) (Some (sample_spec (f (same_Some x y g k)).spec)) None) (spec_in p i xs))
        ∙ shadowed (nat_eq j.0 i) (cond (p (f y)) (Some (sample_spec (f y).spec)) None) (cond (p x) (Some (sample_spec x.spec)) None) (spec_in p i xs)
        ∙ (λ k. cond (nat_eq j.0 i) (cond (p (f y)) (Some (sample_spec (f y).spec)) None) (cond (nat_eq (sym (eqb-true x.index.0 j.0 h) k) i) (cond (p x) (Some (sample_spec x.spec)) None) (spec_in p i xs)))
    step later false h g =
        ap (cond (nat_eq x.index.0 i) (cond (p x) (Some (sample_spec x.spec)) None)) (later g)
        ∙ swapped x.index.0 j.0 i (eqb-false x.index.0 j.0 h) (cond (p x) (Some (sample_spec x.spec)) None) (cond (p (f y)) (Some (sample_spec (f y).spec)) None) (spec_in p i xs)

-- ---- the order

rising_all : (i : ℕ) (f : Input → Input) → Preserves f → (x : Input) → i < x.index.0 → i < (f x).index.0
rising_all i f keeps x l = subst (λ n. i < n) (sym (keeps x)) l

pub rising_change : (q : Input → Bool) (f : Input → Input) → Preserves f → (xs : List Input) → IsRising xs → IsRising (change_first q f xs)
rising_change q f keeps [] r = tt
rising_change q f keeps (x ∷ xs) r =
    cond_both (q x) (f x ∷ xs) (x ∷ change_first q f xs) IsRising
    (λ e. (subst (λ n. AllAbove n xs) (sym (keeps x)) r.0, r.1))
    (λ e. (all_change (λ z. x.index.0 < (Input.index z).0) q f (rising_all x.index.0 f keeps) xs r.0, rising_change q f keeps xs r.1))

pub rising_drop : (q : Input → Bool) (xs : List Input) → IsRising xs → IsRising (drop_first q xs)
rising_drop q [] r = tt
rising_drop q (x ∷ xs) r =
    cond_both (q x) xs (x ∷ drop_first q xs) IsRising
    (λ e. r.1)
    (λ e. (all_drop (λ z. x.index.0 < (Input.index z).0) q xs r.0, rising_drop q xs r.1))

pub rising_push : (xs : List Input) (y : Input) → IsRising xs → AllByRecursion (λ x. (Input.index x).0 < y.index.0) xs → IsRising (xs ++ y ∷ [])
rising_push [] y r a = (tt, tt)
rising_push (x ∷ xs) y r a = (all_push (λ z. x.index.0 < (Input.index z).0) xs y r.0 a.0, rising_push xs y r.1 a.1)

-- ---- the map after a change

-- one that passes after it is put in
pub inserted : (p : Input → Bool) (j : InputId) (f : Input → Input) → Preserves f → (xs : List Input) → IsRising xs → (y : Input) → find (has_index j) xs ≡ Some y → p (f y) ≡ true → finite.insert (specs_of (filter p xs)) j.0 (sample_spec (f y).spec) ≡ specs_of (filter p (change_first (has_index j) f xs))
inserted p j f keeps xs r y e t =
    same_specs (finite.insert (specs_of (filter p xs)) j.0 (sample_spec (f y).spec)) p (change_first (has_index j) f xs) (rising_change (has_index j) f keeps xs r) (λ i.
    finite.get-insert nat_cmp_total (specs_of (filter p xs)) j.0 (sample_spec (f y).spec) i
    ∙ (λ k. cond (same_key i j.0 k) (Some (sample_spec (f y).spec)) (get_in p xs r i k))
    ∙ ap (λ b. cond (nat_eq j.0 i) (cond b (Some (sample_spec (f y).spec)) None) (spec_in p i xs)) (sym t)
    ∙ sym (change_in p j f keeps xs y e i))

-- one that doesn't is left out
pub removed : (p : Input → Bool) (j : InputId) (f : Input → Input) → Preserves f → (xs : List Input) → IsRising xs → (y : Input) → find (has_index j) xs ≡ Some y → p (f y) ≡ false → finite.remove (specs_of (filter p xs)) j.0 ≡ specs_of (filter p (change_first (has_index j) f xs))
removed p j f keeps xs r y e t =
    same_specs (finite.remove (specs_of (filter p xs)) j.0) p (change_first (has_index j) f xs) (rising_change (has_index j) f keeps xs r) (λ i.
    finite.get-remove nat_cmp_total (specs_of (filter p xs)) j.0 i
    ∙ (λ k. cond (same_key i j.0 k) None (get_in p xs r i k))
    ∙ ap (λ b. cond (nat_eq j.0 i) (cond b (Some (sample_spec (f y).spec)) None) (spec_in p i xs)) (sym t)
    ∙ sym (change_in p j f keeps xs y e i))

-- ---- one more

push_in : (p : Input → Bool) (xs : List Input) (y : Input) → AllByRecursion (λ x. (Input.index x).0 < y.index.0) xs → (i : ℕ) → spec_in p i (xs ++ y ∷ []) ≡ cond (nat_eq y.index.0 i) (cond (p y) (Some (sample_spec y.spec)) None) (spec_in p i xs)
push_in p [] y a i = refl
push_in p (x ∷ xs) y a i =
    ap (cond (nat_eq x.index.0 i) (cond (p x) (Some (sample_spec x.spec)) None)) (push_in p xs y a.1 i)
    ∙ swapped x.index.0 y.index.0 i (λ e. absurd (omega (arith, a.0, e))) (cond (p x) (Some (sample_spec x.spec)) None) (cond (p y) (Some (sample_spec y.spec)) None) (spec_in p i xs)

pub pushed : (p : Input → Bool) (xs : List Input) → IsRising xs → (y : Input) → AllByRecursion (λ x. (Input.index x).0 < y.index.0) xs → p y ≡ true → finite.insert (specs_of (filter p xs)) y.index.0 (sample_spec y.spec) ≡ specs_of (filter p (xs ++ y ∷ []))
pushed p xs r y a t =
    same_specs (finite.insert (specs_of (filter p xs)) y.index.0 (sample_spec y.spec)) p (xs ++ y ∷ []) (rising_push xs y r a) (λ i.
    finite.get-insert nat_cmp_total (specs_of (filter p xs)) y.index.0 (sample_spec y.spec) i
    ∙ (λ k. cond (same_key i y.index.0 k) (Some (sample_spec y.spec)) (get_in p xs r i k))
    ∙ ap (λ b. cond (nat_eq y.index.0 i) (cond b (Some (sample_spec y.spec)) None) (spec_in p i xs)) (sym t)
    ∙ sym (push_in p xs y a i))

-- what one more gives, that passes
pub pushed_in : (p : Input → Bool) (xs : List Input) (y : Input) → AllByRecursion (λ x. (Input.index x).0 < y.index.0) xs → p y ≡ true → (i : ℕ) → option_to_list (spec_in p i (xs ++ y ∷ [])) ≡ option_to_list (spec_in p i xs) ++ cond (nat_eq y.index.0 i) (sample_spec y.spec ∷ []) []
pushed_in p xs y a t i = ap option_to_list (push_in p xs y a i) ∙ step (nat_eq y.index.0 i) refl
  where
    step : (b : Bool) → nat_eq y.index.0 i ≡ b → option_to_list (cond b (cond (p y) (Some (sample_spec y.spec)) None) (spec_in p i xs)) ≡ option_to_list (spec_in p i xs) ++ cond b (sample_spec y.spec ∷ []) []
    step true e =
        ap (λ b. option_to_list (cond b (Some (sample_spec y.spec)) None)) t
        ∙ sym (ap (λ (o : Option SampleSpec). option_to_list o ++ sample_spec y.spec ∷ []) (subst (λ n. spec_in p n xs ≡ None) (eqb-true y.index.0 i e) (none_below p y.index.0 xs a)))
    step false e = sym (append-nil (option_to_list (spec_in p i xs)))

-- and one that newly passes
pub arrived_in : (p : Input → Bool) (j : InputId) (f : Input → Input) → Preserves f → ((x : Input) → sample_spec (f x).spec ≡ sample_spec x.spec) → (xs : List Input) (y : Input) → find (has_index j) xs ≡ Some y → p y ≡ false → p (f y) ≡ true
    → (i : ℕ) → option_to_list (spec_in p i (change_first (has_index j) f xs)) ≡ option_to_list (spec_in p i xs) ++ cond (nat_eq j.0 i) (sample_spec y.spec ∷ []) []
arrived_in p j f keeps spec xs y here off on i = ap option_to_list (change_in p j f keeps xs y here i) ∙ step (nat_eq j.0 i) refl
  where
    none : spec_in p j.0 xs ≡ None
    none = here_in p j xs y here ∙ ap (λ b. cond b (Some (sample_spec y.spec)) None) off

    step : (b : Bool) → nat_eq j.0 i ≡ b → option_to_list (cond b (cond (p (f y)) (Some (sample_spec (f y).spec)) None) (spec_in p i xs)) ≡ option_to_list (spec_in p i xs) ++ cond b (sample_spec y.spec ∷ []) []
    step true e =
        ap (λ b. option_to_list (cond b (Some (sample_spec (f y).spec)) None)) on
        ∙ ap (λ s. s ∷ []) (spec y)
        ∙ sym (ap (λ (o : Option SampleSpec). option_to_list o ++ sample_spec y.spec ∷ []) (subst (λ n. spec_in p n xs ≡ None) (eqb-true j.0 i e) none))
    step false e = sym (append-nil (option_to_list (spec_in p i xs)))

-- ---- the input that the first message brings

one_brought : {A : Type 0} (o : Option A) (x : A) (xs : List A) → x ∷ xs ≡ option_to_list o → (o ≡ Some x) × (xs ≡ [])
one_brought None x xs e = absurd (no_cons x xs e)
one_brought (Some y) x xs e = (ap Some (sym (heads x y xs [] e)), tails x y xs [] e)

-- it is on its way, and where it passes no more the messages behind bring the others
pub record FirstBrought {P : Type 0} (spec_of : P → SampleSpec) (p : Input → Bool) (f : Input → Input) (j : InputId) (s : SampleSpec) (rest : List (Msg P)) (xs : List Input) : Type 0 where
  pub it : Found p j xs s
  pub others : (i : ℕ) → flat_map (brought_of spec_of i) rest ≡ option_to_list (spec_in p i (change_first (has_index j) f xs))

pub first_brought : {P : Type 0} (spec_of : P → SampleSpec) (p : Input → Bool) (f : Input → Input) → Preserves f → ((x : Input) → p (f x) ≡ false) → (j : InputId) (s : SampleSpec) (m : Msg P) (rest : List (Msg P)) (xs : List Input)
    → ((i : ℕ) → brought_of spec_of i m ≡ cond (nat_eq j.0 i) (s ∷ []) [])
    → ((i : ℕ) → brought_of spec_of i m ++ flat_map (brought_of spec_of i) rest ≡ option_to_list (spec_in p i xs))
    → FirstBrought spec_of p f j s rest xs
first_brought {P} spec_of p f keeps k j s m rest xs brings bring = record { it = it; others = λ i. step i (nat_eq j.0 i) refl ∙ sym (ap option_to_list (change_in p j f keeps xs it.input it.here i)) }
  where
    own : (spec_in p j.0 xs ≡ Some s) × (flat_map (brought_of spec_of j.0) rest ≡ [])
    own = one_brought (spec_in p j.0 xs) s (flat_map (brought_of spec_of j.0) rest)
        (sym (ap (λ zs. zs ++ flat_map (brought_of spec_of j.0) rest) (brings j.0 ∙ cond-true (nat_eq j.0 j.0) (s ∷ []) [] (eq-eqb j.0 j.0 refl))) ∙ bring j.0)

    it : Found p j xs s
    it = found_in p j xs s own.0

    step : (i : ℕ) (b : Bool) → nat_eq j.0 i ≡ b → flat_map (brought_of spec_of i) rest ≡ option_to_list (cond b (cond (p (f it.input)) (Some (sample_spec (f it.input).spec)) None) (spec_in p i xs))
    step i true e =
        subst (λ n. flat_map (brought_of spec_of n) rest ≡ []) (eqb-true j.0 i e) own.1
        ∙ sym (ap (λ b. option_to_list (cond b (Some (sample_spec (f it.input).spec)) None)) (k it.input))
    step i false e =
        sym (ap (λ zs. zs ++ flat_map (brought_of spec_of i) rest) (brings i ∙ cond-false (nat_eq j.0 i) (s ∷ []) [] e))
        ∙ bring i

-- ---- how many there are

pub few_specs : (entries : List (ℕ × SampleSpec)) → finite.len (finite.from_entries {R = nat_cmp} entries) ≤ length entries
few_specs [] = omega (arith, finite.len-empty nat_cmp SampleSpec)
few_specs (e ∷ entries) =
    let few = few_specs entries in
    let bound : finite.len (finite.insert (finite.from_entries {R = nat_cmp} entries) e.0 e.1) ≤ length entries + 1 =
    subst (λ n. n ≤ length entries + 1) (sym (finite.len-insert nat_cmp_total (finite.from_entries {R = nat_cmp} entries) e.0 e.1))
    (cond_both (finite.contains_key (finite.from_entries {R = nat_cmp} entries) e.0) (finite.len (finite.from_entries {R = nat_cmp} entries)) (finite.len (finite.from_entries {R = nat_cmp} entries) + 1) (λ n. n ≤ length entries + 1)
    (λ _. omega (arith, few))
    (λ _. omega (arith, few))) in
    omega (arith, bound)

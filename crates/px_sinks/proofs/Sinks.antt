-- What is known of a header's sinks.
use Rattle.std.proofs.Common.{◌≡◌, ℕ, suc, zero, ◌<◌, ◌≤◌, ◌+◌, Bool, true, false, ◌&&◌, not, eqb, List, [], ◌∷◌, ◌++◌, length, get_or, slice_get, take, drop, IsTrue, IfSome, is_some, ltb, Option, None, Some, Result, Ok, Err, refl, ap, sym, subst, ◌∙◌, arith}
use Rattle.std.specs.List.{AllByRecursion, list_all}
use Rattle.std.proofs.lemmas.Bool.{ltb-true}
use Rattle.std.proofs.lemmas.List.{append-nil, at_drop_more, at_drop_all}
use Rattle.std.proofs.lemmas.Option.{slice_get_read}
use Rattle.std.proofs.lemmas.Bool.Decides.{nat_tests}
use Rattle.px_tag.specs.Item.{is_text}
use Rattle.px_header.specs.declared.header.SinkSpec.{SinkSpec}
use Rattle.px_header.specs.HeaderRules.{is_from_to, IsSink, AreSinks}
use Rattle.px_types.specs.declared.error_code.ErrorCode.{ErrorCode}
use Rattle.px_types.specs.declared.error_code.ErrorCode.TheVariants.{Invalid}
use Rattle.px_types.specs.declared.ids.SinkId.{SinkId}
use Rattle.px_outcome.specs.declared.target.Target.{Target}
use Rattle.px_outcome.specs.Target.{target_of as target_in, IsTarget}
use Rattle.px_sinks.specs.Sinks.{IsOfHeader, target_of, found_as, named_as, targets_from}

both_true : (a b : Bool) → (a && b) ≡ true → (a ≡ true) × (b ≡ true)
both_true true b e = (refl, e)
both_true false b e = absurd cc

and_true : (a b : Bool) → a ≡ true → b ≡ true → (a && b) ≡ true
and_true a b p q = rw (p, q) refl

no_zero : (b : ℕ) → is_from_to 0x21 0x7E b ≡ true → not (eqb b 0) ≡ true
no_zero b e = grind (arith, nat_tests)

printable_text : (bytes : List ℕ) → list_all (is_from_to 0x21 0x7E) bytes ≡ true → is_text bytes ≡ true
printable_text [] e = refl
printable_text (b ∷ bytes) e =
    let p = both_true (is_from_to 0x21 0x7E b) (list_all (is_from_to 0x21 0x7E) bytes) e in
    and_true (not (eqb b 0)) (is_text bytes) (no_zero b p.0) (printable_text bytes p.1)

pub name_is_text : (sink : SinkSpec) → IsOfHeader sink → IsTrue (is_text sink.name)
name_is_text sink h = printable_text sink.name ((both_true (list_all (is_from_to 0x21 0x7E) sink.name) _ h.1.name).0)

there : (earlier sinks : List SinkSpec) (i : ℕ) (s : SinkSpec) → AreSinks earlier sinks → slice_get sinks i ≡ Some s → IsOfHeader s
there earlier [] i s h e = absurd cc
there earlier (x ∷ sinks) zero s h e =
    let same : x ≡ s = cc in
    (earlier, subst (λ (y : SinkSpec). IsSink earlier y) same h.0)
there earlier (x ∷ sinks) (suc i) s h e = there (earlier ++ x ∷ []) sinks i s h.1 e

pub is_of_header : (sinks : List SinkSpec) (i : ℕ) (s : SinkSpec) → AreSinks [] sinks → slice_get sinks i ≡ Some s → IsOfHeader s
is_of_header sinks i s h e = there [] sinks i s h e

-- the sink that a look-up found at an index
pub found_in_header : {B : Type 0} (v : B → SinkSpec) (r : Option B) (sinks : List SinkSpec) (i : ℕ) → AreSinks [] sinks → is_some r ≡ ltb i (length sinks) → IfSome r (λ x. v x ≡ get_or sinks i (v x)) → IfSome r (λ x. IsOfHeader (v x))
found_in_header v None sinks i h there at = tt
found_in_header v (Some x) sinks i h there at = is_of_header sinks i (v x) h (slice_get_read sinks (length sinks) i (v x) refl (ltb-true i (length sinks) (sym there)) at)

-- ---- a sink as a command sees it

pub is_target : (index : SinkId) (name : List ℕ) (sink : SinkSpec) → IsOfHeader sink → name ≡ sink.name → IsTarget (record { index = index; name = name; spec = sink.spec; map = sink.map; depth = sink.depth })
is_target index name sink h same = record {
  name = subst (λ (bytes : List ℕ). IsTrue (is_text bytes)) (sym same) (name_is_text sink h);
  some = h.1.channels.0;
  few = h.1.channels.1;
  rate = h.1.rate.0;
  map_size = h.1.map_size;
}

-- one that was named is there
pub record IsThere (sinks : List SinkSpec) (target : Target) : Type 0 where
  pub sink : SinkSpec
  pub there : slice_get sinks target.index.0 ≡ Some sink
  pub is : target ≡ target_of target.index sink

same_target : (a b : Target) → Some a ≡ Some b → a ≡ b
same_target a b e = cc

pub named_there : (sinks : List SinkSpec) (named : Result SinkId ErrorCode) (target : Target) → target_in (named_as sinks named) ≡ Some target → IsThere sinks target
named_there sinks (Ok index) target e = found (slice_get sinks index.0) refl e
  where
    found : (o : Option SinkSpec) → slice_get sinks index.0 ≡ o → target_in (found_as index o) ≡ Some target → IsThere sinks target
    found None there f = absurd cc
    found (Some sink) there f =
        subst (IsThere sinks) (same_target (target_of index sink) target f)
        (record { sink = sink; there = there; is = refl })
named_there sinks (Err Invalid) target e = absurd cc
named_there sinks (Err _) target e = absurd cc

-- ---- each of a header's sinks

pub each_of_header : (earlier sinks : List SinkSpec) → AreSinks earlier sinks → AllByRecursion IsOfHeader sinks
each_of_header earlier [] h = tt
each_of_header earlier (x ∷ sinks) h = ((earlier, h.0), each_of_header (earlier ++ x ∷ []) sinks h.1)

pub next_of_header : (sinks : List SinkSpec) (i : ℕ) (d : SinkSpec) → i < length sinks → AllByRecursion IsOfHeader sinks → IsOfHeader (get_or sinks i d)
next_of_header [] i d l h = absurd (omega (arith, l))
next_of_header (x ∷ sinks) zero d l h = h.0
next_of_header (x ∷ sinks) (suc i) d l h = next_of_header sinks i d (omega (arith, l)) h.1

-- the first of them, as many as there are or more
pub all_first : (n : ℕ) (sinks : List SinkSpec) → length sinks ≤ n → take n sinks ≡ sinks
all_first zero [] few = refl
all_first zero (x ∷ sinks) few = absurd (omega (arith, few))
all_first (suc n) [] few = refl
all_first (suc n) (x ∷ sinks) few = ap (λ (rest : List SinkSpec). x ∷ rest) (all_first n sinks (omega (arith, few)))

take_each : (n : ℕ) (sinks : List SinkSpec) → AllByRecursion IsOfHeader sinks → AllByRecursion IsOfHeader (take n sinks)
take_each zero sinks h = tt
take_each (suc n) [] h = tt
take_each (suc n) (x ∷ sinks) h = (h.0, take_each n sinks h.1)

pub first_of_header : (n : ℕ) (sinks : List SinkSpec) → AreSinks [] sinks → AllByRecursion IsOfHeader (take n sinks)
first_of_header n sinks h = take_each n sinks (each_of_header [] sinks h)

-- ---- the sinks so far and those that are left are all of them

-- one more
pub next_target : (sinks : List SinkSpec) (i index : ℕ) (sink : SinkSpec) (old new all : List Target) → i < length sinks → sink ≡ get_or sinks i sink
    → ((more : List SinkSpec) → new ++ targets_from (index + 1) more ≡ old ++ targets_from index (sink ∷ more))
    → old ++ targets_from index (drop i sinks) ≡ all → new ++ targets_from (index + 1) (drop (i + 1) sinks) ≡ all
next_target sinks i index sink old new all l is grown before =
    grown (drop (i + 1) sinks)
    ∙ ap (λ (x : SinkSpec). old ++ targets_from index (x ∷ drop (i + 1) sinks)) is
    ∙ ap (λ (left : List Target). old ++ left) (sym (at_drop_more (targets_from index) sinks i sink l))
    ∙ before

-- none is left
pub no_target : (sinks : List SinkSpec) (i index : ℕ) (sofar all : List Target) → length sinks ≤ i → sofar ++ targets_from index (drop i sinks) ≡ all → sofar ≡ all
no_target sinks i index sofar all done before =
    sym (append-nil sofar)
    ∙ ap (λ (left : List Target). sofar ++ left) (sym (at_drop_all (targets_from index) sinks i done))
    ∙ before

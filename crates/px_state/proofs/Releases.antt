-- Held messages are released one after the other, or all in one pass.
use Rattle.std.proofs.Common.{arith, ◌≡◌, ℕ, zero, suc, ◌+◌, ◌-◌, ◌<◌, List, [], ◌∷◌, ◌++◌, Some, None, Bool, true, false, cond, length, refl, ap, sym, subst, ◌∙◌}
use Rattle.std.specs.Prelude.{◌≤◌, ◌&&◌, nat_lt, Option, replicate, drop}
use Rattle.std.proofs.lemmas.Bool.Decides.{nat_tests}
use Rattle.std.proofs.lemmas.List.{append_assoc, append-nil}
use Rattle.std.specs.List.{find}
use Rattle.std.proofs.lemmas.Option.{none-some, same_Some}
use Rattle.px_types.specs.declared.ids.InputId.{InputId}
use Rattle.px_types.specs.declared.ids.SinkId.{SinkId}
use Rattle.px_outcome.specs.declared.change.Change.TheVariants.{Released}
use Rattle.px_outcome.specs.declared.input.Input.{Input}
use Rattle.px_msg.specs.declared.message.Msg.{Msg}
use Rattle.px_state.specs.declared.delayed.Delayed.{Delayed}
use Rattle.px_state.specs.Delayed.{is_of}
use Rattle.px_state.specs.State.{State, input_of}
use Rattle.px_state.specs.Change.{Change, drop_first, posted_to, releasing, releasing_of, changed, committed}
use Rattle.px_state.specs.Out.{first_of}
use Rattle.px_state.specs.Release.{firsts, without_firsts, all_posted_to, releasing_oldest_of, is_next, held_past, posted_past, left_past}

-- ---- the first of a list that pass a test

pub without_none : {A : Type 0} (q : A → Bool) (xs : List A) → without_firsts q xs 0 ≡ xs
without_none q [] = refl
without_none q (x ∷ xs) = refl

pub firsts_none : {A : Type 0} (q : A → Bool) (xs : List A) → firsts q xs 0 ≡ []
firsts_none q [] = refl
firsts_none q (x ∷ xs) = refl

-- where none passes
without_unfound : {A : Type 0} (q : A → Bool) (xs : List A) (n : ℕ) → find q xs ≡ None → without_firsts q xs n ≡ xs
without_unfound q [] n none = refl
without_unfound q (x ∷ xs) zero none = refl
without_unfound {A} q (x ∷ xs) (suc n) none = step (without_unfound q xs (suc n)) (q x) none
  where
    step : (find q xs ≡ None → without_firsts q xs (suc n) ≡ xs) → (b : Bool) → cond b (Some x) (find q xs) ≡ None → cond b (without_firsts q xs n) (x ∷ without_firsts q xs (suc n)) ≡ x ∷ xs
    step later true f = absurd (none-some x (sym f))
    step later false f = ap (λ ys. x ∷ ys) (later f)

firsts_unfound : {A : Type 0} (q : A → Bool) (xs : List A) (n : ℕ) → find q xs ≡ None → firsts q xs n ≡ []
firsts_unfound q [] n none = refl
firsts_unfound q (x ∷ xs) zero none = refl
firsts_unfound {A} q (x ∷ xs) (suc n) none = step (firsts_unfound q xs (suc n)) (q x) none
  where
    step : (find q xs ≡ None → firsts q xs (suc n) ≡ []) → (b : Bool) → cond b (Some x) (find q xs) ≡ None → cond b (x ∷ firsts q xs n) (firsts q xs (suc n)) ≡ []
    step later true f = absurd (none-some x (sym f))
    step later false f = later f

-- where one does, it is the first of them
one_kept : {A : Type 0} (q : A → Bool) (x : A) (xs : List A) (n : ℕ) → q x ≡ false → x ∷ without_firsts q xs n ≡ without_firsts q (x ∷ xs) n
one_kept q x xs zero fails = ap (λ ys. x ∷ ys) (without_none q xs)
one_kept q x xs (suc n) fails = rw fails refl

one_skipped : {A : Type 0} (q : A → Bool) (x : A) (xs : List A) (n : ℕ) → q x ≡ false → firsts q xs n ≡ firsts q (x ∷ xs) n
one_skipped q x xs zero fails = firsts_none q xs
one_skipped q x xs (suc n) fails = rw fails refl

without_found : {A : Type 0} (q : A → Bool) (xs : List A) (n : ℕ) (d : A) → find q xs ≡ Some d → without_firsts q xs (suc n) ≡ without_firsts q (drop_first q xs) n
without_found q [] n d found = absurd (none-some d found)
without_found {A} q (x ∷ xs) n d found = step (without_found q xs n d) (q x) refl found
  where
    step : (find q xs ≡ Some d → without_firsts q xs (suc n) ≡ without_firsts q (drop_first q xs) n) → (b : Bool) → q x ≡ b → cond b (Some x) (find q xs) ≡ Some d
        → cond b (without_firsts q xs n) (x ∷ without_firsts q xs (suc n)) ≡ without_firsts q (cond b xs (x ∷ drop_first q xs)) n
    step later true h f = refl
    step later false h f = ap (λ ys. x ∷ ys) (later f) ∙ one_kept q x (drop_first q xs) n h

firsts_found : {A : Type 0} (q : A → Bool) (xs : List A) (n : ℕ) (d : A) → find q xs ≡ Some d → firsts q xs (suc n) ≡ d ∷ firsts q (drop_first q xs) n
firsts_found q [] n d found = absurd (none-some d found)
firsts_found {A} q (x ∷ xs) n d found = step (firsts_found q xs n d) (q x) refl found
  where
    step : (find q xs ≡ Some d → firsts q xs (suc n) ≡ d ∷ firsts q (drop_first q xs) n) → (b : Bool) → q x ≡ b → cond b (Some x) (find q xs) ≡ Some d
        → cond b (x ∷ firsts q xs n) (firsts q xs (suc n)) ≡ d ∷ firsts q (cond b xs (x ∷ drop_first q xs)) n
    step later true h f = ap (λ y. y ∷ firsts q xs n) (same_Some x d f)
    step later false h f = later f ∙ ap (λ ys. d ∷ ys) (one_skipped q x (drop_first q xs) n h)

-- ---- one message after the other

-- none is released
pub none_released : {P : Type 0} (o : Option Input) (state : State P) → state ≡ releasing_oldest_of o 0 state
none_released None state = refl
none_released {P} (Some x) state =
    let q = is_of x.index in
    rw (without_none q state.delayed, firsts_none q state.delayed) refl

-- the first, and those after it
first_released : {P : Type 0} (x : Input) (n : ℕ) (o : Option (Delayed P)) (state : State P) → find (is_of x.index) state.delayed ≡ o
    → releasing_oldest_of (Some x) n (releasing x o state) ≡ releasing_oldest_of (Some x) (suc n) state
first_released {P} x n None state found =
    let q = is_of x.index in
    rw (without_unfound q state.delayed n found, without_unfound q state.delayed (suc n) found, firsts_unfound q state.delayed n found, firsts_unfound q state.delayed (suc n) found) refl
first_released {P} x n (Some d) state found =
    let q = is_of x.index in
    rw (without_found q state.delayed n d found, firsts_found q state.delayed n d found) refl

same_inputs : {P : Type 0} (o : Option Input) (state : State P) → (releasing_of o state).inputs ≡ state.inputs
same_inputs None state = refl
same_inputs {P} (Some x) state = by (find (is_of x.index) state.delayed)
  where
    by : (o : Option (Delayed P)) → (releasing x o state).inputs ≡ state.inputs
    by None = refl
    by (Some d) = refl

one_more : {P : Type 0} (o : Option Input) (n : ℕ) (state : State P) → releasing_oldest_of o n (releasing_of o state) ≡ releasing_oldest_of o (suc n) state
one_more None n state = refl
one_more (Some x) n state = first_released x n (find (is_of x.index) state.delayed) state refl

-- the changes that release them do what releasing all of them at once does
pub all_released : {P : Type 0} (index : InputId) (o : Option Input) (n : ℕ) (state : State P) → input_of state.inputs index ≡ o
    → releasing_oldest_of o n state ≡ committed state (replicate n (Released index))
all_released index o zero state here = sym (none_released o state)
all_released {P} index o (suc n) state here =
    let next : State P = releasing_of o state in
    let after = all_released index o n next (ap (λ inputs. input_of inputs index) (same_inputs o state) ∙ here) in
    sym (one_more o n state) ∙ after ∙ ap (λ p. committed (releasing_of p state) (replicate n (Released index))) (sym here)

-- ---- one pass over those that are held

-- where a pass stands: those that it hasn't come to, and after them those that stay
pub record Passing {P : Type 0} (index : InputId) (sink : SinkId) (count : ℕ) (all : List (Delayed P)) (before : List (List (Msg P))) (held : List (Delayed P)) (posted : List (List (Msg P))) (left seen : ℕ) : Type 0 where
  pub rest : List (Delayed P)
  pub kept : List (Delayed P)
  pub items : held ≡ rest ++ kept
  pub len : length rest + seen ≡ length all
  pub stay : kept ++ without_firsts (is_of index) rest left ≡ without_firsts (is_of index) all count
  pub go : all_posted_to sink.0 (firsts (is_of index) rest left) posted ≡ all_posted_to sink.0 (firsts (is_of index) all count) before

pub pass_begins : {P : Type 0} (index : InputId) (sink : SinkId) (count : ℕ) (all : List (Delayed P)) (before : List (List (Msg P))) → Passing index sink count all before all before count 0
pass_begins index sink count all before = record { rest = all; kept = []; items = sym (append-nil all); len = omega arith; stay = refl; go = refl }

-- the next message is the input's, or it isn't or no more of them are to be queued
next_goes : {P : Type 0} (index : InputId) (sink : SinkId) (count : ℕ) (all : List (Delayed P)) (before : List (List (Msg P))) (posted : List (List (Msg P))) (m seen : ℕ) (d : Delayed P) (rest kept : List (Delayed P)) → is_of index d ≡ true → length rest + 1 + seen ≡ length all
    → kept ++ without_firsts (is_of index) (d ∷ rest) (suc m) ≡ without_firsts (is_of index) all count
    → all_posted_to sink.0 (firsts (is_of index) (d ∷ rest) (suc m)) posted ≡ all_posted_to sink.0 (firsts (is_of index) all count) before
    → Passing index sink count all before (rest ++ kept) (posted_to sink.0 d.message posted) m (seen + 1)
next_goes index sink count all before posted m seen d rest kept passes len held queued = record {
  rest = rest;
  kept = kept;
  items = refl;
  len = omega (arith, len);
  stay = rw passes at held;
  go = rw passes at queued;
}

next_stays : {P : Type 0} (index : InputId) (sink : SinkId) (count : ℕ) (all : List (Delayed P)) (before : List (List (Msg P))) (posted : List (List (Msg P))) (left seen : ℕ) (d : Delayed P) (rest kept : List (Delayed P)) → length rest + 1 + seen ≡ length all
    → without_firsts (is_of index) (d ∷ rest) left ≡ d ∷ without_firsts (is_of index) rest left
    → firsts (is_of index) (d ∷ rest) left ≡ firsts (is_of index) rest left
    → kept ++ without_firsts (is_of index) (d ∷ rest) left ≡ without_firsts (is_of index) all count
    → all_posted_to sink.0 (firsts (is_of index) (d ∷ rest) left) posted ≡ all_posted_to sink.0 (firsts (is_of index) all count) before
    → Passing index sink count all before ((rest ++ kept) ++ d ∷ []) posted left (seen + 1)
next_stays {P} index sink count all before posted left seen d rest kept len stays skipped held queued = record {
  rest = rest;
  kept = kept ++ d ∷ [];
  items = append_assoc rest kept (d ∷ []);
  len = omega (arith, len);
  stay = append_assoc kept (d ∷ []) (without_firsts (is_of index) rest left) ∙ ap (λ (xs : List (Delayed P)). kept ++ xs) (sym stays) ∙ held;
  go = ap (λ xs. all_posted_to sink.0 xs posted) (sym skipped) ∙ queued;
}

-- where some are still to be queued, the next one is if it is the input's
some_left : (m : ℕ) → nat_lt 0 (suc m) ≡ true
some_left m = grind (arith, nat_tests)

next_is : {P : Type 0} (index : InputId) (m : ℕ) (d : Delayed P) (b : Bool) → is_of index d ≡ b → is_next index (suc m) d ≡ b
next_is index m d b e = ap (λ c. c && is_of index d) (some_left m) ∙ e

pub passed : {P : Type 0} (index : InputId) (sink : SinkId) (count : ℕ) (all : List (Delayed P)) (before : List (List (Msg P))) (held later : List (Delayed P)) (posted queued : List (List (Msg P))) (left remaining seen : ℕ) → Passing index sink count all before held posted left seen → seen < length all
    → ((d : Delayed P) (rest : List (Delayed P)) → held ≡ d ∷ rest → later ≡ held_past index left d rest)
    → ((d : Delayed P) (rest : List (Delayed P)) → held ≡ d ∷ rest → queued ≡ posted_past index sink left d posted)
    → ((d : Delayed P) (rest : List (Delayed P)) → held ≡ d ∷ rest → remaining ≡ left_past index left d)
    → Passing index sink count all before later queued remaining (seen + 1)
passed {P} index sink count all before held later posted queued left remaining seen p within after onto then = by p.rest p.items p.len p.stay p.go
  where
    q : Delayed P → Bool
    q = is_of index

    moved : (later' : List (Delayed P)) (queued' : List (List (Msg P))) (remaining' : ℕ) → later ≡ later' → queued ≡ queued' → remaining ≡ remaining' → Passing index sink count all before later' queued' remaining' (seen + 1) → Passing index sink count all before later queued remaining (seen + 1)
    moved later' queued' remaining' e f g h = rw (e, f, g) h

    by_test : (m : ℕ) (d : Delayed P) (rest : List (Delayed P)) (b : Bool) → is_of index d ≡ b → left ≡ suc m → held ≡ d ∷ (rest ++ p.kept) → length rest + 1 + seen ≡ length all
        → p.kept ++ without_firsts (is_of index) (d ∷ rest) (suc m) ≡ without_firsts (is_of index) all count
        → all_posted_to sink.0 (firsts (is_of index) (d ∷ rest) (suc m)) posted ≡ all_posted_to sink.0 (firsts (is_of index) all count) before
        → Passing index sink count all before later queued remaining (seen + 1)
    by_test m d rest true passes some items len h f =
        let next : is_next index left d ≡ true = ap (λ n. is_next index n d) some ∙ next_is index m d true passes in
        moved (rest ++ p.kept) (posted_to sink.0 d.message posted) m
        (after d (rest ++ p.kept) items ∙ ap (λ b. cond b (rest ++ p.kept) ((rest ++ p.kept) ++ d ∷ [])) next)
        (onto d (rest ++ p.kept) items ∙ ap (λ b. cond b (posted_to sink.0 d.message posted) posted) next)
        (then d (rest ++ p.kept) items ∙ ap (λ b. cond b (left - 1) left) next ∙ omega (arith, some))
        (next_goes index sink count all before posted m seen d rest p.kept passes len h f)
    by_test m d rest false passes some items len h f =
        let next : is_next index left d ≡ false = ap (λ n. is_next index n d) some ∙ next_is index m d false passes in
        moved ((rest ++ p.kept) ++ d ∷ []) posted (suc m)
        (after d (rest ++ p.kept) items ∙ ap (λ b. cond b (rest ++ p.kept) ((rest ++ p.kept) ++ d ∷ [])) next)
        (onto d (rest ++ p.kept) items ∙ ap (λ b. cond b (posted_to sink.0 d.message posted) posted) next)
        (then d (rest ++ p.kept) items ∙ ap (λ b. cond b (left - 1) left) next ∙ some)
        (next_stays index sink count all before posted (suc m) seen d rest p.kept len (sym (one_kept (is_of index) d rest (suc m) passes)) (sym (one_skipped (is_of index) d rest (suc m) passes)) h f)

    by_count : (n : ℕ) (d : Delayed P) (rest : List (Delayed P)) → left ≡ n → held ≡ d ∷ (rest ++ p.kept) → length rest + 1 + seen ≡ length all
        → p.kept ++ without_firsts (is_of index) (d ∷ rest) n ≡ without_firsts (is_of index) all count
        → all_posted_to sink.0 (firsts (is_of index) (d ∷ rest) n) posted ≡ all_posted_to sink.0 (firsts (is_of index) all count) before
        → Passing index sink count all before later queued remaining (seen + 1)
    by_count zero d rest some items len h f =
        let next : is_next index left d ≡ false = ap (λ n. is_next index n d) some in
        moved ((rest ++ p.kept) ++ d ∷ []) posted 0
        (after d (rest ++ p.kept) items ∙ ap (λ b. cond b (rest ++ p.kept) ((rest ++ p.kept) ++ d ∷ [])) next)
        (onto d (rest ++ p.kept) items ∙ ap (λ b. cond b (posted_to sink.0 d.message posted) posted) next)
        (then d (rest ++ p.kept) items ∙ ap (λ b. cond b (left - 1) left) next ∙ some)
        (next_stays index sink count all before posted 0 seen d rest p.kept len (ap (λ (xs : List (Delayed P)). d ∷ xs) (sym (without_none (is_of index) rest))) (sym (firsts_none (is_of index) rest)) h f)
    by_count (suc m) d rest some items len h f = by_test m d rest (is_of index d) refl some items len h f

    by : (rest : List (Delayed P)) → held ≡ rest ++ p.kept → length rest + seen ≡ length all
        → p.kept ++ without_firsts (is_of index) rest left ≡ without_firsts (is_of index) all count
        → all_posted_to sink.0 (firsts (is_of index) rest left) posted ≡ all_posted_to sink.0 (firsts (is_of index) all count) before
        → Passing index sink count all before later queued remaining (seen + 1)
    by [] items len h f = absurd (omega (arith, len, within))
    by (d ∷ rest) items len h f = by_count left d rest refl items (omega (arith, len)) h f

-- at the end of a pass those that stay are in order
pub pass_ends : {P : Type 0} (index : InputId) (sink : SinkId) (count : ℕ) (all : List (Delayed P)) (before : List (List (Msg P))) (held : List (Delayed P)) (posted : List (List (Msg P))) (left seen : ℕ) → Passing index sink count all before held posted left seen → length all ≤ seen
    → (held ≡ without_firsts (is_of index) all count) × (posted ≡ all_posted_to sink.0 (firsts (is_of index) all count) before)
pass_ends {P} index sink count all before held posted left seen p past = by p.rest p.items p.len p.stay p.go
  where
    by : (rest : List (Delayed P)) → held ≡ rest ++ p.kept → length rest + seen ≡ length all
        → p.kept ++ without_firsts (is_of index) rest left ≡ without_firsts (is_of index) all count
        → all_posted_to sink.0 (firsts (is_of index) rest left) posted ≡ all_posted_to sink.0 (firsts (is_of index) all count) before
        → (held ≡ without_firsts (is_of index) all count) × (posted ≡ all_posted_to sink.0 (firsts (is_of index) all count) before)
    by [] items len h f = (items ∙ sym (append-nil p.kept) ∙ h, f)
    by (d ∷ rest) items len h f = absurd (omega (arith, len, past))

-- ---- the changes at the front of a list that release a message

one_more_time : {A : Type 0} (x : A) (n : ℕ) (rest : List A) → replicate n x ++ x ∷ rest ≡ x ∷ replicate n x ++ rest
one_more_time x zero rest = refl
one_more_time {A} x (suc n) rest = ap (λ (xs : List A). x ∷ xs) (one_more_time x n rest)

begins_with : {A : Type 0} (x : A) (now rest : List A) → first_of now ≡ Some x → rest ≡ drop 1 now → now ≡ x ∷ rest
begins_with x [] rest first left = absurd (none-some x first)
begins_with {A} x (y ∷ now) rest first left = ap (λ (z : A). z ∷ now) (same_Some y x first) ∙ ap (λ (xs : List A). x ∷ xs) (sym left)

pub one_taken : {A : Type 0} (x : A) (n : ℕ) (all now rest : List A) → all ≡ replicate n x ++ now → first_of now ≡ Some x → rest ≡ drop 1 now → all ≡ replicate (n + 1) x ++ rest
one_taken {A} x n all now rest taken first left =
    let more : suc n ≡ n + 1 = omega arith in
    taken ∙ ap (λ (xs : List A). replicate n x ++ xs) (begins_with x now rest first left) ∙ one_more_time x n rest ∙ ap (λ k. replicate k x ++ rest) more

pub one_shorter : {A : Type 0} (x : A) (now rest : List A) → first_of now ≡ Some x → rest ≡ drop 1 now → length now ≡ length rest + 1
one_shorter {A} x now rest first left = ap (λ (xs : List A). length xs) (begins_with x now rest first left) ∙ omega arith

length_times : {A : Type 0} (n : ℕ) (x : A) (rest : List A) → length (replicate n x ++ rest) ≡ n + length rest
length_times zero x rest = omega arith
length_times (suc n) x rest = omega (arith, length_times n x rest)

committed_after : {P : Type 0} (first rest : List (Change P)) (s : State P) → committed s (first ++ rest) ≡ committed (committed s first) rest
committed_after [] rest s = refl
committed_after (x ∷ first) rest s = committed_after first rest (changed s x)

-- the first release, and those that were taken with it
pub releases_committed : {P : Type 0} (index : InputId) (more : ℕ) (change : Change P) (s t : State P) (all rest : List (Change P)) → change ≡ Released index → all ≡ replicate more (Released index) ++ rest → t ≡ committed s (replicate (more + 1) (Released index))
    → committed t rest ≡ committed s (change ∷ all)
releases_committed {P} index more change s t all rest is taken after =
    let first : Change P = Released index in
    let one : more + 1 ≡ suc more = omega arith in
    ap (λ u. committed u rest) (after ∙ ap (λ k. committed s (replicate k first)) one)
    ∙ sym (committed_after (first ∷ replicate more first) rest s)
    ∙ ap (λ (xs : List (Change P)). committed s (first ∷ xs)) (sym taken)
    ∙ ap (λ (x : Change P). committed s (x ∷ all)) (sym is)

pub as_many : {A : Type 0} (x : A) (more : ℕ) (all rest : List A) → all ≡ replicate more x ++ rest → length all ≡ more + length rest
as_many {A} x more all rest taken = ap (λ (xs : List A). length xs) taken ∙ length_times more x rest

-- no more are left
pub fewer_without : {A : Type 0} (q : A → Bool) (xs : List A) (n : ℕ) → length (without_firsts q xs n) ≤ length xs
fewer_without q [] n = omega arith
fewer_without q (x ∷ xs) zero = omega arith
fewer_without {A} q (x ∷ xs) (suc n) = by (q x) (fewer_without q xs n) (fewer_without q xs (suc n))
  where
    by : (b : Bool) → length (without_firsts q xs n) ≤ length xs → length (without_firsts q xs (suc n)) ≤ length xs → length (cond b (without_firsts q xs n) (x ∷ without_firsts q xs (suc n))) ≤ length (x ∷ xs)
    by true one more = omega (arith, one)
    by false one more = omega (arith, more)

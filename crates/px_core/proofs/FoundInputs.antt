-- Inputs by their index: what is found of them, and what is there on a sink of one that is found.
use Rattle.std.proofs.Common.{◌≡◌, ℕ, List, [], ◌∷◌, map, Some, Bool, true, false, refl, ap, sym, subst, ◌∙◌, arith, cond}
use Rattle.std.specs.Prelude.{◌&&◌, filter, nat_eq}
use Rattle.std.specs.List.{find}
use Rattle.std.proofs.lemmas.Bool.{cond-true, cond-false, eqb-true, ne_eqb, false≢true, and_left}
use Rattle.std.proofs.lemmas.Option.{none-some, same_Some}
use Rattle.px_types.specs.declared.ids.SinkId.{SinkId}
use Rattle.px_outcome.specs.declared.input.Input.{Input}
use Rattle.px_state.specs.State.{input_of}
use Rattle.px_state.specs.Change.{change_first}
use Rattle.px_core.specs.Grouped.{channels_there}
use Rattle.px_core.specs.Consistency.{IsRising, AllAbove}
use Rattle.px_core.specs.Notice.{is_on}

-- where it is found it is found changed
pub found_changed : (q : Input → Bool) (f : Input → Input) → ((y : Input) → q (f y) ≡ q y) → (xs : List Input) (x : Input) → find q xs ≡ Some x → find q (change_first q f xs) ≡ Some (f x)
found_changed q f same [] x found = absurd (none-some x found)
found_changed q f same (y ∷ xs) x found = step (found_changed q f same xs x) (q y) refl found
  where
    step : (find q xs ≡ Some x → find q (change_first q f xs) ≡ Some (f x)) → (b : Bool) → q y ≡ b → cond b (Some y) (find q xs) ≡ Some x → find q (cond b (f y ∷ xs) (y ∷ change_first q f xs)) ≡ Some (f x)
    step more true e g = cond-true (q (f y)) (Some (f y)) (find q xs) (same y ∙ e) ∙ ap (λ z. Some (f z)) (same_Some y x g)
    step more false e g = cond-false (q y) (Some y) (find q (change_first q f xs)) e ∙ more g

none_above : (i : ℕ) (xs : List Input) (sink : SinkId) → AllAbove i xs → channels_there xs sink (record { 0 = i }) ≡ []
none_above i [] sink a = refl
none_above i (x ∷ xs) sink a = step (none_above i xs sink a.1) (nat_eq x.index.0 i) (nat_eq x.sink.0 sink.0) (ne_eqb x.index.0 i (λ same. absurd (omega (arith, a.0, same))))
  where
    step : channels_there xs sink (record { 0 = i }) ≡ [] → (b c : Bool) → b ≡ false → map (λ z. (Input.spec z).channels) (cond (b && c) (x ∷ filter (is_on sink (record { 0 = i })) xs) (filter (is_on sink (record { 0 = i })) xs)) ≡ []
    step rest true c e = absurd (false≢true (sym e))
    step rest false c e = rest

-- what is there of one that is found
pub only_there : (xs : List Input) → IsRising xs → (x : Input) → input_of xs x.index ≡ Some x → (sink : SinkId) → channels_there xs sink x.index ≡ cond (nat_eq x.sink.0 sink.0) (x.spec.channels ∷ []) []
only_there [] r x here sink = absurd (none-some x here)
only_there (y ∷ xs) r x here sink = step (only_there xs r.1 x) (nat_eq y.index.0 x.index.0) refl here
  where
    own : y ≡ x → (b c : Bool) → b ≡ true → nat_eq y.sink.0 sink.0 ≡ c → channels_there xs sink x.index ≡ []
        → map (λ z. (Input.spec z).channels) (cond (b && c) (y ∷ filter (is_on sink x.index) xs) (filter (is_on sink x.index) xs)) ≡ cond c (y.spec.channels ∷ []) []
    own same true true e f none = ap (λ more. y.spec.channels ∷ more) none
    own same true false e f none = none
    own same false c e f none = absurd (false≢true e)

    step : (input_of xs x.index ≡ Some x → (sink : SinkId) → channels_there xs sink x.index ≡ cond (nat_eq x.sink.0 sink.0) (x.spec.channels ∷ []) [])
        → (b : Bool) → nat_eq y.index.0 x.index.0 ≡ b → cond b (Some y) (input_of xs x.index) ≡ Some x
        → channels_there (y ∷ xs) sink x.index ≡ cond (nat_eq x.sink.0 sink.0) (x.spec.channels ∷ []) []
    step more true e found =
        let same : y ≡ x = same_Some y x found in
        own same (nat_eq y.index.0 x.index.0) (nat_eq y.sink.0 sink.0) e refl (none_above x.index.0 xs sink (subst (λ n. AllAbove n xs) (eqb-true y.index.0 x.index.0 e) r.0))
        ∙ ap (λ (z : Input). cond (nat_eq z.sink.0 sink.0) (z.spec.channels ∷ []) []) same
    step more false e found =
        ap (λ b. map (λ z. (Input.spec z).channels) (cond b (y ∷ filter (is_on sink x.index) xs) (filter (is_on sink x.index) xs))) (and_left (nat_eq y.index.0 x.index.0) (nat_eq y.sink.0 sink.0) e)
        ∙ more found sink

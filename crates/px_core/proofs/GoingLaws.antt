-- Requests that are answered later ask about inputs that are there and go on, whatever changes of these.
use Rattle.std.proofs.Common.{◌≡◌, List, [], ◌∷◌, ◌++◌, Option, Some, Bool, true, false, refl, ap, sym, subst, ◌∙◌, cond}
use Rattle.std.specs.Prelude.{not, nat_eq, MatchOption}
use Rattle.std.specs.List.{AllByRecursion}
use Rattle.std.proofs.lemmas.Bool.{eqb-true, eqb-false, ne_eqb, false≢true}
use Rattle.px_types.specs.declared.ids.InputId.{InputId}
use Rattle.px_outcome.specs.declared.input.Input.{Input}
use Rattle.px_outcome.specs.declared.input.Standing.TheVariants.{Leaving}
use Rattle.px_outcome.specs.declared.waiting.Waiting.{Waiting}
use Rattle.px_state.specs.State.{is_leaving, goes_on, has_index, input_of, waiting_of_others}
use Rattle.px_state.specs.Change.{change_first, drop_first, leaving}
use Rattle.px_core.specs.Consistency.{IsGoing, IsAwaiting}
use Rattle.px_core.proofs.ListLaws.{all_weaken}
use Rattle.px_input_table.proofs.ByStream.{found-changed, found-dropped}

-- the input that was found is there and goes on
abbrev Goes : Option Input → Type 0
Goes o = MatchOption o ⊥ (λ x. goes_on x ≡ true)

-- ---- an input changes, and goes on where it did

module _ (q : Input → Bool) (f : Input → Input) (keeps : (x : Input) → (f x).index.0 ≡ x.index.0) (goes : (x : Input) → goes_on x ≡ true → goes_on (f x) ≡ true) where
  going_change : (xs : List Input) (i : InputId) → IsGoing xs i → IsGoing (change_first q f xs) i
  going_change [] i h = h
  going_change (x ∷ xs) i h = step (going_change xs i) (q x)
    where
      own : (b c : Bool) → c ≡ b → Goes (cond b (Some x) (input_of xs i)) → Goes (cond c (Some (f x)) (input_of xs i))
      own true true e h = goes x h
      own true false e h = absurd (false≢true e)
      own false true e h = absurd (false≢true (sym e))
      own false false e h = h

      behind : (IsGoing xs i → IsGoing (change_first q f xs) i) → (b : Bool) → Goes (cond b (Some x) (input_of xs i)) → Goes (cond b (Some x) (input_of (change_first q f xs) i))
      behind later true h = h
      behind later false h = later h

      step : (IsGoing xs i → IsGoing (change_first q f xs) i) → (b : Bool) → IsGoing (cond b (f x ∷ xs) (x ∷ change_first q f xs)) i
      step later true = own (nat_eq x.index.0 i.0) (nat_eq (f x).index.0 i.0) (ap (λ n. nat_eq n i.0) (keeps x)) h
      step later false = behind later (nat_eq x.index.0 i.0) h

  pub still_waits : (xs : List Input) (ws : List Waiting) → AllByRecursion (IsAwaiting xs) ws → AllByRecursion (IsAwaiting (change_first q f xs)) ws
  still_waits xs ws h = all_weaken (IsAwaiting xs) (IsAwaiting (change_first q f xs)) (λ w going. going_change xs w.input going) ws h

-- ---- one more comes

going_push : (xs : List Input) (y : Input) (i : InputId) → IsGoing xs i → IsGoing (xs ++ y ∷ []) i
going_push [] y i h = absurd h
going_push (x ∷ xs) y i h = step (going_push xs y i) (nat_eq x.index.0 i.0) h
  where
    step : (IsGoing xs i → IsGoing (xs ++ y ∷ []) i) → (b : Bool) → Goes (cond b (Some x) (input_of xs i)) → Goes (cond b (Some x) (input_of (xs ++ y ∷ []) i))
    step later true h = h
    step later false h = later h

pub pushed_waits : (xs : List Input) (y : Input) (ws : List Waiting) → AllByRecursion (IsAwaiting xs) ws → AllByRecursion (IsAwaiting (xs ++ y ∷ [])) ws
pushed_waits xs y ws h = all_weaken (IsAwaiting xs) (IsAwaiting (xs ++ y ∷ [])) (λ w going. going_push xs y w.input going) ws h

-- ---- one ends, or goes

other_index : (a b : InputId) → nat_eq a.0 b.0 ≡ false → nat_eq b.0 a.0 ≡ false
other_index a b e = ne_eqb b.0 a.0 (λ (same : b.0 ≡ a.0). eqb-false a.0 b.0 e (sym same))

module _ (xs : List Input) (x : Input) (here : input_of xs x.index ≡ Some x) where
  -- of those that wait of others
  pub others_wait : (ws : List Waiting) → AllByRecursion (IsAwaiting xs) ws → AllByRecursion (IsAwaiting (change_first (has_index x.index) leaving xs)) (waiting_of_others ws x.index)
  others_wait [] h = tt
  others_wait (w ∷ ws) h = step (others_wait ws h.1) (nat_eq w.input.0 x.index.0) refl
    where
      same : nat_eq w.input.0 x.index.0 ≡ false → input_of (change_first (has_index x.index) leaving xs) w.input ≡ input_of xs w.input
      same e =
          let off = other_index w.input x.index e in
          found-changed (has_index x.index) (has_index w.input) leaving xs x here off off

      step : AllByRecursion (IsAwaiting (change_first (has_index x.index) leaving xs)) (waiting_of_others ws x.index)
          → (b : Bool) → nat_eq w.input.0 x.index.0 ≡ b → AllByRecursion (IsAwaiting (change_first (has_index x.index) leaving xs)) (cond (not b) (w ∷ waiting_of_others ws x.index) (waiting_of_others ws x.index))
      step rest true e = rest
      step rest false e = (subst Goes (sym (same e)) h.0, rest)

  -- one that has ended, and of which nothing waits
  going_drop : x.standing ≡ Leaving → (i : InputId) → IsGoing xs i → IsGoing (drop_first (has_index x.index) xs) i
  going_drop left i h = step (nat_eq i.0 x.index.0) refl
    where
      found : nat_eq i.0 x.index.0 ≡ true → input_of xs i ≡ Some x
      found e = ap (λ n. input_of xs (record { 0 = n })) (eqb-true i.0 x.index.0 e) ∙ here

      ended : goes_on x ≡ false
      ended = ap (λ standing. not (is_leaving standing)) left

      step : (b : Bool) → nat_eq i.0 x.index.0 ≡ b → IsGoing (drop_first (has_index x.index) xs) i
      step true e = absurd (false≢true (sym ended ∙ subst Goes (found e) h))
      step false e = subst Goes (sym (found-dropped (has_index x.index) (has_index i) (λ z. z) xs x here (other_index i x.index e))) h

  pub none_gone : x.standing ≡ Leaving → (ws : List Waiting) → AllByRecursion (IsAwaiting xs) ws → AllByRecursion (IsAwaiting (drop_first (has_index x.index) xs)) ws
  none_gone left ws h = all_weaken (IsAwaiting xs) (IsAwaiting (drop_first (has_index x.index) xs)) (λ w going. going_drop left w.input going) ws h

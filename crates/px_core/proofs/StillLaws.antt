-- The messages that wait while their inputs move wait of such inputs alone, and suit them, whatever changes.
use Rattle.std.proofs.Common.{◌≡◌, List, [], ◌∷◌, ◌++◌, Option, Some, None, Bool, true, false, refl, ap, sym, subst, ◌∙◌, cond}
use Rattle.std.specs.Prelude.{not, nat_eq, MatchOption, IfSome}
use Rattle.std.specs.List.{AllByRecursion, find}
use Rattle.std.proofs.lemmas.Bool.{eqb-true, eqb-false, ne_eqb, false≢true}
use Rattle.px_types.specs.declared.ids.InputId.{InputId}
use Rattle.px_types.specs.declared.ids.SinkId.{SinkId}
use Rattle.px_sample.specs.declared.spec.Spec.{Spec}
use Rattle.px_model.specs.Orderly.{IsWhole}
use Rattle.px_msg.specs.View.{sample_spec}
use Rattle.px_model.specs.declared.data.Attr.{Attr as Attributes}
use Rattle.px_msg.specs.declared.message.Msg.{Msg}
use Rattle.px_msg.specs.declared.message.Msg.TheVariants.{New, Attach, Detach, Write, Cork, Flush, Trigger, Prebuf, Drain, Attr, Factors, Query}
use Rattle.px_outcome.specs.declared.input.Input.{Input}
use Rattle.px_outcome.specs.declared.input.Way.{Way}
use Rattle.px_outcome.specs.declared.input.Way.TheVariants.{There, Left}
use Rattle.px_outcome.specs.declared.input.Standing.{Standing}
use Rattle.px_outcome.specs.declared.input.Standing.TheVariants.{Settled, Moving, Leaving}
use Rattle.px_outcome.specs.declared.change.Change.TheVariants.{Authed, Named, Masked, Defaulted, Made, Described, Leaves, Moves, Arrives, Released, Posted, Regrouped, Asked, Answered, Gone, Ended, Forgotten}
use Rattle.px_outcome.specs.Input.{is_moving}
use Rattle.px_state.specs.declared.delayed.Delayed.{Delayed}
use Rattle.px_state.specs.Delayed.{is_of, delayed_of_others, Suits, Waits, IsDelayed}
use Rattle.px_state.specs.State.{State, has_index, input_of}
use Rattle.px_state.specs.Change.{Change, change_first, drop_first, leaving, with_attr, moving_to, inputs_noted, ending, ending_of, posting_to_input, posting_if_there, departs, departs_of, releasing, releasing_of, changed, committed}
use Rattle.px_core.specs.Lawful.{HasLeft, Lawful, AreLawfulOwing, owed_after}
use Rattle.px_state.specs.Out.{on_way, inputs_past, past}
use Rattle.px_core.proofs.ListLaws.{all_weaken, all_drop, all_push, found_test}
use Rattle.px_core.proofs.VerbLaws.{by_own, none_goes}
use Rattle.px_input_table.proofs.ByStream.{found-changed, found-dropped}

-- they all do
abbrev pub Still : {P : Type 0} → State P → Type 0
Still state = AllByRecursion (IsDelayed state.inputs) state.delayed

-- ---- the input that is found with an index, where some change

module _ (Q : Input → Type 0) where
  abbrev Has : Option Input → Type 0
  Has o = MatchOption o ⊥ Q

  has_change : (q : Input → Bool) (f : Input → Input) → ((x : Input) → (f x).index.0 ≡ x.index.0) → ((x : Input) → Q x → Q (f x)) → (xs : List Input) (i : InputId) → Has (input_of xs i) → Has (input_of (change_first q f xs) i)
  has_change q f keeps so [] i h = h
  has_change q f keeps so (x ∷ xs) i h = step (has_change q f keeps so xs i) (q x)
    where
      own : (b c : Bool) → c ≡ b → Has (cond b (Some x) (input_of xs i)) → Has (cond c (Some (f x)) (input_of xs i))
      own true true e h = so x h
      own true false e h = absurd (false≢true e)
      own false true e h = absurd (false≢true (sym e))
      own false false e h = h

      behind : (Has (input_of xs i) → Has (input_of (change_first q f xs) i)) → (b : Bool) → Has (cond b (Some x) (input_of xs i)) → Has (cond b (Some x) (input_of (change_first q f xs) i))
      behind later true h = h
      behind later false h = later h

      step : (Has (input_of xs i) → Has (input_of (change_first q f xs) i)) → (b : Bool) → Has (input_of (cond b (f x ∷ xs) (x ∷ change_first q f xs)) i)
      step later true = own (nat_eq x.index.0 i.0) (nat_eq (f x).index.0 i.0) (ap (λ n. nat_eq n i.0) (keeps x)) h
      step later false = behind later (nat_eq x.index.0 i.0) h

  has_push : (xs : List Input) (y : Input) (i : InputId) → Has (input_of xs i) → Has (input_of (xs ++ y ∷ []) i)
  has_push [] y i h = absurd h
  has_push (x ∷ xs) y i h = step (has_push xs y i) (nat_eq x.index.0 i.0) h
    where
      step : (Has (input_of xs i) → Has (input_of (xs ++ y ∷ []) i)) → (b : Bool) → Has (cond b (Some x) (input_of xs i)) → Has (cond b (Some x) (input_of (xs ++ y ∷ []) i))
      step later true h = h
      step later false h = later h

-- ---- an input changes, and moves where it did

still_change : {P : Type 0} (q : Input → Bool) (f : Input → Input) → ((x : Input) → (f x).index.0 ≡ x.index.0) → ((x : Input) (m : Msg P) → Waits x m → Waits (f x) m) → (xs : List Input) (ds : List (Delayed P))
    → AllByRecursion (IsDelayed xs) ds → AllByRecursion (IsDelayed (change_first q f xs)) ds
still_change q f keeps so xs ds h = all_weaken (IsDelayed xs) (IsDelayed (change_first q f xs)) (λ d has. has_change (λ x. Waits x d.message) q f keeps (λ x w. so x d.message w) xs d.input has) ds h

-- what a message asks of an input is asked of its index and its spec
pub suits_as : {P : Type 0} (x y : Input) → y.index ≡ x.index → y.spec ≡ x.spec → (m : Msg P) → Suits x m → Suits y m
suits_as x y index spec (New n) s = absurd s
suits_as x y index spec (Attach input parcel feed factors) s = absurd s
suits_as x y index spec (Detach input) s = absurd s
suits_as x y index spec (Write input seek offset frames bytes) s = (
  s.0 ∙ sym (ap (λ (i : InputId). i.0) index),
  subst (λ (z : Spec). IsWhole (sample_spec z) (record { input = input.0; seek = seek; offset = offset; frames = frames; bytes = bytes })) (sym spec) s.1,
)
suits_as x y index spec (Cork input on) s = s ∙ sym (ap (λ (i : InputId). i.0) index)
suits_as x y index spec (Flush input) s = s ∙ sym (ap (λ (i : InputId). i.0) index)
suits_as x y index spec (Trigger input) s = s ∙ sym (ap (λ (i : InputId). i.0) index)
suits_as x y index spec (Prebuf input) s = s ∙ sym (ap (λ (i : InputId). i.0) index)
suits_as x y index spec (Drain input tag) s = s ∙ sym (ap (λ (i : InputId). i.0) index)
suits_as x y index spec (Attr input attr) s = (s.0 ∙ sym (ap (λ (i : InputId). i.0) index), s.1)
suits_as x y index spec (Factors each) s = absurd s
suits_as x y index spec (Query input tag) s = s ∙ sym (ap (λ (i : InputId). i.0) index)

attr_still : {P : Type 0} (index : InputId) (attr : Attributes) (xs : List Input) (ds : List (Delayed P)) → AllByRecursion (IsDelayed xs) ds → AllByRecursion (IsDelayed (change_first (has_index index) (with_attr attr) xs)) ds
attr_still index attr xs ds h = still_change (has_index index) (with_attr attr) (λ x. refl) (λ x m w. (w.0, suits_as x (with_attr attr x) refl refl m w.1)) xs ds h

noted_still : {P : Type 0} (index : InputId) (m : Msg P) (xs : List Input) (ds : List (Delayed P)) → AllByRecursion (IsDelayed xs) ds → AllByRecursion (IsDelayed (inputs_noted index m xs)) ds
noted_still index (New n) xs ds h = h
noted_still index (Attach input parcel feed factors) xs ds h = h
noted_still index (Detach input) xs ds h = h
noted_still index (Write input seek offset frames bytes) xs ds h = h
noted_still index (Cork input on) xs ds h = h
noted_still index (Flush input) xs ds h = h
noted_still index (Trigger input) xs ds h = h
noted_still index (Prebuf input) xs ds h = h
noted_still index (Drain input tag) xs ds h = h
noted_still index (Attr input attr) xs ds h = attr_still index attr xs ds h
noted_still index (Factors each) xs ds h = h
noted_still index (Query input tag) xs ds h = h

departed_still : {P : Type 0} (index : InputId) (to : SinkId) (xs : List Input) (ds : List (Delayed P)) → AllByRecursion (IsDelayed xs) ds → AllByRecursion (IsDelayed (change_first (has_index index) (moving_to to) xs)) ds
departed_still index to xs ds h = still_change (has_index index) (moving_to to) (λ x. refl) (λ x m w. (refl, suits_as x (moving_to to x) refl refl m w.1)) xs ds h

way_still : {P : Type 0} (index : InputId) (way : Way) (xs : List Input) (ds : List (Delayed P)) → AllByRecursion (IsDelayed xs) ds → AllByRecursion (IsDelayed (change_first (has_index index) (on_way way) xs)) ds
way_still index way xs ds h = still_change (has_index index) (on_way way) (λ x. refl) (λ x m w. (w.0, suits_as x (on_way way x) refl refl m w.1)) xs ds h

-- ---- one ends, or goes

other_index : (a b : InputId) → nat_eq a.0 b.0 ≡ false → nat_eq b.0 a.0 ≡ false
other_index a b e = ne_eqb b.0 a.0 (λ (same : b.0 ≡ a.0). eqb-false a.0 b.0 e (sym same))

abbrev IsIn : {P : Type 0} → Delayed P → Option Input → Type 0
IsIn d o = MatchOption o ⊥ (λ x. Waits x d.message)

module _ {P : Type 0} (xs : List Input) (x : Input) (here : input_of xs x.index ≡ Some x) where
  -- where it changes, those that are of others wait on
  pub others_still : (f : Input → Input) → ((y : Input) → (f y).index.0 ≡ y.index.0) → (d : Delayed P) → is_of x.index d ≡ false → IsDelayed xs d → IsDelayed (change_first (has_index x.index) f xs) d
  others_still f keeps d e h =
      let off : nat_eq x.index.0 d.input.0 ≡ false = other_index d.input x.index e in
      subst (IsIn d) (sym (found-changed (has_index x.index) (has_index d.input) f xs x here off (ap (λ n. nat_eq n d.input.0) (keeps x) ∙ off))) h

  ended_still : (ds : List (Delayed P)) → AllByRecursion (IsDelayed xs) ds → AllByRecursion (IsDelayed (change_first (has_index x.index) leaving xs)) (delayed_of_others ds x.index)
  ended_still [] h = tt
  ended_still (d ∷ ds) h = step (ended_still ds h.1) (is_of x.index d) refl
    where
      step : AllByRecursion (IsDelayed (change_first (has_index x.index) leaving xs)) (delayed_of_others ds x.index)
          → (b : Bool) → is_of x.index d ≡ b → AllByRecursion (IsDelayed (change_first (has_index x.index) leaving xs)) (cond (not b) (d ∷ delayed_of_others ds x.index) (delayed_of_others ds x.index))
      step rest true e = rest
      step rest false e = (others_still leaving (λ y. refl) d e h.0, rest)

  -- one that has ended, of which nothing waits
  gone_still : x.standing ≡ Leaving → (d : Delayed P) → IsDelayed xs d → IsDelayed (drop_first (has_index x.index) xs) d
  gone_still left d h = step (is_of x.index d) refl
    where
      found : is_of x.index d ≡ true → input_of xs d.input ≡ Some x
      found e = ap (λ n. input_of xs (record { 0 = n })) (eqb-true d.input.0 x.index.0 e) ∙ here

      ended : is_moving x.standing ≡ false
      ended = ap is_moving left

      step : (b : Bool) → is_of x.index d ≡ b → IsDelayed (drop_first (has_index x.index) xs) d
      step true e = absurd (false≢true (sym ended ∙ (subst (IsIn d) (found e) h).0))
      step false e = subst (IsIn d) (sym (found-dropped (has_index x.index) (has_index d.input) (λ z. z) xs x here (other_index d.input x.index e))) h

-- ---- the changes

left_still : {P : Type 0} (state : State P) (index : InputId) (o : Option Input) → input_of state.inputs index ≡ o → Still state → Still (ending_of o state)
left_still state index None e h = h
left_still {P} state index (Some x) e h = by x.standing
  where
    by : (standing : Standing) → Still (ending standing x state)
    by Settled = ended_still state.inputs x (by_own state.inputs index x e) state.delayed h
    by (Moving to) = ended_still state.inputs x (by_own state.inputs index x e) state.delayed h
    by Leaving = h

moved_still : {P : Type 0} (state : State P) (to : SinkId) (o : Option Input) → Still state → Still (departs_of to o state)
moved_still state to None h = h
moved_still {P} state to (Some x) h = by x.standing
  where
    by : (standing : Standing) → Still (departs to standing x state)
    by Settled = departed_still x.index to state.inputs state.delayed h
    by (Moving on) = h
    by Leaving = h

released_still : {P : Type 0} (state : State P) (o : Option Input) → Still state → Still (releasing_of o state)
released_still state None h = h
released_still {P} state (Some x) h = by (find (is_of x.index) state.delayed)
  where
    by : (o : Option (Delayed P)) → Still (releasing x o state)
    by None = h
    by (Some d) = all_drop (IsDelayed state.inputs) (is_of x.index) state.delayed h

posted_still : {P : Type 0} (state : State P) (index : InputId) (m : Msg P) (o : Option Input) → input_of state.inputs index ≡ o → IfSome o (λ x. Suits x m) → Still state → Still (posting_if_there o m state)
posted_still state index m None e suits h = h
posted_still {P} state index m (Some x) e suits h = by x.standing refl
  where
    by : (standing : Standing) → x.standing ≡ standing → Still (posting_to_input standing x m state)
    by Settled is = noted_still x.index m state.inputs state.delayed h
    by (Moving to) is =
        noted_still x.index m state.inputs (state.delayed ++ record { input = x.index; message = m } ∷ [])
        (all_push (IsDelayed state.inputs) state.delayed (record { input = x.index; message = m }) h
        (subst (λ o. MatchOption o ⊥ (λ y. Waits y m)) (sym (by_own state.inputs index x e)) (ap is_moving is, suits)))
    by Leaving is = h

gone_all_still : {P : Type 0} (state : State P) (index : InputId) (o : Option Input) → input_of state.inputs index ≡ o → IfSome o HasLeft → Still state → AllByRecursion (IsDelayed (drop_first (has_index index) state.inputs)) state.delayed
gone_all_still state index None e left h = subst (λ (inputs : List Input). AllByRecursion (IsDelayed inputs) state.delayed) (sym (none_goes (has_index index) state.inputs e)) h
gone_all_still state index (Some x) e left h =
    subst (λ n. AllByRecursion (IsDelayed (drop_first (has_index (record { 0 = n })) state.inputs)) state.delayed) (eqb-true x.index.0 index.0 (found_test (has_index index) state.inputs x e))
    (all_weaken (IsDelayed state.inputs) (IsDelayed (drop_first (has_index x.index) state.inputs)) (λ d i. gone_still state.inputs x (by_own state.inputs index x e) left.standing d i) state.delayed h)

change_still : {P : Type 0} (state : State P) (c : Change P) → Lawful state c → Still state → Still (changed state c)
change_still state (Authed conn version) lawful h = h
change_still state (Named conn list) lawful h = h
change_still state (Masked conn mask) lawful h = h
change_still state (Defaulted sink) lawful h = h
change_still state (Made x m streams inputs) lawful h = all_weaken (IsDelayed state.inputs) (IsDelayed (state.inputs ++ x ∷ [])) (λ d i. has_push (λ y. Waits y d.message) state.inputs x d.input i) state.delayed h
change_still state (Described index list) lawful h = h
change_still state (Leaves index) lawful h = left_still state index (input_of state.inputs index) refl h
change_still state (Moves index to) lawful h = moved_still state to (input_of state.inputs index) h
change_still state (Arrives index m) lawful h = absurd lawful
change_still state (Released index) lawful h = released_still state (input_of state.inputs index) h
change_still state (Posted index m) lawful h = posted_still state index m (input_of state.inputs index) refl lawful h
change_still state (Regrouped sink group m) lawful h = h
change_still state (Asked w) lawful h = h
change_still state (Answered w) lawful h = h
change_still state (Gone index) lawful h = gone_all_still state index (input_of state.inputs index) refl lawful h
change_still state (Ended conn reason fault at) lawful h = h
change_still state (Forgotten conn) lawful h = h

-- and all of them
pub changes_still : {P : Type 0} (owed : List SinkId) (state : State P) (changes : List (Change P)) → AreLawfulOwing owed state changes → Still state → Still (committed state changes)
changes_still owed state [] lawful h = h
changes_still owed state (c ∷ changes) lawful h = changes_still (owed_after state c owed) (changed state c) changes lawful.1 (change_still state c lawful.0 h)

-- ---- a message is handed out

past_inputs : {P Q : Type 0} (m : Msg Q) (xs : List Input) (ds : List (Delayed P)) → AllByRecursion (IsDelayed xs) ds → AllByRecursion (IsDelayed (inputs_past m xs)) ds
past_inputs (New n) xs ds h = way_still n.input There xs ds h
past_inputs (Attach input parcel feed factors) xs ds h = way_still input There xs ds h
past_inputs (Detach input) xs ds h = way_still input Left xs ds h
past_inputs (Write input seek offset frames bytes) xs ds h = h
past_inputs (Cork input on) xs ds h = h
past_inputs (Flush input) xs ds h = h
past_inputs (Trigger input) xs ds h = h
past_inputs (Prebuf input) xs ds h = h
past_inputs (Drain input tag) xs ds h = h
past_inputs (Attr input attr) xs ds h = h
past_inputs (Factors each) xs ds h = h
past_inputs (Query input tag) xs ds h = h

pub past_still : {P : Type 0} (state : State P) (o : Option (Msg P)) (sink : SinkId) → Still state → Still (past o sink state)
past_still state None sink h = h
past_still state (Some m) sink h = past_inputs m state.inputs state.delayed h

-- A message that was handed out and is put back leaves the state as it was.
use Rattle.std.proofs.Common.{◌≡◌, ℕ, zero, suc, Bool, true, false, cond, List, [], ◌∷◌, get_or, Some, refl, sym, ap, ◌∙◌}
use Rattle.std.specs.Prelude.{set, IfSome}
use Rattle.px_types.specs.declared.ids.InputId.{InputId}
use Rattle.px_msg.specs.declared.message.Msg.{Msg}
use Rattle.px_msg.specs.declared.message.Msg.TheVariants.{New, Attach, Detach, Write, Cork, Flush, Trigger, Prebuf, Drain, Attr, Factors, Query}
use Rattle.px_outcome.specs.declared.input.Input.{Input}
use Rattle.px_outcome.specs.declared.input.Way.{Way}
use Rattle.px_outcome.specs.declared.input.Way.TheVariants.{Coming, There, Left}
use Rattle.px_state.specs.State.{State, has_index, input_of}
use Rattle.px_state.specs.Change.{change_first}
use Rattle.px_state.specs.Out.{first_of, rest_of, on_way, with_way, inputs_past, inputs_before}
use Rattle.px_state.specs.Lending.{IsOnWay, FindsItsStream, IsUndone}

-- ---- the queues

-- a list has a first element, so it is there
whole : {A : Type 0} (xs : List A) (m : A) → first_of xs ≡ Some m → m ∷ rest_of xs ≡ xs
whole [] m first = absurd cc
whole (x ∷ xs) m first = let same : x ≡ m = cc in ap (λ y. y ∷ xs) (sym same)

-- the rest of a list at a place takes its place, and then the whole list again
again : {A : Type 0} (lists : List (List A)) (i : ℕ) (m : A) → first_of (get_or lists i []) ≡ Some m → set (set lists i (rest_of (get_or lists i []))) i (m ∷ get_or (set lists i (rest_of (get_or lists i []))) i []) ≡ lists
again [] i m first = absurd cc
again (xs ∷ lists) zero m first = ap (λ ys. ys ∷ lists) (whole xs m first)
again (xs ∷ lists) (suc i) m first = ap (λ rest. xs ∷ rest) (again lists i m first)

-- ---- the inputs

there_and_back : (index : InputId) (before after : Way) (b : Bool) (x : Input) (rest rest_back : List Input) → has_index index x ≡ b → IfSome (cond b (Some x) (input_of rest index)) (λ y. y.way ≡ before) → (IfSome (input_of rest index) (λ y. y.way ≡ before) → rest_back ≡ rest)
    → cond b (on_way before (on_way after x) ∷ rest) (x ∷ rest_back) ≡ x ∷ rest
there_and_back index before after true x rest rest_back so way back = ap (λ (way : Way). record x { way = way } ∷ rest) (sym way)
there_and_back index before after false x rest rest_back so way back = ap (λ ys. x ∷ ys) (back way)

choose : (index : InputId) (before after : Way) (b : Bool) (x : Input) (rest : List Input) → has_index index x ≡ b → change_first (has_index index) (on_way before) (cond b (on_way after x ∷ rest) (x ∷ with_way index after rest)) ≡ cond b (on_way before (on_way after x) ∷ rest) (x ∷ with_way index before (with_way index after rest))
choose index before after true x rest so = rw so refl
choose index before after false x rest so = rw so refl

way_undone : (index : InputId) (before after : Way) (inputs : List Input) → IsOnWay inputs index before → with_way index before (with_way index after inputs) ≡ inputs
way_undone index before after [] way = refl
way_undone index before after (x ∷ inputs) way =
    choose index before after (has_index index x) x inputs refl
    ∙ there_and_back index before after (has_index index x) x inputs (with_way index before (with_way index after inputs)) refl way (way_undone index before after inputs)

inputs_undone : {P : Type 0} (m : Msg P) (inputs : List Input) → FindsItsStream m inputs → inputs_before m (inputs_past m inputs) ≡ inputs
inputs_undone (New n) inputs finds = way_undone n.input Coming There inputs finds
inputs_undone (Attach input parcel feed factors) inputs finds = way_undone input Coming There inputs finds
inputs_undone (Detach input) inputs finds = way_undone input There Left inputs finds
inputs_undone (Write input seek offset frames bytes) inputs finds = refl
inputs_undone (Cork input on) inputs finds = refl
inputs_undone (Flush input) inputs finds = refl
inputs_undone (Trigger input) inputs finds = refl
inputs_undone (Prebuf input) inputs finds = refl
inputs_undone (Drain input tag) inputs finds = refl
inputs_undone (Attr input attr) inputs finds = refl
inputs_undone (Factors each) inputs finds = refl
inputs_undone (Query input tag) inputs finds = refl

-- ---- the state

parts : {P : Type 0} (state : State P) (posted : List (List (Msg P))) (inputs : List Input) → posted ≡ state.posted → inputs ≡ state.inputs → record state { posted = posted; inputs = inputs } ≡ state
parts state posted inputs p q = rw (p, q) refl

pub undone : {P : Type 0} (state : State P) → IsUndone state
undone state sink m first finds =
    rw first
    (parts state _ _ (again state.posted sink.0 m first) (inputs_undone m state.inputs finds))

-- The messages of moving inputs: they are held until the new sink has the stream.
use Rattle.std.specs.Prelude.{◌≡◌, Bool, true, not, nat_eq, List, filter, MatchOption}
use Rattle.px_types.specs.declared.ids.InputId.{InputId}
use Rattle.px_model.specs.Orderly.{IsRepaired, IsWhole}
use Rattle.px_msg.specs.declared.message.Msg.{Msg}
use Rattle.px_msg.specs.declared.message.Msg.TheVariants.{New, Attach, Detach, Write, Cork, Flush, Trigger, Prebuf, Drain, Attr, Factors, Query}
use Rattle.px_msg.specs.View.{sample_spec}
use Rattle.px_outcome.specs.declared.input.Input.{Input}
use Rattle.px_outcome.specs.Input.{is_moving, input_of}
use Rattle.px_state.specs.declared.delayed.Delayed.{Delayed}

abbrev pub is_of : {P : Type 0} → InputId → Delayed P → Bool
is_of index d = nat_eq d.input.0 index.0

-- those of an input, and those of others
abbrev pub delayed_of : {P : Type 0} → List (Delayed P) → InputId → List (Delayed P)
delayed_of delayed index = filter (is_of index) delayed

abbrev pub delayed_of_others : {P : Type 0} → List (Delayed P) → InputId → List (Delayed P)
delayed_of_others delayed index = filter (λ d. not (is_of index d)) delayed

-- a message about the stream of an input: it names it, and fits it
abbrev pub Suits : {P : Type 0} → Input → Msg P → Type 0
Suits x (New n) = ⊥
Suits x (Attach input parcel feed factors) = ⊥
Suits x (Detach input) = ⊥
Suits x (Write input seek offset frames bytes) =
    (input.0 ≡ x.index.0) × IsWhole (sample_spec x.spec) (record { input = input.0; seek = seek; offset = offset; frames = frames; bytes = bytes })
Suits x (Cork input on) = input.0 ≡ x.index.0
Suits x (Flush input) = input.0 ≡ x.index.0
Suits x (Trigger input) = input.0 ≡ x.index.0
Suits x (Prebuf input) = input.0 ≡ x.index.0
Suits x (Drain input tag) = input.0 ≡ x.index.0
Suits x (Attr input attr) = (input.0 ≡ x.index.0) × IsRepaired attr
Suits x (Factors each) = ⊥
Suits x (Query input tag) = input.0 ≡ x.index.0

-- its input moves, and the message suits it
abbrev pub Waits : {P : Type 0} → Input → Msg P → Type 0
Waits x m = (is_moving x.standing ≡ true) × Suits x m

abbrev pub IsDelayed : {P : Type 0} → List Input → Delayed P → Type 0
IsDelayed inputs d = MatchOption (input_of inputs d.input) ⊥ (λ x. Waits x d.message)

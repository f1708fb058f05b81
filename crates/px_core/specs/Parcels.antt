-- The streams that messages bring to sinks and notices bring from them: of which input each is, and in which parcel it moves.
use Rattle.std.specs.Prelude.{◌≡◌, ◌⊎◌, ℕ, List, [], ◌∷◌, Option, None, Some}
use Rattle.std.specs.List.{AllByRecursion}
use Rattle.px_msg.specs.declared.message.Msg.{Msg}
use Rattle.px_msg.specs.declared.message.Msg.TheVariants.{New, Attach, Detach, Write, Cork, Flush, Trigger, Prebuf, Drain, Attr, Factors, Query}
use Rattle.px_msg.specs.declared.notice.Notice.{Notice}
use Rattle.px_msg.specs.declared.notice.Notice.TheVariants.{Request, Overflow, Underflow, Started, Drained, Detached, Latency}
use Rattle.px_state.specs.State.{State}
use Rattle.px_core.specs.Step.{Step, connect, frame, broken, close, cut, sweep, notice, out}

-- an input's stream, on its way to a sink or from one: in a parcel, or new and in none
pub record Brought (P : Type 0) : Type 0 where
  pub input : ℕ
  pub parcel : Option P

abbrev pub new_stream : {P : Type 0} → ℕ → Brought P
new_stream input = record { input = input; parcel = None }

abbrev pub moved_stream : {P : Type 0} → ℕ → P → Brought P
moved_stream input parcel = record { input = input; parcel = Some parcel }

-- the stream that a message brings to its sink, if any
abbrev pub carried_by : {P : Type 0} → Msg P → List (Brought P)
carried_by (New n) = new_stream n.input.0 ∷ []
carried_by (Attach input parcel feed factors) = moved_stream input.0 parcel ∷ []
carried_by (Detach input) = []
carried_by (Write input seek offset frames bytes) = []
carried_by (Cork input on) = []
carried_by (Flush input) = []
carried_by (Trigger input) = []
carried_by (Prebuf input) = []
carried_by (Drain input tag) = []
carried_by (Attr input attr) = []
carried_by (Factors each) = []
carried_by (Query input tag) = []

-- the stream that a notice gives up, if any
abbrev pub given_by : {P : Type 0} → Notice P → List (Brought P)
given_by (Request input frames) = []
given_by (Overflow input) = []
given_by (Underflow input) = []
given_by (Started input) = []
given_by (Drained input tag) = []
given_by (Detached input parcel) = moved_stream input.0 parcel ∷ []
given_by (Latency input tag write read buffered playing run) = []

-- and that of a step's notice
abbrev pub given_in : {P : Type 0} → Step P → List (Brought P)
given_in (connect conn) = []
given_in (frame conn f) = []
given_in (broken conn fault at) = []
given_in (close conn) = []
given_in (cut conn) = []
given_in sweep = []
given_in (notice sink n) = given_by n
given_in (out sink) = []

-- ---- streams of which something holds

-- a message brings no other stream
abbrev pub Carries : {P : Type 0} → (Brought P → Type 0) → Msg P → Type 0
Carries holds m = AllByRecursion holds (carried_by m)

-- nor does any that is queued for a sink
abbrev pub AllCarry : {P : Type 0} → (Brought P → Type 0) → State P → Type 0
AllCarry holds state = AllByRecursion (AllByRecursion (Carries holds)) state.posted

-- a step gives up no other
abbrev pub Takes : {P : Type 0} → (Brought P → Type 0) → Step P → Type 0
Takes holds s = AllByRecursion holds (given_in s)

-- it is one of these
abbrev pub IsAmong : {P : Type 0} → List (Brought P) → Brought P → Type 0
IsAmong [] b = ⊥
IsAmong (given ∷ others) b = (given ≡ b) ⊎ IsAmong others b

-- it is new, or one of these: given up of the same input, in the same parcel
abbrev pub IsNewOrAmong : {P : Type 0} → List (Brought P) → Brought P → Type 0
IsNewOrAmong given b = (b.parcel ≡ None) ⊎ IsAmong given b

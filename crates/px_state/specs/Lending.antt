-- A message that was handed out and is put back leaves the state as it was.
use Rattle.std.specs.Prelude.{◌≡◌, List, IfSome, Some}
use Rattle.px_types.specs.declared.ids.InputId.{InputId}
use Rattle.px_types.specs.declared.ids.SinkId.{SinkId}
use Rattle.px_msg.specs.declared.message.Msg.{Msg}
use Rattle.px_msg.specs.declared.message.Msg.TheVariants.{New, Attach, Detach, Write, Cork, Flush, Trigger, Prebuf, Drain, Attr, Factors, Query}
use Rattle.px_outcome.specs.declared.input.Input.{Input}
use Rattle.px_outcome.specs.declared.input.Way.{Way}
use Rattle.px_outcome.specs.declared.input.Way.TheVariants.{Coming, There}
use Rattle.px_state.specs.State.{State, input_of}
use Rattle.px_state.specs.Out.{next_for, handed_out, put_back}

-- the stream of an input, where that exists, has this `way`
abbrev pub IsOnWay : List Input → InputId → Way → Type 0
IsOnWay inputs index way = IfSome (input_of inputs index) (λ x. x.way ≡ way)

-- the stream that a message names has the `way` that the message expects: one that is brought is `Coming`, and one to detach is `There`
abbrev pub FindsItsStream : {P : Type 0} → Msg P → List Input → Type 0
FindsItsStream (New n) inputs = IsOnWay inputs n.input Coming
FindsItsStream (Attach input parcel feed factors) inputs = IsOnWay inputs input Coming
FindsItsStream (Detach input) inputs = IsOnWay inputs input There
FindsItsStream (Write input seek offset frames bytes) inputs = Unit {0}
FindsItsStream (Cork input on) inputs = Unit {0}
FindsItsStream (Flush input) inputs = Unit {0}
FindsItsStream (Trigger input) inputs = Unit {0}
FindsItsStream (Prebuf input) inputs = Unit {0}
FindsItsStream (Drain input tag) inputs = Unit {0}
FindsItsStream (Attr input attr) inputs = Unit {0}
FindsItsStream (Factors each) inputs = Unit {0}
FindsItsStream (Query input tag) inputs = Unit {0}

-- put back, it leaves the state as it was
abbrev pub IsUndone : {P : Type 0} → State P → Type 0
IsUndone {P} state = (sink : SinkId) (m : Msg P) → next_for state sink ≡ Some m → FindsItsStream m state.inputs → put_back sink m (handed_out sink state) ≡ state

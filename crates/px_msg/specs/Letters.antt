-- What goes through the mailboxes between the core and a sink: which lists of messages are lawful, and what they leave there.
use Rattle.std.specs.Prelude.{List, map}
use Rattle.std.specs.FinMap as finite
use Rattle.px_model.specs.Frame.{SampleSpec}
use Rattle.px_model.specs.Orderly.{Inputs, IsOrderly, inputs_left_by}
use Rattle.px_msg.specs.declared.message.Msg.{Msg}
use Rattle.px_msg.specs.View.{message_of}

-- a new sink has no inputs
abbrev pub none_there : Inputs
none_there = finite.empty

-- messages to a new sink of this sample spec: each names an input that is there then, or a new one, and fits; spec_of reads a parcel's
abbrev pub AreLawful : {P : Type 0} → (P → SampleSpec) → SampleSpec → List (Msg P) → Type 0
AreLawful spec_of sink messages = IsOrderly spec_of sink none_there (map (message_of (λ p. p)) messages)

-- the inputs that they leave there
abbrev pub inputs_after : {P : Type 0} → (P → SampleSpec) → List (Msg P) → Inputs
inputs_after spec_of messages = inputs_left_by spec_of none_there (map (message_of (λ p. p)) messages)

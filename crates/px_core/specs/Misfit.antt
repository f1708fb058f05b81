-- The notices of a sink that don't fit what the core knows of it. Own: PulseAudio's sinks and its core share their inputs.
use Rattle.std.specs.Prelude.{◌≡◌, ◌≢◌, All, Contains, ⊤}
use Rattle.px_types.specs.declared.ids.InputId.{InputId}
use Rattle.px_types.specs.declared.ids.SinkId.{SinkId}
use Rattle.px_tag.specs.declared.raw.TimeVal.{TimeVal}
use Rattle.px_model.specs.Frame.{SampleSpec}
use Rattle.px_msg.specs.declared.notice.Notice.{Notice}
use Rattle.px_msg.specs.declared.notice.Notice.TheVariants.{Request, Overflow, Underflow, Started, Drained, Detached, Latency}
use Rattle.px_msg.specs.View.{sample_spec}
use Rattle.px_outcome.specs.declared.input.Input.{Input}
use Rattle.px_outcome.specs.declared.input.Standing.TheVariants.{Leaving}
use Rattle.px_outcome.specs.declared.input.Way.TheVariants.{Left}
use Rattle.px_outcome.specs.declared.waiting.Awaited.TheVariants as awaited
use Rattle.px_outcome.specs.declared.waiting.Waiting.{Waiting}
use Rattle.px_state.specs.State.{State}

-- ---- what a notice is about

-- the index of its input
abbrev pub index_in : {P : Type 0} → Notice P → InputId
index_in (Request input frames) = input
index_in (Overflow input) = input
index_in (Underflow input) = input
index_in (Started input) = input
index_in (Drained input tag) = input
index_in (Detached input parcel) = input
index_in (Latency input tag write read buffered playing run) = input

-- its input, where the core has that on the sink
pub record IsAbout {P : Type 0} (state : State P) (sink : SinkId) (n : Notice P) (x : Input) : Type 0 where
  pub held : Contains state.inputs x
  pub numbered : x.index.0 ≡ (index_in n).0
  pub on : x.sink.0 ≡ sink.0

-- it answers a request
abbrev pub IsAnswer : {P : Type 0} → Notice P → Type 0
IsAnswer (Drained input tag) = ⊤
IsAnswer (Latency input tag write read buffered playing run) = ⊤
IsAnswer _ = ⊥

-- it answers this request: of the same input, under the same tag, and of its kind
abbrev pub Answers : {P : Type 0} → Notice P → Waiting → Type 0
Answers (Drained input tag) w = (w.input.0 ≡ input.0) × (w.tag ≡ tag) × (w.awaited ≡ awaited.Drained)
Answers (Latency input tag write read buffered playing run) w = (w.input.0 ≡ input.0) × (w.tag ≡ tag) × (time : TimeVal) × (w.awaited ≡ awaited.Latency time)
Answers _ w = ⊥

-- it brings the parcel of an input whose stream the sink has detached
abbrev pub Brings : {P : Type 0} → Notice P → P → Type 0
Brings n parcel = n ≡ Detached (index_in n) parcel

-- ---- the notices that don't fit

pub data Misfits {P : Type 0} (spec_of : P → SampleSpec) (state : State P) (sink : SinkId) (n : Notice P) : Type 0 where
  -- the core doesn't have the input on that sink
  elsewhere : ((x : Input) → IsAbout state sink n x → ⊥) → Misfits spec_of state sink n
  -- the input isn't leaving, and the request that it answers doesn't wait
  unasked : (x : Input) → IsAbout state sink n x → x.standing ≢ Leaving → IsAnswer n → All (λ w. Answers n w → ⊥) state.waiting → Misfits spec_of state sink n
  -- the sink was handed no message to detach the stream since the input came there
  unbidden : (x : Input) (parcel : P) → IsAbout state sink n x → Brings n parcel → x.way ≢ Left → Misfits spec_of state sink n
  -- the parcel has another sample spec than the input
  foreign : (x : Input) (parcel : P) → IsAbout state sink n x → Brings n parcel → spec_of parcel ≢ sample_spec x.spec → Misfits spec_of state sink n

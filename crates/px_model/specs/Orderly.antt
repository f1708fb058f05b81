-- Which lists of messages may be posted to a sink: orderly from the inputs that are there, each with its sample spec. Own: PulseAudio's core and its
-- sinks share their memory.
use Rattle.std.specs.Prelude.{◌≡◌, ℕ, ◌+◌, ◌-◌, ◌*◌, ◌<◌, ◌≤◌, ◌≢◌, List, [], ◌∷◌, length, All, MatchOption, IsSome, IsNone, ⊤}
use Rattle.std.specs.List.{AllByRecursion}
use Rattle.std.specs.Ordering.{nat_cmp}
use Rattle.std.specs.FinMap as map
use Rattle.px_model.specs.declared.data.Attr.{Attr}
use Rattle.px_model.specs.Frame.{SampleSpec, frame_size}
use Rattle.px_model.specs.Message.{Message, NewStream, FrameWrite, InputFactors}

-- the inputs of a sink, each with its sample spec
abbrev pub Inputs : Type 0
Inputs = map.FinMap nat_cmp SampleSpec

-- a spec that a stream may have: no float format, and 1 to 32 channels
pub record IsPlayable (spec : SampleSpec) : Type 0 where
  pub known : spec.format ≤ 12
  pub no_float_le : spec.format ≢ 5
  pub no_float_be : spec.format ≢ 6
  pub some_channels : 1 ≤ spec.channels
  pub few_channels : spec.channels ≤ 32

-- one stream channel for each sink channel
pub record IsFeed (sink spec : SampleSpec) (feed : List ℕ) : Type 0 where
  pub places : length feed ≡ sink.channels
  pub channels : All (λ channel. channel < spec.channels) feed

-- one factor for each sink channel
abbrev pub AreFactors : SampleSpec → List ℕ → Type 0
AreFactors sink factors = length factors ≡ sink.channels

-- attributes that are repaired
pub record IsRepaired (attr : Attr) : Type 0 where
  pub minreq_positive : 1 ≤ attr.minreq
  pub minreq_bounded : attr.minreq ≤ attr.tlength
  pub tlength_bounded : attr.tlength ≤ attr.maxlength
  pub maxlength_bounded : attr.maxlength ≤ 4194304
  pub prebuf_bounded : attr.prebuf ≤ attr.tlength + 1 - attr.minreq

-- a known mode of seeking, and exactly the bytes of its frames
pub record IsWhole (spec : SampleSpec) (w : FrameWrite) : Type 0 where
  pub seek_known : w.seek ≤ 3
  pub whole_frames : length w.bytes ≡ w.frames * frame_size spec

pub record IsNewStream (sink : SampleSpec) (n : NewStream) : Type 0 where
  pub playable : IsPlayable n.spec
  pub feed_fits : IsFeed sink n.spec n.feed
  pub factors_fit : AreFactors sink n.factors
  pub attr_repaired : IsRepaired n.attr

pub record IsParcel (sink spec : SampleSpec) (feed factors : List ℕ) : Type 0 where
  pub playable : IsPlayable spec
  pub feed_fits : IsFeed sink spec feed
  pub factors_fit : AreFactors sink factors

-- the message fits a sink of this sample spec, where spec_of reads a parcel's; a write fits the spec of its input
abbrev pub Fits : {P : Type 0} → (P → SampleSpec) → SampleSpec → Inputs → Message P → Type 0
Fits spec_of sink inputs (Message.new n) = IsNewStream sink n
Fits spec_of sink inputs (Message.attach i parcel feed factors) = IsParcel sink (spec_of parcel) feed factors
Fits spec_of sink inputs (Message.detach i) = ⊤
Fits spec_of sink inputs (Message.write w) = MatchOption (map.get inputs w.input) ⊤ (λ spec. IsWhole spec w)
Fits spec_of sink inputs (Message.cork i on) = ⊤
Fits spec_of sink inputs (Message.flush i) = ⊤
Fits spec_of sink inputs (Message.trigger i) = ⊤
Fits spec_of sink inputs (Message.prebuf i) = ⊤
Fits spec_of sink inputs (Message.drain i tag) = ⊤
Fits spec_of sink inputs (Message.attr i attr) = IsRepaired attr
Fits spec_of sink inputs (Message.factors each) = AllByRecursion (λ f. AreFactors sink (InputFactors.factors f)) each
Fits spec_of sink inputs (Message.query i tag) = ⊤

-- the input isn't there, and there is room for it
pub record HasRoom (inputs : Inputs) (input : ℕ) : Type 0 where
  pub absent : IsNone (map.get inputs input)
  pub room : map.len inputs < 256

-- the input that a message names is there, or for a new one isn't; Factors may name any
abbrev pub NamesInput : {P : Type 0} → Inputs → Message P → Type 0
NamesInput inputs (Message.new n) = HasRoom inputs n.input
NamesInput inputs (Message.attach i parcel feed factors) = HasRoom inputs i
NamesInput inputs (Message.detach i) = IsSome (map.get inputs i)
NamesInput inputs (Message.write w) = IsSome (map.get inputs w.input)
NamesInput inputs (Message.cork i on) = IsSome (map.get inputs i)
NamesInput inputs (Message.flush i) = IsSome (map.get inputs i)
NamesInput inputs (Message.trigger i) = IsSome (map.get inputs i)
NamesInput inputs (Message.prebuf i) = IsSome (map.get inputs i)
NamesInput inputs (Message.drain i tag) = IsSome (map.get inputs i)
NamesInput inputs (Message.attr i attr) = IsSome (map.get inputs i)
NamesInput inputs (Message.factors each) = ⊤
NamesInput inputs (Message.query i tag) = IsSome (map.get inputs i)

-- the inputs after a message
abbrev pub inputs_left : {P : Type 0} → (P → SampleSpec) → Inputs → Message P → Inputs
inputs_left spec_of inputs (Message.new n) = map.insert inputs n.input n.spec
inputs_left spec_of inputs (Message.attach i parcel feed factors) = map.insert inputs i (spec_of parcel)
inputs_left spec_of inputs (Message.detach i) = map.remove inputs i
inputs_left spec_of inputs (Message.write w) = inputs
inputs_left spec_of inputs (Message.cork i on) = inputs
inputs_left spec_of inputs (Message.flush i) = inputs
inputs_left spec_of inputs (Message.trigger i) = inputs
inputs_left spec_of inputs (Message.prebuf i) = inputs
inputs_left spec_of inputs (Message.drain i tag) = inputs
inputs_left spec_of inputs (Message.attr i attr) = inputs
inputs_left spec_of inputs (Message.factors each) = inputs
inputs_left spec_of inputs (Message.query i tag) = inputs

-- the inputs after all messages, in order
abbrev pub inputs_left_by : {P : Type 0} → (P → SampleSpec) → Inputs → List (Message P) → Inputs
inputs_left_by spec_of inputs [] = inputs
inputs_left_by spec_of inputs (m ∷ messages) = inputs_left_by spec_of (inputs_left spec_of inputs m) messages

-- each message in order names an input that is there, or a new one, and fits
abbrev pub IsOrderly : {P : Type 0} → (P → SampleSpec) → SampleSpec → Inputs → List (Message P) → Type 0
IsOrderly spec_of sink inputs [] = ⊤
IsOrderly spec_of sink inputs (m ∷ messages) =
    NamesInput inputs m × Fits spec_of sink inputs m × IsOrderly spec_of sink (inputs_left spec_of inputs m) messages

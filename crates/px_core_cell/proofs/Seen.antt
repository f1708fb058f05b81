-- Messages of the code and as a history has them are lawful alike.
use Rattle.std.proofs.Common.{◌≡◌, List, [], ◌∷◌, map, refl, subst}
use Rattle.px_model.specs.Frame.{SampleSpec}
use Rattle.px_model.specs.Message.{Message}
use Rattle.px_model.specs.Orderly.{Inputs, IsOrderly, NamesInput, Fits, inputs_left}
use Rattle.px_msg.specs.declared.message.Msg.{Msg}
use Rattle.px_msg.specs.declared.message.Msg.TheVariants.{New, Attach, Detach, Write, Cork, Flush, Trigger, Prebuf, Drain, Attr, Factors, Query}
use Rattle.px_msg.specs.View.{message_of}
use Rattle.px_msg.specs.Letters.{none_there, AreLawful}
use Rattle.px_stream.specs.HeldStream.{HeldStream}
use Rattle.px_core_cell.specs.Parcel.{seen_message, spec_of}

-- the sample spec of a stream of the code
abbrev pub held_spec : HeldStream → SampleSpec
held_spec s = s.stream.spec

abbrev view : {P : Type 0} → Msg P → Message P
view m = message_of (λ p. p) m

names : (inputs : Inputs) (m : Msg HeldStream) → NamesInput inputs (view (seen_message m)) → NamesInput inputs (view m)
names inputs (New n) h = h
names inputs (Attach input parcel feed factors) h = h
names inputs (Detach input) h = h
names inputs (Write input seek offset frames bytes) h = h
names inputs (Cork input on) h = h
names inputs (Flush input) h = h
names inputs (Trigger input) h = h
names inputs (Prebuf input) h = h
names inputs (Drain input tag) h = h
names inputs (Attr input attr) h = h
names inputs (Factors each) h = h
names inputs (Query input tag) h = h

fits : (sink : SampleSpec) (inputs : Inputs) (m : Msg HeldStream) → Fits spec_of sink inputs (view (seen_message m)) → Fits held_spec sink inputs (view m)
fits sink inputs (New n) h = h
fits sink inputs (Attach input parcel feed factors) h = h
fits sink inputs (Detach input) h = h
fits sink inputs (Write input seek offset frames bytes) h = h
fits sink inputs (Cork input on) h = h
fits sink inputs (Flush input) h = h
fits sink inputs (Trigger input) h = h
fits sink inputs (Prebuf input) h = h
fits sink inputs (Drain input tag) h = h
fits sink inputs (Attr input attr) h = h
fits sink inputs (Factors each) h = h
fits sink inputs (Query input tag) h = h

leaves : (inputs : Inputs) (m : Msg HeldStream) → inputs_left spec_of inputs (view (seen_message m)) ≡ inputs_left held_spec inputs (view m)
leaves inputs (New n) = refl
leaves inputs (Attach input parcel feed factors) = refl
leaves inputs (Detach input) = refl
leaves inputs (Write input seek offset frames bytes) = refl
leaves inputs (Cork input on) = refl
leaves inputs (Flush input) = refl
leaves inputs (Trigger input) = refl
leaves inputs (Prebuf input) = refl
leaves inputs (Drain input tag) = refl
leaves inputs (Attr input attr) = refl
leaves inputs (Factors each) = refl
leaves inputs (Query input tag) = refl

orderly : (sink : SampleSpec) (inputs : Inputs) (messages : List (Msg HeldStream))
    → IsOrderly spec_of sink inputs (map (message_of (λ p. p)) (map seen_message messages)) → IsOrderly held_spec sink inputs (map (message_of (λ p. p)) messages)
orderly sink inputs [] h = tt
orderly sink inputs (m ∷ messages) h = (
  names inputs m h.0,
  fits sink inputs m h.1,
  orderly sink (inputs_left held_spec inputs (view m)) messages
      (subst (λ there. IsOrderly spec_of sink there (map (message_of (λ p. p)) (map seen_message messages))) (leaves inputs m) h.2),
)

pub lawful : (sink : SampleSpec) (messages : List (Msg HeldStream)) → AreLawful spec_of sink (map seen_message messages) → AreLawful held_spec sink messages
lawful sink messages h = orderly sink none_there messages h

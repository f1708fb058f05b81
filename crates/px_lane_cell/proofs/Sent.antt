-- Messages to a sink out of its inbox: what they leave there, and that they go on from it.
use Rattle.std.proofs.Common.{◌≡◌, List, [], ◌∷◌, ◌++◌, map, refl, ap, sym, ◌∙◌, subst, append_assoc, Option, Some, None}
use Rattle.std.specs.Prelude.{MatchOption}
use Rattle.std.proofs.lemmas.List.{map-append, append-nil}
use Rattle.px_sample.specs.declared.spec.Spec.{Spec}
use Rattle.px_model.specs.Frame.{SampleSpec}
use Rattle.px_model.specs.Stream.{Stream}
use Rattle.px_model.specs.Message.{Message}
use Rattle.px_model.specs.Orderly.{Inputs, NamesInput, Fits, IsOrderly, inputs_left, inputs_left_by}
use Rattle.px_model.specs.Sink.{Sink, specs_of}
use Rattle.px_model.specs.Deciding.{Entry, turn, stop, sink_after, messages_of as messages_in}
use Rattle.px_model.proofs.Matching.{turn_leaves, stop_leaves, orderly_goes_on}
use Rattle.px_msg.specs.declared.message.Msg.{Msg}
use Rattle.px_msg.specs.declared.message.Msg.TheVariants.{New, Attach, Detach, Write, Cork, Flush, Trigger, Prebuf, Drain, Attr, Factors, Query}
use Rattle.px_msg.specs.View.{message_of, sample_spec}
use Rattle.px_msg.specs.Letters.{none_there}
use Rattle.px_stream.specs.HeldStream.{HeldStream}
use Rattle.px_stream.specs.Samples.{samples}
use Rattle.px_lane.specs.Lists.{plain_message, messages_of}
use Rattle.px_lane_cell.specs.Moved.{parcel_spec, AreTaken, Takes}
use Rattle.px_lane_cell.specs.Cell.{HasLeft}

-- ---- a message with its parcel as the code keeps it, and as a stream

abbrev seen : Msg HeldStream → Message HeldStream
seen m = message_of (λ p. p) m

names : (inputs : Inputs) (m : Msg HeldStream) → NamesInput inputs (seen m) → NamesInput inputs (plain_message m)
names inputs (New n) h = h
names inputs (Attach input parcel feed factors) h = h
names inputs (Detach input) h = h
names inputs (Write input seek offset frames bytes) h = h
names inputs (Cork input on) h = h
names inputs (Flush input) h = h
names inputs (Trigger input) h = h
names inputs (Prebuf input) h = h
names inputs (Drain input tag) h = h
names inputs (Attr input attr) h = h
names inputs (Factors each) h = h
names inputs (Query input tag) h = h

fits : (sink : SampleSpec) (inputs : Inputs) (m : Msg HeldStream) → Fits parcel_spec sink inputs (seen m) → Fits Stream.spec sink inputs (plain_message m)
fits sink inputs (New n) h = h
fits sink inputs (Attach input parcel feed factors) h = h
fits sink inputs (Detach input) h = h
fits sink inputs (Write input seek offset frames bytes) h = h
fits sink inputs (Cork input on) h = h
fits sink inputs (Flush input) h = h
fits sink inputs (Trigger input) h = h
fits sink inputs (Prebuf input) h = h
fits sink inputs (Drain input tag) h = h
fits sink inputs (Attr input attr) h = h
fits sink inputs (Factors each) h = h
fits sink inputs (Query input tag) h = h

leaves : (inputs : Inputs) (m : Msg HeldStream) → inputs_left parcel_spec inputs (seen m) ≡ inputs_left Stream.spec inputs (plain_message m)
leaves inputs (New n) = refl
leaves inputs (Attach input parcel feed factors) = refl
leaves inputs (Detach input) = refl
leaves inputs (Write input seek offset frames bytes) = refl
leaves inputs (Cork input on) = refl
leaves inputs (Flush input) = refl
leaves inputs (Trigger input) = refl
leaves inputs (Prebuf input) = refl
leaves inputs (Drain input tag) = refl
leaves inputs (Attr input attr) = refl
leaves inputs (Factors each) = refl
leaves inputs (Query input tag) = refl

orderly : (sink : SampleSpec) (inputs : Inputs) (ms : List (Msg HeldStream)) → IsOrderly parcel_spec sink inputs (map (message_of (λ p. p)) ms) → IsOrderly Stream.spec sink inputs (messages_of ms)
orderly sink inputs [] h = tt
orderly sink inputs (m ∷ ms) h = (
  names inputs m h.0,
  fits sink inputs m h.1,
  orderly sink (inputs_left Stream.spec inputs (plain_message m)) ms (subst (λ i. IsOrderly parcel_spec sink i (map (message_of (λ p. p)) ms)) (leaves inputs m) h.2),
)

left_by : (inputs : Inputs) (earlier later : List (Message Stream)) → inputs_left_by Stream.spec inputs (earlier ++ later) ≡ inputs_left_by Stream.spec (inputs_left_by Stream.spec inputs earlier) later
left_by inputs [] later = refl
left_by inputs (m ∷ earlier) later = left_by (inputs_left Stream.spec inputs m) earlier later

-- ---- a turn's messages go on from what is there

go_on : (spec : SampleSpec) (sink : Sink) (taken held : List (Message Stream)) → IsOrderly Stream.spec spec none_there taken → spec ≡ sink.spec → HasLeft sink taken held
    → IsOrderly Stream.spec sink.spec (specs_of sink.inputs) held
go_on spec sink taken held h same left =
    let all = subst (λ ms. IsOrderly Stream.spec spec none_there ms) left.whole h in
    let rest = orderly_goes_on Stream.spec spec none_there left.gone held all in
    subst (λ (p : SampleSpec × Inputs). IsOrderly Stream.spec p.0 p.1 held) (λ k. (same k, sym left.inputs k)) rest

pub for_turn : (key : Option Spec) (sink : Sink) (taken : List (Msg HeldStream)) (held : List (Message Stream)) → AreTaken key taken → MatchOption key ⊥ (λ k. sample_spec k ≡ sink.spec) → HasLeft sink (messages_of taken) held
    → IsOrderly Stream.spec sink.spec (specs_of sink.inputs) held
for_turn None sink taken held h fits left = absurd fits
for_turn (Some k) sink taken held h fits left = go_on (sample_spec k) sink (messages_of taken) held (orderly (sample_spec k) none_there taken h) fits left

-- ---- what they leave there

joined : (earlier later : List (Msg HeldStream)) → messages_of (earlier ++ later) ≡ messages_of earlier ++ messages_of later
joined earlier later = map-append plain_message earlier later

pub took : (before held held' : List (Message Stream)) (taken taken' : List (Msg HeldStream)) → Takes taken taken' held held' → messages_of taken ≡ before ++ held → messages_of taken' ≡ before ++ held'
took before held held' taken taken' takes h =
    ap messages_of takes.moved
    ∙ joined taken takes.got
    ∙ ap (λ l. l ++ messages_of takes.got) h
    ∙ append_assoc before held (messages_of takes.got)
    ∙ ap (λ l. before ++ l) (sym takes.stands)

pub left_took : (sink : Sink) (taken taken' : List (Msg HeldStream)) (held held' : List (Message Stream)) → Takes taken taken' held held' → HasLeft sink (messages_of taken) held → HasLeft sink (messages_of taken') held'
left_took sink taken taken' held held' takes left = record { gone = left.gone; whole = took left.gone held held' taken taken' takes left.whole; inputs = left.inputs }

entry_leaves : (sink : Sink) (e : Entry) → inputs_left_by Stream.spec (specs_of sink.inputs) (messages_in e) ≡ specs_of (sink_after samples sink e).inputs
entry_leaves sink (turn n messages) = turn_leaves samples sink n messages
entry_leaves sink (stop messages) = stop_leaves sink messages

pub left_turned : (sink : Sink) (taken held : List (Message Stream)) (e : Entry) → messages_in e ≡ held → HasLeft sink taken held → HasLeft (sink_after samples sink e) taken []
left_turned sink taken held e all left = record {
  gone = left.gone ++ held;
  whole = left.whole ∙ sym (append-nil (left.gone ++ held));
  inputs =
      sym (entry_leaves sink e)
      ∙ (λ k. inputs_left_by Stream.spec (left.inputs k) (all k))
      ∙ sym (left_by none_there left.gone held);
}

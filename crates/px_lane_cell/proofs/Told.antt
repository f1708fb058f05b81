-- Messages to a sink have a plain form that means them, where their parcels are well-formed streams.
use Rattle.std.proofs.Common.{◌≡◌, ℕ, List, [], ◌∷◌, map, length, refl, ap}
use Rattle.std.specs.List.{AllByRecursion}
use Rattle.std.proofs.lemmas.List.{length-map}
use Rattle.px_annals.specs.declared.message.PlainFactors.{PlainFactors}
use Rattle.px_annals.specs.declared.message.PlainMsg.{PlainMsg}
use Rattle.px_annals.specs.declared.message.PlainMsg.TheVariants as plain
use Rattle.px_model.specs.declared.data.Attr.{Attr}
use Rattle.px_model.specs.Stream.{Stream}
use Rattle.px_model.specs.Message.{Message, InputFactors}
use Rattle.px_model.specs.Turn.{BringsStream}
use Rattle.px_stream.specs.Plain.{plain_of}
use Rattle.px_lane_cell.specs.Meaning.{factors_meant, message_meant, messages_meant}
use Rattle.px_lane_cell.proofs.Meant.{stream_same}

-- ---- the plain form of a message

abbrev listed : Attr → List ℕ
listed attr = attr.maxlength ∷ attr.tlength ∷ attr.prebuf ∷ attr.minreq ∷ []

abbrev told_factors : InputFactors → PlainFactors
told_factors f = record { input = f.input; factors = f.factors }

abbrev told : Message Stream → PlainMsg
told (Message.new n) = plain.New n.input n.spec.format n.spec.channels n.spec.rate n.feed n.factors (listed n.attr) n.corked
told (Message.attach input parcel feed factors) = plain.Attach input (plain_of parcel) feed factors
told (Message.detach input) = plain.Detach input
told (Message.write w) = plain.Write w.input w.seek w.offset w.frames w.bytes
told (Message.cork input on) = plain.Cork input on
told (Message.flush input) = plain.Flush input
told (Message.trigger input) = plain.Trigger input
told (Message.prebuf input) = plain.Prebuf input
told (Message.drain input tag) = plain.Drain input tag
told (Message.attr input attr) = plain.Attr input (listed attr)
told (Message.factors each) = plain.Factors (map told_factors each)
told (Message.query input tag) = plain.Query input tag

factors_same : (each : List InputFactors) → map factors_meant (map told_factors each) ≡ each
factors_same [] = refl
factors_same (f ∷ each) = ap (λ l. f ∷ l) (factors_same each)

message_same : (m : Message Stream) → BringsStream m → message_meant (told m) ≡ m
message_same (Message.new n) brings = refl
message_same (Message.attach input parcel feed factors) brings = ap (λ (s : Stream). Message.attach input s feed factors) (stream_same parcel brings)
message_same (Message.detach input) brings = refl
message_same (Message.write w) brings = refl
message_same (Message.cork input on) brings = refl
message_same (Message.flush input) brings = refl
message_same (Message.trigger input) brings = refl
message_same (Message.prebuf input) brings = refl
message_same (Message.drain input tag) brings = refl
message_same (Message.attr input attr) brings = refl
message_same (Message.factors each) brings = ap (λ (l : List InputFactors). Message.factors l) (factors_same each)
message_same (Message.query input tag) brings = refl

abbrev pub told_all : List (Message Stream) → List PlainMsg
told_all messages = map told messages

pub all_same : (messages : List (Message Stream)) → AllByRecursion BringsStream messages → messages_meant (told_all messages) ≡ messages
all_same [] bring = refl
all_same (m ∷ messages) bring = let first = message_same m bring.0 in let rest = all_same messages bring.1 in λ k. first k ∷ rest k

pub as_many : (messages : List (Message Stream)) → length (told_all messages) ≡ length messages
as_many messages = length-map messages told

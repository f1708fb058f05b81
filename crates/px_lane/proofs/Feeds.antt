-- Each input is fed into the channels of its sink, whatever message comes.
use Rattle.std.proofs.Common.{◌≡◌, ℕ, zero, suc, List, [], ◌∷◌, length, Some, sym, ◌∙◌, arith}
use Rattle.std.specs.Prelude.{◌==◌}
use Rattle.std.specs.List.{AllByRecursion}
use Rattle.std.proofs.lemmas.Bool.{cond_both}
use Rattle.px_model.specs.Frame.{SampleSpec}
use Rattle.px_model.specs.Stream.{Stream}
use Rattle.px_model.specs.Going.{after}
use Rattle.px_model.specs.Control.{new_stream, attached, corked_to, triggered, prebuffered, flushed, drained_by, with_attr, with_factors}
use Rattle.px_model.specs.Applied.{written_by}
use Rattle.px_model.specs.Message.{Message, StreamMessage, InputFactors}
use Rattle.px_model.specs.Orderly.{Inputs, Fits}
use Rattle.px_model.specs.Sink.{Input as Stands, IsStreamOf, stream_at, with_change}
use Rattle.px_model.specs.Turn.{inputs_with, with_each_factors}
use Rattle.px_model.proofs.Streams.{stream_by}
use Rattle.px_model.proofs.Inputs.{AreInputs, change_keeps, without_keeps, with_keeps}
use Rattle.px_lane.specs.Taking.{AreFed, SuitsAt}

-- a stream is fed into so many channels
abbrev pub IsFed : ℕ → Stream → Type 0
IsFed channels s = length s.feed ≡ channels

pub after_fed : (channels k : ℕ) (s : Stream) → IsFed channels s → IsFed channels (after s k)
after_fed channels zero s h = h
after_fed channels (suc k) s h = stream_by (IsFed channels) s (suc k) (omega arith) (λ c. h) (λ c. h)

factors_fed : (channels : ℕ) (each : List InputFactors) (xs : List Stands) → AreInputs (IsFed channels) xs → AreInputs (IsFed channels) (with_each_factors each xs)
factors_fed channels [] xs h = h
factors_fed channels (f ∷ each) xs h =
    factors_fed channels each (with_change f.input (λ s. with_factors s f.factors) xs) (change_keeps (IsFed channels) f.input (λ s. with_factors s f.factors) (λ s p. p) xs h)

pub message_fed : (sink : SampleSpec) (there : Inputs) (mixed : ℕ) (m : Message Stream) (xs : List Stands) → Fits Stream.spec sink there m
    → AreInputs (IsFed sink.channels) xs → AreInputs (IsFed sink.channels) (inputs_with mixed m xs)
message_fed sink there mixed (Message.new n) xs f h = with_keeps (IsFed sink.channels) n.input (new_stream n.spec n.feed n.factors n.attr n.corked) xs f.feed_fits.places h
message_fed sink there mixed (Message.attach i parcel feed factors) xs f h = with_keeps (IsFed sink.channels) i (attached parcel feed factors) xs f.feed_fits.places h
message_fed sink there mixed (Message.detach i) xs f h = without_keeps (IsFed sink.channels) i xs h
message_fed sink there mixed (Message.write w) xs f h = change_keeps (IsFed sink.channels) w.input (written_by w.seek w.offset w.frames w.bytes mixed) (λ s p. p) xs h
message_fed sink there mixed (Message.cork i on) xs f h = change_keeps (IsFed sink.channels) i (λ s. corked_to s on) (λ s p. p) xs h
message_fed sink there mixed (Message.flush i) xs f h = change_keeps (IsFed sink.channels) i flushed (λ s p. p) xs h
message_fed sink there mixed (Message.trigger i) xs f h = change_keeps (IsFed sink.channels) i triggered (λ s p. p) xs h
message_fed sink there mixed (Message.prebuf i) xs f h = change_keeps (IsFed sink.channels) i prebuffered (λ s p. p) xs h
message_fed sink there mixed (Message.drain i tag) xs f h = change_keeps (IsFed sink.channels) i (λ s. drained_by s tag) (λ s p. p) xs h
message_fed sink there mixed (Message.attr i attr) xs f h = change_keeps (IsFed sink.channels) i (λ s. with_attr s attr) (λ s p. p) xs h
message_fed sink there mixed (Message.factors each) xs f h = factors_fed sink.channels each xs h
message_fed sink there mixed (Message.query i tag) xs f h = h

pub fed_of : (sink : SampleSpec) (xs : List Stands) → AllByRecursion (λ x. IsStreamOf sink (Stands.stream x)) xs → AllByRecursion (λ x. IsFed sink.channels (Stands.stream x)) xs
fed_of sink [] h = tt
fed_of sink (x ∷ xs) h = (h.0.feed_fits.places, fed_of sink xs h.1)

-- factors of as many channels suit the stream of an input
pub factors_suit : (channels : ℕ) (factors : List ℕ) (i : ℕ) (xs : List Stands) → AreFed channels xs → length factors ≡ channels → SuitsAt (stream_at i xs) (StreamMessage.factors factors)
factors_suit channels factors i [] h e = tt
factors_suit channels factors i (x ∷ xs) h e =
    cond_both (x.index == i) (Some x.stream) (stream_at i xs) (λ o. SuitsAt o (StreamMessage.factors factors))
    (λ here. e ∙ sym h.0)
    (λ there. factors_suit channels factors i xs h.1 e)

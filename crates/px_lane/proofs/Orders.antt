-- Orderly messages can be taken.
use Rattle.std.proofs.Common.{◌≡◌, ℕ, zero, suc, ◌+◌, ◌-◌, List, [], ◌∷◌, map, Option, Some, None, false, refl, ap, sym, ◌∙◌, subst, arith}
use Rattle.std.specs.Prelude.{MatchOption, option_map, ⊤}
use Rattle.std.specs.List.{AllByRecursion}
use Rattle.std.specs.FinMap as finite
use Rattle.px_model.specs.declared.data.Attr.{Attr}
use Rattle.px_model.specs.Frame.{SampleSpec}
use Rattle.px_model.specs.Stream.{Stream}
use Rattle.px_model.specs.Going.{after}
use Rattle.px_model.specs.Message.{Message, StreamMessage, FrameWrite}
use Rattle.px_model.specs.Orderly.{Inputs, IsOrderly, IsRepaired, Fits, IsWhole, inputs_left}
use Rattle.px_model.specs.Sink.{Sink, Input as Stands, IsRising, IsStreamOf, specs_of, stream_at, with_stream}
use Rattle.px_model.specs.Turn.{asked_stream, inputs_with, next_horizon}
use Rattle.px_model.specs.Rows.{s16_samples}
use Rattle.px_model.proofs.Streams.{stream_by}
use Rattle.px_model.proofs.Matching.{specs_match, turn_leaves}
use Rattle.px_model.proofs.Inputs.{AreInputs, each_keeps}
use Rattle.px_lane.specs.Needed.{Opens}
use Rattle.px_lane.specs.Taking.{SuitsAt, CanTake, CanTakeAll}
use Rattle.px_lane.proofs.Feeds.{IsFed, after_fed, message_fed, fed_of}

-- ---- the specs of the inputs

same_specs : (f : Stream → Stream) → ((s : Stream) → Stream.spec (f s) ≡ s.spec) → (xs : List Stands) → specs_of (map (with_stream f) xs) ≡ specs_of xs
same_specs f e xs = ap finite.from_entries (go xs)
  where
    go : (ys : List Stands) → map {B = ℕ × SampleSpec} (λ x. (Stands.index x, Stream.spec (Stands.stream x))) (map (with_stream f) ys) ≡ map {B = ℕ × SampleSpec} (λ x. (Stands.index x, Stream.spec (Stands.stream x))) ys
    go [] = refl
    go (y ∷ ys) = λ k. (y.index, e y.stream k) ∷ go ys k

after_spec : (k : ℕ) (s : Stream) → Stream.spec (after s k) ≡ s.spec
after_spec zero s = refl
after_spec (suc k) s = stream_by (λ t. Stream.spec t ≡ s.spec) s (suc k) (omega arith) (λ c. refl) (λ c. refl)

pub forward_specs : (k : ℕ) (xs : List Stands) → specs_of (map (with_stream (λ s. after s k)) xs) ≡ specs_of xs
forward_specs k xs = same_specs (λ s. after s k) (after_spec k) xs

stay : (xs : List Stands) → map (with_stream (λ s. after s 0)) xs ≡ xs
stay [] = refl
stay (x ∷ xs) = λ k. x ∷ stay xs k

-- a sink whose horizon doesn't move, with so many frames mixed past it
abbrev still : SampleSpec → ℕ → List Stands → Sink
still spec mixed xs = record {
  spec = spec;
  guard = 0;
  depth = 0;
  consumed = 0;
  filled = mixed;
  horizon = 0;
  stopped = false;
  buffer = [];
  inputs = xs;
}

-- the inputs that a message leaves are those after it
pub leaves : (spec : SampleSpec) (mixed : ℕ) (m : Message Stream) (xs : List Stands) → inputs_left Stream.spec (specs_of xs) m ≡ specs_of (inputs_with mixed m xs)
leaves spec mixed m xs =
    turn_leaves s16_samples (still spec mixed xs) 0 (m ∷ [])
    ∙ same_specs (asked_stream (0 + 0 + 0 - next_horizon (still spec mixed xs) 0)) (λ s. refl)
    (inputs_with (mixed - next_horizon (still spec mixed xs) 0) m (map (with_stream (λ s. after s (next_horizon (still spec mixed xs) 0 - 0))) xs))
    ∙ ap (λ (h : ℕ). specs_of (inputs_with (mixed - h) m (map (with_stream (λ s. after s (h - 0))) xs))) none
    ∙ ap (λ (ys : List Stands). specs_of (inputs_with (mixed - 0) m ys)) (stay xs)
    ∙ ap (λ (n : ℕ). specs_of (inputs_with n m xs)) all
  where
    none : next_horizon (still spec mixed xs) 0 ≡ 0
    none = omega arith

    all : mixed - 0 ≡ mixed
    all = omega arith

-- ---- each message fits

whole : (o : Option Stream) (w : FrameWrite) → MatchOption (option_map Stream.spec o) ⊤ (λ spec. IsWhole spec w) → SuitsAt o (StreamMessage.write w.seek w.offset w.frames w.bytes)
whole None w h = tt
whole (Some s) w h = (h.seek_known, h.whole_frames)

repaired : (o : Option Stream) (attr : Attr) → IsRepaired attr → SuitsAt o (StreamMessage.attr attr)
repaired None attr h = tt
repaired (Some s) attr h = h

fits : (sink : SampleSpec) (m : Message Stream) (xs : List Stands) → Fits Stream.spec sink (specs_of xs) m → AreInputs (IsFed sink.channels) xs → CanTake m xs
fits sink (Message.new n) xs h fed = tt
fits sink (Message.attach i parcel feed factors) xs h fed = (h.feed_fits.channels, h.factors_fit ∙ sym h.feed_fits.places)
fits sink (Message.detach i) xs h fed = tt
fits sink (Message.write w) xs h fed =
    whole (stream_at w.input xs) w (subst (λ (o : Option SampleSpec). MatchOption o ⊤ (λ spec. IsWhole spec w)) (specs_match xs w.input) h)
fits sink (Message.cork i on) xs h fed = tt
fits sink (Message.flush i) xs h fed = tt
fits sink (Message.trigger i) xs h fed = tt
fits sink (Message.prebuf i) xs h fed = tt
fits sink (Message.drain i tag) xs h fed = tt
fits sink (Message.attr i attr) xs h fed = repaired (stream_at i xs) attr h
fits sink (Message.factors each) xs h fed = record { channels = sink.channels; fed = fed.streams; factors = h }
fits sink (Message.query i tag) xs h fed = tt

taken : (sink : SampleSpec) (mixed : ℕ) (ms : List (Message Stream)) (xs : List Stands) → IsOrderly Stream.spec sink (specs_of xs) ms → AreInputs (IsFed sink.channels) xs → CanTakeAll mixed ms xs
taken sink mixed [] xs h fed = tt
taken sink mixed (m ∷ ms) xs h fed = (
  fits sink m xs h.1 fed,
  taken sink mixed ms (inputs_with mixed m xs) (subst (λ (there : Inputs). IsOrderly Stream.spec sink there ms) (leaves sink mixed m xs) h.2) (message_fed sink (specs_of xs) mixed m xs h.1 fed),
)

pub orderly_taken : (sink : SampleSpec) (k mixed : ℕ) (ms : List (Message Stream)) (xs : List Stands) → IsRising xs → AllByRecursion (λ x. IsStreamOf sink (Stands.stream x)) xs
    → IsOrderly Stream.spec sink (specs_of xs) ms → CanTakeAll mixed ms (map (with_stream (λ s. after s k)) xs)
orderly_taken sink k mixed ms xs rising streams h =
    taken sink mixed ms (map (with_stream (λ s. after s k)) xs) (subst (λ (there : Inputs). IsOrderly Stream.spec sink there ms) (sym (forward_specs k xs)) h)
    (each_keeps (IsFed sink.channels) (λ s. after s k) (after_fed sink.channels k) xs (record { rising = rising; streams = fed_of sink xs streams }))

opens : (sink : SampleSpec) (there : Inputs) (m : Message Stream) → Fits Stream.spec sink there m → Opens m
opens sink there (Message.new n) h = (sink, h)
opens sink there (Message.attach i parcel feed factors) h = tt
opens sink there (Message.detach i) h = tt
opens sink there (Message.write w) h = tt
opens sink there (Message.cork i on) h = tt
opens sink there (Message.flush i) h = tt
opens sink there (Message.trigger i) h = tt
opens sink there (Message.prebuf i) h = tt
opens sink there (Message.drain i tag) h = tt
opens sink there (Message.attr i attr) h = tt
opens sink there (Message.factors each) h = tt
opens sink there (Message.query i tag) h = tt

pub orderly_opens : (sink : SampleSpec) (there : Inputs) (ms : List (Message Stream)) → IsOrderly Stream.spec sink there ms → AllByRecursion Opens ms
orderly_opens sink there [] h = tt
orderly_opens sink there (m ∷ ms) h = (opens sink there m h.1, orderly_opens sink (inputs_left Stream.spec there m) ms h.2)

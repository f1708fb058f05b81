-- The inputs that messages leave are those of the sink after them, so that orderly messages go on from turn to turn.
use Rattle.std.proofs.Common.{◌≡◌, ℕ, zero, suc, ◌+◌, ◌-◌, List, [], ◌∷◌, ◌++◌, map, Option, Some, None, Bool, true, false, refl, ap, sym, ◌∙◌, arith, cond, ⊎_elim, subst}
use Rattle.std.specs.Prelude.{nat_lt, ◌==◌, option_map, flat_map}
use Rattle.std.specs.List.{AllByRecursion}
use Rattle.std.specs.Ordering.{nat_cmp, eq_by_cmp}
use Rattle.std.specs.FinMap as finite
use Rattle.std.specs.Cmp.{nat_cmp_total}
use Rattle.std.proofs.lemmas.Bool.{cond_both, cond-true, cond-false, eqb-true, eqb-false, eq-eqb, cases_Bool}
use Rattle.std.proofs.lemmas.Bool.Decides.{nat_tests}
use Rattle.px_model.specs.Frame.{SampleSpec}
use Rattle.px_model.specs.Stream.{Stream}
use Rattle.px_model.specs.Going.{after}
use Rattle.px_model.specs.Control.{corked_to, triggered, prebuffered, flushed, drained_by, with_attr, with_factors, new_stream, attached}
use Rattle.px_model.specs.Message.{Message, InputFactors}
use Rattle.px_model.specs.Orderly.{IsOrderly, Inputs, inputs_left, inputs_left_by}
use Rattle.px_model.specs.Mix.{Samples}
use Rattle.px_model.specs.Sink.{Sink, Input, stream_at, specs_of, with_input, without_input, with_stream, with_change}
use Rattle.px_model.specs.Applied.{written_by}
use Rattle.px_model.specs.Turn.{inputs_with, inputs_with_all, with_each_factors, asked_stream, turned, stopped_turn, next_horizon, settled, halted, BringsStream}
use Rattle.px_model.specs.Deciding.{Entry, turn, stop, sink_after, messages_of, IsOrderlyHistory}
use Rattle.px_model.proofs.Lookups.{none_without, same_without, same_with}
use Rattle.px_model.proofs.Streams.{after_corked, after_open}

-- the sample spec of an input that is there
abbrev spec_at : ℕ → List Input → Option SampleSpec
spec_at i xs = option_map Stream.spec (stream_at i xs)

spec_cond : (b : Bool) (s : Stream) (o : Option Stream) → option_map Stream.spec (cond b (Some s) o) ≡ cond b (Some s.spec) (option_map Stream.spec o)
spec_cond true s o = refl
spec_cond false s o = refl

same_key : (i k : ℕ) → eq_by_cmp nat_cmp i k ≡ (k == i)
same_key i k = grind (arith, nat_tests)

-- ---- a map shows the specs of a list of inputs

abbrev Matches : Inputs → List Input → Type 0
Matches inputs xs = (i : ℕ) → finite.get inputs i ≡ spec_at i xs

found : (i : ℕ) (xs : List Input) → finite.find nat_cmp i (map (λ x. (Input.index x, Stream.spec (Input.stream x))) xs) ≡ spec_at i xs
found i [] = refl
found i (x ∷ xs) =
    (λ k. cond (same_key i x.index k) (Some (Stream.spec x.stream)) (found i xs k)) ∙ sym (spec_cond (x.index == i) x.stream (stream_at i xs))

pub specs_match : (xs : List Input) → Matches (specs_of xs) xs
specs_match xs i = finite.get-from_entries nat_cmp_total (map (λ x. (Input.index x, Stream.spec (Input.stream x))) xs) i ∙ found i xs

-- ---- each change of the inputs

spec_map : (i : ℕ) (f : Input → Input) → ((x : Input) → Input.index (f x) ≡ Input.index x) → ((x : Input) → Stream.spec (Input.stream (f x)) ≡ Stream.spec (Input.stream x)) → (xs : List Input) → spec_at i (map f xs) ≡ spec_at i xs
spec_map i f e r [] = refl
spec_map i f e r (x ∷ xs) =
    spec_cond (Input.index (f x) == i) (Input.stream (f x)) (stream_at i (map f xs))
    ∙ (λ k. cond (e x k == i) (Some (r x k)) (spec_map i f e r xs k))
    ∙ sym (spec_cond (x.index == i) x.stream (stream_at i xs))

spec_change : (i j : ℕ) (f : Stream → Stream) → ((s : Stream) → Stream.spec (f s) ≡ Stream.spec s) → (xs : List Input) → spec_at i (with_change j f xs) ≡ spec_at i xs
spec_change i j f r xs =
    spec_map i (λ x. cond (Input.index x == j) (with_stream f x) x)
    (λ x. cond_both (x.index == j) (with_stream f x) x (λ y. Input.index y ≡ x.index) (λ e. refl) (λ e. refl))
    (λ x. cond_both (x.index == j) (with_stream f x) x (λ y. Stream.spec (Input.stream y) ≡ Stream.spec x.stream) (λ e. r x.stream) (λ e. refl))
    xs

spec_factors : (i : ℕ) (each : List InputFactors) (xs : List Input) → spec_at i (with_each_factors each xs) ≡ spec_at i xs
spec_factors i [] xs = refl
spec_factors i (f ∷ each) xs =
    spec_factors i each (with_change f.input (λ s. with_factors s f.factors) xs) ∙ spec_change i f.input (λ s. with_factors s f.factors) (λ s. refl) xs

pub here_with : (j : ℕ) (s : Stream) (xs : List Input) → stream_at j (with_input j s xs) ≡ Some s
here_with j s [] = ap (λ b. cond b (Some s) None) (eq-eqb j j refl)
here_with j s (x ∷ xs) =
    cond_both (nat_lt j x.index) (record { index = j; stream = s } ∷ (x ∷ xs)) (cond (x.index == j) (record { index = j; stream = s } ∷ xs) (x ∷ with_input j s xs)) (λ ys. stream_at j ys ≡ Some s)
    (λ e. ap (λ b. cond b (Some s) (stream_at j (x ∷ xs))) (eq-eqb j j refl))
    (λ e. cond_both (x.index == j) (record { index = j; stream = s } ∷ xs) (x ∷ with_input j s xs) (λ ys. stream_at j ys ≡ Some s)
    (λ f. ap (λ b. cond b (Some s) (stream_at j xs)) (eq-eqb j j refl))
    (λ f. ap (λ b. cond b (Some x.stream) (stream_at j (with_input j s xs))) f ∙ here_with j s xs))

spec_with : (i j : ℕ) (s : Stream) (xs : List Input) → spec_at i (with_input j s xs) ≡ cond (j == i) (Some s.spec) (spec_at i xs)
spec_with i j s xs =
    ⊎_elim
    (λ (e : (j == i) ≡ true).
    ap (λ k. spec_at k (with_input j s xs)) (sym (eqb-true j i e)) ∙ ap (option_map Stream.spec) (here_with j s xs) ∙ sym (cond-true (j == i) (Some s.spec) (spec_at i xs) e))
    (λ (e : (j == i) ≡ false). ap (option_map Stream.spec) (same_with i j s xs e) ∙ sym (cond-false (j == i) (Some s.spec) (spec_at i xs) e))
    (cases_Bool (j == i))

spec_without : (i j : ℕ) (xs : List Input) → spec_at i (without_input j xs) ≡ cond (j == i) None (spec_at i xs)
spec_without i j xs =
    ⊎_elim
    (λ (e : (j == i) ≡ true).
    ap (λ k. spec_at k (without_input j xs)) (sym (eqb-true j i e)) ∙ ap (option_map Stream.spec) (none_without j xs) ∙ sym (cond-true (j == i) None (spec_at i xs) e))
    (λ (e : (j == i) ≡ false).
    let other : i ≡ j → ⊥ = λ p. eqb-false j i e (sym p) in
    ap (option_map Stream.spec) (same_without i j xs other) ∙ sym (cond-false (j == i) None (spec_at i xs) e))
    (cases_Bool (j == i))

-- ---- messages

matches_inserted : (inputs : Inputs) (xs : List Input) (j : ℕ) (s : Stream) → Matches inputs xs → Matches (finite.insert inputs j s.spec) (with_input j s xs)
matches_inserted inputs xs j s h i =
    finite.get-insert nat_cmp_total inputs j s.spec i ∙ (λ k. cond (same_key i j k) (Some s.spec) (h i k)) ∙ sym (spec_with i j s xs)

matches_removed : (inputs : Inputs) (xs : List Input) (j : ℕ) → Matches inputs xs → Matches (finite.remove inputs j) (without_input j xs)
matches_removed inputs xs j h i =
    finite.get-remove nat_cmp_total inputs j i ∙ (λ k. cond (same_key i j k) None (h i k)) ∙ sym (spec_without i j xs)

message_matches : (mixed : ℕ) (m : Message Stream) (inputs : Inputs) (xs : List Input) → Matches inputs xs → Matches (inputs_left Stream.spec inputs m) (inputs_with mixed m xs)
message_matches mixed (Message.new n) inputs xs h = matches_inserted inputs xs n.input (new_stream n.spec n.feed n.factors n.attr n.corked) h
message_matches mixed (Message.attach j parcel feed factors) inputs xs h = matches_inserted inputs xs j (attached parcel feed factors) h
message_matches mixed (Message.detach j) inputs xs h = matches_removed inputs xs j h
message_matches mixed (Message.write w) inputs xs h = λ i. h i ∙ sym (spec_change i w.input (written_by w.seek w.offset w.frames w.bytes mixed) (λ s. refl) xs)
message_matches mixed (Message.cork j on) inputs xs h = λ i. h i ∙ sym (spec_change i j (λ s. corked_to s on) (λ s. refl) xs)
message_matches mixed (Message.flush j) inputs xs h = λ i. h i ∙ sym (spec_change i j flushed (λ s. refl) xs)
message_matches mixed (Message.trigger j) inputs xs h = λ i. h i ∙ sym (spec_change i j triggered (λ s. refl) xs)
message_matches mixed (Message.prebuf j) inputs xs h = λ i. h i ∙ sym (spec_change i j prebuffered (λ s. refl) xs)
message_matches mixed (Message.drain j tag) inputs xs h = λ i. h i ∙ sym (spec_change i j (λ s. drained_by s tag) (λ s. refl) xs)
message_matches mixed (Message.attr j attr) inputs xs h = λ i. h i ∙ sym (spec_change i j (λ s. with_attr s attr) (λ s. refl) xs)
message_matches mixed (Message.factors each) inputs xs h = λ i. h i ∙ sym (spec_factors i each xs)
message_matches mixed (Message.query j tag) inputs xs h = h

messages_match : (mixed : ℕ) (messages : List (Message Stream)) (inputs : Inputs) (xs : List Input) → Matches inputs xs → Matches (inputs_left_by Stream.spec inputs messages) (inputs_with_all mixed messages xs)
messages_match mixed [] inputs xs h = h
messages_match mixed (m ∷ messages) inputs xs h =
    messages_match mixed messages (inputs_left Stream.spec inputs m) (inputs_with mixed m xs) (message_matches mixed m inputs xs h)

-- ---- turns

after_spec : (k : ℕ) (s : Stream) → Stream.spec (after s k) ≡ s.spec
after_spec zero s = refl
after_spec (suc k) s =
    ⊎_elim
    (λ (c : s.corked ≡ true). ap Stream.spec (after_corked s (suc k) c))
    (λ (c : s.corked ≡ false). ap Stream.spec (after_open s (suc k) c (omega arith)))
    (cases_Bool s.corked)

-- the inputs after going k on, with the messages and the last step
abbrev round : ℕ → ℕ → ℕ → List (Message Stream) → List Input → List Input
round k mixed asked messages xs = map (with_stream (asked_stream asked)) (inputs_with_all mixed messages (map (with_stream (λ s. after s k)) xs))

round_specs : (k mixed asked : ℕ) (messages : List (Message Stream)) (xs : List Input) → inputs_left_by Stream.spec (specs_of xs) messages ≡ specs_of (round k mixed asked messages xs)
round_specs k mixed asked messages xs =
    finite.same_map nat_cmp_total finite.nat_cmp-IsAntisymmetric (inputs_left_by Stream.spec (specs_of xs) messages) (specs_of (round k mixed asked messages xs))
    (λ i.
    messages_match mixed messages (specs_of xs) (map (with_stream (λ s. after s k)) xs)
    (λ j. specs_match xs j ∙ sym (spec_map j (with_stream (λ s. after s k)) (λ x. refl) (λ x. after_spec k x.stream) xs)) i
    ∙ sym (spec_map i (with_stream (asked_stream asked)) (λ x. refl) (λ x. refl) (inputs_with_all mixed messages (map (with_stream (λ s. after s k)) xs)))
    ∙ sym (specs_match (round k mixed asked messages xs) i))

pub turn_leaves : (samples : Samples) (sink : Sink) (n : ℕ) (messages : List (Message Stream)) → inputs_left_by Stream.spec (specs_of sink.inputs) messages ≡ specs_of (turned samples sink n messages).inputs
turn_leaves samples sink n messages =
    round_specs (next_horizon sink n - sink.horizon) ((settled sink n).filled - (settled sink n).horizon) (sink.consumed + n + sink.depth - next_horizon sink n) messages sink.inputs

pub stop_leaves : (sink : Sink) (messages : List (Message Stream)) → inputs_left_by Stream.spec (specs_of sink.inputs) messages ≡ specs_of (stopped_turn sink messages).inputs
stop_leaves sink messages =
    round_specs (next_horizon sink 0 - sink.horizon) ((halted sink).filled - (halted sink).horizon) (next_horizon sink 0 - next_horizon sink 0) messages sink.inputs

-- ---- one list after another

pub orderly_joins : {P : Type 0} (spec_of : P → SampleSpec) (sink : SampleSpec) (inputs : Inputs) (earlier later : List (Message P)) → IsOrderly spec_of sink inputs earlier → IsOrderly spec_of sink (inputs_left_by spec_of inputs earlier) later → IsOrderly spec_of sink inputs (earlier ++ later)
orderly_joins spec_of sink inputs [] later h k = k
orderly_joins spec_of sink inputs (m ∷ earlier) later h k = (h.0, h.1, orderly_joins spec_of sink (inputs_left spec_of inputs m) earlier later h.2 k)

pub orderly_begins : {P : Type 0} (spec_of : P → SampleSpec) (sink : SampleSpec) (inputs : Inputs) (earlier later : List (Message P)) → IsOrderly spec_of sink inputs (earlier ++ later) → IsOrderly spec_of sink inputs earlier
orderly_begins spec_of sink inputs [] later h = tt
orderly_begins spec_of sink inputs (m ∷ earlier) later h = (h.0, h.1, orderly_begins spec_of sink (inputs_left spec_of inputs m) earlier later h.2)

pub orderly_goes_on : {P : Type 0} (spec_of : P → SampleSpec) (sink : SampleSpec) (inputs : Inputs) (earlier later : List (Message P)) → IsOrderly spec_of sink inputs (earlier ++ later) → IsOrderly spec_of sink (inputs_left_by spec_of inputs earlier) later
orderly_goes_on spec_of sink inputs [] later h = h
orderly_goes_on spec_of sink inputs (m ∷ earlier) later h = orderly_goes_on spec_of sink (inputs_left spec_of inputs m) earlier later h.2

-- ---- over a history

all_split : {X : Type 0} (P : X → Type 0) (xs ys : List X) → AllByRecursion P (xs ++ ys) → AllByRecursion P xs × AllByRecursion P ys
all_split P [] ys h = (tt, h)
all_split P (x ∷ xs) ys h = let rest = all_split P xs ys h.1 in ((h.0, rest.0), rest.1)

entry_leaves : (samples : Samples) (sink : Sink) (e : Entry) → inputs_left_by Stream.spec (specs_of sink.inputs) (messages_of e) ≡ specs_of (sink_after samples sink e).inputs
entry_leaves samples sink (turn n messages) = turn_leaves samples sink n messages
entry_leaves samples sink (stop messages) = stop_leaves sink messages

entry_spec : (samples : Samples) (sink : Sink) (e : Entry) → (sink_after samples sink e).spec ≡ sink.spec
entry_spec samples sink (turn n messages) = refl
entry_spec samples sink (stop messages) = refl

-- messages that are orderly all together are orderly turn by turn
pub history_is_orderly : (samples : Samples) (sink : Sink) (history : List Entry) → IsOrderly Stream.spec sink.spec (specs_of sink.inputs) (flat_map messages_of history) → AllByRecursion BringsStream (flat_map messages_of history) → IsOrderlyHistory samples sink history
history_is_orderly samples sink [] o b = tt
history_is_orderly samples sink (e ∷ history) o b =
    let parcels = all_split BringsStream (messages_of e) (flat_map messages_of history) b in
    let later : IsOrderly Stream.spec sink.spec (inputs_left_by Stream.spec (specs_of sink.inputs) (messages_of e)) (flat_map messages_of history) =
    orderly_goes_on Stream.spec sink.spec (specs_of sink.inputs) (messages_of e) (flat_map messages_of history) o in (
      record { orderly = orderly_begins Stream.spec sink.spec (specs_of sink.inputs) (messages_of e) (flat_map messages_of history) o; parcels = parcels.0 },
      history_is_orderly samples (sink_after samples sink e) history
          (subst (λ spec. IsOrderly Stream.spec spec (specs_of (sink_after samples sink e).inputs) (flat_map messages_of history)) (sym (entry_spec samples sink e))
          (subst (λ inputs. IsOrderly Stream.spec sink.spec inputs (flat_map messages_of history)) (entry_leaves samples sink e) later))
          parcels.1,
    )

-- A world keeps what it keeps over the steps of an event and over a turn.
use Rattle.std.proofs.Common.{◌≡◌, ℕ, zero, suc, ◌-◌, ◌≤◌, List, [], ◌∷◌, ◌++◌, map, take, length, Option, Some, inl, inr, ◌⊎◌, refl, ap, sym, subst, ◌∙◌, arith, append-nil}
use Rattle.std.specs.Prelude.{set, replicate, slice_get}
use Rattle.std.specs.List.{AllByRecursion}
use Rattle.std.proofs.lemmas.Bool.{cond_both}
use Rattle.std.proofs.lemmas.List.{length-set}
use Rattle.px_types.specs.declared.ids.SinkId.{SinkId}
use Rattle.px_header.specs.declared.header.SinkSpec.{SinkSpec}
use Rattle.px_msg.specs.declared.message.Msg.{Msg}
use Rattle.px_msg.specs.declared.message.Msg.TheVariants.{New, Attach, Detach, Write, Cork, Flush, Trigger, Prebuf, Drain, Attr, Factors, Query}
use Rattle.px_msg.specs.View.{message_of}
use Rattle.px_model.specs.Message.{Message}
use Rattle.px_model.specs.Orderly.{IsOrderly, inputs_left_by}
use Rattle.px_model.specs.Sink.{Sink, IsSink, specs_of}
use Rattle.px_model.specs.Stream.{Stream}
use Rattle.px_model.specs.Turn.{AreFor, BringsStream, turn_notices, stopped_notices}
use Rattle.px_model.proofs.Rounds as rounds
use Rattle.px_model.proofs.Matching as matching
use Rattle.px_stream.specs.Samples.{samples}
use Rattle.px_state.specs.State.{State}
use Rattle.px_core.specs.Orderly.{inputs_there}
use Rattle.px_state.specs.Out.{waiting_for}
use Rattle.px_core.specs.Consistency.{IsConsistent, IsStep, Spares}
use Rattle.px_core.specs.Parcels.{Carries, Takes, AllCarry}
use Rattle.px_core.specs.Hearing.{posted_by_steps}
use Rattle.px_core.specs.Step.{Step, sweep, out, stepped_by}
use Rattle.px_core.proofs.HearingLaws.{Heard, heard_by, posted_joined, nothing_posted, outs_take, steps_sinks}
use Rattle.px_core.proofs.ParcelLaws.{AreWhole, steps_carry, posted_carry}
use Rattle.px_core.proofs.StepLaws.{steps_keep}
use Rattle.px_world.specs.World.{Mixer}
use Rattle.px_world.specs.Event.{is_to_stop, mixer_stopped, mixer_played, mixer_turned}
use Rattle.px_world.specs.Consistency.{HasStream, GivesStream, IsMixerOf, AreConsistent}
use Rattle.px_world.proofs.Giving.{join_gives, turn_gives, stop_gives}
use Rattle.px_world.proofs.Histories.{get-set_same, get-set_other}

abbrev view : Msg Stream → Message Stream
view m = message_of (λ p. p) m

abbrev sink_id : ℕ → SinkId
sink_id k = record { 0 = k }

-- steps that hand out nothing to a sink leave what is there
stays : (core : State Stream) (steps : List (Step Stream)) (sink : SinkId) (s : SinkSpec) → IsConsistent Stream.spec core → AllByRecursion IsStep steps → slice_get core.sinks sink.0 ≡ Some s → AllByRecursion (Spares sink) steps
    → inputs_there (stepped_by Stream.spec core steps) sink ≡ inputs_there core sink
stays core steps sink s consistent is there spares =
    let heard : Heard Stream.spec s (inputs_there core sink) (inputs_there (stepped_by Stream.spec core steps) sink) (posted_by_steps Stream.spec sink core steps) = heard_by Stream.spec sink s steps core there is consistent in
    heard.left ∙ ap (λ ms. inputs_left_by Stream.spec (inputs_there core sink) (map view ms)) (nothing_posted Stream.spec sink steps core spares)

same_sinks : (core : State Stream) (steps : List (Step Stream)) (index : ℕ) (s : SinkSpec) → slice_get (stepped_by Stream.spec core steps).sinks index ≡ Some s → slice_get core.sinks index ≡ Some s
same_sinks core steps index s there = sym (ap (λ sinks. slice_get sinks index) (steps_sinks Stream.spec core steps)) ∙ there

same_mixer : (core after : State Stream) (index : ℕ) (s : SinkSpec) (m : Mixer) → inputs_there after (sink_id index) ≡ inputs_there core (sink_id index) → IsMixerOf core index s m → IsMixerOf after index s m
same_mixer core after index s m e h = record { spec = h.spec; consistent = h.consistent; inputs = h.inputs ∙ sym e; gives = h.gives }

-- what a core's messages bring is such a stream, where what is queued is: a new stream is in no parcel
whole : (core : State Stream) → AllCarry HasStream core → AreWhole HasStream core
whole core carried = record { carry = carried; unborn = λ i l. tt }

pub consistent-steps : (core : State Stream) (mixers : List Mixer) (steps : List (Step Stream)) → AreConsistent core mixers → AllByRecursion IsStep steps → AllByRecursion (Takes HasStream) steps → ((sink : SinkId) → AllByRecursion (Spares sink) steps)
    → AreConsistent (stepped_by Stream.spec core steps) mixers
consistent-steps core mixers steps h is takes spares = record {
  core_consistent = steps_keep Stream.spec core steps is h.core_consistent;
  carried = (steps_carry HasStream Stream.spec steps core is takes h.core_consistent (whole core h.carried)).carry;
  count = h.count ∙ sym (ap length (steps_sinks Stream.spec core steps));
  each = λ index s m there mixer.
      let at = same_sinks core steps index s there in
      same_mixer core (stepped_by Stream.spec core steps) index s m (stays core steps (sink_id index) s h.core_consistent is at (spares (sink_id index))) (h.each index s m at mixer);
}

-- ---- the messages of a turn

brings_stream : (m : Msg Stream) → Carries HasStream m → BringsStream (view m)
brings_stream (New n) h = tt
brings_stream (Attach input parcel feed factors) h = h.0
brings_stream (Detach input) h = tt
brings_stream (Write input seek offset frames bytes) h = tt
brings_stream (Cork input on) h = tt
brings_stream (Flush input) h = tt
brings_stream (Trigger input) h = tt
brings_stream (Prebuf input) h = tt
brings_stream (Drain input tag) h = tt
brings_stream (Attr input attr) h = tt
brings_stream (Factors each) h = tt
brings_stream (Query input tag) h = tt

all_bring : (ms : List (Msg Stream)) → AllByRecursion (Carries HasStream) ms → AllByRecursion BringsStream (map view ms)
all_bring [] h = tt
all_bring (m ∷ ms) h = (brings_stream m h.0, all_bring ms h.1)

abbrev outs_of : ℕ → SinkId → List (Step Stream)
outs_of n sink = replicate n (out sink)

outs_are : (n : ℕ) (sink : SinkId) → AllByRecursion IsStep (outs_of n sink)
outs_are zero sink = tt
outs_are (suc n) sink = (tt, outs_are n sink)

outs_take_none : (n : ℕ) (sink : SinkId) → AllByRecursion (Takes HasStream) (outs_of n sink)
outs_take_none zero sink = tt
outs_take_none (suc n) sink = (tt, outs_take_none n sink)

-- the parcels among them
carried_outs : (core : State Stream) (k n : ℕ) → IsConsistent Stream.spec core → AllCarry HasStream core → AllByRecursion (Carries HasStream) (take n (waiting_for core (sink_id k)))
carried_outs core k n consistent carried =
    subst (AllByRecursion (Carries HasStream)) (outs_take Stream.spec (sink_id k) n core consistent)
    (posted_carry HasStream Stream.spec (sink_id k) (outs_of n (sink_id k)) core (outs_are n (sink_id k)) (outs_take_none n (sink_id k)) consistent (whole core carried))

heard_outs : (core : State Stream) (k : ℕ) (s : SinkSpec) (n : ℕ) → IsConsistent Stream.spec core → slice_get core.sinks k ≡ Some s
    → Heard Stream.spec s (inputs_there core (sink_id k)) (inputs_there (stepped_by Stream.spec core (replicate n (out (sink_id k)))) (sink_id k)) (take n (waiting_for core (sink_id k)))
heard_outs core k s n consistent there =
    subst (λ ms. Heard Stream.spec s (inputs_there core (sink_id k)) (inputs_there (stepped_by Stream.spec core (replicate n (out (sink_id k)))) (sink_id k)) ms)
    (outs_take Stream.spec (sink_id k) n core consistent)
    (heard_by Stream.spec (sink_id k) s (replicate n (out (sink_id k))) core there (outs_are n (sink_id k)) consistent)

pub turn-messages : (core : State Stream) (mixers : List Mixer) (k : ℕ) (s : SinkSpec) (m : Mixer) (n : ℕ) → AreConsistent core mixers → slice_get core.sinks k ≡ Some s → slice_get mixers k ≡ Some m
    → AreFor m.sink (map (message_of (λ p. p)) (take n (waiting_for core (record { 0 = k }))))
turn-messages core mixers k s m n h there mixer =
    let it = h.each k s m there mixer in
    let heard = heard_outs core k s n h.core_consistent there in
    record {
      orderly = subst (λ inputs. IsOrderly Stream.spec m.sink.spec inputs (map view (take n (waiting_for core (sink_id k))))) (sym it.inputs)
          (subst (λ spec. IsOrderly Stream.spec spec (inputs_there core (sink_id k)) (map view (take n (waiting_for core (sink_id k))))) (sym it.spec) heard.orderly);
      parcels = all_bring (take n (waiting_for core (sink_id k))) (carried_outs core k n h.core_consistent h.carried);
    }

-- ---- a turn

abbrev turn_steps : ℕ → ℕ → List (Step Stream)
turn_steps n k = replicate n (out (sink_id k)) ++ sweep ∷ []

steps_are : (n k : ℕ) → AllByRecursion IsStep (turn_steps n k)
steps_are zero k = (tt, tt)
steps_are (suc n) k = (tt, steps_are n k)

steps_take_none : (n k : ℕ) → AllByRecursion (Takes HasStream) (turn_steps n k)
steps_take_none zero k = (tt, tt)
steps_take_none (suc n) k = (tt, steps_take_none n k)

spare_others : (n k : ℕ) (sink : SinkId) → (k ≡ sink.0 → ⊥) → AllByRecursion (Spares sink) (turn_steps n k)
spare_others zero k sink apart = (tt, tt)
spare_others (suc n) k sink apart = (apart, spare_others n k sink apart)

-- what the sink has after it
pub turn_left : (core : State Stream) (k : ℕ) (s : SinkSpec) (n : ℕ) → IsConsistent Stream.spec core → slice_get core.sinks k ≡ Some s
    → inputs_there (stepped_by Stream.spec core (turn_steps n k)) (sink_id k) ≡ inputs_left_by Stream.spec (inputs_there core (sink_id k)) (map view (take n (waiting_for core (sink_id k))))
turn_left core k s n consistent there =
    let all : Heard Stream.spec s (inputs_there core (sink_id k)) (inputs_there (stepped_by Stream.spec core (turn_steps n k)) (sink_id k)) (posted_by_steps Stream.spec (sink_id k) core (turn_steps n k)) =
    heard_by Stream.spec (sink_id k) s (turn_steps n k) core there (steps_are n k) consistent in
    all.left ∙ ap (λ ms. inputs_left_by Stream.spec (inputs_there core (sink_id k)) (map view ms))
    (posted_joined Stream.spec (sink_id k) (replicate n (out (sink_id k))) (sweep ∷ []) core ∙ (append-nil (posted_by_steps Stream.spec (sink_id k) core (outs_of n (sink_id k))) ∙ outs_take Stream.spec (sink_id k) n core consistent))

-- the mixer after it
pub turned_is : (core after : State Stream) (k : ℕ) (s : SinkSpec) (m : Mixer) (frames : ℕ) (messages : List (Message Stream)) → IsMixerOf core k s m → AreFor m.sink messages → frames ≤ m.sink.filled - m.sink.consumed
    → inputs_there after (sink_id k) ≡ inputs_left_by Stream.spec (specs_of m.sink.inputs) messages → IsMixerOf after k s (mixer_turned m frames messages)
turned_is core after k s m frames messages h are few left =
    cond_both (is_to_stop m)
    (mixer_stopped m messages)
    (mixer_played m frames messages)
    (IsMixerOf after k s)
    (λ e. record {
      spec = h.spec;
      consistent = rounds.stop_keeps m.sink h.consistent messages are;
      inputs = sym (matching.stop_leaves m.sink messages) ∙ sym left;
      gives = join_gives m.notices (stopped_notices m.sink messages) h.gives (stop_gives m.sink h.consistent messages are);
    })
    (λ e. record {
      spec = h.spec;
      consistent = rounds.turn_keeps samples m.sink h.consistent frames few messages are;
      inputs = sym (matching.turn_leaves samples m.sink frames messages) ∙ sym left;
      gives = join_gives m.notices (turn_notices samples m.sink frames messages) h.gives (turn_gives samples m.sink h.consistent frames messages are);
    })

same_or_not : (i k : ℕ) → (i ≡ k) ⊎ (i ≡ k → ⊥)
same_or_not zero zero = inl refl
same_or_not zero (suc k) = inr (λ e. omega (arith, e))
same_or_not (suc i) zero = inr (λ e. omega (arith, e))
same_or_not (suc i) (suc k) = elim (same_or_not i k) [ inl e ↦ inl (ap suc e) | inr apart ↦ inr (λ e. apart (omega (arith, e))) ]

module _ (core : State Stream) (mixers : List Mixer) (k : ℕ) (s : SinkSpec) (m next : Mixer) (n : ℕ) (h : AreConsistent core mixers) (there : slice_get core.sinks k ≡ Some s) (mixer : slice_get mixers k ≡ Some m)
    (is : IsMixerOf (stepped_by Stream.spec core (turn_steps n k)) k s next) where
  here_is : (x t : SinkSpec) (y z : Mixer) → ◌≡◌ {A = Option SinkSpec} (Some x) (Some t) → ◌≡◌ {A = Option Mixer} (Some y) (Some z) → IsMixerOf (stepped_by Stream.spec core (turn_steps n k)) k x y → IsMixerOf (stepped_by Stream.spec core (turn_steps n k)) k t z
  here_is x t y z a b g =
      let specs : x ≡ t = cc in
      let mixers_same : y ≡ z = cc in
      subst (λ w. IsMixerOf (stepped_by Stream.spec core (turn_steps n k)) k t w) mixers_same (subst (λ w. IsMixerOf (stepped_by Stream.spec core (turn_steps n k)) k w y) specs g)

  each_is : (index : ℕ) (t : SinkSpec) (x : Mixer) → slice_get (stepped_by Stream.spec core (turn_steps n k)).sinks index ≡ Some t → slice_get (set mixers k next) index ≡ Some x
      → (k ≡ index) ⊎ (k ≡ index → ⊥) → IsMixerOf (stepped_by Stream.spec core (turn_steps n k)) index t x
  each_is index t x spec at (inl e) =
      subst (λ i. IsMixerOf (stepped_by Stream.spec core (turn_steps n k)) i t x) e
      (here_is s t next x
      (sym there ∙ (ap (λ i. slice_get core.sinks i) e ∙ same_sinks core (turn_steps n k) index t spec))
      (sym (get-set_same mixers k m next mixer) ∙ (ap (λ i. slice_get (set mixers k next) i) e ∙ at)) is)
  each_is index t x spec at (inr apart) =
      let old = same_sinks core (turn_steps n k) index t spec in
      same_mixer core (stepped_by Stream.spec core (turn_steps n k)) index t x
      (stays core (turn_steps n k) (sink_id index) t h.core_consistent (steps_are n k) old (spare_others n k (sink_id index) apart))
      (h.each index t x old (sym (get-set_other mixers k index next apart) ∙ at))

  pub turn_consistent : AreConsistent (stepped_by Stream.spec core (turn_steps n k)) (set mixers k next)
  turn_consistent = record {
    core_consistent = steps_keep Stream.spec core (turn_steps n k) (steps_are n k) h.core_consistent;
    carried = (steps_carry HasStream Stream.spec (turn_steps n k) core (steps_are n k) (steps_take_none n k) h.core_consistent (whole core h.carried)).carry;
    count = length-set mixers k next ∙ (h.count ∙ sym (ap length (steps_sinks Stream.spec core (turn_steps n k))));
    each = λ index t x spec at. each_is index t x spec at (same_or_not k index);
  }

pub consistent-turn : (core : State Stream) (mixers : List Mixer) (k : ℕ) (s : SinkSpec) (m : Mixer) (frames n : ℕ) → AreConsistent core mixers → slice_get core.sinks k ≡ Some s → slice_get mixers k ≡ Some m → frames ≤ m.sink.filled - m.sink.consumed
    → AreConsistent (stepped_by Stream.spec core (replicate n (out (record { 0 = k })) ++ sweep ∷ []))
    (set mixers k (mixer_turned m frames (map (message_of (λ p. p)) (take n (waiting_for core (record { 0 = k }))))))
consistent-turn core mixers k s m frames n h there mixer few =
    let it = h.each k s m there mixer in
    turn_consistent core mixers k s m (mixer_turned m frames (map view (take n (waiting_for core (sink_id k))))) n h there mixer
    (turned_is core (stepped_by Stream.spec core (turn_steps n k)) k s m frames (map view (take n (waiting_for core (sink_id k)))) it (turn-messages core mixers k s m n h there mixer) few
    (turn_left core k s n h.core_consistent there ∙ ap (λ inputs. inputs_left_by Stream.spec inputs (map view (take n (waiting_for core (sink_id k))))) (sym it.inputs)))

-- ---- a mixer whose notices or device alone change

module _ (core : State Stream) (mixers : List Mixer) (k : ℕ) (m next : Mixer) (h : AreConsistent core mixers) (mixer : slice_get mixers k ≡ Some m) (same : next.sink ≡ m.sink) (gives : AllByRecursion GivesStream m.notices → AllByRecursion GivesStream next.notices) where
  sunk : (index : ℕ) (s : SinkSpec) (x y : Mixer) → y.sink ≡ x.sink → AllByRecursion GivesStream y.notices → IsMixerOf core index s x → IsMixerOf core index s y
  sunk index s x y e given g = record {
    spec = ap Sink.spec e ∙ g.spec;
    consistent = subst IsSink (sym e) g.consistent;
    inputs = ap (λ sink. specs_of (Sink.inputs sink)) e ∙ g.inputs;
    gives = given;
  }

  noted : (index : ℕ) (s : SinkSpec) (x : Mixer) → slice_get core.sinks index ≡ Some s → slice_get (set mixers k next) index ≡ Some x → (k ≡ index) ⊎ (k ≡ index → ⊥) → IsMixerOf core index s x
  noted index s x there at (inl e) =
      let both : ◌≡◌ {A = Option Mixer} (Some next) (Some x) = sym (get-set_same mixers k m next mixer) ∙ (ap (λ i. slice_get (set mixers k next) i) e ∙ at) in
      let is : next ≡ x = cc in
      let was = h.each index s m there (sym (ap (λ i. slice_get mixers i) e) ∙ mixer) in
      sunk index s m x (sym (ap Mixer.sink is) ∙ same) (subst (λ (y : Mixer). AllByRecursion GivesStream y.notices) is (gives was.gives)) was
  noted index s x there at (inr apart) = h.each index s x there (sym (get-set_other mixers k index next apart) ∙ at)

  pub consistent-notices : AreConsistent core (set mixers k next)
  consistent-notices = record {
    core_consistent = h.core_consistent;
    carried = h.carried;
    count = length-set mixers k next ∙ h.count;
    each = λ index s x there at. noted index s x there at (same_or_not k index);
  }

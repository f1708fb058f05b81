-- A turn settles the stretch of an input's stream that is at its sink, from where the last one ended, and leaves the stream where the new one ends.
use Rattle.std.proofs.Common.{◌≡◌, ℕ, zero, suc, ◌+◌, ◌-◌, ◌≤◌, arith, List, [], ◌∷◌, ◌++◌, map, take, set, replicate, Option, None, Some, Bool, true, false, cond, refl, ap, sym, subst, ◌∙◌}
use Rattle.std.specs.List.{AllByRecursion, slice_get}
use Rattle.std.proofs.lemmas.Bool.{le-ltb}
use Rattle.px_types.specs.declared.ids.SinkId.{SinkId}
use Rattle.px_header.specs.declared.header.SinkSpec.{SinkSpec}
use Rattle.px_model.specs.Message.{Message}
use Rattle.px_model.specs.Notice.{Notice}
use Rattle.px_model.specs.Stream.{Stream}
use Rattle.px_model.specs.Sink.{Sink, IsSink, stream_at}
use Rattle.px_model.specs.Deciding.{Entry, turn, stop, sink_after, notices_of, messages_of}
use Rattle.px_model.specs.Track.{Stretch, IsJoined, stretch_of, stretches_from, forward_by, presence_of, all_opens}
use Rattle.px_model.proofs.Joined.{meets, stream_holds}
use Rattle.px_model.proofs.Lookups.{gone}
use Rattle.px_msg.specs.declared.message.Msg.{Msg}
use Rattle.px_msg.specs.declared.message.Msg.TheVariants.{New, Attach, Detach, Write, Cork, Flush, Trigger, Prebuf, Drain, Attr, Factors, Query}
use Rattle.px_msg.specs.View.{message_of}
use Rattle.px_state.specs.State.{State}
use Rattle.px_state.specs.Out.{waiting_for}
use Rattle.px_core.specs.Consistency.{IsConsistent, IsStep}
use Rattle.px_core.specs.Parcels.{Brought, Carries, Takes}
use Rattle.px_core.specs.Step.{Step, sweep, out, stepped_by}
use Rattle.px_core.proofs.HearingLaws.{outs_take}
use Rattle.px_core.proofs.ParcelLaws.{AreWhole, steps_carry, posted_carry}
use Rattle.px_stream.specs.Samples.{samples}
use Rattle.px_world.specs.World.{Mixer}
use Rattle.px_world.specs.Event.{is_to_stop, mixer_stopped, mixer_played, mixer_turned}
use Rattle.px_world.specs.Consistency.{AreConsistent}
use Rattle.px_world.specs.Continuity.{entry_in}
use Rattle.px_world.specs.Whereabouts.{Resumes, last_of, StaysReady, MovesReady, times, unborn, carried, coming, given_up, places_at, places, IsReadyAt, Stands}
use Rattle.px_world.proofs.Coming.{turn-within, all-opens-carried}
use Rattle.px_world.proofs.Consistent.{consistent-turn}
use Rattle.px_world.proofs.Moving.{Holds, whole-of}
use Rattle.px_world.proofs.Places.{set-all, get-all, there-below, there-at, none-moves, none-coming, at-most, only-there, places-set}
use Rattle.px_world.proofs.Resuming.{OpensReady, times-join, given-join, ready-join, turn-places, turn-ready, turn-gives}

-- ---- the mixer after a turn, in the terms of its sink's history

record Turned (m next : Mixer) (e : Entry) (messages : List (Message Stream)) : Type 0 where
  sink : next.sink ≡ sink_after samples m.sink e
  notices : next.notices ≡ m.notices ++ notices_of samples m.sink e
  taken : messages_of e ≡ messages

turned : (m : Mixer) (frames : ℕ) (messages : List (Message Stream)) → Turned m (mixer_turned m frames messages) (entry_in m frames messages) messages
turned m frames messages = go (is_to_stop m)
  where
    go : (b : Bool) → Turned m (cond b (mixer_stopped m messages) (mixer_played m frames messages)) (cond b (stop messages) (turn frames messages)) messages
    go true = record { sink = refl; notices = refl; taken = refl }
    go false = record { sink = refl; notices = refl; taken = refl }

-- ---- the messages that it takes

opens-ready : (i : ℕ) (last : Option Stretch) (m : Msg Stream) → Carries (MovesReady i last) m → OpensReady i last (message_of (λ p. p) m)
opens-ready i last (New n) h = h.0
opens-ready i last (Attach input parcel feed factors) h = h.0
opens-ready i last (Detach input) h = tt
opens-ready i last (Write input seek offset frames bytes) h = tt
opens-ready i last (Cork input on) h = tt
opens-ready i last (Flush input) h = tt
opens-ready i last (Trigger input) h = tt
opens-ready i last (Prebuf input) h = tt
opens-ready i last (Drain input tag) h = tt
opens-ready i last (Attr input attr) h = tt
opens-ready i last (Factors each) h = tt
opens-ready i last (Query input tag) h = tt

all-open-ready : (i : ℕ) (last : Option Stretch) (ms : List (Msg Stream)) → AllByRecursion (Carries (MovesReady i last)) ms → AllByRecursion (OpensReady i last) (map (message_of (λ p. p)) ms)
all-open-ready i last [] h = tt
all-open-ready i last (m ∷ ms) h = (opens-ready i last m h.0, all-open-ready i last ms h.1)

abbrev outs_of : ℕ → SinkId → List (Step Stream)
outs_of n sink = replicate n (out sink)

pub outs-are : (n : ℕ) (sink : SinkId) → AllByRecursion (IsStep {P = Stream}) (replicate n (out sink))
outs-are zero sink = tt
outs-are (suc n) sink = (tt, outs-are n sink)

outs-take-none : (whole : Brought Stream → Type 0) (n : ℕ) (sink : SinkId) → AllByRecursion (Takes whole) (replicate n (out sink))
outs-take-none whole zero sink = tt
outs-take-none whole (suc n) sink = (tt, outs-take-none whole n sink)

turn-are : (n : ℕ) (sink : SinkId) → AllByRecursion IsStep (outs_of n sink ++ sweep ∷ [])
turn-are zero sink = (tt, tt)
turn-are (suc n) sink = (tt, turn-are n sink)

turn-take-none : (whole : Brought Stream → Type 0) (n : ℕ) (sink : SinkId) → AllByRecursion (Takes whole) (replicate n (out sink) ++ sweep ∷ [])
turn-take-none whole zero sink = (tt, tt)
turn-take-none whole (suc n) sink = (tt, turn-take-none whole n sink)

-- those that it takes are among those that were ready
taken-ready : (core : State Stream) (k n i : ℕ) (last : Option Stretch) → IsConsistent Stream.spec core → AreWhole (MovesReady i last) core
    → AllByRecursion (Carries (MovesReady i last)) (take n (waiting_for core (record { 0 = k })))
taken-ready core k n i last consistent whole =
    subst (AllByRecursion (Carries (MovesReady i last))) (outs_take Stream.spec (record { 0 = k }) n core consistent)
    (posted_carry (MovesReady i last) Stream.spec (record { 0 = k }) (replicate n (out (record { 0 = k }))) core (outs-are n (record { 0 = k })) (outs-take-none (MovesReady i last) n (record { 0 = k })) consistent whole)

-- ---- once the streams of the sink have gone forward

-- whatever stands anywhere is ready after the stretch `last`, and the stream of the input at the mixer's sink once it has gone forward
record Onward (core : State Stream) (mixers : List Mixer) (k : ℕ) (m : Mixer) (i : ℕ) (by : ℕ) (last : Option Stretch) : Type 0 where
  whole : AreWhole (MovesReady i last) core
  others : (next : Mixer) → IsReadyAt i last next → AllByRecursion (IsReadyAt i last) (set mixers k next)
  gives : AllByRecursion (MovesReady i last) (given_up m.notices)
  stays : StaysReady last (gone by (stream_at i m.sink.inputs))

module _ (core : State Stream) (mixers : List Mixer) (k frames n i : ℕ) (m : Mixer) (there : slice_get mixers k ≡ Some m) (consistent : AreConsistent core mixers) where
  abbrev messages : List (Message Stream)
  messages = map (message_of (λ p. p)) (take n (waiting_for core (record { 0 = k })))

  abbrev e : Entry
  e = entry_in m frames messages

  abbrev next : Mixer
  next = mixer_turned m frames messages

  abbrev later : State Stream
  later = stepped_by Stream.spec core (replicate n (out (record { 0 = k })) ++ sweep ∷ [])

  -- it is at no more places than before
  turn-once : unborn i core.inputs_made + coming i core.posted + places i mixers ≤ 1 → unborn i later.inputs_made + coming i later.posted + places i (set mixers k next) ≤ 1
  turn-once once =
      let t : Turned m next e messages = turned m frames messages in
      let at : presence_of (stream_at i next.sink.inputs) ≡ presence_of (stream_at i (sink_after samples m.sink e).inputs) = ap (λ (s : Sink). presence_of (stream_at i s.inputs)) t.sink in
      let gives : times i (given_up next.notices) ≡ times i (given_up m.notices) + times i (given_up (notices_of samples m.sink e)) =
      ap (λ l. times i (given_up l)) t.notices ∙ ap (times i) (given-join m.notices (notices_of samples m.sink e)) ∙ times-join i (given_up m.notices) (given_up (notices_of samples m.sink e)) in
      let opened : all_opens i (messages_of e) ≡ times i (carried (take n (waiting_for core (record { 0 = k })))) =
      ap (all_opens i) t.taken ∙ all-opens-carried i (take n (waiting_for core (record { 0 = k }))) in
      omega (arith, once, at, gives, opened, places-set i mixers k m next there, turn-places samples m.sink e i, turn-within i n (record { 0 = k }) core consistent.core_consistent)

  module _ (last : Option Stretch) (o : Onward core mixers k m i (forward_by m.sink e) last) where
    opened-ready : AllByRecursion (OpensReady i last) (messages_of e)
    opened-ready =
        subst (AllByRecursion (OpensReady i last)) (sym (Turned.taken (turned m frames messages)))
        (all-open-ready i last (take n (waiting_for core (record { 0 = k }))) (taken-ready core k n i last consistent.core_consistent o.whole))

    next-ready : IsReadyAt i last next
    next-ready = record {
      stays = subst (λ (s : Sink). StaysReady last (stream_at i s.inputs)) (sym (Turned.sink (turned m frames messages))) (turn-ready samples m.sink e i last opened-ready o.stays);
      gives = subst (λ (l : List (Notice Stream)). AllByRecursion (MovesReady i last) (given_up l)) (sym (Turned.notices (turned m frames messages)))
          (subst (AllByRecursion (MovesReady i last)) (sym (given-join m.notices (notices_of samples m.sink e)))
          (ready-join i last (given_up m.notices) (given_up (notices_of samples m.sink e)) o.gives (turn-gives samples m.sink e i last opened-ready o.stays)));
    }

    turn-stands : unborn i core.inputs_made + coming i core.posted + places i mixers ≤ 1 → Stands later (set mixers k next) i last
    turn-stands once =
        let on : AreWhole (MovesReady i last) later =
        steps_carry (MovesReady i last) Stream.spec (replicate n (out (record { 0 = k })) ++ sweep ∷ []) core (turn-are n (record { 0 = k })) (turn-take-none (MovesReady i last) n (record { 0 = k })) consistent.core_consistent o.whole in
        record {
          once = turn-once once;
          fresh = λ l. on.unborn i l refl;
          queued = on.carry;
          each = o.others next next-ready;
        }

-- ---- how the streams of the sink go forward

-- the input isn't at the sink: nothing is settled
absent-onward : (core : State Stream) (mixers : List Mixer) (k i by : ℕ) (m : Mixer) (last : Option Stretch) → slice_get mixers k ≡ Some m → Stands core mixers i last → stream_at i m.sink.inputs ≡ None → Onward core mixers k m i by last
absent-onward core mixers k i by m last there h none = record {
  whole = whole-of core mixers i last h;
  others = λ next r. set-all (IsReadyAt i last) mixers k next h.each r;
  gives = (get-all (IsReadyAt i last) mixers k m there h.each).gives;
  stays = subst (λ o. StaysReady last (gone by o)) (sym none) tt;
}

born-already : (i made : ℕ) → unborn i made ≡ 0 → made ≤ i → ⊥
born-already i made e l =
    let not_yet : unborn i made ≡ 1 = ap (λ b. cond b 0 1) (le-ltb i made l) in
    omega (arith, e, not_yet)

-- it is: it goes forward from where the last stretch ended, and there is nothing of it elsewhere
present-onward : (core : State Stream) (mixers : List Mixer) (k i by : ℕ) (m : Mixer) (s : Stream) (last : Option Stretch) → slice_get mixers k ≡ Some m → IsSink m.sink → Stands core mixers i last → stream_at i m.sink.inputs ≡ Some s
    → Onward core mixers k m i by (Some (stretch_of s by))
present-onward core mixers k i by m s last there holds h some =
    let one : presence_of (stream_at i m.sink.inputs) ≡ 1 = ap presence_of some in
    let here : places_at i m ≤ places i mixers = at-most i mixers k m there in
    record {
      whole = record {
        carry = none-coming i (Some (stretch_of s by)) core.posted (omega (arith, h.once, one, here));
        unborn = λ j l same. absurd (born-already i core.inputs_made (omega (arith, h.once, one, here)) (omega (arith, l, same)));
      };
      others = λ next r. only-there i (Some (stretch_of s by)) mixers k m next there (omega (arith, h.once, one, here)) r;
      gives = none-moves i (Some (stretch_of s by)) (given_up m.notices) (omega (arith, h.once, one, here));
      stays = subst (λ o. StaysReady (Some (stretch_of s by)) (gone by o)) (sym some) (meets s (stream_holds m.sink.spec i m.sink.inputs s holds.streams some) by);
    }

-- ---- the turn

-- a track goes on from the last stretch before it
abbrev pub JoinsOn : Option Stretch → List Stretch → Type 0
JoinsOn None track = IsJoined track
JoinsOn (Some x) track = IsJoined (x ∷ track)

joins-one : (last : Option Stretch) (x : Stretch) (track : List Stretch) → Resumes last x.from → IsJoined (x ∷ track) → JoinsOn last (x ∷ track)
joins-one None x track r j = j
joins-one (Some y) x track r j = (record { joined = r.0; rising = r.1 }, j)

-- what an event settles, and where it leaves the stream
pub record GoesOn (core : State Stream) (mixers : List Mixer) (i : ℕ) (last : Option Stretch) (track : List Stretch) : Type 0 where
  pub holds : Holds core mixers i (last_of last track)
  pub joins : (later : List Stretch) → JoinsOn (last_of last track) later → JoinsOn last (track ++ later)

module _ (core : State Stream) (mixers : List Mixer) (k frames n i : ℕ) (m : Mixer) (last : Option Stretch) (there : slice_get mixers k ≡ Some m) (h : Holds core mixers i last) (few : frames ≤ m.sink.filled - m.sink.consumed) where
  own : (s : SinkSpec) × (slice_get core.sinks k ≡ Some s)
  own = there-at core.sinks k (omega (arith, h.consistent.count, there-below mixers k m there))

  turn-consistent : AreConsistent (later core mixers k frames n i m there h.consistent) (set mixers k (next core mixers k frames n i m there h.consistent))
  turn-consistent = consistent-turn core mixers k own.0 m frames n h.consistent own.1 there few

  pub turn-goes-on : GoesOn (stepped_by Stream.spec core (replicate n (out (record { 0 = k })) ++ sweep ∷ [])) (set mixers k (mixer_turned m frames (map (message_of (λ p. p)) (take n (waiting_for core (record { 0 = k })))))) i last
      (stretches_from (stream_at i m.sink.inputs) (forward_by m.sink (entry_in m frames (map (message_of (λ p. p)) (take n (waiting_for core (record { 0 = k })))))))
  turn-goes-on = go (stream_at i m.sink.inputs) refl
    where
      go : (o : Option Stream) → stream_at i m.sink.inputs ≡ o
          → GoesOn (stepped_by Stream.spec core (replicate n (out (record { 0 = k })) ++ sweep ∷ [])) (set mixers k (mixer_turned m frames (map (message_of (λ p. p)) (take n (waiting_for core (record { 0 = k })))))) i last
          (stretches_from o (forward_by m.sink (entry_in m frames (map (message_of (λ p. p)) (take n (waiting_for core (record { 0 = k })))))))
      go None none = record {
        holds = record {
          consistent = turn-consistent;
          stands = turn-stands core mixers k frames n i m there h.consistent last
              (absent-onward core mixers k i (forward_by m.sink (entry_in m frames (map (message_of (λ p. p)) (take n (waiting_for core (record { 0 = k })))))) m last there h.stands none) h.stands.once;
        };
        joins = λ track j. j;
      }
      go (Some s) some =
          let by : ℕ = forward_by m.sink (entry_in m frames (map (message_of (λ p. p)) (take n (waiting_for core (record { 0 = k }))))) in
          let ready : Resumes last s.queue.read = subst (StaysReady last) some (IsReadyAt.stays (get-all (IsReadyAt i last) mixers k m there h.stands.each)) in
          record {
            holds = record {
              consistent = turn-consistent;
              stands = turn-stands core mixers k frames n i m there h.consistent (Some (stretch_of s by))
                  (present-onward core mixers k i by m s last there ((h.consistent.each k own.0 m own.1 there).consistent) h.stands some) h.stands.once;
            };
            joins = λ track j. joins-one last (stretch_of s by) track ready j;
          }

-- Over any run the track of an input is joined, its indices rise, and its stream stands ready to go on.
use Rattle.std.proofs.Common.{◌≡◌, ℕ, zero, suc, ◌≤◌, arith, List, [], ◌∷◌, ◌++◌, map, take, set, length, replicate, Option, None, Some, refl, ap, sym, ◌∙◌, subst}
use Rattle.std.specs.Prelude.{nat_lt}
use Rattle.std.specs.List.{AllByRecursion, slice_get}
use Rattle.std.proofs.lemmas.Bool.{cond_both}
use Rattle.std.proofs.lemmas.Option.{none-some}
use Rattle.px_header.specs.declared.header.Header.{Header}
use Rattle.px_header.specs.declared.header.SinkSpec.{SinkSpec}
use Rattle.px_header.specs.HeaderRules.{IsHeader}
use Rattle.px_types.specs.declared.ids.SinkId.{SinkId}
use Rattle.px_session.specs.declared.event.Event.{Event}
use Rattle.px_session.specs.declared.event.Event.TheVariants.{Connect, Bytes, Close, Cut, Turn, Collect, Stop}
use Rattle.px_model.specs.Notice.{Notice}
use Rattle.px_model.specs.Stream.{Stream}
use Rattle.px_model.specs.Track.{Stretch, IsJoined, Rise, indices_of_all}
use Rattle.px_model.proofs.Joined.{joined_rise}
use Rattle.px_msg.specs.View.{notice_for}
use Rattle.px_state.specs.State.{new_state}
use Rattle.px_state.specs.Out.{waiting_for}
use Rattle.px_core.specs.Step.{sweep, notice, stepped_by}
use Rattle.px_core.proofs.ParcelLaws.{new_carry}
use Rattle.px_world.specs.declared.fault.WorldFault.TheVariants.{NoSink}
use Rattle.px_world.specs.World.{World, Mixer, new_mixer, new_world, link_of, received_of}
use Rattle.px_world.specs.Admission.{refusal_of, turn_refusal, collect_refusal, stop_refusal}
use Rattle.px_world.specs.Event.{world_after, all_steps, mixers_after, bytes_steps, notices_of, mixer_turned, mixer_collected, set_to_fail, change_at, messages_taken}
use Rattle.px_world.specs.Continuity.{settled_in, at_sink, settled_by, track_by, stretches_of}
use Rattle.px_world.specs.Output.{world_by, AreAdmitted}
use Rattle.px_world.specs.Whereabouts.{last_of, Stands, MovesReady, unborn, coming, places, IsReadyAt}
use Rattle.px_world.proofs.Beginning.{consistent-first}
use Rattle.px_world.proofs.Bodies.{ArePlain, bytes-plain, plain-join}
use Rattle.px_world.proofs.Histories.{frames_there}
use Rattle.px_world.proofs.Moving.{Holds, plain-holds, collect-holds, fail-holds}
use Rattle.px_world.proofs.Tracks.{map_join}
use Rattle.px_world.proofs.Turning.{JoinsOn, GoesOn, turn-goes-on}

-- ---- one event

-- a world in which the stream of the input can go on after its last stretch
abbrev pub HoldsIn : World → ℕ → Option Stretch → Type 0
HoldsIn w i last = Holds w.core w.mixers i last

abbrev pub GoesOnIn : World → ℕ → Option Stretch → List Stretch → Type 0
GoesOnIn w i last track = GoesOn w.core w.mixers i last track

-- nothing is settled
rests : (w : World) (i : ℕ) (last : Option Stretch) → HoldsIn w i last → GoesOnIn w i last []
rests w i last h = record { holds = h; joins = λ track j. j }

plain-rests : (w : World) (e : Event) (i : ℕ) (last : Option Stretch) → ArePlain (all_steps w e) → mixers_after w e ≡ w.mixers → HoldsIn w i last → GoesOnIn (world_after w e) i last []
plain-rests w e i last plain same h =
    rests (world_after w e) i last
    (subst (λ mixers. Holds (stepped_by Stream.spec w.core (all_steps w e)) mixers i last) (sym same) (plain-holds w.core w.mixers (all_steps w e) i last plain h))

sweep-plain : ArePlain (sweep ∷ [])
sweep-plain = (record { is = tt; spares = λ sink. tt; gives = refl }, tt)

stretches-at : (sink : ℕ) (xs : List Stretch) → stretches_of (map (at_sink sink) xs) ≡ xs
stretches-at sink [] = refl
stretches-at sink (x ∷ xs) = ap (λ l. x ∷ l) (stretches-at sink xs)

turn-goes : (w : World) (sink frames n i : ℕ) (last : Option Stretch) (o : Option Mixer) → slice_get w.mixers sink ≡ o → turn_refusal o frames n (length (waiting_for w.core (record { 0 = sink }))) ≡ None → HoldsIn w i last
    → GoesOn (stepped_by Stream.spec w.core (all_steps w (Turn sink frames n))) (change_at w.mixers sink o (λ m. mixer_turned m frames (messages_taken w sink n))) i last (settled_in o frames (messages_taken w sink n) i)
turn-goes w sink frames n i last None there admitted h = absurd (none-some NoSink (sym admitted))
turn-goes w sink frames n i last (Some m) there admitted h =
    turn-goes-on w.core w.mixers sink frames n i m last there h (frames_there m frames n (length (waiting_for w.core (record { 0 = sink }))) admitted)

collect-goes : (w : World) (sink n i : ℕ) (last : Option Stretch) (o : Option Mixer) → slice_get w.mixers sink ≡ o → collect_refusal o n ≡ None → HoldsIn w i last
    → Holds (stepped_by Stream.spec w.core (all_steps w (Collect sink n))) (change_at w.mixers sink o (λ m. mixer_collected m n)) i last
collect-goes w sink n i last None there admitted h = absurd (none-some NoSink (sym admitted))
collect-goes w sink n i last (Some m) there admitted h =
    subst (λ (o : Option Mixer). Holds (stepped_by Stream.spec w.core (map (λ (x : Notice Stream). notice (record { 0 = sink }) (notice_for x)) (take n (notices_of o)) ++ sweep ∷ [])) (set w.mixers sink (mixer_collected m n)) i last)
    (sym there) (collect-holds w.core w.mixers sink n i last m there h)

stop-goes : (w : World) (sink : SinkId) (i : ℕ) (last : Option Stretch) (o : Option Mixer) → slice_get w.mixers sink.0 ≡ o → stop_refusal o ≡ None → HoldsIn w i last
    → Holds (stepped_by Stream.spec w.core (all_steps w (Stop sink))) (change_at w.mixers sink.0 o set_to_fail) i last
stop-goes w sink i last None there admitted h = absurd (none-some NoSink (sym admitted))
stop-goes w sink i last (Some m) there admitted h =
    fail-holds (stepped_by Stream.spec w.core (sweep ∷ [])) w.mixers sink.0 i last m there (plain-holds w.core w.mixers (sweep ∷ []) i last sweep-plain h)

pub event-goes : (w : World) (e : Event) (i : ℕ) (last : Option Stretch) → refusal_of w e ≡ None → HoldsIn w i last → GoesOnIn (world_after w e) i last (stretches_of (settled_by w e i))
event-goes w (Connect conn) i last admitted h = plain-rests w (Connect conn) i last (record { is = tt; spares = λ sink. tt; gives = refl }, sweep-plain) refl h
event-goes w (Bytes conn bytes) i last admitted h =
    plain-rests w (Bytes conn bytes) i last
    (plain-join (bytes_steps conn (received_of (link_of w.links conn)) bytes) (sweep ∷ []) (bytes-plain conn (received_of (link_of w.links conn)) bytes) sweep-plain) refl h
event-goes w (Close conn) i last admitted h = plain-rests w (Close conn) i last (record { is = tt; spares = λ sink. tt; gives = refl }, sweep-plain) refl h
event-goes w (Cut conn) i last admitted h = plain-rests w (Cut conn) i last (record { is = tt; spares = λ sink. tt; gives = refl }, sweep-plain) refl h
event-goes w (Turn sink frames n) i last admitted h =
    subst (GoesOnIn (world_after w (Turn sink frames n)) i last) (sym (stretches-at sink (settled_in (slice_get w.mixers sink) frames (messages_taken w sink n) i)))
    (turn-goes w sink frames n i last (slice_get w.mixers sink) refl admitted h)
event-goes w (Collect sink n) i last admitted h = rests (world_after w (Collect sink n)) i last (collect-goes w sink n i last (slice_get w.mixers sink) refl admitted h)
event-goes w (Stop sink) i last admitted h = rests (world_after w (Stop sink)) i last (stop-goes w sink i last (slice_get w.mixers sink.0) refl admitted h)

-- ---- a run

joined-from : (w : World) (events : List Event) (i : ℕ) (last : Option Stretch) → AreAdmitted w events → HoldsIn w i last → JoinsOn last (stretches_of (track_by w events i))
joined-from w [] i None can h = tt
joined-from w [] i (Some x) can h = tt
joined-from w (e ∷ events) i last can h =
    let on : GoesOnIn (world_after w e) i last (stretches_of (settled_by w e i)) = event-goes w e i last can.0 h in
    subst (JoinsOn last) (sym (map_join (settled_by w e i) (track_by (world_after w e) events i)))
    (on.joins (stretches_of (track_by (world_after w e) events i)) (joined-from (world_after w e) events i (last_of last (stretches_of (settled_by w e i))) can.1 on.holds))

last-join : (last : Option Stretch) (xs ys : List Stretch) → last_of last (xs ++ ys) ≡ last_of (last_of last xs) ys
last-join last [] ys = refl
last-join last (x ∷ xs) ys = last-join (Some x) xs ys

holds-by : (w : World) (events : List Event) (i : ℕ) (last : Option Stretch) → AreAdmitted w events → HoldsIn w i last → HoldsIn (world_by w events) i (last_of last (stretches_of (track_by w events i)))
holds-by w [] i last can h = h
holds-by w (e ∷ events) i last can h =
    let first : List Stretch = stretches_of (settled_by w e i) in
    subst (HoldsIn (world_by (world_after w e) events) i)
    (sym (ap (last_of last) (map_join (settled_by w e i) (track_by (world_after w e) events i)) ∙ last-join last first (stretches_of (track_by (world_after w e) events i))))
    (holds-by (world_after w e) events i (last_of last first) can.1 (GoesOn.holds (event-goes w e i last can.0 h)))

-- ---- before the first event

none-queued : (i count : ℕ) → coming i (replicate count []) ≡ 0
none-queued i zero = refl
none-queued i (suc count) = none-queued i count

none-at : (i : ℕ) (sinks : List SinkSpec) → places i (map new_mixer sinks) ≡ 0
none-at i [] = refl
none-at i (s ∷ sinks) = omega (arith, none-at i sinks)

none-ready-at : (i : ℕ) (sinks : List SinkSpec) → AllByRecursion (IsReadyAt i None) (map new_mixer sinks)
none-ready-at i [] = tt
none-ready-at i (s ∷ sinks) = (record { stays = tt; gives = tt }, none-ready-at i sinks)

one-at-most : (i made : ℕ) → unborn i made ≤ 1
one-at-most i made = cond_both (nat_lt i made) 0 1 (λ n. n ≤ 1) (λ e. omega arith) (λ e. omega arith)

pub holds-first : (header : Header) (i : ℕ) → IsHeader header → HoldsIn (new_world header) i None
holds-first header i h = record {
  consistent = consistent-first header h;
  stands = record {
    once = omega (arith, one-at-most i (new_state {P = Stream} header).inputs_made, none-queued i (length header.sinks), none-at i header.sinks);
    fresh = λ l. refl;
    queued = new_carry (MovesReady i None) header;
    each = none-ready-at i header.sinks;
  };
}

pub joined : (header : Header) (events : List Event) (i : ℕ) → IsHeader header → AreAdmitted (new_world header) events → IsJoined (stretches_of (track_by (new_world header) events i))
joined header events i h can = joined-from (new_world header) events i None can (holds-first header i h)

pub rising : (header : Header) (events : List Event) (i : ℕ) → IsHeader header → AreAdmitted (new_world header) events → Rise (indices_of_all (stretches_of (track_by (new_world header) events i)))
rising header events i h can = joined_rise (stretches_of (track_by (new_world header) events i)) (joined header events i h can)

pub stands : (header : Header) (events : List Event) (i : ℕ) → IsHeader header → AreAdmitted (new_world header) events
    → Stands (world_by (new_world header) events).core (world_by (new_world header) events).mixers i (last_of None (stretches_of (track_by (new_world header) events i)))
stands header events i h can = Holds.stands (holds-by (new_world header) events i None can (holds-first header i h))

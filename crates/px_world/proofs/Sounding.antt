-- What the events of a sink do, from what their parts do.
use Rattle.std.proofs.Common.{◌≡◌, ◌<◌, ◌≤◌, ◌-◌, ℕ, zero, suc, true, false, cond, List, [], ◌∷◌, ◌++◌, map, take, drop, length, set, get_or, Option, None, Some, refl, ap, sym, subst, ◌∙◌, arith, ⊎_elim}
use Rattle.std.specs.Prelude.{nat_lt, option_map, replicate}
use Rattle.std.specs.List.{slice_get, concat, AllByRecursion}
use Rattle.std.proofs.lemmas.Bool.{cases_Bool, cond-true, cond-false, lt-ltb, le-ltb, ltb-false}
use Rattle.std.proofs.lemmas.List.{length-map, map-set}
use Rattle.std.proofs.lemmas.Option.{none-some, same_Some, slice_get-map, slice_get-get_or}
use Rattle.px_types.specs.declared.ids.SinkId.{SinkId}
use Rattle.px_session.specs.declared.event.Event.TheVariants.{Turn, Collect}
use Rattle.px_model.specs.Stream.{Stream}
use Rattle.px_model.specs.Notice.{Notice}
use Rattle.px_model.specs.Turn.{AreFor}
use Rattle.px_model.specs.Sink.{IsSink}
use Rattle.px_msg.specs.View.{message_of, notice_for}
use Rattle.px_state.specs.State.{State}
use Rattle.px_state.specs.Out.{waiting_for}
use Rattle.px_core.specs.Consistency.{IsStep, Spares}
use Rattle.px_core.specs.Parcels.{Takes}
use Rattle.px_core.specs.Step.{notice, out, sweep, stepped_by, effects_by}
use Rattle.px_world.specs.declared.fault.WorldFault.{WorldFault}
use Rattle.px_world.specs.declared.fault.WorldFault.TheVariants.{Live, NotLive, NoSink, Worn, TooMany, NoMemory}
use Rattle.px_world.specs.declared.outcome.Outcome.{Outcome}
use Rattle.px_world.specs.World.{World, Mixer}
use Rattle.px_world.specs.Admission.{LAST_FILLED, too_many, or_else, refusal_of, turn_refusal, collect_refusal}
use Rattle.px_world.specs.Event.{notices_of, change_at, mixer_turned, mixer_collected, played_of, stopped_of}
use Rattle.px_world.specs.Parts.{Unless, Plays}
use Rattle.px_world.specs.Consistency.{HasStream, GivesStream, AreConsistent}
use Rattle.px_world.proofs.Giving.{take_gives, drop_gives}
use Rattle.px_world.proofs.Consistent.{consistent-steps, consistent-turn, consistent-notices, turn-messages}

-- ---- a mixer among the others, each seen as one of the definitions

module _ {X : Type 0} (v : X → Mixer) (xs : List X) (k : ℕ) where
  module _ (d : X) (within : k < length xs) where
    pub seen-at : slice_get (map v xs) k ≡ Some (v (get_or xs k d))
    seen-at = slice_get-map v xs k ∙ ap (option_map v) (slice_get-get_or xs k d within)

    pub changed-at : (next : X) (change : Mixer → Mixer) → v next ≡ change (v (get_or xs k d)) → map v (set xs k next) ≡ change_at (map v xs) k (slice_get (map v xs) k) change
    changed-at next change e = map-set v xs k next ∙ ap (set (map v xs) k) e ∙ sym (ap (λ o. change_at (map v xs) k o change) seen-at)

pub seen-alike : {X : Type 0} (v : X → Mixer) (xs : List X) (k : ℕ) (d e : X) → k < length xs → v (get_or xs k d) ≡ v (get_or xs k e)
seen-alike v xs k d e within = same_Some (v (get_or xs k d)) (v (get_or xs k e)) (sym (seen-at v xs k d within) ∙ seen-at v xs k e within)

pub each-at : {X : Type 0} (P : X → Type 0) (xs : List X) (k : ℕ) (d : X) → AllByRecursion P xs → k < length xs → P (get_or xs k d)
each-at P [] k d h within = absurd (omega (arith, within))
each-at P (x ∷ xs) zero d h within = h.0
each-at P (x ∷ xs) (suc k) d h within = each-at P xs k d h.1 (omega (arith, within))

pub each-set : {X : Type 0} (P : X → Type 0) (xs : List X) (k : ℕ) (y : X) → AllByRecursion P xs → P y → AllByRecursion P (set xs k y)
each-set P [] k y h new = tt
each-set P (x ∷ xs) zero y h new = (new, h.1)
each-set P (x ∷ xs) (suc k) y h new = (h.0, each-set P xs k y h.1 new)

-- ---- more than there are

pub enough : (asked there : ℕ) → asked ≤ there → too_many asked there ≡ None
enough asked there h = cond-false (nat_lt there asked) (Some (TooMany asked there)) None (le-ltb there asked h)

pub too-few : (asked there : ℕ) → there < asked → too_many asked there ≡ Some (TooMany asked there)
too-few asked there h = cond-true (nat_lt there asked) (Some (TooMany asked there)) None (lt-ltb there asked h)

pub unless-it : (fault : WorldFault) (A : Type 0) → A → Unless fault A
unless-it Live A a = a
unless-it NotLive A a = a
unless-it NoSink A a = a
unless-it Worn A a = a
unless-it (TooMany asked there) A a = a
unless-it NoMemory A a = tt

-- ---- why there is no turn

module _ (m : Mixer) (frames count waiting : ℕ) where
  pub turn_worn : LAST_FILLED < m.sink.filled → turn_refusal (Some m) frames count waiting ≡ Some Worn
  turn_worn h =
      ap (λ o. or_else o (or_else (too_many frames (m.sink.filled - m.sink.consumed)) (too_many count waiting)))
      (cond-true (nat_lt LAST_FILLED m.sink.filled) (Some Worn) None (lt-ltb LAST_FILLED m.sink.filled h))

  not-worn : m.sink.filled ≤ LAST_FILLED → turn_refusal (Some m) frames count waiting ≡ or_else (too_many frames (m.sink.filled - m.sink.consumed)) (too_many count waiting)
  not-worn h =
      ap (λ o. or_else o (or_else (too_many frames (m.sink.filled - m.sink.consumed)) (too_many count waiting)))
      (cond-false (nat_lt LAST_FILLED m.sink.filled) (Some Worn) None (le-ltb LAST_FILLED m.sink.filled h))

  pub turn_dry : m.sink.filled ≤ LAST_FILLED → m.sink.filled - m.sink.consumed < frames → turn_refusal (Some m) frames count waiting ≡ Some (TooMany frames (m.sink.filled - m.sink.consumed))
  turn_dry h few = not-worn h ∙ ap (λ o. or_else o (too_many count waiting)) (too-few frames (m.sink.filled - m.sink.consumed) few)

  pub turn_short : m.sink.filled ≤ LAST_FILLED → frames ≤ m.sink.filled - m.sink.consumed → waiting < count → turn_refusal (Some m) frames count waiting ≡ Some (TooMany count waiting)
  turn_short h there few = not-worn h ∙ ap (λ o. or_else o (too_many count waiting)) (enough frames (m.sink.filled - m.sink.consumed) there) ∙ too-few count waiting few

  pub turn_goes : m.sink.filled ≤ LAST_FILLED → frames ≤ m.sink.filled - m.sink.consumed → count ≤ waiting → turn_refusal (Some m) frames count waiting ≡ None
  turn_goes h there few = not-worn h ∙ ap (λ o. or_else o (too_many count waiting)) (enough frames (m.sink.filled - m.sink.consumed) there) ∙ enough count waiting few

  -- what is known where there is one
  parts : (a b : Option WorldFault) → or_else a b ≡ None → (a ≡ None) × (b ≡ None)
  parts None b e = (refl, e)
  parts (Some fault) b e = absurd (none-some fault (sym e))

  few-enough : (asked there : ℕ) → too_many asked there ≡ None → asked ≤ there
  few-enough asked there e =
      ⊎_elim
      (λ (more : nat_lt there asked ≡ true). absurd (none-some (TooMany asked there) (sym e ∙ cond-true (nat_lt there asked) (Some (TooMany asked there)) None more)))
      (λ (few : nat_lt there asked ≡ false). ltb-false there asked few)
      (cases_Bool (nat_lt there asked))

  fresh-enough : cond (nat_lt LAST_FILLED m.sink.filled) (Some Worn) None ≡ None → m.sink.filled ≤ LAST_FILLED
  fresh-enough e =
      ⊎_elim
      (λ (more : nat_lt LAST_FILLED m.sink.filled ≡ true). absurd (none-some Worn (sym e ∙ cond-true (nat_lt LAST_FILLED m.sink.filled) (Some Worn) None more)))
      (λ (few : nat_lt LAST_FILLED m.sink.filled ≡ false). ltb-false LAST_FILLED m.sink.filled few)
      (cases_Bool (nat_lt LAST_FILLED m.sink.filled))

  module _ (goes : turn_refusal (Some m) frames count waiting ≡ None) where
    rest-goes : or_else (too_many frames (m.sink.filled - m.sink.consumed)) (too_many count waiting) ≡ None
    rest-goes = (parts (cond (nat_lt LAST_FILLED m.sink.filled) (Some Worn) None) (or_else (too_many frames (m.sink.filled - m.sink.consumed)) (too_many count waiting)) goes).1

    pub goes-fresh : m.sink.filled ≤ LAST_FILLED
    goes-fresh = fresh-enough (parts (cond (nat_lt LAST_FILLED m.sink.filled) (Some Worn) None) (or_else (too_many frames (m.sink.filled - m.sink.consumed)) (too_many count waiting)) goes).0

    pub goes-there : frames ≤ m.sink.filled - m.sink.consumed
    goes-there = few-enough frames (m.sink.filled - m.sink.consumed) (parts (too_many frames (m.sink.filled - m.sink.consumed)) (too_many count waiting) rest-goes).0

    pub goes-few : count ≤ waiting
    goes-few = few-enough count waiting (parts (too_many frames (m.sink.filled - m.sink.consumed)) (too_many count waiting) rest-goes).1

-- what a turn was admitted for
pub goes-on : {X : Type 0} (v : X → Mixer) (xs : List X) (k : ℕ) (d e : X) → k < length xs → (core : State Stream) (frames count waiting : ℕ) → waiting ≡ length (waiting_for core (record { 0 = k }))
    → None ≡ turn_refusal (Some (v (get_or xs k d))) frames count waiting → turn_refusal (Some (v (get_or xs k e))) frames count (length (waiting_for core (record { 0 = k }))) ≡ None
goes-on v xs k d e within core frames count waiting same none =
    ap (λ m. turn_refusal (Some m) frames count (length (waiting_for core (record { 0 = k })))) (seen-alike v xs k e d within)
    ∙ ap (turn_refusal (Some (v (get_or xs k d))) frames count) (sym same)
    ∙ sym none

-- ---- events of a sink that is there

module _ (w : World) (core : State Stream) (ms : List Mixer) (same_core : w.core ≡ core) (same_mixers : w.mixers ≡ ms) (k : ℕ) where
  module _ (m : Mixer) (there : slice_get ms k ≡ Some m) where
    here : slice_get w.mixers k ≡ Some m
    here = ap (λ l. slice_get l k) same_mixers ∙ there

    pub turn-refusal : (frames count : ℕ) → refusal_of w (Turn k frames count) ≡ turn_refusal (Some m) frames count (length (waiting_for core (record { 0 = k })))
    turn-refusal frames count =
        ap (λ o. turn_refusal o frames count (length (waiting_for w.core (record { 0 = k })))) here
        ∙ ap (λ s. turn_refusal (Some m) frames count (length (waiting_for s (record { 0 = k })))) same_core

    pub collect-refused : (count : ℕ) → length m.notices < count → refusal_of w (Collect k count) ≡ Some (TooMany count (length m.notices))
    collect-refused count h = ap (λ o. collect_refusal o count) here ∙ too-few count (length m.notices) h

    pub collects : (after : State Stream) (mixers : List Mixer) (count : ℕ) (outcome : Outcome) → count ≤ length m.notices
        → after ≡ stepped_by Stream.spec core (map (λ (n : Notice Stream). notice (record { 0 = k }) (notice_for n)) (take count m.notices) ++ sweep ∷ [])
        → mixers ≡ change_at ms k (slice_get ms k) (λ x. mixer_collected x count)
        → outcome.effects ≡ effects_by Stream.spec core (map (λ (n : Notice Stream). notice (record { 0 = k }) (notice_for n)) (take count m.notices) ++ sweep ∷ [])
        → outcome.frames ≡ 0 → outcome.played ≡ [] → outcome.stopped ≡ None → Plays core after mixers w (Collect k count) outcome
    collects after mixers count outcome few e mixed caused counted bytes stopped = record {
      admitted = ap (λ o. collect_refusal o count) here ∙ enough count (length m.notices) few;
      core = e ∙ ap (λ o. stepped_by Stream.spec core (map (λ (n : Notice Stream). notice (record { 0 = k }) (notice_for n)) (take count (notices_of o)) ++ sweep ∷ [])) (sym here);
      mixed = mixed ∙ ap (λ l. change_at l k (slice_get l k) (λ x. mixer_collected x count)) (sym same_mixers);
      caused = caused ∙ ap (λ o. effects_by Stream.spec core (map (λ (n : Notice Stream). notice (record { 0 = k }) (notice_for n)) (take count (notices_of o)) ++ sweep ∷ [])) (sym here);
      counted = counted;
      bytes = bytes;
      stopped = stopped;
    }

    pub plays : (after : State Stream) (mixers : List Mixer) (frames count : ℕ) (outcome : Outcome)
        → turn_refusal (Some m) frames count (length (waiting_for core (record { 0 = k }))) ≡ None
        → after ≡ stepped_by Stream.spec core (replicate count (out (record { 0 = k })) ++ sweep ∷ [])
        → mixers ≡ change_at ms k (slice_get ms k) (λ x. mixer_turned x frames (map (message_of (λ p. p)) (take count (waiting_for core (record { 0 = k })))))
        → outcome.effects ≡ effects_by Stream.spec core (replicate count (out (record { 0 = k })) ++ sweep ∷ [])
        → outcome.frames ≡ length (played_of (Some m) frames) → outcome.played ≡ concat (played_of (Some m) frames)
        → outcome.stopped ≡ stopped_of (Some m) (map (message_of (λ p. p)) (take count (waiting_for core (record { 0 = k }))))
        → Plays core after mixers w (Turn k frames count) outcome
    plays after mixers frames count outcome goes e mixed caused counted bytes stopped = record {
      admitted = turn-refusal frames count ∙ goes;
      core = e;
      mixed = mixed
          ∙ ap (λ l. change_at l k (slice_get l k) (λ x. mixer_turned x frames (map (message_of (λ p. p)) (take count (waiting_for core (record { 0 = k })))))) (sym same_mixers)
          ∙ ap (λ s. change_at w.mixers k (slice_get w.mixers k) (λ x. mixer_turned x frames (map (message_of (λ p. p)) (take count (waiting_for s (record { 0 = k })))))) (sym same_core);
      caused = caused;
      counted = counted ∙ ap (λ o. length (played_of o frames)) (sym here);
      bytes = bytes ∙ ap (λ o. concat (played_of o frames)) (sym here);
      stopped = stopped
          ∙ ap (λ s. stopped_of (Some m) (map (message_of (λ p. p)) (take count (waiting_for s (record { 0 = k }))))) (sym same_core)
          ∙ ap (λ o. stopped_of o (map (message_of (λ p. p)) (take count (waiting_for w.core (record { 0 = k }))))) (sym here);
    }

-- ---- what is kept

pub notices-are : (sink : SinkId) (ns : List (Notice Stream)) → AllByRecursion IsStep (map (λ (n : Notice Stream). notice sink (notice_for n)) ns ++ sweep ∷ [])
notices-are sink [] = (tt, tt)
notices-are sink (n ∷ ns) = (tt, notices-are sink ns)

pub notices-take : (sink : SinkId) (ns : List (Notice Stream)) → AllByRecursion GivesStream ns → AllByRecursion (Takes HasStream) (map (λ (n : Notice Stream). notice sink (notice_for n)) ns ++ sweep ∷ [])
notices-take sink [] h = (tt, tt)
notices-take sink (n ∷ ns) h = (h.0, notices-take sink ns h.1)

pub notices-spare : (other sink : SinkId) (ns : List (Notice Stream)) → AllByRecursion (Spares other) (map (λ (n : Notice Stream). notice sink (notice_for n)) ns ++ sweep ∷ [])
notices-spare other sink [] = (tt, tt)
notices-spare other sink (n ∷ ns) = (tt, notices-spare other sink ns)

pub sink-there : {A : Type 0} (xs : List A) (k : ℕ) → k < length xs → (x : A) × (slice_get xs k ≡ Some x)
sink-there [] k h = absurd (omega (arith, h))
sink-there (x ∷ xs) zero h = (x, refl)
sink-there (x ∷ xs) (suc k) h = sink-there xs k (omega (arith, h))

module _ {X : Type 0} (v : X → Mixer) (xs : List X) (k : ℕ) (d : X) (within : k < length xs) (core : State Stream) (h : AreConsistent core (map v xs)) where
  pub sink-consistent : IsSink (v (get_or xs k d)).sink
  sink-consistent =
      let sinks = sink-there core.sinks k (omega (arith, within, h.count, length-map xs v)) in
      (h.each k sinks.0 (v (get_or xs k d)) sinks.1 (seen-at v xs k d within)).consistent

  -- the messages of a turn are for its sink
  pub turn-for : (count : ℕ) → AreFor (v (get_or xs k d)).sink (map (message_of (λ p. p)) (take count (waiting_for core (record { 0 = k }))))
  turn-for count =
      let sinks = sink-there core.sinks k (omega (arith, within, h.count, length-map xs v)) in
      turn-messages core (map v xs) k sinks.0 (v (get_or xs k d)) count h sinks.1 (seen-at v xs k d within)

  given-up : AllByRecursion GivesStream (v (get_or xs k d)).notices
  given-up =
      let sinks = sink-there core.sinks k (omega (arith, within, h.count, length-map xs v)) in
      (h.each k sinks.0 (v (get_or xs k d)) sinks.1 (seen-at v xs k d within)).gives

  pub collected-consistent : (after : State Stream) (sink : SinkId) (count : ℕ) (next : X) → (v next).sink ≡ (v (get_or xs k d)).sink → (v next).notices ≡ drop count (v (get_or xs k d)).notices
      → after ≡ stepped_by Stream.spec core (map (λ (n : Notice Stream). notice sink (notice_for n)) (take count (v (get_or xs k d)).notices) ++ sweep ∷ []) → AreConsistent after (map v (set xs k next))
  collected-consistent after sink count next same left e =
      let ns : List (Notice Stream) = take count (v (get_or xs k d)).notices in
      let steps : AreConsistent after (map v xs) =
      subst (λ t. AreConsistent t (map v xs)) (sym e)
      (consistent-steps core (map v xs) (map (λ (n : Notice Stream). notice sink (notice_for n)) ns ++ sweep ∷ []) h (notices-are sink ns) (notices-take sink ns (take_gives count (v (get_or xs k d)).notices given-up)) (λ other. notices-spare other sink ns)) in
      subst (AreConsistent after) (sym (map-set v xs k next))
      (consistent-notices after (map v xs) k (v (get_or xs k d)) (v next) steps (seen-at v xs k d within) same
      (λ given. subst (AllByRecursion GivesStream) (sym left) (drop_gives count (v (get_or xs k d)).notices given)))

  pub turned-consistent : (after : State Stream) (frames count : ℕ) (next : X) → frames ≤ (v (get_or xs k d)).sink.filled - (v (get_or xs k d)).sink.consumed
      → v next ≡ mixer_turned (v (get_or xs k d)) frames (map (message_of (λ p. p)) (take count (waiting_for core (record { 0 = k }))))
      → after ≡ stepped_by Stream.spec core (replicate count (out (record { 0 = k })) ++ sweep ∷ []) → AreConsistent after (map v (set xs k next))
  turned-consistent after frames count next few turned e =
      let sinks = sink-there core.sinks k (omega (arith, within, h.count, length-map xs v)) in
      subst (AreConsistent after) (sym (map-set v xs k next ∙ ap (set (map v xs) k) turned))
      (subst (λ t. AreConsistent t (set (map v xs) k (mixer_turned (v (get_or xs k d)) frames (map (message_of (λ p. p)) (take count (waiting_for core (record { 0 = k }))))))) (sym e)
      (consistent-turn core (map v xs) k sinks.0 (v (get_or xs k d)) frames count h sinks.1 (seen-at v xs k d within) few))

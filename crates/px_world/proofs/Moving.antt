-- Whatever is done to a world, the stream of an input goes on where its last stretch ended, at one place at most.
use Rattle.std.proofs.Common.{◌≡◌, ℕ, ◌+◌, ◌≤◌, arith, List, [], ◌∷◌, ◌++◌, map, take, set, Option, Some, true, refl, ap, sym, subst}
use Rattle.std.specs.Prelude.{flat_map}
use Rattle.std.specs.List.{AllByRecursion, slice_get}
use Rattle.std.proofs.lemmas.Bool.{cond_both}
use Rattle.px_types.specs.declared.ids.SinkId.{SinkId}
use Rattle.px_model.specs.Notice.{Notice}
use Rattle.px_model.specs.Stream.{Stream}
use Rattle.px_model.specs.Track.{Stretch}
use Rattle.px_msg.specs.View.{notice_for}
use Rattle.px_state.specs.State.{State}
use Rattle.px_core.specs.Consistency.{IsConsistent, IsStep, Spares}
use Rattle.px_core.specs.Parcels.{Brought, given_by, given_in, Takes}
use Rattle.px_core.specs.Step.{Step, sweep, notice, stepped_by}
use Rattle.px_core.proofs.ParcelLaws.{AreWhole, steps_carry}
use Rattle.px_world.specs.World.{Mixer}
use Rattle.px_world.specs.Event.{mixer_collected, set_to_fail}
use Rattle.px_world.specs.Consistency.{HasStream, GivesStream, AreConsistent}
use Rattle.px_world.specs.Whereabouts.{MovesReady, times, given_up, places_at, places, IsReadyAt, Stands}
use Rattle.px_world.proofs.Beginning.{fail-notices}
use Rattle.px_world.proofs.Consistent.{consistent-steps, consistent-notices}
use Rattle.px_world.proofs.Giving.{take_gives, drop_gives}
use Rattle.px_world.proofs.Sounding.{notices-are, notices-take, notices-spare}
use Rattle.px_world.proofs.Histories.{fail-sink}
use Rattle.px_world.proofs.Bodies.{IsPlain, ArePlain}
use Rattle.px_world.proofs.Coming.{steps-within}
use Rattle.px_world.proofs.Places.{set-all, get-all, all-left, all-right, there-below, there-at, places-set, collected-places, collected-gives, collected-ready}
use Rattle.px_world.proofs.Resuming.{times-join}

-- ---- steps that hand nothing out

-- what the core carries is ready, and so is an input that isn't made yet
pub whole-of : (core : State Stream) (mixers : List Mixer) (i : ℕ) (last : Option Stretch) → Stands core mixers i last → AreWhole (MovesReady i last) core
whole-of core mixers i last h = record { carry = h.queued; unborn = λ j l same. h.fresh (omega (arith, l, same)) }

-- what the mixers give up goes to the core
pub stands-steps : (core : State Stream) (mixers later : List Mixer) (steps : List (Step Stream)) (i : ℕ) (last : Option Stretch) → IsConsistent Stream.spec core → AllByRecursion IsStep steps → AllByRecursion (Takes (MovesReady i last)) steps
    → times i (flat_map given_in steps) + places i later ≤ places i mixers → AllByRecursion (IsReadyAt i last) later → Stands core mixers i last → Stands (stepped_by Stream.spec core steps) later i last
stands-steps core mixers later steps i last consistent is takes fewer each h =
    let on : AreWhole (MovesReady i last) (stepped_by Stream.spec core steps) = steps_carry (MovesReady i last) Stream.spec steps core is takes consistent (whole-of core mixers i last h) in
    record {
      once = omega (arith, steps-within i core steps is consistent, fewer, h.once);
      fresh = λ l. on.unborn i l refl;
      queued = on.carry;
      each = each;
    }

pub plain-are : (steps : List (Step Stream)) → ArePlain steps → AllByRecursion IsStep steps
plain-are [] h = tt
plain-are (s ∷ steps) h = (IsPlain.is h.0, plain-are steps h.1)

plain-spare : (sink : SinkId) (steps : List (Step Stream)) → ArePlain steps → AllByRecursion (Spares sink) steps
plain-spare sink [] h = tt
plain-spare sink (s ∷ steps) h = (IsPlain.spares h.0 sink, plain-spare sink steps h.1)

plain-take : (whole : Brought Stream → Type 0) (steps : List (Step Stream)) → ArePlain steps → AllByRecursion (Takes whole) steps
plain-take whole [] h = tt
plain-take whole (s ∷ steps) h = (subst (AllByRecursion whole) (sym (IsPlain.gives h.0)) tt, plain-take whole steps h.1)

plain-none : (i : ℕ) (steps : List (Step Stream)) → ArePlain steps → times i (flat_map given_in steps) ≡ 0
plain-none i [] h = refl
plain-none i (s ∷ steps) h =
    let none : times i (given_in s) ≡ 0 = ap (times i) (IsPlain.gives h.0) in
    omega (arith, times-join i (given_in s) (flat_map given_in steps), none, plain-none i steps h.1)

-- a core and its mixers, consistent, with the stream of the input where it can go on
pub record Holds (core : State Stream) (mixers : List Mixer) (i : ℕ) (last : Option Stretch) : Type 0 where
  pub consistent : AreConsistent core mixers
  pub stands : Stands core mixers i last

pub plain-holds : (core : State Stream) (mixers : List Mixer) (steps : List (Step Stream)) (i : ℕ) (last : Option Stretch) → ArePlain steps → Holds core mixers i last → Holds (stepped_by Stream.spec core steps) mixers i last
plain-holds core mixers steps i last plain h = record {
  consistent = consistent-steps core mixers steps h.consistent (plain-are steps plain) (plain-take HasStream steps plain) (λ sink. plain-spare sink steps plain);
  stands = stands-steps core mixers mixers steps i last h.consistent.core_consistent (plain-are steps plain) (plain-take (MovesReady i last) steps plain)
      (omega (arith, plain-none i steps plain)) h.stands.each h.stands;
}

-- ---- notices are collected

collecting-given : (sink : SinkId) (ns : List (Notice Stream)) → flat_map given_in (map (λ (n : Notice Stream). notice sink (notice_for n)) ns ++ sweep ∷ []) ≡ given_up ns
collecting-given sink [] = refl
collecting-given sink (n ∷ ns) = ap (λ l. given_by (notice_for n) ++ l) (collecting-given sink ns)

collecting-takes : (whole : Brought Stream → Type 0) (sink : SinkId) (ns : List (Notice Stream)) → AllByRecursion whole (given_up ns) → AllByRecursion (Takes whole) (map (λ (n : Notice Stream). notice sink (notice_for n)) ns ++ sweep ∷ [])
collecting-takes whole sink [] h = (tt, tt)
collecting-takes whole sink (n ∷ ns) h =
    (all-left whole (given_by (notice_for n)) (given_up ns) h, collecting-takes whole sink ns (all-right whole (given_by (notice_for n)) (given_up ns) h))

module _ (core : State Stream) (mixers : List Mixer) (k n i : ℕ) (last : Option Stretch) (m : Mixer) (there : slice_get mixers k ≡ Some m) (h : Holds core mixers i last) where
  abbrev taken : List (Notice Stream)
  taken = take n m.notices

  abbrev collects : List (Step Stream)
  collects = map (λ (x : Notice Stream). notice (record { 0 = k }) (notice_for x)) taken ++ sweep ∷ []

  ready : IsReadyAt i last m
  ready = get-all (IsReadyAt i last) mixers k m there h.stands.each

  gives-streams : AllByRecursion GivesStream m.notices
  gives-streams =
      let s = there-at core.sinks k (omega (arith, h.consistent.count, there-below mixers k m there)) in
      (h.consistent.each k s.0 m s.1 there).gives

  pub collect-holds : Holds (stepped_by Stream.spec core collects) (set mixers k (mixer_collected m n)) i last
  collect-holds = record {
    consistent = consistent-notices (stepped_by Stream.spec core collects) mixers k m (mixer_collected m n)
        (consistent-steps core mixers collects h.consistent (notices-are (record { 0 = k }) taken) (notices-take (record { 0 = k }) taken (take_gives n m.notices gives-streams)) (λ other. notices-spare other (record { 0 = k }) taken))
        there refl (λ given. drop_gives n m.notices given);
    stands = stands-steps core mixers (set mixers k (mixer_collected m n)) collects i last h.consistent.core_consistent (notices-are (record { 0 = k }) taken)
        (collecting-takes (MovesReady i last) (record { 0 = k }) taken (collected-gives i n last m ready))
        (omega (arith, ap (times i) (collecting-given (record { 0 = k }) taken), places-set i mixers k m (mixer_collected m n) there, collected-places i n m))
        (set-all (IsReadyAt i last) mixers k (mixer_collected m n) h.stands.each (collected-ready i n last m ready)) h.stands;
  }

-- ---- a sink is made to fail

module _ (core : State Stream) (mixers : List Mixer) (k i : ℕ) (last : Option Stretch) (m : Mixer) (there : slice_get mixers k ≡ Some m) (h : Holds core mixers i last) where
  fail-places : places_at i (set_to_fail m) ≡ places_at i m
  fail-places = cond_both m.sink.stopped m (record m { failing = true }) (λ x. places_at i x ≡ places_at i m) (λ e. refl) (λ e. refl)

  fail-ready : IsReadyAt i last m → IsReadyAt i last (set_to_fail m)
  fail-ready r = cond_both m.sink.stopped m (record m { failing = true }) (IsReadyAt i last) (λ e. r) (λ e. record { stays = r.stays; gives = r.gives })

  pub fail-holds : Holds core (set mixers k (set_to_fail m)) i last
  fail-holds = record {
    consistent = consistent-notices core mixers k m (set_to_fail m) h.consistent there (fail-sink m) (λ given. subst (AllByRecursion GivesStream) (sym (fail-notices m)) given);
    stands = record {
      once = omega (arith, h.stands.once, places-set i mixers k m (set_to_fail m) there, fail-places);
      fresh = h.stands.fresh;
      queued = h.stands.queued;
      each = set-all (IsReadyAt i last) mixers k (set_to_fail m) h.stands.each (fail-ready (get-all (IsReadyAt i last) mixers k m there h.stands.each));
    };
  }

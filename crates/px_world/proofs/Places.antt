-- The places where the stream of an input is, over the mixers of a world: how many they are, and that it stands ready at each.
use Rattle.std.proofs.Common.{◌≡◌, ℕ, zero, suc, ◌+◌, ◌<◌, ◌≤◌, arith, List, [], ◌∷◌, ◌++◌, length, take, drop, Option, None, Some, cond, refl, ap, sym, subst, ◌∙◌}
use Rattle.std.specs.Prelude.{set, nat_eq, flat_map}
use Rattle.std.specs.List.{AllByRecursion, slice_get}
use Rattle.std.proofs.lemmas.Bool.{eq-eqb}
use Rattle.std.proofs.lemmas.List.{take-append-drop}
use Rattle.std.proofs.lemmas.Option.{none-some, same_Some}
use Rattle.px_model.specs.Notice.{Notice}
use Rattle.px_model.specs.Stream.{Stream}
use Rattle.px_model.specs.Sink.{stream_at}
use Rattle.px_model.specs.Track.{Stretch, presence_of}
use Rattle.px_msg.specs.declared.message.Msg.{Msg}
use Rattle.px_core.specs.Parcels.{Brought, carried_by, Carries}
use Rattle.px_world.specs.World.{Mixer}
use Rattle.px_world.specs.Event.{mixer_collected}
use Rattle.px_world.specs.Whereabouts.{StaysReady, MovesReady, times, carried, coming, given_up, places_at, places, IsReadyAt}
use Rattle.px_world.proofs.Resuming.{times-join, given-join}

-- ---- lists

pub set-all : {A : Type 0} (P : A → Type 0) (xs : List A) (k : ℕ) (y : A) → AllByRecursion P xs → P y → AllByRecursion P (set xs k y)
set-all P [] k y h p = tt
set-all P (x ∷ xs) zero y h p = (p, h.1)
set-all P (x ∷ xs) (suc k) y h p = (h.0, set-all P xs k y h.1 p)

pub get-all : {A : Type 0} (P : A → Type 0) (xs : List A) (k : ℕ) (x : A) → slice_get xs k ≡ Some x → AllByRecursion P xs → P x
get-all P [] k x e h = absurd (none-some x e)
get-all P (y ∷ ys) zero x e h = subst P (same_Some y x e) h.0
get-all P (y ∷ ys) (suc k) x e h = get-all P ys k x e h.1

pub there-below : {A : Type 0} (xs : List A) (k : ℕ) (x : A) → slice_get xs k ≡ Some x → k < length xs
there-below [] k x e = absurd (none-some x e)
there-below (y ∷ ys) zero x e = omega arith
there-below (y ∷ ys) (suc k) x e = omega (arith, there-below ys k x e)

pub there-at : {A : Type 0} (xs : List A) (k : ℕ) → k < length xs → (x : A) × (slice_get xs k ≡ Some x)
there-at [] k h = absurd (omega (arith, h))
there-at (x ∷ xs) zero h = (x, refl)
there-at (x ∷ xs) (suc k) h = there-at xs k (omega (arith, h))

pub all-left : {A : Type 0} (P : A → Type 0) (xs ys : List A) → AllByRecursion P (xs ++ ys) → AllByRecursion P xs
all-left P [] ys h = tt
all-left P (x ∷ xs) ys h = (h.0, all-left P xs ys h.1)

pub all-right : {A : Type 0} (P : A → Type 0) (xs ys : List A) → AllByRecursion P (xs ++ ys) → AllByRecursion P ys
all-right P [] ys h = h
all-right P (x ∷ xs) ys h = all-right P xs ys h.1

-- ---- where the input isn't, what would be there is ready

one-or-more : (i : ℕ) (b : Brought Stream) → b.input ≡ i → ◌≡◌ {A = ℕ} (cond (nat_eq b.input i) 1 0) 1
one-or-more i b e = ap (λ t. cond t 1 0) (eq-eqb b.input i e)

pub none-moves : (i : ℕ) (last : Option Stretch) (brought : List (Brought Stream)) → times i brought ≡ 0 → AllByRecursion (MovesReady i last) brought
none-moves i last [] e = tt
none-moves i last (b ∷ brought) e = (λ same. absurd (omega (arith, e, one-or-more i b same)), none-moves i last brought (omega (arith, e)))

none-carried : (i : ℕ) (last : Option Stretch) (queue : List (Msg Stream)) → times i (carried queue) ≡ 0 → AllByRecursion (Carries (MovesReady i last)) queue
none-carried i last [] e = tt
none-carried i last (m ∷ queue) e =
    let both = times-join i (carried_by m) (carried queue) in
    (none-moves i last (carried_by m) (omega (arith, e, both)), none-carried i last queue (omega (arith, e, both)))

pub none-coming : (i : ℕ) (last : Option Stretch) (posted : List (List (Msg Stream))) → coming i posted ≡ 0 → AllByRecursion (AllByRecursion (Carries (MovesReady i last))) posted
none-coming i last [] e = tt
none-coming i last (queue ∷ posted) e =
    let both = times-join i (carried queue) (flat_map carried posted) in
    (none-carried i last queue (omega (arith, e, both)), none-coming i last posted (omega (arith, e, both)))

absent : (last : Option Stretch) (o : Option Stream) → presence_of o ≡ 0 → StaysReady last o
absent last None e = tt
absent last (Some s) e = absurd (omega (arith, e))

none-ready : (i : ℕ) (last : Option Stretch) (m : Mixer) → places_at i m ≡ 0 → IsReadyAt i last m
none-ready i last m e = record {
  stays = absent last (stream_at i m.sink.inputs) (omega (arith, e));
  gives = none-moves i last (given_up m.notices) (omega (arith, e));
}

none-anywhere : (i : ℕ) (last : Option Stretch) (mixers : List Mixer) → places i mixers ≡ 0 → AllByRecursion (IsReadyAt i last) mixers
none-anywhere i last [] e = tt
none-anywhere i last (m ∷ mixers) e = (none-ready i last m (omega (arith, e)), none-anywhere i last mixers (omega (arith, e)))

pub at-most : (i : ℕ) (mixers : List Mixer) (k : ℕ) (m : Mixer) → slice_get mixers k ≡ Some m → places_at i m ≤ places i mixers
at-most i [] k m there = absurd (none-some m there)
at-most i (x ∷ mixers) zero m there =
    let same : places_at i x ≡ places_at i m = ap (places_at i) (same_Some x m there) in
    omega (arith, same)
at-most i (x ∷ mixers) (suc k) m there = omega (arith, at-most i mixers k m there)

-- it is at one mixer alone
pub only-there : (i : ℕ) (last : Option Stretch) (mixers : List Mixer) (k : ℕ) (m next : Mixer) → slice_get mixers k ≡ Some m → places i mixers ≡ places_at i m → IsReadyAt i last next
    → AllByRecursion (IsReadyAt i last) (set mixers k next)
only-there i last [] k m next there e h = tt
only-there i last (x ∷ mixers) zero m next there e h =
    let same : places_at i x ≡ places_at i m = ap (places_at i) (same_Some x m there) in
    (h, none-anywhere i last mixers (omega (arith, e, same)))
only-there i last (x ∷ mixers) (suc k) m next there e h =
    let within : places_at i m ≤ places i mixers = at-most i mixers k m there in
    (none-ready i last x (omega (arith, e, within)), only-there i last mixers k m next there (omega (arith, e, within)) h)

-- ---- one mixer of the list changes

pub places-set : (i : ℕ) (mixers : List Mixer) (k : ℕ) (m next : Mixer) → slice_get mixers k ≡ Some m → places i (set mixers k next) + places_at i m ≡ places i mixers + places_at i next
places-set i [] k m next there = absurd (none-some m there)
places-set i (x ∷ mixers) zero m next there =
    let same : places_at i x ≡ places_at i m = ap (places_at i) (same_Some x m there) in
    omega (arith, same)
places-set i (x ∷ mixers) (suc k) m next there = omega (arith, places-set i mixers k m next there)

-- ---- some of a mixer's notices are collected

given-cut : (n : ℕ) (notices : List (Notice Stream)) → given_up notices ≡ given_up (take n notices) ++ given_up (drop n notices)
given-cut n notices = ap given_up (sym (take-append-drop n notices)) ∙ given-join (take n notices) (drop n notices)

pub collected-places : (i n : ℕ) (m : Mixer) → times i (given_up (take n m.notices)) + places_at i (mixer_collected m n) ≡ places_at i m
collected-places i n m =
    let cut : times i (given_up m.notices) ≡ times i (given_up (take n m.notices)) + times i (given_up (drop n m.notices)) =
    ap (times i) (given-cut n m.notices) ∙ times-join i (given_up (take n m.notices)) (given_up (drop n m.notices)) in
    omega (arith, cut)

module _ (i n : ℕ) (last : Option Stretch) (m : Mixer) (h : IsReadyAt i last m) where
  all-cut : AllByRecursion (MovesReady i last) (given_up (take n m.notices) ++ given_up (drop n m.notices))
  all-cut = subst (AllByRecursion (MovesReady i last)) (given-cut n m.notices) h.gives

  pub collected-gives : AllByRecursion (MovesReady i last) (given_up (take n m.notices))
  collected-gives = all-left (MovesReady i last) (given_up (take n m.notices)) (given_up (drop n m.notices)) all-cut

  pub collected-ready : IsReadyAt i last (mixer_collected m n)
  collected-ready = record { stays = h.stays; gives = all-right (MovesReady i last) (given_up (take n m.notices)) (given_up (drop n m.notices)) all-cut }

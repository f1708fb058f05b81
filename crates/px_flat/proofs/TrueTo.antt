-- Where the real volume leaves or lowers sound, the ratios to it give the members' volumes again.
use Rattle.std.proofs.Common.{◌≡◌, ◌==◌, ℕ, zero, suc, ◌<◌, ◌≤◌, max, Bool, true, false, inl, inr, List, [], ◌∷◌, map, length, refl, ap, sym, ◌∙◌, subst, arith, nat_eq}
use Rattle.std.specs.Prelude.{if◌then◌else◌, ◌||◌}
use Rattle.std.specs.List.{fold, AllByRecursion}
use Rattle.std.proofs.lemmas.Bool.{cases_Bool, eqb-true, eq-eqb}
use Rattle.px_vol.specs.Volume.{norm, product_of, quotient_of}
use Rattle.px_flat.specs.declared.member.Member.{Member}
use Rattle.px_flat.specs.Channels.{at, per_channel, greatest_of, value_for, values_for, ratio_after, ratios_after}
use Rattle.px_flat.specs.Member.{IsMember, volume_at, with_mute, to_reference, to_real}
use Rattle.px_flat.specs.FlatVolume.{change_first, real_at, real_over, followed_over, raised_over, settled_over}
use Rattle.px_flat.specs.Keeps.{IsTrueTo, IsGroup}
use Rattle.px_flat.proofs.ByChannel.{at-per_channel, length_per_channel, same_default}
use Rattle.px_flat.proofs.Preserved.{all_map, all_change, to_real_keeps, to_reference_keeps, length_real, length_raised}

-- that a volume is given again by its quotient to one that is no less, and at most NORM
abbrev pub IsUndone : Type 0
IsUndone = (a b : ℕ) → a ≤ b → b ≤ norm → product_of (quotient_of a b) b ≡ a

-- ---- greatest numbers

fold_least : (a : ℕ) (numbers : List ℕ) → a ≤ fold max a numbers
fold_least a [] = omega arith
fold_least a (n ∷ numbers) = let more = fold_least (max a n) numbers in omega arith

at_fold : (a : ℕ) (numbers : List ℕ) (k : ℕ) → k < length numbers → at numbers k ≤ fold max a numbers
at_fold a [] k below = absurd (omega arith)
at_fold a (n ∷ numbers) zero below = let more = fold_least (max a n) numbers in omega arith
at_fold a (n ∷ numbers) (suc k) below = at_fold (max a n) numbers k (omega arith)

-- a sink's channel is heard by the stream's channel that feeds it
heard_at : (feed volumes : List ℕ) (channel s : ℕ) → s < length feed → at feed s ≡ channel → at volumes s ≤ value_for feed volumes channel
heard_at feed volumes channel s below same =
    let heard : ℕ → ℕ = λ s. if at feed s == channel then at volumes s else 0 in
    let long : s < length (per_channel (length feed) heard) = subst (λ (n : ℕ). s < n) (sym (length_per_channel heard (length feed))) below in
    let is : heard s ≡ at volumes s = rw (eq-eqb (at feed s) channel same) refl in
    subst (λ (n : ℕ). n ≤ value_for feed volumes channel) (at-per_channel heard (length feed) s below ∙ is)
    (at_fold 0 (per_channel (length feed) heard) s long)

-- each member's volume is at most the real volume
within : (so_far : ℕ → ℕ) (ms : List Member)
    → AllByRecursion (λ (m : Member). (s : ℕ) → volume_at s m ≤ fold max (so_far s) (map (volume_at s) ms)) ms
within so_far [] = tt
within so_far (m ∷ ms) = (
  λ s. let more = fold_least (max (so_far s) (volume_at s m)) (map (volume_at s) ms) in omega arith,
  within (λ s. max (so_far s) (volume_at s m)) ms,
)

-- ---- ratios

product_of-zero : (r : ℕ) → product_of r 0 ≡ 0
product_of-zero r = omega arith

exact_where : (ratio volume base : ℕ) (none same : Bool) → nat_eq base 0 ≡ none → nat_eq (product_of ratio base) volume ≡ same
    → IsUndone → volume ≤ base → base ≤ norm → product_of (if none || same then ratio else quotient_of volume base) base ≡ volume
exact_where ratio volume base true same none_is same_is undone less small =
    let zero_base : base ≡ 0 = eqb-true base 0 none_is in
    ap (product_of ratio) zero_base ∙ product_of-zero ratio ∙ omega arith
exact_where ratio volume base false true none_is same_is undone less small = eqb-true (product_of ratio base) volume same_is
exact_where ratio volume base false false none_is same_is undone less small = undone volume base less small

exact : IsUndone → (ratio volume base : ℕ) → volume ≤ base → base ≤ norm → product_of (ratio_after ratio volume base) base ≡ volume
exact undone ratio volume base less small =
    exact_where ratio volume base (nat_eq base 0) (nat_eq (product_of ratio base) volume) refl refl undone less small

true_after : IsUndone → (real : List ℕ) (m : Member) → IsMember (length real) m
    → ((s : ℕ) → s < length real → volume_at s m ≤ at real s) → IsTrueTo real (to_real real m)
true_after undone real m k bound c below small =
    let values = values_for m.feed real (length m.volume) in
    let ratio : at (ratios_after m.ratios.real m.volume (values_for m.feed real (length m.volume))) c
    ≡ ratio_after (at m.ratios.real c) (at m.volume c) (at (values_for m.feed real (length m.volume)) c) =
    at-per_channel (λ (c : ℕ). ratio_after (at m.ratios.real c) (at m.volume c) (at (values_for m.feed real (length m.volume)) c))
    (length m.ratios.real) c (subst (λ (n : ℕ). c < n) (sym k.ratios.real) below) in
    let value : at (values_for m.feed real (length m.volume)) c ≡ value_for m.feed real c =
    at-per_channel (value_for m.feed real) (length m.volume) c below in
    let place = k.feeds.none_left c below in
    let fed : at m.feed place.0 ≡ c = same_default m.feed place.0 0 c place.1 ∙ place.2 in
    let inside : place.0 < length real = subst (λ (n : ℕ). place.0 < n) k.feeds.places place.1 in
    let louder = heard_at m.feed real c place.0 place.1 fed in
    let least : at m.volume c ≤ at real place.0 = subst (λ (s : ℕ). at m.volume s ≤ at real place.0) fed (bound place.0 inside) in
    ap (λ (r : ℕ). product_of r (value_for m.feed real c))
    (ratio ∙ ap (λ (v : ℕ). ratio_after (at m.ratios.real c) (at m.volume c) v) value)
    ∙ exact undone (at m.ratios.real c) (at m.volume c) (value_for m.feed real c) (omega (arith, louder, least)) small

-- ---- the real volume looks at volumes alone

pub real_same : (reference : List ℕ) (xs ys : List Member) → length xs ≡ length ys
    → ((s : ℕ) → map (volume_at s) xs ≡ map (volume_at s) ys) → real_over reference xs ≡ real_over reference ys
real_same reference [] [] long same = refl
real_same reference [] (y ∷ ys) long same = absurd (omega arith)
real_same reference (x ∷ xs) [] long same = absurd (omega arith)
real_same reference (x ∷ xs) (y ∷ ys) long same =
    λ i. per_channel (length reference) (λ s. greatest_of (same s i))

length-mapped : (f : Member → Member) (ms : List Member) → length (map f ms) ≡ length ms
length-mapped f [] = refl
length-mapped f (m ∷ ms) = ap suc (length-mapped f ms)

volumes_same : (s : ℕ) (real : List ℕ) (ms : List Member) → map (volume_at s) (map (to_real real) ms) ≡ map (volume_at s) ms
volumes_same s real [] = refl
volumes_same s real (m ∷ ms) = ap (λ (vs : List ℕ). volume_at s m ∷ vs) (volumes_same s real ms)

-- ---- groups

both : (P Q R : Member → Type 0) → ((m : Member) → P m → Q m → R m) → (ms : List Member) → AllByRecursion P ms → AllByRecursion Q ms
    → AllByRecursion R ms
both P Q R joined [] ps qs = tt
both P Q R joined (m ∷ ms) ps qs = (joined m ps.0 qs.0, both P Q R joined ms ps.1 qs.1)

mapped : (P : Member → Type 0) (f : Member → Member) (ms : List Member) → AllByRecursion (λ (m : Member). P (f m)) ms → AllByRecursion P (map f ms)
mapped P f [] all = tt
mapped P f (m ∷ ms) all = (all.0, mapped P f ms all.1)

-- the real volume has each member's, channel by channel
real_bounds : (reference : List ℕ) (ms : List Member)
    → AllByRecursion (λ (m : Member). (s : ℕ) → s < length (real_over reference ms) → volume_at s m ≤ at (real_over reference ms) s) ms
real_bounds reference [] = tt
real_bounds reference (m ∷ ms) =
    both (λ (x : Member). (s : ℕ) → volume_at s x ≤ real_at (m ∷ ms) s) (λ (x : Member). Unit {0})
    (λ (x : Member). (s : ℕ) → s < length (real_over reference (m ∷ ms)) → volume_at s x ≤ at (real_over reference (m ∷ ms)) s)
    (λ x bound none s below.
    let inside : s < length reference = subst (λ (n : ℕ). s < n) (length_per_channel (real_at (m ∷ ms)) (length reference)) below in
    subst (λ (n : ℕ). volume_at s x ≤ n) (sym (at-per_channel (real_at (m ∷ ms)) (length reference) s inside)) (bound s))
    (m ∷ ms) (within (λ s. 0) (m ∷ ms)) (units (m ∷ ms))
  where
    units : (xs : List Member) → AllByRecursion (λ (x : Member). Unit {0}) xs
    units [] = tt
    units (x ∷ xs) = (tt, units xs)

pub followed_is : IsUndone → (reference : List ℕ) (muted : Bool) (ms : List Member) → AllByRecursion (IsMember (length reference)) ms
    → IsGroup (record { reference = reference; muted = muted; members = followed_over reference ms })
followed_is undone reference muted ms all =
    let real = real_over reference ms in
    let same : real_over reference (followed_over reference ms) ≡ real_over reference ms =
    real_same reference (map (to_real (real_over reference ms)) ms) ms (length-mapped (to_real (real_over reference ms)) ms)
    (λ s. volumes_same s (real_over reference ms) ms) in
    let sized : AllByRecursion (IsMember (length (real_over reference ms))) ms =
    subst (λ (n : ℕ). AllByRecursion (IsMember n) ms) (sym (length_real reference ms)) all in
    record {
      members = all_map (IsMember (length reference)) (IsMember (length reference)) (to_real (real_over reference ms))
          (to_real_keeps (length reference) (real_over reference ms)) ms all;
      true_to = subst (λ (r : List ℕ). AllByRecursion (IsTrueTo r) (followed_over reference ms)) (sym same)
          (mapped (IsTrueTo (real_over reference ms)) (to_real (real_over reference ms)) ms
          (both (IsMember (length (real_over reference ms)))
          (λ (m : Member). (s : ℕ) → s < length (real_over reference ms) → volume_at s m ≤ at (real_over reference ms) s)
          (λ (m : Member). IsTrueTo (real_over reference ms) (to_real (real_over reference ms) m))
          (λ m k bound. true_after undone (real_over reference ms) m k bound) ms sized (real_bounds reference ms)));
    }

pub settled_is : IsUndone → (reference : List ℕ) (muted : Bool) (ms : List Member) → AllByRecursion (IsMember (length reference)) ms
    → IsGroup (record { reference = raised_over reference ms; muted = muted; members = settled_over reference ms })
settled_is undone reference muted ms all =
    let high = raised_over reference ms in
    let sized : AllByRecursion (IsMember (length (raised_over reference ms))) ms =
    subst (λ (n : ℕ). AllByRecursion (IsMember n) ms) (sym (length_raised reference (real_over reference ms))) all in
    followed_is undone (raised_over reference ms) muted (map (to_reference (raised_over reference ms)) ms)
    (all_map (IsMember (length (raised_over reference ms))) (IsMember (length (raised_over reference ms))) (to_reference (raised_over reference ms))
    (to_reference_keeps (length (raised_over reference ms)) (raised_over reference ms)) ms sized)

-- ---- a mute changes no volume

length-changed : (is : Member → Bool) (f : Member → Member) (ms : List Member) → length (change_first is f ms) ≡ length ms
length-changed is f [] = refl
length-changed is f (m ∷ ms) = elim (cases_Bool (is m)) [
  | inl this ↦ rw this refl
  | inr other ↦ rw other (ap suc (length-changed is f ms))
]

muted_same : (s : ℕ) (is : Member → Bool) (on : Bool) (ms : List Member)
    → map (volume_at s) (change_first is (with_mute on) ms) ≡ map (volume_at s) ms
muted_same s is on [] = refl
muted_same s is on (m ∷ ms) = elim (cases_Bool (is m)) [
  | inl this ↦ rw this refl
  | inr other ↦ rw other (ap (λ (vs : List ℕ). volume_at s m ∷ vs) (muted_same s is on ms))
]

pub muted_is : (is : Member → Bool) (on muted : Bool) (reference : List ℕ) (ms : List Member)
    → IsGroup (record { reference = reference; muted = muted; members = ms })
    → IsGroup (record { reference = reference; muted = muted; members = change_first is (with_mute on) ms })
muted_is is on muted reference ms k = record {
  members = all_change (IsMember (length reference)) is (with_mute on)
      (λ m k. record { feeds = k.feeds; ratios = k.ratios }) ms k.members;
  true_to = subst (λ (r : List ℕ). AllByRecursion (IsTrueTo r) (change_first is (with_mute on) ms))
      (sym (real_same reference (change_first is (with_mute on) ms) ms (length-changed is (with_mute on) ms) (λ s. muted_same s is on ms)))
      (all_change (IsTrueTo (real_over reference ms)) is (with_mute on) (λ m exact. exact) ms k.true_to);
}

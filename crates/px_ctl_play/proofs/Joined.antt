-- The volume of a new input, and the feed by which it joins the group of its sink.
use Rattle.std.proofs.Common.{◌≡◌, ◌<◌, ◌≤◌, ◌⊎◌, ◌+◌, ◌-◌, ◌++◌, ℕ, zero, suc, arith, Bool, true, false, List, [], ◌∷◌, length, max, cond, Option, Some, None, Ok, refl, ap, sym, subst, ◌∙◌, inl, inr, append_assoc}
use Rattle.std.specs.Prelude.{All, IfSome, nat_eq, replicate, ◌||◌, unwrap_or}
use Rattle.std.specs.List.{AllByRecursion, find, fold}
use Rattle.std.proofs.lemmas.Bool.{eqb-true}
use Rattle.std.proofs.lemmas.List.{append-nil}
use Rattle.px_types.specs.declared.error_code.ErrorCode.{ErrorCode}
use Rattle.px_chmap.specs.Plan.{FeedsAll}
use Rattle.px_cmd.specs.declared.command.CreateFields.{CreateFields}
use Rattle.px_vol.specs.Volume.{IsChannelVolume, greatest, norm}
use Rattle.px_flat.specs.Channels.{greatest_of}
use Rattle.px_flat.specs.declared.member.Member.{Member}
use Rattle.px_flat.specs.declared.member.How.TheVariants.{Absolute, Relative}
use Rattle.px_flat.specs.Member.{channels_of, IsMember, SuitsHow}
use Rattle.px_flat.specs.FlatVolume.{FlatGroup}
use Rattle.px_flat.proofs.Inputs.{feeds_count}
use Rattle.px_outcome.specs.declared.target.Named.{Named}
use Rattle.px_outcome.specs.declared.target.Named.TheVariants.{Unclear, Unknown, Sink}
use Rattle.px_outcome.specs.declared.target.Target.{Target}
use Rattle.px_outcome.specs.Handled.{check, present}
use Rattle.px_outcome.specs.Target.{IsTarget, target_of}
use Rattle.px_ctl_play.specs.Asked.{channels_on, positions_on}
use Rattle.px_ctl_play.specs.Joining.{volume_on, leaves_volume, given_on, how_on, IsReady, IsReadyAt}

-- the greatest of some volumes is one
fold_bounded : (a : ℕ) (xs : List ℕ) → a ≤ greatest → All (λ v. v ≤ greatest) xs → fold max a xs ≤ greatest
fold_bounded a [] l all = l
fold_bounded a (x ∷ xs) l all =
    let first = all 0 0 (omega arith) in
    fold_bounded (max a x) xs (omega (arith, l, first)) (λ k d below. all (suc k) d (omega (arith, below)))

pub one_volume : (volumes : List ℕ) → IsChannelVolume volumes → IsChannelVolume (greatest_of volumes ∷ [])
one_volume volumes is = record {
  some = omega arith;
  few = omega arith;
  bounded = one (greatest_of volumes) (fold_bounded 0 volumes (omega arith) is.bounded);
}
  where
    one : (v : ℕ) → v ≤ greatest → All (λ x. x ≤ greatest) (v ∷ [])
    one v l zero d below = l
    one v l (suc k) d below = absurd (omega (arith, below))

-- volumes of all channels, or one for all of them
pub are_volumes : (channels : ℕ) (volumes : List ℕ) → 1 ≤ channels → channels ≤ 32 → (length volumes ≡ 1) ⊎ (length volumes ≡ channels) → All (λ v. v ≤ greatest) volumes → IsChannelVolume volumes
are_volumes channels volumes some few (inl e) bounded = record { some = omega (arith, e); few = omega (arith, e); bounded = bounded }
are_volumes channels volumes some few (inr e) bounded = record { some = omega (arith, e, some); few = omega (arith, e, few); bounded = bounded }

-- the volume that it has on its sink is one for all its channels, or one each
pub suits : (sink : Target) (a : CreateFields) (n : ℕ) → n ≡ channels_on sink a → (length (volume_on sink a) ≡ 1) ⊎ (length (volume_on sink a) ≡ n)
suits sink a n e = by (nat_eq (length a.volume) 1) (nat_eq (length a.volume) (channels_on sink a)) refl refl
  where
    by : (b c : Bool) → nat_eq (length a.volume) 1 ≡ b → nat_eq (length a.volume) (channels_on sink a) ≡ c
        → (length (cond (b || c) a.volume (greatest_of a.volume ∷ [])) ≡ 1) ⊎ (length (cond (b || c) a.volume (greatest_of a.volume ∷ [])) ≡ n)
    by true c f g = inl (eqb-true (length a.volume) 1 f)
    by false true f g = inr (eqb-true (length a.volume) (channels_on sink a) g ∙ sym e)
    by false false f g = inl refl

-- and so is the volume given to its group
pub given_suits : (sink : Target) (a : CreateFields) (n : ℕ) → n ≡ channels_on sink a → (length (given_on sink a) ≡ 1) ⊎ (length (given_on sink a) ≡ n)
given_suits sink a n e = by (leaves_volume a)
  where
    by : (left : Bool) → (length (cond left (norm ∷ []) (volume_on sink a)) ≡ 1) ⊎ (length (cond left (norm ∷ []) (volume_on sink a)) ≡ n)
    by true = inl refl
    by false = suits sink a n e

-- a new input brings no ratios
pub brings_none : (a : CreateFields) (n : ℕ) → SuitsHow (how_on a) n
brings_none a n = by (leaves_volume a) (unwrap_or a.relative_volume false)
  where
    by : (left relative : Bool) → SuitsHow (cond left Relative (cond relative Relative Absolute)) n
    by true relative = tt
    by false true = tt
    by false false = tt

-- what was checked holds
pub check_passed : (b : Bool) (code : ErrorCode) (u : Unit {0}) → check b code ≡ Ok u → b ≡ true
check_passed true code u e = refl
check_passed false code u e = absurd cc

-- the feed that was found is one for the channels that the input has on its sink
pub fed : (sink : Target) (a : CreateFields) (o : Option (List ℕ)) (code : ErrorCode) (feed : List ℕ) → IsTarget sink → a.spec.channels ≡ length a.map → IfSome o (FeedsAll (length (positions_on sink a)) (length sink.map)) → present o code ≡ Ok feed
    → FeedsAll (channels_on sink a) sink.spec.channels feed
fed sink a None code feed target count feeds found = absurd cc
fed sink a (Some other) code feed target count feeds found =
    let is : other ≡ feed = cc in
    subst (λ n. FeedsAll n sink.spec.channels feed) (same a.fix_channels)
    (subst (λ n. FeedsAll (length (positions_on sink a)) n feed) target.map_size
    (subst (FeedsAll (length (positions_on sink a)) (length sink.map)) is feeds))
  where
    same : (fix : Bool) → length (cond fix sink.map a.map) ≡ cond fix sink.spec.channels a.spec.channels
    same true = target.map_size
    same false = sym count

-- the group of the sink that was found can take the new input
pub is_ready : (named : Named) (code : ErrorCode) (sink : Target) (made : ℕ) (group : FlatGroup) → IsReadyAt named made (Some group) → present (target_of named) code ≡ Ok sink → IsReady sink made group
is_ready Unclear code sink made group h e = absurd cc
is_ready Unknown code sink made group h e = absurd cc
is_ready (Sink target) code sink made group h e =
    let same : target ≡ sink = cc in
    subst (λ (t : Target). IsReady t made group) same h

-- ---- an input that comes from another sink

-- what is found is one of them
pub found_is : {A : Type 0} (Q : A → Type 0) (q : A → Bool) (xs : List A) (y : A) → AllByRecursion Q xs → find q xs ≡ Some y → Q y
found_is Q q [] y h e = absurd cc
found_is Q q (x ∷ xs) y h e = step (found_is Q q xs y h.1) (q x) e
  where
    step : (find q xs ≡ Some y → Q y) → (b : Bool) → cond b (Some x) (find q xs) ≡ Some y → Q y
    step later true f = let same : x ≡ y = cc in subst Q same h.0
    step later false f = later f

-- one more of as many as are left, and none where none is
pub one_more : {A : Type 0} (n i : ℕ) (r : A) (xs more all : List A) → i < n → more ≡ xs ++ r ∷ [] → xs ++ replicate (n - i) r ≡ all → more ++ replicate (n - (i + 1)) r ≡ all
one_more {A} n i r xs more all l pushed before =
    ap (λ (ys : List A). ys ++ replicate (n - (i + 1)) r) pushed
    ∙ append_assoc xs (r ∷ []) (replicate (n - (i + 1)) r)
    ∙ ap (λ (k : ℕ). xs ++ replicate k r) (less n i l)
    ∙ before
  where
    less : (n i : ℕ) → i < n → suc (n - (i + 1)) ≡ n - i
    less n i l = omega (arith, l)

pub no_more : {A : Type 0} (n i : ℕ) (r : A) (xs all : List A) → n ≤ i → xs ++ replicate (n - i) r ≡ all → xs ≡ all
no_more {A} n i r xs all done before =
    sym (append-nil xs) ∙ ap (λ (k : ℕ). xs ++ replicate k r) (none n i done) ∙ before
  where
    none : (n i : ℕ) → n ≤ i → 0 ≡ n - i
    none n i done = omega (arith, done)

-- a member has a volume for each channel that its feed names
pub volume_is : (sinks n : ℕ) (m : Member) → 1 ≤ sinks → IsMember sinks m → channels_of m.feed ≡ n → length m.volume ≡ n
volume_is sinks n m some is named =
    let first = is.feeds.known 0 0 (omega (arith, is.feeds.places, some)) in
    sym (feeds_count (length m.volume) sinks m.feed (omega (arith, first)) is.feeds) ∙ named

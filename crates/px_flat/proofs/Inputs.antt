-- Which inputs a group has after a change.
use Rattle.std.proofs.Common.{◌≡◌, ◌<◌, ◌≤◌, ℕ, zero, suc, arith, max, refl, Bool, true, false, List, [], ◌∷◌, ◌++◌, map, length, get_or, cond, Some, None, ap, sym, ◌∙◌, subst}
use Rattle.std.specs.Prelude.{filter, nat_eq, All, IsSome, ◌||◌, if◌then◌else◌}
use Rattle.std.specs.List.{fold}
use Rattle.std.proofs.lemmas.Bool.{false≢true, eqb-true, eqb-false, eq-eqb, ne_eqb}
use Rattle.std.proofs.lemmas.List.{map-append, length-append}
use Rattle.std.proofs.lemmas.List.Elements.{filter-append}
use Rattle.px_types.specs.declared.ids.InputId.{InputId}
use Rattle.px_chmap.specs.Plan.{FeedsAll}
use Rattle.px_flat.specs.declared.member.Member.{Member}
use Rattle.px_flat.specs.declared.member.How.{How}
use Rattle.px_flat.specs.Member.{is_input, channels_of, to_reference, to_real, coming, factor_at}
use Rattle.px_flat.specs.FlatVolume.{FlatGroup, member_of, without_first, real_over, real_of, followed_over, raised_over, settled_over, attached, detached, factors_of}
use Rattle.px_flat.specs.Inputs.{channels_in}
use Rattle.px_flat.proofs.ByChannel.{length_per_channel}
use Rattle.px_flat.proofs.Preserved.{length_raised, length_real}

abbrev counts : List Member → List ℕ
counts ms = map (λ m. channels_of (Member.feed m)) ms

-- ---- members that change, but not in their input and their feed

pub each_as : (f : Member → Member) → ((m : Member) → (f m).input.0 ≡ m.input.0) → ((m : Member) → (f m).feed ≡ m.feed) → (ms : List Member) (input : InputId)
    → channels_in (map f ms) input ≡ channels_in ms input
each_as f same_input same_feed [] input = refl
each_as f same_input same_feed (m ∷ ms) input = step (each_as f same_input same_feed ms input) (is_input input m) (is_input input (f m)) (ap (λ n. nat_eq n input.0) (same_input m))
  where
    step : channels_in (map f ms) input ≡ channels_in ms input → (b c : Bool) → c ≡ b
        → counts (cond c (f m ∷ filter (is_input input) (map f ms)) (filter (is_input input) (map f ms)))
        ≡ counts (cond b (m ∷ filter (is_input input) ms) (filter (is_input input) ms))
    step rest true true e = λ i. channels_of (same_feed m i) ∷ rest i
    step rest true false e = absurd (false≢true e)
    step rest false true e = absurd (false≢true (sym e))
    step rest false false e = rest

followed_as : (reference : List ℕ) (ms : List Member) (input : InputId) → channels_in (followed_over reference ms) input ≡ channels_in ms input
followed_as reference ms input = each_as (to_real (real_over reference ms)) (λ m. refl) (λ m. refl) ms input

settled_as : (reference : List ℕ) (ms : List Member) (input : InputId) → channels_in (settled_over reference ms) input ≡ channels_in ms input
settled_as reference ms input =
    followed_as (raised_over reference ms) (map (to_reference (raised_over reference ms)) ms) input
    ∙ each_as (to_reference (raised_over reference ms)) (λ m. refl) (λ m. refl) ms input

-- ---- an input comes

pub attached_in : (input : InputId) (given : List ℕ) (how : How) (muted : Bool) (feed : List ℕ) (group : FlatGroup) (other : InputId)
    → channels_in (attached input given how muted feed group).members other ≡ channels_in group.members other ++ cond (nat_eq input.0 other.0) (channels_of feed ∷ []) []
attached_in input given how muted feed group other =
    settled_as group.reference (group.members ++ m ∷ []) other
    ∙ ap (λ ms. counts ms) (filter-append (is_input other) group.members (m ∷ []))
    ∙ map-append (λ n. channels_of (Member.feed n)) (filter (is_input other) group.members) (filter (is_input other) (m ∷ []))
    ∙ ap (λ more. channels_in group.members other ++ more) (own (nat_eq input.0 other.0))
  where
    m : Member
    m = coming input group.reference given how muted feed

    own : (b : Bool) → counts (cond b (m ∷ []) []) ≡ cond b (channels_of feed ∷ []) []
    own true = refl
    own false = refl

-- ---- an input leaves

abbrev pub rest_of : List ℕ → List ℕ
rest_of [] = []
rest_of (n ∷ rest) = rest

without_in : (input : InputId) (ms : List Member) (other : InputId)
    → channels_in (without_first (is_input input) ms) other ≡ cond (nat_eq input.0 other.0) (rest_of (channels_in ms other)) (channels_in ms other)
without_in input [] other = none (nat_eq input.0 other.0)
  where
    none : (b : Bool) → [] ≡ cond b (rest_of []) []
    none true = refl
    none false = refl
without_in input (m ∷ ms) other = step (without_in input ms other) (is_input input m) refl
  where
    first : (c d : Bool) → d ≡ c
        → channels_in ms other ≡ cond c (rest_of (counts (cond d (m ∷ filter (is_input other) ms) (filter (is_input other) ms)))) (counts (cond d (m ∷ filter (is_input other) ms) (filter (is_input other) ms)))
    first true true e = refl
    first true false e = absurd (false≢true e)
    first false true e = absurd (false≢true (sym e))
    first false false e = refl

    later : (c d : Bool) → (d ≡ true → c ≡ false) → channels_in (without_first (is_input input) ms) other ≡ cond c (rest_of (channels_in ms other)) (channels_in ms other)
        → counts (cond d (m ∷ filter (is_input other) (without_first (is_input input) ms)) (filter (is_input other) (without_first (is_input input) ms)))
        ≡ cond c (rest_of (counts (cond d (m ∷ filter (is_input other) ms) (filter (is_input other) ms)))) (counts (cond d (m ∷ filter (is_input other) ms) (filter (is_input other) ms)))
    later c false apart rest = rest
    later true true apart rest = absurd (false≢true (sym (apart refl)))
    later false true apart rest = ap (λ more. channels_of m.feed ∷ more) rest

    step : channels_in (without_first (is_input input) ms) other ≡ cond (nat_eq input.0 other.0) (rest_of (channels_in ms other)) (channels_in ms other)
        → (b : Bool) → is_input input m ≡ b
        → channels_in (cond b ms (m ∷ without_first (is_input input) ms)) other ≡ cond (nat_eq input.0 other.0) (rest_of (channels_in (m ∷ ms) other)) (channels_in (m ∷ ms) other)
    step rest true e = first (nat_eq input.0 other.0) (is_input other m) (ap (λ n. nat_eq n other.0) (eqb-true m.input.0 input.0 e))
    step rest false e =
        later (nat_eq input.0 other.0) (is_input other m)
        (λ own. ne_eqb input.0 other.0 (λ same. eqb-false m.input.0 input.0 e (eqb-true m.input.0 other.0 own ∙ sym same)))
        rest

pub detached_in : (input : InputId) (group : FlatGroup) (other : InputId)
    → channels_in (detached input group).members other ≡ cond (nat_eq input.0 other.0) (rest_of (channels_in group.members other)) (channels_in group.members other)
detached_in input group other =
    followed_as group.reference (without_first (is_input input) group.members) other ∙ without_in input group.members other

-- ---- as many channels as the sink has

pub attached_channels : (input : InputId) (given : List ℕ) (how : How) (muted : Bool) (feed : List ℕ) (group : FlatGroup)
    → length (attached input given how muted feed group).reference ≡ length group.reference
attached_channels input given how muted feed group =
    length_raised group.reference (real_over group.reference (group.members ++ coming input group.reference given how muted feed ∷ []))

pub length_factors : (group : FlatGroup) (m : Member) → length (factors_of group m) ≡ length group.reference
length_factors group m =
    length_per_channel (λ s. if group.muted || m.muted then 0 else factor_at (real_of group) m s) (length (real_of group))
    ∙ length_real group.reference group.members

-- ---- how many channels a feed names

fold_from : (a : ℕ) (xs : List ℕ) → a ≤ fold max a xs
fold_from a [] = omega arith
fold_from a (x ∷ xs) = let more = fold_from (max a x) xs in omega (arith, more)

fold_below : (n a : ℕ) (xs : List ℕ) → a < n → All (λ c. c < n) xs → fold max a xs < n
fold_below n a [] l all = l
fold_below n a (x ∷ xs) l all =
    let first = all 0 0 (omega arith) in
    fold_below n (max a x) xs (omega (arith, l, first)) (λ k d below. all (suc k) d (omega (arith, below)))

fold_has : (a : ℕ) (xs : List ℕ) (k d : ℕ) → k < length xs → get_or xs k d ≤ fold max a xs
fold_has a [] k d l = absurd (omega (arith, l))
fold_has a (x ∷ xs) zero d l = let more = fold_from (max a x) xs in omega (arith, more)
fold_has a (x ∷ xs) (suc k) d l = fold_has (max a x) xs k d (omega (arith, l))

-- one that feeds from each of so many channels names that many
pub feeds_count : (channels sinks : ℕ) (feed : List ℕ) → 0 < channels → FeedsAll channels sinks feed → channels_of feed ≡ channels
feeds_count zero sinks feed some feeds = absurd (omega (arith, some))
feeds_count (suc n) sinks feed some feeds =
    let below = fold_below (suc n) 0 feed (omega arith) feeds.known in
    let last = feeds.none_left n (omega arith) in
    let has = fold_has 0 feed last.0 n last.1 in
    omega (arith, below, subst (λ c. c ≤ fold max 0 feed) last.2 has)

-- ---- an input that a group has

pub found_in : (ms : List Member) (input : InputId) → 0 < length (channels_in ms input) → IsSome (member_of ms input)
found_in [] input some = absurd (omega (arith, some))
found_in (m ∷ ms) input some = step (found_in ms input) (is_input input m) some
  where
    step : (0 < length (channels_in ms input) → IsSome (member_of ms input)) → (b : Bool)
        → 0 < length (counts (cond b (m ∷ filter (is_input input) ms) (filter (is_input input) ms))) → IsSome (cond b (Some m) (member_of ms input))
    step later true some = refl
    step later false some = later some

pub unfound_in : (ms : List Member) (input : InputId) → channels_in ms input ≡ [] → member_of ms input ≡ None
unfound_in [] input none = refl
unfound_in (m ∷ ms) input none = step (unfound_in ms input) (is_input input m) none
  where
    step : (channels_in ms input ≡ [] → member_of ms input ≡ None) → (b : Bool)
        → counts (cond b (m ∷ filter (is_input input) ms) (filter (is_input input) ms)) ≡ [] → cond b (Some m) (member_of ms input) ≡ None
    step later true none = absurd cc
    step later false none = later none

-- one that came is there
pub attached_there : (input : InputId) (given : List ℕ) (how : How) (muted : Bool) (feed : List ℕ) (group : FlatGroup)
    → IsSome (member_of (attached input given how muted feed group).members input)
attached_there input given how muted feed group =
    found_in (attached input given how muted feed group).members input
    (subst (λ xs. 0 < length xs) (sym (attached_in input given how muted feed group input))
    (subst (λ b. 0 < length (channels_in group.members input ++ cond b (channels_of feed ∷ []) [])) (sym (eq-eqb input.0 input.0 refl))
    (omega (arith, length-append (channels_in group.members input) (channels_of feed ∷ [])))))

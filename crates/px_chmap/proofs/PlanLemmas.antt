-- Every plan feeds each sink channel, and from each stream channel.
use Rattle.std.proofs.Common.{◌≡◌, ℕ, ◌<◌, List, [], ◌∷◌, length, get_or, refl, ap, sym, ◌∙◌, arith, Bool, true, false, not, ◌&&◌, subst, zero, suc, inl, inr, Some, None, add_comm, add-one}
use Rattle.std.proofs.Math.ListN.{replicate}
use Rattle.std.proofs.lemmas.Bool.{and_parts, eqb-true, eq-eqb, ne_eqb, lt-ltb, ltb-true, cases_Bool, both_ways, not-true, false≢true}
use Rattle.std.proofs.lemmas.List.FromFn.{length-range_with_len, get_or-range_with_len}
use Rattle.std.proofs.lemmas.Grind.{same_number_lists}
use Rattle.std.proofs.lemmas.Slice.Eq.{bytes_eq-Decides}
use Rattle.std.specs.declared.option.Option.{Option}
use Rattle.std.proofs.lemmas.List.Folds.{list_any_at}
use Rattle.std.proofs.lemmas.List.Sums.{AllPass-from_list_all}
use Rattle.std.proofs.lemmas.List.{get_or-replicate, length-replicate, length-map, get_or-map}
use Rattle.std.specs.List.{list_all, position_or_len}
use Rattle.std.specs.Prelude.{nat_lt, ◌==◌, bytes_eq, IfSome, if◌then◌else◌}
use Rattle.px_chmap.specs.ChannelMap.{IsChannelMap}
use Rattle.px_chmap.specs.Plan.{has_position, is_distinct, is_rearranged, channel_at, by_index, by_position, plan_of, FeedsAll}

-- as many channels on both sides, each fed by its own
by_index-feeds : (count : ℕ) → FeedsAll count count (by_index count)
by_index-feeds count = record {
  places = length-range_with_len 0 count;
  known = λ k d below.
      let inside : k < count = subst (λ n. k < n) (length-range_with_len 0 count) below in
      let is = get_or-range_with_len 0 count k d inside in omega arith;
  none_left = λ c below. (
    c,
    subst (λ n. c < n) (sym (length-range_with_len 0 count)) below,
    get_or-range_with_len 0 count c c below ∙ omega arith,
  );
}

-- one channel feeds all
to_all-feeds : (count : ℕ) → 0 < count → FeedsAll 1 count (replicate count 0)
to_all-feeds count some = record {
  places = length-replicate count 0;
  known = λ k d below.
      let inside : k < count = subst (λ n. k < n) (length-replicate count 0) below in
      let is = get_or-replicate count k 0 d inside in omega arith;
  none_left = λ c below. (
    0,
    subst (λ n. 0 < n) (sym (length-replicate count 0)) some,
    get_or-replicate count 0 0 c some ∙ omega arith,
  );
}

-- the first place of a position
abbrev first_place : List ℕ → ℕ → ℕ
first_place positions p = position_or_len (λ q. q == p) positions

first_place-below : (positions : List ℕ) (p : ℕ) → has_position positions p ≡ true → first_place positions p < length positions
first_place-below [] p has = absurd (false≢true has)
first_place-below (q ∷ rest) p has =
    elim (cases_Bool (q == p)) [
      | inl hit ↦ rw hit (omega arith)
      | inr miss ↦
          let there : has_position rest p ≡ true = rw miss at has in
          let below = first_place-below rest p there in
          rw miss (omega arith)
    ]

first_place-at : (positions : List ℕ) (p k : ℕ) → is_distinct positions ≡ true → k < length positions →
    get_or positions k 0 ≡ p → first_place positions p ≡ k
first_place-at [] p k distinct below is = absurd (omega arith)
first_place-at (q ∷ rest) p zero distinct below is = rw (eq-eqb q p is) refl
first_place-at (q ∷ rest) p (suc k) distinct below is =
    let parts = and_parts (not (has_position rest q)) (is_distinct rest) distinct in
    let inside : k < length rest = omega arith in
    let other : (q == p) ≡ false = ne_eqb q p (λ same.
    both_ways (has_position rest q) (not-true _ parts.0)
    (list_any_at (λ r. r == q) rest k 0 inside (eq-eqb _ _ (is ∙ sym same)))) in
    let next = first_place-at rest p k parts.1 inside is in
    rw other (omega arith)

first_place-holds : (positions : List ℕ) (p d : ℕ) → has_position positions p ≡ true →
    get_or positions (first_place positions p) d ≡ p
first_place-holds [] p d has = absurd (false≢true has)
first_place-holds (q ∷ rest) p d has =
    elim (cases_Bool (q == p)) [
      | inl hit ↦ rw hit (eqb-true q p hit)
      | inr miss ↦
          let there : has_position rest p ≡ true = rw miss at has in
          rw (miss, add_comm 1 (first_place rest p), add-one) (first_place-holds rest p d there)
    ]

-- where a position is, its channel is at its first place
channel_at-is : (positions : List ℕ) (p : ℕ) → has_position positions p ≡ true → channel_at positions p ≡ first_place positions p
channel_at-is positions p has =
    let inside : nat_lt (first_place positions p) (length positions) ≡ true =
    lt-ltb _ _ (first_place-below positions p has) in
    rw inside refl

-- a channel is one of those that there are
pub channel_at-below : (positions : List ℕ) (p : ℕ) → 0 < length positions → channel_at positions p < length positions
channel_at-below positions p some =
    elim (cases_Bool (nat_lt (first_place positions p) (length positions))) [
      | inl inside ↦ rw inside (ltb-true _ _ inside)
      | inr outside ↦ rw outside some
    ]

-- both maps have the same positions
by_position-feeds : (from to : List ℕ) → is_rearranged from to ≡ true → FeedsAll (length from) (length to) (by_position from to)
by_position-feeds from to rearranged =
    let halves = and_parts (is_distinct from && is_distinct to) (list_all (has_position to) from && list_all (has_position from) to) rearranged in
    let distinct = and_parts (is_distinct from) (is_distinct to) halves.0 in
    let same = and_parts (list_all (has_position to) from) (list_all (has_position from) to) halves.1 in
    let all_fed = AllPass-from_list_all (has_position from) to same.1 in
    let all_feed = AllPass-from_list_all (has_position to) from same.0 in
    record {
      places = length-map to (channel_at from);
      known = λ k d below.
          let inside : k < length to = subst (λ n. k < n) (length-map to (channel_at from)) below in
          let has = all_fed k d inside in
          subst (λ n. n < length from)
          (sym (get_or-map (channel_at from) to k d d inside ∙ channel_at-is from (get_or to k d) has))
          (first_place-below from (get_or to k d) has);
      none_left = λ c below.
          let p : ℕ = get_or from c 0 in
          let has = all_feed c 0 below in
          let place : ℕ = first_place to p in
          let inside : place < length to = first_place-below to p has in
          let in_from = list_any_at (λ q. q == p) from c 0 below (eq-eqb p p refl) in (
            place,
            subst (λ n. place < n) (sym (length-map to (channel_at from))) inside,
            get_or-map (channel_at from) to place 0 c inside
                ∙ ap (channel_at from) (first_place-holds to p 0 has)
                ∙ channel_at-is from p in_from
                ∙ first_place-at from p c distinct.0 below refl,
          );
    }

some_is : (x y : List ℕ) → Some x ≡ Some y → x ≡ y
some_is x y same = cc

-- what is left to plan where the maps differ and nothing is planned by index
abbrev by_rest : List ℕ → List ℕ → Bool → Option (List ℕ)
by_rest from to no_remix =
    if is_rearranged from to then Some (by_position from to) else
    if not no_remix && (length from == 1) then Some (replicate (length to) 0) else
    None

by_rest-feeds : (from to : List ℕ) (no_remix : Bool) (feed : List ℕ) → 0 < length to →
    by_rest from to no_remix ≡ Some feed → FeedsAll (length from) (length to) feed
by_rest-feeds from to no_remix feed some planned =
    elim (cases_Bool (is_rearranged from to)) [
      | inl rearranged ↦
          subst (FeedsAll (length from) (length to)) (some_is (by_position from to) feed (rw rearranged at planned))
          (by_position-feeds from to rearranged)
      | inr not_rearranged ↦ elim (cases_Bool (not no_remix && (length from == 1))) [
        | inl one ↦
            let channels : length from ≡ 1 = eqb-true _ _ (and_parts (not no_remix) (length from == 1) one).1 in
            subst (λ n. FeedsAll n (length to) feed) (sym channels)
            (subst (FeedsAll 1 (length to)) (some_is (replicate (length to) 0) feed (rw (not_rearranged, one) at planned))
            (to_all-feeds (length to) some))
        | inr none ↦
            let nothing : None ≡ Some feed = rw (not_rearranged, none) at planned in cc
      ]
    ]

-- every plan feeds each sink channel, and from each stream channel
plan_of-feeds : (from to : List ℕ) (no_remap no_remix : Bool) (feed : List ℕ) → 0 < length to →
    plan_of from to no_remap no_remix ≡ Some feed → FeedsAll (length from) (length to) feed
plan_of-feeds from to no_remap no_remix feed some planned =
    elim (cases_Bool (bytes_eq from to)) [
      | inl equal ↦
          let same : length from ≡ length to = ap length ((bytes_eq-Decides from to).0 equal) in
          subst (λ n. FeedsAll n (length to) feed) (sym same)
          (subst (FeedsAll (length to) (length to)) (some_is (by_index (length to)) feed (rw equal at planned))
          (by_index-feeds (length to)))
      | inr differ ↦ elim (cases_Bool (no_remap && (length from == length to))) [
        | inl counts ↦
            let same : length from ≡ length to = eqb-true _ _ (and_parts no_remap (length from == length to) counts).1 in
            subst (λ n. FeedsAll n (length to) feed) (sym same)
            (subst (FeedsAll (length to) (length to)) (some_is (by_index (length to)) feed (rw (differ, counts) at planned))
            (by_index-feeds (length to)))
        | inr not_counts ↦ by_rest-feeds from to no_remix feed some (rw (differ, not_counts) at planned)
      ]
    ]

pub plan_fits : (from to : List ℕ) (no_remap no_remix : Bool) (found : Option (List ℕ)) → IsChannelMap to →
    found ≡ plan_of from to no_remap no_remix → IfSome found (FeedsAll (length from) (length to))
plan_fits from to no_remap no_remix None sink is = tt
plan_fits from to no_remap no_remix (Some feed) sink is = plan_of-feeds from to no_remap no_remix feed sink.some (sym is)

-- channels that are each fed by their own index
pub counted_is : (channels : List ℕ) (count : ℕ) → length channels ≡ count →
    ((k : ℕ) → k < count → get_or channels k 0 ≡ k) → channels ≡ by_index count
counted_is channels count long each =
    same_number_lists channels (by_index count) (long ∙ sym (length-range_with_len 0 count))
    (λ k below.
    let inside : k < count = subst (λ n. k < n) long below in
    let is = get_or-range_with_len 0 count k 0 inside in
    each k inside ∙ omega arith)

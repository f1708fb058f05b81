-- The changes that data and notices make are lawful.
use Rattle.std.proofs.Common.{◌≡◌, ℕ, ◌<◌, ◌≤◌, List, [], ◌∷◌, ◌++◌, map, length, Option, Some, None, Bool, true, refl, ap, sym, subst, ◌∙◌, arith}
use Rattle.std.specs.Prelude.{◌*◌, ◌/◌, ◌%◌, ◌&&◌, not, cond, filter, nat_eq, nat_lt, ℤ, pos, unsigned_abs, slice_get, IfSome}
use Rattle.std.specs.Int.{int_div_euclid, int_rem_euclid}
use Rattle.std.specs.List.{AllByRecursion}
use Rattle.std.specs.Option.{option_map}
use Rattle.std.proofs.lemmas.Bool.{cond_both, eqb-true, eq-eqb, false≢true, and_parts}
use Rattle.px_types.specs.declared.ids.ConnId.{ConnId}
use Rattle.px_types.specs.declared.ids.InputId.{InputId}
use Rattle.px_types.specs.declared.ids.SinkId.{SinkId}
use Rattle.px_sample.specs.Format.{frame_size_of}
use Rattle.px_header.specs.declared.header.SinkSpec.{SinkSpec}
use Rattle.px_model.specs.Message.{InputFactors as Gains}
use Rattle.px_model.specs.Frame.{SampleSpec}
use Rattle.px_model.specs.Orderly.{AreFactors, IsWhole}
use Rattle.px_flat.specs.declared.member.Member.{Member}
use Rattle.px_flat.specs.FlatVolume.{FlatGroup, member_of, factors_of, detached}
use Rattle.px_flat.proofs.Inputs.{rest_of, detached_in, length_factors}
use Rattle.px_msg.specs.declared.factors.InputFactors.{InputFactors}
use Rattle.px_msg.specs.View.{sample_spec, gains}
use Rattle.px_msg.proofs.Sizes.{same_frame_size}
use Rattle.px_outcome.specs.declared.input.Input.{Input}
use Rattle.px_outcome.specs.declared.input.Standing.{Standing}
use Rattle.px_outcome.specs.declared.input.Standing.TheVariants.{Settled, Moving, Leaving}
use Rattle.px_outcome.specs.declared.input.Way.{Way}
use Rattle.px_outcome.specs.declared.input.Way.TheVariants.{Coming, There, Left}
use Rattle.px_outcome.specs.declared.change.Change.TheVariants.{Gone}
use Rattle.px_outcome.specs.Outcome.{idle}
use Rattle.px_ctl_play.specs.declared.data.Frames.{Frames}
use Rattle.px_ctl_play.specs.Data.{are_frames, write, written, data_for}
use Rattle.px_ctl_play.specs.Factors.{gains_of, factor_list, regrouped}
use Rattle.px_ctl_play.specs.Notified.{has_left, same_spec, gives_up, gone, left}
use Rattle.px_state.specs.State.{State, has_index, input_of, is_leaving, is_stream, stream_of, is_settled, settled_on}
use Rattle.px_state.specs.Change.{changed, drop_first}
use Rattle.px_core.specs.Grouped.{channels_there, IsGroupOf, paid}
use Rattle.px_core.specs.Consistency.{IsInput, IsConsistent, IsRising, IsIncreasing, AllAbove}
use Rattle.px_core.specs.Lawful.{Suits, HasLeft, Lawful, AreLawful, owed_for, IsPaid}
use Rattle.px_core.specs.Notice.{is_on, input_on}
use Rattle.px_state.specs.Outcome.{CoreOutcome}
use Rattle.px_core.proofs.EntryLaws.{found_by_index}
use Rattle.px_core.proofs.GroupLaws.{gone_there}
use Rattle.px_core.proofs.ListLaws.{found_test, found_all}

-- the changes of an outcome are lawful
abbrev pub IsLawful : {P : Type 0} → State P → CoreOutcome P → Type 0
IsLawful state outcome = AreLawful state outcome.changes

-- ---- data

whole : (size bytes : ℕ) → (bytes % size) ≡ 0 → bytes ≡ (bytes / size) * size
whole size bytes e = omega (arith, e)

data_fits : (x : Input) (offset : ℤ) (seek : ℕ) (bytes : List ℕ) → seek ≤ 3 → are_frames (frame_size_of x.spec) offset (length bytes) ≡ true → IsWhole (sample_spec x.spec) (record { input = x.index.0; seek = seek; offset = int_div_euclid offset (pos (frame_size_of x.spec)); frames = length bytes / frame_size_of x.spec; bytes = bytes })
data_fits x offset seek bytes few e =
    let first = and_parts (nat_lt 0 (frame_size_of x.spec) && nat_eq (length bytes % frame_size_of x.spec) 0) (nat_eq (unsigned_abs (int_rem_euclid offset (pos (frame_size_of x.spec)))) 0) e in
    let second = and_parts (nat_lt 0 (frame_size_of x.spec)) (nat_eq (length bytes % frame_size_of x.spec) 0) first.0 in
    record {
      seek_known = few;
      whole_frames = whole (frame_size_of x.spec) (length bytes) (eqb-true (length bytes % frame_size_of x.spec) 0 second.1) ∙ ap (λ size. length bytes / frame_size_of x.spec * size) (sym (same_frame_size x.spec));
    }

pub data_lawful : {P : Type 0} (state : State P) → IsRising state.inputs → (conn : ConnId) (stream : ℕ) (offset : ℤ) (seek : ℕ) (bytes : List ℕ) → seek ≤ 3 → (o : Option Input) → stream_of state.inputs conn stream ≡ o → IsLawful state (data_for o offset seek bytes)
data_lawful state r conn stream offset seek bytes few None e = tt
data_lawful {P} state r conn stream offset seek bytes few (Some x) e =
    cond_both (are_frames size offset (length bytes)) (Some frames) None (λ o. IsLawful state (written o x seek bytes))
    (λ t. (subst (λ o. IfSome o (λ y. Suits {P = P} y (write x frames seek bytes))) (sym (found_by_index (is_stream conn stream) state.inputs r x e)) (refl, data_fits x offset seek bytes few t), tt))
    (λ t. tt)
  where
    size : ℕ
    size = frame_size_of x.spec

    frames : Frames
    frames = record { offset = int_div_euclid offset (pos (frame_size_of x.spec)); count = length bytes / frame_size_of x.spec }

-- ---- Factors of a sink

pub all_filter : {A : Type 0} (P : A → Type 0) (p : A → Bool) (xs : List A) → AllByRecursion P xs → AllByRecursion P (filter p xs)
all_filter P p [] h = tt
all_filter P p (x ∷ xs) h = cond_both (p x) (x ∷ filter p xs) (filter p xs) (AllByRecursion P) (λ e. (h.0, all_filter P p xs h.1)) (λ e. all_filter P p xs h.1)

above_filter : (p : Input → Bool) (i : ℕ) (xs : List Input) → AllAbove i xs → AllAbove i (filter p xs)
above_filter p i xs a = all_filter (λ x. i < (Input.index x).0) p xs a

pub rising_filter : (p : Input → Bool) (xs : List Input) → IsRising xs → IsRising (filter p xs)
rising_filter p [] r = tt
rising_filter p (x ∷ xs) r = cond_both (p x) (x ∷ filter p xs) (filter p xs) IsRising (λ e. (above_filter p x.index.0 xs r.0, rising_filter p xs r.1)) (λ e. rising_filter p xs r.1)

module _ (group : FlatGroup) where
  factors_fit : (s : SinkSpec) → length group.reference ≡ s.spec.channels → (settled : List Input) → AllByRecursion (λ f. AreFactors (sample_spec s.spec) (Gains.factors f)) (map gains (factor_list group settled))
  factors_fit s e [] = tt
  factors_fit s e (x ∷ settled) = step (member_of group.members x.index) (factors_fit s e settled)
    where
      step : (o : Option Member) → AllByRecursion (λ f. AreFactors (sample_spec s.spec) (Gains.factors f)) (map gains (factor_list group settled))
          → AllByRecursion (λ f. AreFactors (sample_spec s.spec) (Gains.factors f)) (map gains (gains_of x.index (option_map (factors_of group) o) ++ factor_list group settled))
      step None rest = rest
      step (Some m) rest = (length_factors group m ∙ e, rest)

  factors_above : (i : ℕ) (settled : List Input) → AllAbove i settled → AllByRecursion (λ j. i < j) (map (λ f. (InputFactors.input f).0) (factor_list group settled))
  factors_above i [] a = tt
  factors_above i (x ∷ settled) a = step (member_of group.members x.index) (factors_above i settled a.1)
    where
      step : (o : Option Member) → AllByRecursion (λ j. i < j) (map (λ f. (InputFactors.input f).0) (factor_list group settled))
          → AllByRecursion (λ j. i < j) (map (λ f. (InputFactors.input f).0) (gains_of x.index (option_map (factors_of group) o) ++ factor_list group settled))
      step None rest = rest
      step (Some m) rest = (a.0, rest)

  factors_in_order : (settled : List Input) → IsRising settled → IsIncreasing (map (λ f. (InputFactors.input f).0) (factor_list group settled))
  factors_in_order [] r = tt
  factors_in_order (x ∷ settled) r = step (member_of group.members x.index) (factors_above x.index.0 settled r.0) (factors_in_order settled r.1)
    where
      step : (o : Option Member) → AllByRecursion (λ j. x.index.0 < j) (map (λ f. (InputFactors.input f).0) (factor_list group settled)) → IsIncreasing (map (λ f. (InputFactors.input f).0) (factor_list group settled))
          → IsIncreasing (map (λ f. (InputFactors.input f).0) (gains_of x.index (option_map (factors_of group) o) ++ factor_list group settled))
      step None above rest = rest
      step (Some m) above rest = (above, rest)

pub regroups : {P : Type 0} (state : State P) (index : SinkId) (group : FlatGroup) → index.0 < length state.sinks → ((s : SinkSpec) → slice_get state.sinks index.0 ≡ Some s → IsGroupOf index s state.inputs group) → (settled : List Input) → IsRising settled
    → Lawful state (regrouped index group settled)
regroups state index group there is settled r = record {
  there = there;
  follows = is;
  factors = λ s g. (factors_fit group s (is s g).channels settled, factors_in_order group settled r);
}

-- a sink's group that has followed is owed no more
pub is_paid : (sink : SinkId) → IsPaid (paid sink (sink ∷ []))
is_paid sink = subst (λ b. IsPaid (cond (not b) (sink ∷ []) [])) (sym (eq-eqb sink.0 sink.0 refl)) tt

-- ---- a sink has given up a stream

pub away : (way : Way) → has_left way ≡ true → way ≡ Left
away Coming e = absurd (false≢true e)
away There e = absurd (false≢true e)
away Left e = refl

left_all : (standing : Standing) → is_leaving standing ≡ true → standing ≡ Leaving
left_all Settled e = absurd (false≢true e)
left_all (Moving to) e = absurd (false≢true e)
left_all Leaving e = refl

-- the group without it
without_it : (sink : SinkId) (s : SinkSpec) (inputs : List Input) (x : Input) (group : FlatGroup) → x.sink ≡ sink → input_of inputs x.index ≡ Some x → IsGroupOf sink s inputs group → IsGroupOf sink s (drop_first (has_index x.index) inputs) (detached x.index group)
without_it sink s inputs x group on here is = record {
  channels = is.channels;
  members = λ i. detached_in x.index group i
      ∙ (λ k. cond (nat_eq x.index.0 i.0) (rest_of (is.members i k)) (is.members i k))
      ∙ sym (subst (λ (n : SinkId). channels_there (drop_first (has_index x.index) inputs) n i ≡ cond (nat_eq x.index.0 i.0) (rest_of (channels_there inputs n i)) (channels_there inputs n i)) on (gone_there inputs x here i));
}

pub left_lawful : {P : Type 0} (spec_of : P → SampleSpec) (state : State P) → IsConsistent spec_of state → (sink : SinkId) (input : InputId) (spec : SampleSpec) (o : Option Input) → input_on state.inputs sink input ≡ o
    → IsLawful state (left o (slice_get state.groups sink.0) spec state.inputs)
left_lawful spec_of state h sink input spec None e = tt
left_lawful {P} spec_of state h sink input spec (Some x) e =
    cond_both (gives_up spec x) (gone x (slice_get state.groups sink.0) state.inputs) idle (IsLawful state) (λ t. went t (slice_get state.groups sink.0) refl) (λ t. tt)
  where
    on : x.sink.0 ≡ sink.0
    on = eqb-true x.sink.0 sink.0 (and_parts (nat_eq x.index.0 input.0) (nat_eq x.sink.0 sink.0) (found_test (is_on sink input) state.inputs x e)).1

    here : input_of state.inputs x.index ≡ Some x
    here = found_by_index (is_on sink input) state.inputs h.steady.rising x e

    went : gives_up spec x ≡ true → (group : Option FlatGroup) → slice_get state.groups sink.0 ≡ group → IsLawful state (gone x group state.inputs)
    went t None owned = tt
    went t (Some group) owned =
        let parts = and_parts (is_leaving x.standing && has_left x.way) (same_spec spec (sample_spec x.spec)) t in
        let first = and_parts (is_leaving x.standing) (has_left x.way) parts.0 in (
          subst (λ o. IfSome o HasLeft) (sym here) (record { standing = left_all x.standing first.0; way = away x.way first.1 }),
          (
            regroups (changed state (Gone x.index)) x.sink (detached x.index group)
                (found_all (IsInput state.sinks state.inputs_made) (is_on sink input) state.inputs x h.steady.inputs e).sink_there
                (λ s g. without_it x.sink s state.inputs x group refl here (h.grouped.each x.sink.0 s group g (ap (slice_get state.groups) on ∙ owned) refl))
                (settled_on state.inputs x.sink) (rising_filter (is_settled x.sink) state.inputs h.steady.rising),
            subst (λ o. IsPaid (paid x.sink (owed_for o []))) (sym here) (is_paid x.sink),
          ),
        )

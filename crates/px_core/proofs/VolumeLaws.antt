-- The changes of volumes and mutes are lawful.
use Rattle.std.proofs.Common.{◌≡◌, ◌<◌, ℕ, List, length, Option, Some, None, Ok, Bool, true, false, refl, ap, sym, ◌∙◌, cond}
use Rattle.std.specs.Prelude.{not, slice_get}
use Rattle.std.proofs.lemmas.Option.{none-some, slice_get_within}
use Rattle.px_types.specs.declared.ids.SinkId.{SinkId}
use Rattle.px_types.specs.declared.error_code.ErrorCode.TheVariants.{Busy, Invalid, NoEntity}
use Rattle.px_header.specs.declared.header.SinkSpec.{SinkSpec}
use Rattle.px_model.specs.Frame.{SampleSpec}
use Rattle.px_flat.specs.declared.member.Member.{Member}
use Rattle.px_flat.specs.FlatVolume.{FlatGroup, member_of, with_sink_volume, with_sink_mute, with_input_volume, with_input_mute}
use Rattle.px_flat.specs.Keeps.{HasSameInputs}
use Rattle.px_flat.proofs.Volumes as volumes
use Rattle.px_outcome.specs.declared.input.Input.{Input}
use Rattle.px_outcome.specs.declared.target.Named.{Named}
use Rattle.px_outcome.specs.declared.target.Target.{Target}
use Rattle.px_outcome.specs.Handled.{◌>>=◌, check, present}
use Rattle.px_outcome.specs.Target.{is_clear, target_of as target_in}
use Rattle.px_ctl_vol.specs.Asked.{is_volume, fits}
use Rattle.px_ctl_vol.specs.Factors.{regrouped}
use Rattle.px_outcome.specs.Input.{is_moving}
use Rattle.px_state.specs.State.{State, goes_on, going, has_index, input_named, input_of, is_settled, settled_on}
use Rattle.px_core.specs.Command.{sink_volume, sink_mute, input_volume, input_mute}
use Rattle.px_core.specs.Grouped.{IsGroupOf}
use Rattle.px_core.specs.Consistency.{IsInput, IsConsistent}
use Rattle.px_sinks.specs.Sinks.{group_of, group_named, group_under}
use Rattle.px_core.proofs.AnswerLaws.{IsLawful, regroups, rising_filter}
use Rattle.px_core.proofs.ListLaws.{found_all}
use Rattle.px_core.proofs.HandledLaws.{Each, each_check, each_then}
use Rattle.px_sinks.proofs.Sinks.{IsThere}

same_group : (sink : SinkId) (s : SinkSpec) (inputs : List Input) (group after : FlatGroup) → HasSameInputs group after → IsGroupOf sink s inputs group → IsGroupOf sink s inputs after
same_group sink s inputs group after same is = record { channels = same.channels ∙ is.channels; members = λ i. same.inputs i ∙ is.members i }

-- an input that is named is found
pub going_is : (o : Option Input) (x : Input) → going o ≡ Some x → o ≡ Some x
going_is None x e = absurd (none-some x e)
going_is (Some y) x e = by (goes_on y) e
  where
    by : (b : Bool) → cond b (Some y) None ≡ Some x → Some y ≡ Some x
    by true e = e
    by false e = absurd (none-some x e)

module _ {P : Type 0} (spec_of : P → SampleSpec) (state : State P) (h : IsConsistent spec_of state) where
  -- a sink has another group with the same inputs
  regrouped_lawful : (sink : SinkId) (group after : FlatGroup) → sink.0 < length state.sinks → slice_get state.groups sink.0 ≡ Some group → HasSameInputs group after → (tag : ℕ) → IsLawful state (regrouped sink after state.inputs tag)
  regrouped_lawful sink group after there owned same tag =
      (regroups state sink after there (λ s e. same_group sink s state.inputs group after same (h.grouped.each sink.0 s group e owned refl)) (settled_on state.inputs sink) (rising_filter (is_settled sink) state.inputs h.steady.rising), tt)

  -- ---- of a sink

  module _ (named : Named) (found : (target : Target) → target_in named ≡ Some target → IsThere state.sinks target) (tag : ℕ) where
    of_sink : (f : FlatGroup → FlatGroup) → ((group : FlatGroup) → HasSameInputs group (f group)) → (target : Target) → target_in named ≡ Some target → (group : FlatGroup) → group_named state.groups named ≡ Some group
        → IsLawful state (regrouped target.index (f group) state.inputs tag)
    of_sink f same target e group owned =
        let it = found target e in
        regrouped_lawful target.index group (f group) (slice_get_within state.sinks target.index.0 it.sink it.there) (sym (ap (group_of state.groups) e) ∙ owned) (same group) tag

    pub sink_volume_lawful : (volume : List ℕ) → Each (IsLawful state) (sink_volume state named volume tag)
    sink_volume_lawful volume =
        each_check (IsLawful state) (is_clear named) Invalid _
        (each_check (IsLawful state) (is_volume volume) Invalid _ (by (target_in named) refl (group_named state.groups named) refl))
      where
        by : (o : Option Target) → target_in named ≡ o → (g : Option FlatGroup) → group_named state.groups named ≡ g
            → Each (IsLawful state) (present o NoEntity >>= λ sink. present g NoEntity >>= λ group. check (fits volume (length (FlatGroup.reference group))) Invalid >>= λ suits. Ok (regrouped (Target.index sink) (with_sink_volume volume group) state.inputs tag))
        by None e g owned = tt
        by (Some target) e None owned = tt
        by (Some target) e (Some group) owned =
            each_check (IsLawful state) (fits volume (length group.reference)) Invalid _ (of_sink (with_sink_volume volume) (volumes.sink_volume volume) target e group owned)

    pub sink_mute_lawful : (on : Bool) → Each (IsLawful state) (sink_mute state named on tag)
    sink_mute_lawful on = each_check (IsLawful state) (is_clear named) Invalid _ (by (target_in named) refl (group_named state.groups named) refl)
      where
        by : (o : Option Target) → target_in named ≡ o → (g : Option FlatGroup) → group_named state.groups named ≡ g
            → Each (IsLawful state) (present o NoEntity >>= λ sink. present g NoEntity >>= λ group. Ok (regrouped (Target.index sink) (with_sink_mute on group) state.inputs tag))
        by None e g owned = tt
        by (Some target) e None owned = tt
        by (Some target) e (Some group) owned = of_sink (with_sink_mute on) (volumes.sink_mute on) target e group owned

  -- ---- of an input

  module _ (index tag : ℕ) where
    of_input : (f : FlatGroup → FlatGroup) → ((group : FlatGroup) → HasSameInputs group (f group)) → (x : Input) → input_named state.inputs index ≡ Some x → (group : FlatGroup) → slice_get state.groups x.sink.0 ≡ Some group
        → IsLawful state (regrouped x.sink (f group) state.inputs tag)
    of_input f same x e group owned =
        regrouped_lawful x.sink group (f group)
        (found_all (IsInput state.sinks state.inputs_made) (has_index (record { 0 = index })) state.inputs x h.steady.inputs (going_is (input_of state.inputs (record { 0 = index })) x e)).sink_there
        owned (same group) tag

    pub input_volume_lawful : (volume : List ℕ) → Each (IsLawful state) (input_volume state (input_named state.inputs index) volume tag)
    input_volume_lawful volume = each_check (IsLawful state) (is_volume volume) Invalid _ (by (input_named state.inputs index) refl)
      where
        on_group : (x : Input) → input_named state.inputs index ≡ Some x → (g : Option FlatGroup) → slice_get state.groups x.sink.0 ≡ g
            → Each (IsLawful state) (present g NoEntity >>= λ group. present (member_of (FlatGroup.members group) x.index) NoEntity >>= λ member. check (fits volume (length (Member.volume member))) Invalid >>= λ suits. check (not (is_moving x.standing)) Busy >>= λ free. Ok (regrouped x.sink (with_input_volume x.index volume group) state.inputs tag))
        on_group x e None owned = tt
        on_group x e (Some group) owned =
            each_then (IsLawful state) (present (member_of group.members x.index) NoEntity) _
            (λ member. each_check (IsLawful state) (fits volume (length (Member.volume member))) Invalid _
            (each_check (IsLawful state) (not (is_moving x.standing)) Busy _ (of_input (with_input_volume x.index volume) (volumes.input_volume x.index volume) x e group owned)))

        by : (o : Option Input) → input_named state.inputs index ≡ o
            → Each (IsLawful state) (present o NoEntity >>= λ x. present (group_under state.groups o) NoEntity >>= λ group. present (member_of (FlatGroup.members group) (Input.index x)) NoEntity >>= λ member. check (fits volume (length (Member.volume member))) Invalid >>= λ suits. check (not (is_moving (Input.standing x))) Busy >>= λ free. Ok (regrouped (Input.sink x) (with_input_volume (Input.index x) volume group) state.inputs tag))
        by None e = tt
        by (Some x) e = on_group x e (slice_get state.groups x.sink.0) refl

    pub input_mute_lawful : (on : Bool) → Each (IsLawful state) (input_mute state (input_named state.inputs index) on tag)
    input_mute_lawful on = by (input_named state.inputs index) refl
      where
        on_group : (x : Input) → input_named state.inputs index ≡ Some x → (g : Option FlatGroup) → slice_get state.groups x.sink.0 ≡ g
            → Each (IsLawful state) (present g NoEntity >>= λ group. present (member_of (FlatGroup.members group) x.index) NoEntity >>= λ member. check (not (is_moving x.standing)) Busy >>= λ free. Ok (regrouped x.sink (with_input_mute x.index on group) state.inputs tag))
        on_group x e None owned = tt
        on_group x e (Some group) owned =
            each_then (IsLawful state) (present (member_of group.members x.index) NoEntity) _
            (λ member. each_check (IsLawful state) (not (is_moving x.standing)) Busy _ (of_input (with_input_mute x.index on) (volumes.input_mute x.index on) x e group owned))

        by : (o : Option Input) → input_named state.inputs index ≡ o
            → Each (IsLawful state) (present o NoEntity >>= λ x. present (group_under state.groups o) NoEntity >>= λ group. present (member_of (FlatGroup.members group) (Input.index x)) NoEntity >>= λ member. check (not (is_moving (Input.standing x))) Busy >>= λ free. Ok (regrouped (Input.sink x) (with_input_mute (Input.index x) on group) state.inputs tag))
        by None e = tt
        by (Some x) e = on_group x e (slice_get state.groups x.sink.0) refl

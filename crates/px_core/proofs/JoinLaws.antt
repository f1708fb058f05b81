-- What the groups of both sinks of an input that moves are.
use Rattle.std.proofs.Common.{◌≡◌, ℕ, ◌≤◌, List, [], ◌∷◌, length, Option, Some, None, Bool, true, false, refl, ap, sym, subst, ◌∙◌, arith, cond}
use Rattle.std.specs.Prelude.{filter, nat_eq, slice_get, IfSome, map}
use Rattle.std.specs.List.{find}
use Rattle.std.specs.Option.{option_map}
use Rattle.std.proofs.lemmas.Bool.{cond-true, cond-false, eq-eqb, ne_eqb}
use Rattle.std.proofs.lemmas.Option.{none-some, same_Some}
use Rattle.px_types.specs.declared.ids.InputId.{InputId}
use Rattle.px_types.specs.declared.ids.SinkId.{SinkId}
use Rattle.px_header.specs.declared.header.SinkSpec.{SinkSpec}
use Rattle.px_model.specs.Frame.{SampleSpec}
use Rattle.px_flat.specs.declared.member.Member.{Member}
use Rattle.px_flat.specs.Member.{is_input, channels_of}
use Rattle.px_flat.specs.FlatVolume.{FlatGroup, member_of}
use Rattle.px_flat.specs.Inputs.{channels_in}
use Rattle.px_flat.proofs.Inputs.{unfound_in}
use Rattle.px_outcome.specs.declared.input.Input.{Input}
use Rattle.px_outcome.specs.declared.input.Standing.TheVariants.{Moving}
use Rattle.px_outcome.specs.declared.target.Target.{Target}
use Rattle.px_ctl_play.specs.Arrival.{HasChannels, CanJoin}
use Rattle.px_sinks.specs.Sinks.{target_of, target_at}
use Rattle.px_state.specs.State.{State, has_index, input_of}
use Rattle.px_core.specs.Consistency.{IsFedAt, GoesTo, GoesThere, IsInput, IsConsistent}
use Rattle.px_core.proofs.ListLaws.{found_all}
use Rattle.px_core.proofs.HandingLaws.{sink_there}
use Rattle.px_core.proofs.CreateLaws.{sink_rules}
use Rattle.px_core.proofs.FoundInputs.{only_there}

-- the first member of an input, where there is one alone
first_in : (i : InputId) (n : ℕ) (ms : List Member) (m : Member) → find (is_input i) ms ≡ Some m → channels_in ms i ≡ n ∷ [] → channels_of m.feed ≡ n
first_in i n [] m found e = absurd (none-some m found)
first_in i n (x ∷ ms) m found e = step (first_in i n ms m) (is_input i x) found e
  where
    step : (find (is_input i) ms ≡ Some m → channels_in ms i ≡ n ∷ [] → channels_of m.feed ≡ n) → (b : Bool) → cond b (Some x) (find (is_input i) ms) ≡ Some m
        → map (λ y. channels_of (Member.feed y)) (cond b (x ∷ filter (is_input i) ms) (filter (is_input i) ms)) ≡ n ∷ [] → channels_of m.feed ≡ n
    step later true f g = ap (λ (y : Member). channels_of y.feed) (sym (same_Some x m f)) ∙ head (map (λ y. channels_of (Member.feed y)) (filter (is_input i) ms)) g
      where
        head : (rest : List ℕ) → channels_of x.feed ∷ rest ≡ n ∷ [] → channels_of x.feed ≡ n
        head rest same = ap (λ (xs : List ℕ). first_or xs) same
          where
            first_or : List ℕ → ℕ
            first_or [] = 0
            first_or (y ∷ ys) = y
    step later false f g = later f g

-- a sink that a command sees is there
sink_seen : (sinks : List SinkSpec) (to : SinkId) (sink : Target) (o : Option SinkSpec) → slice_get sinks to.0 ≡ o → option_map (target_of to) o ≡ Some sink → (s : SinkSpec) × (slice_get sinks to.0 ≡ Some s) × (sink ≡ target_of to s)
sink_seen sinks to sink None e f = absurd (none-some sink f)
sink_seen sinks to sink (Some s) e f = (s, e, sym (same_Some (target_of to s) sink f))

module _ {P : Type 0} (spec_of : P → SampleSpec) (state : State P) (h : IsConsistent spec_of state) (x : Input) (here : input_of state.inputs x.index ≡ Some x) where
  is : IsInput state.sinks state.inputs_made x
  is = found_all (IsInput state.sinks state.inputs_made) (has_index x.index) state.inputs x h.steady.inputs here

  pub some_channel : 1 ≤ length x.map
  some_channel = omega (arith, is.map, is.playable.some_channels)

  pub has_channels : (from : FlatGroup) → slice_get state.groups x.sink.0 ≡ Some from → HasChannels x from
  has_channels from owned =
      let own = sink_there state.sinks x.sink.0 is.sink_there in
      let group = h.grouped.each x.sink.0 own.0 from own.1 owned refl in
      let rules = sink_rules [] state.sinks x.sink.0 own.0 h.steady.sinks own.1 in
      record {
        some = omega (arith, group.channels, rules.1.channels.0);
        own = by (member_of from.members x.index) refl
            (group.members x.index ∙ only_there state.inputs h.steady.rising x here x.sink ∙ cond-true (nat_eq x.sink.0 x.sink.0) (x.spec.channels ∷ []) [] (eq-eqb x.sink.0 x.sink.0 refl));
      }
    where
      by : (o : Option Member) → member_of from.members x.index ≡ o → channels_in from.members x.index ≡ x.spec.channels ∷ [] → IfSome o (λ m. channels_of (Member.feed m) ≡ length x.map)
      by None e one = tt
      by (Some m) e one = first_in x.index x.spec.channels from.members m e one ∙ sym is.map

  pub can_join : (to : SinkId) → x.standing ≡ Moving to → (sink : Target) → target_at state.sinks to ≡ Some sink → (group : FlatGroup) → slice_get state.groups to.0 ≡ Some group → CanJoin sink x.index group
  can_join to moves sink seen group owned =
      let it = sink_seen state.sinks to sink (slice_get state.sinks to.0) refl seen in
      let was = h.grouped.each to.0 it.0 group it.1 owned refl in
      record {
        channels = was.channels ∙ sym (ap (λ (t : Target). t.spec.channels) it.2);
        new = unfound_in group.members x.index
            (was.members x.index ∙ only_there state.inputs h.steady.rising x here to
            ∙ cond-false (nat_eq x.sink.0 to.0) (x.spec.channels ∷ []) [] (ne_eqb x.sink.0 to.0 (λ (same : x.sink.0 ≡ to.0). goes.apart (sym same))));
      }
    where
      goes : GoesTo state.sinks x.sink (IsFedAt x) to
      goes = subst (λ standing. GoesThere state.sinks x.sink (IsFedAt x) standing) moves is.goes_there

-- A command that names a sink or an input that is there isn't refused for want of it, or of its group.
use Rattle.std.proofs.Common.{◌≡◌, ℕ, List, [], length, Option, Some, None, Bool, true, false, Ok, Err, refl, ap, sym, ◌∙◌}
use Rattle.std.specs.Prelude.{not, slice_get, Contains}
use Rattle.std.proofs.lemmas.Bool.{cond-true, eqb-true, eq-eqb, false≢true}
use Rattle.std.proofs.lemmas.Option.{none-some, same_Some, slice_get_within}
use Rattle.px_types.specs.declared.error_code.ErrorCode.{ErrorCode}
use Rattle.px_types.specs.declared.error_code.ErrorCode.TheVariants.{Busy, Invalid, NoEntity, NotSupported, TooLarge}
use Rattle.px_cmd.specs.declared.command.Command.{Command}
use Rattle.px_cmd.specs.declared.command.Command.TheVariants as commands
use Rattle.px_cmd.specs.declared.command.CreateFields.{CreateFields}
use Rattle.px_cmd.specs.declared.command.SinkRef.{SinkRef}
use Rattle.px_msg.specs.declared.message.Msg.{Msg}
use Rattle.px_names.specs.Names.{sink_named}
use Rattle.px_model.specs.Frame.{SampleSpec}
use Rattle.px_flat.specs.declared.member.Member.{Member}
use Rattle.px_flat.specs.FlatVolume.{FlatGroup, member_of, with_input_volume, with_input_mute}
use Rattle.px_outcome.specs.declared.refusal.Refusal.TheVariants.{Code, NoMemory}
use Rattle.px_outcome.specs.declared.input.Connection.{Connection}
use Rattle.px_outcome.specs.declared.input.Input.{Input}
use Rattle.px_outcome.specs.declared.input.Standing.{Standing}
use Rattle.px_outcome.specs.declared.input.Standing.TheVariants.{Settled, Moving, Leaving}
use Rattle.px_outcome.specs.declared.target.Named.{Named}
use Rattle.px_outcome.specs.declared.target.Named.TheVariants.{Sink}
use Rattle.px_outcome.specs.declared.target.Target.{Target}
use Rattle.px_outcome.specs.Handled.{Handled, ◌>>=◌, check, present}
use Rattle.px_outcome.specs.Input.{is_moving}
use Rattle.px_outcome.specs.Outcome.{replied}
use Rattle.px_outcome.specs.Target.{target_of as target_in}
use Rattle.px_names.specs.InputLists.{list_of}
use Rattle.px_reply.specs.Front.{reply_to}
use Rattle.px_reply.specs.Info.{with_sink, with_input}
use Rattle.px_ctl_info.specs.Infos.{sink_of, sink_info, input_of as info_of, input_info, member_with}
use Rattle.px_ctl_play.specs.Asked.{is_lawful, is_supported, feed_on, has_room}
use Rattle.px_ctl_play.specs.Create.{create}
use Rattle.px_ctl_vol.specs.Asked.{is_volume, fits}
use Rattle.px_ctl_vol.specs.Factors.{regrouped}
use Rattle.px_ctl_vol.specs.Inputs.{set_input_volume, set_input_mute}
use Rattle.px_ctl_vol.specs.Sinks.{set_sink_volume, set_sink_mute}
use Rattle.px_sinks.specs.Sinks.{named_by}
use Rattle.px_sinks.proofs.Sinks.{IsThere, named_there}
use Rattle.px_state.specs.State.{State, is_leaving, goes_on, going, has_index, input_named}
use Rattle.px_state.specs.Outcome.{CoreOutcome}
use Rattle.px_core.specs.Command.{spoken_by, create_named, sink_volume, sink_mute, input_volume, input_mute, handle}
use Rattle.px_core.specs.Consistency.{IsConsistent}
use Rattle.px_core.specs.HandedOver.{IsGrouped}
use Rattle.px_core.specs.Missing.{sink_named_in, input_named_in}
use Rattle.px_core.proofs.MisfitLaws.{held_found}
use Rattle.px_core.proofs.ActingLaws.{group_there, is_grouped, one_of}

-- ---- a handler that doesn't answer NOENTITY

abbrev names_missing : ErrorCode → Bool
names_missing NoEntity = true
names_missing _ = false

abbrev is_missing : {A : Type 0} → Handled A → Bool
is_missing (Ok x) = false
is_missing (Err (Code code)) = names_missing code
is_missing (Err NoMemory) = false

abbrev Finds : {A : Type 0} → Handled A → Type 0
Finds handled = is_missing handled ≡ false

finds_check : {A : Type 0} (b : Bool) (code : ErrorCode) (f : Unit {0} → Handled A) → names_missing code ≡ false → Finds (f tt) → Finds (check b code >>= f)
finds_check true code f other h = h
finds_check false code f other h = other

finds_present : {A B : Type 0} (o : Option B) (code : ErrorCode) (f : B → Handled A) → names_missing code ≡ false → ((x : B) → Finds (f x)) → Finds (present o code >>= f)
finds_present None code f other h = other
finds_present (Some x) code f other h = h x

found_apart : {A : Type 0} (handled : Handled A) → Finds handled → handled ≡ Err (Code NoEntity) → ⊥
found_apart handled h e = false≢true (sym h ∙ ap is_missing e)

-- ---- in a consistent state

module _ {P : Type 0} (spec_of : P → SampleSpec) (state : State P) (h : IsConsistent spec_of state) (me : Connection) (tag : ℕ) where
  -- a sink that is there has a group
  group_of_sink : (named : Named) (target : Target) → ((t : Target) → target_in named ≡ Some t → IsThere state.sinks t) → named ≡ Sink target → (group : FlatGroup) × (slice_get state.groups target.index.0 ≡ Some group)
  group_of_sink named target found e =
      let it = found target (ap target_in e) in
      group_there spec_of state h target.index.0 (slice_get_within state.sinks target.index.0 it.sink it.there)

  create_finds : (fields : CreateFields) (target : Target) (group : FlatGroup) → Finds (create {P = P} state.inputs state.inputs_made me tag (Sink target) (Some group) fields)
  create_finds fields target group =
      finds_check (is_lawful fields) Invalid _ refl
      (finds_check (is_supported target fields) NotSupported _ refl
      (finds_present (feed_on target fields) NotSupported _ refl
      (λ feed. finds_check (has_room state.inputs state.inputs_made me target.index) TooLarge _ refl refl)))

  volume_finds : (volume : List ℕ) (target : Target) (group : FlatGroup) → Finds (set_sink_volume {P = P} (Sink target) (Some group) state.inputs volume tag)
  volume_finds volume target group = finds_check (is_volume volume) Invalid _ refl (finds_check (fits volume (length group.reference)) Invalid _ refl refl)

  pub sink_found : (command : Command) (target : Target) → sink_named_in state command ≡ Some (Sink target) → handle state me tag command ≡ Err (Code NoEntity) → ⊥
  sink_found command target names = found_apart (handle state me tag command) (by command names)
    where
      is_there : (sink : SinkRef) (fallback : Bool) → (t : Target) → target_in (named_by state.names state.sinks sink fallback) ≡ Some t → IsThere state.sinks t
      is_there sink fallback = named_there state.sinks (sink_named state.names sink.index sink.name fallback)

      same : (named : Named) → Some named ≡ Some (Sink target) → named ≡ Sink target
      same named e = same_Some named (Sink target) e

      by : (c : Command) → sink_named_in state c ≡ Some (Sink target) → Finds (handle state me tag c)
      by (commands.Create fields) e =
          let named = named_by state.names state.sinks fields.sink true in
          let is = same named e in
          let group = group_of_sink named target (is_there fields.sink true) is in
          ap (λ n. is_missing (create_named state me tag fields n)) is
          ∙ ap (λ o. is_missing (create {P = P} state.inputs state.inputs_made me tag (Sink target) o fields)) group.1
          ∙ create_finds fields target group.0
      by (commands.SinkInfo sink) e =
          let named = named_by state.names state.sinks sink false in
          let is = same named e in
          let group = group_of_sink named target (is_there sink false) is in
          ap (λ n. is_missing (sink_info {M = Msg P} {G = FlatGroup} n state.groups (spoken_by me) tag)) is
          ∙ ap (λ o. is_missing {A = CoreOutcome P} (present o NoEntity >>= λ (own : FlatGroup). Ok (replied (with_sink (spoken_by me) (reply_to tag) (sink_of target own)) []))) group.1
      by (commands.SinkVolume sink volume) e =
          let named = named_by state.names state.sinks sink false in
          let is = same named e in
          let group = group_of_sink named target (is_there sink false) is in
          ap (λ n. is_missing (sink_volume state n volume tag)) is
          ∙ ap (λ o. is_missing (set_sink_volume {P = P} (Sink target) o state.inputs volume tag)) group.1
          ∙ volume_finds volume target group.0
      by (commands.SinkMute sink on) e =
          let named = named_by state.names state.sinks sink false in
          let is = same named e in
          let group = group_of_sink named target (is_there sink false) is in
          ap (λ n. is_missing (sink_mute state n on tag)) is
          ∙ ap (λ o. is_missing (set_sink_mute {P = P} (Sink target) o state.inputs on tag)) group.1
      by _ e = absurd (none-some (Sink target) e)

  -- a live input is found by its index, and is in its group
  pub input_found : (command : Command) (x : Input) → input_named_in command ≡ Some x.index.0 → Contains state.inputs x → (x.standing ≡ Leaving → ⊥) → handle state me tag command ≡ Err (Code NoEntity) → ⊥
  input_found command x names held live = found_apart (handle state me tag command) (by command names)
    where
      lives : (standing : Standing) → (standing ≡ Leaving → ⊥) → not (is_leaving standing) ≡ true
      lives Settled apart = refl
      lives (Moving to) apart = refl
      lives Leaving apart = absurd (apart refl)

      found : (index : ℕ) → Some index ≡ Some x.index.0 → input_named state.inputs index ≡ Some x
      found index e =
          ap going (held_found (has_index (record { 0 = index })) index (λ y t. eqb-true y.index.0 index t) state.inputs h.steady.rising x held (eq-eqb x.index.0 index (sym (same_Some index x.index.0 e))))
          ∙ cond-true (goes_on x) (Some x) None (lives x.standing live)

      own : IsGrouped state x
      own = is_grouped spec_of state h x held

      m : (member : Member) × (member_of own.group.members x.index ≡ Some member)
      m = one_of (member_of own.group.members x.index) own.member

      by : (c : Command) → input_named_in c ≡ Some x.index.0 → Finds (handle state me tag c)
      by (commands.InputInfo input) e =
          ap (λ o. is_missing (input_info {M = Msg P} {G = FlatGroup} o state.groups state.lists tag)) (found input e)
          ∙ ap (λ o. is_missing {A = CoreOutcome P} (present o NoEntity >>= λ (member : Member). Ok (replied (with_input (reply_to tag) (info_of x member (list_of state.lists x.index))) [])))
          (ap (λ o. member_with o x) own.owned ∙ m.1)
      by (commands.InputVolume input volume) e =
          ap (λ o. is_missing (input_volume state o volume tag)) (found input e)
          ∙ ap (λ o. is_missing (set_input_volume {P = P} (Some x) o state.inputs volume tag)) own.owned
          ∙ finds_check (is_volume volume) Invalid _ refl
          (ap (λ o. is_missing (present o NoEntity >>= λ member. check (fits volume (length (Member.volume member))) Invalid >>= λ suits. check (not (is_moving x.standing)) Busy >>= λ free. Ok (regrouped {P = P} x.sink (with_input_volume x.index volume own.group) state.inputs tag))) m.1
          ∙ finds_check (fits volume (length m.0.volume)) Invalid _ refl (finds_check (not (is_moving x.standing)) Busy _ refl refl))
      by (commands.InputMute input on) e =
          ap (λ o. is_missing (input_mute state o on tag)) (found input e)
          ∙ ap (λ o. is_missing (set_input_mute {P = P} (Some x) o state.inputs on tag)) own.owned
          ∙ ap (λ o. is_missing (present o NoEntity >>= λ (member : Member). check (not (is_moving x.standing)) Busy >>= λ free. Ok (regrouped {P = P} x.sink (with_input_mute x.index on own.group) state.inputs tag))) m.1
          ∙ finds_check (not (is_moving x.standing)) Busy _ refl refl
      by _ e = absurd (none-some x.index.0 e)

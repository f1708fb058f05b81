-- The changes that a command of a stream makes are lawful.
use Rattle.std.proofs.Common.{◌≡◌, ℕ, zero, suc, ◌≤◌, List, [], ◌∷◌, All, Option, None, Some, Bool, true, refl, sym, subst, arith}
use Rattle.std.specs.Prelude.{◌&&◌, nat_eq, IfSome, MatchOption}
use Rattle.std.specs.List.{AllByRecursion}
use Rattle.std.proofs.lemmas.Bool.{cond_both, and_parts}
use Rattle.px_types.specs.declared.ids.ConnId.{ConnId}
use Rattle.px_types.specs.declared.ids.InputId.{InputId}
use Rattle.px_tag.specs.declared.raw.TimeVal.{TimeVal}
use Rattle.px_header.specs.declared.header.SinkSpec.{SinkSpec}
use Rattle.px_msg.specs.Repair.{repaired}
use Rattle.px_msg.specs.declared.message.Msg.{Msg}
use Rattle.px_msg.specs.declared.message.Msg.TheVariants.{Cork, Flush, Trigger, Prebuf, Drain, Attr, Query}
use Rattle.px_outcome.specs.declared.change.Change.TheVariants.{Posted}
use Rattle.px_outcome.specs.declared.input.Connection.{Connection}
use Rattle.px_outcome.specs.declared.input.Input.{Input}
use Rattle.px_outcome.specs.declared.input.Standing.{Standing}
use Rattle.px_outcome.specs.declared.input.Standing.TheVariants.{Settled, Moving, Leaving}
use Rattle.px_outcome.specs.declared.waiting.Awaited.{Awaited}
use Rattle.px_outcome.specs.declared.waiting.Awaited.TheVariants.{Drained, Latency as Measured}
use Rattle.px_outcome.specs.declared.waiting.Waiting.{Waiting}
use Rattle.px_outcome.specs.Outcome.{idle}
use Rattle.px_outcome.specs.Waiting.{drain_under, question_under}
use Rattle.px_ctl_play.specs.declared.timing.Progress.{Progress}
use Rattle.px_ctl_play.specs.Answer.{asked}
use Rattle.px_ctl_play.specs.Attributes.{attributes}
use Rattle.px_ctl_play.specs.Control.{cork, flush, trigger, prebuf}
use Rattle.px_ctl_play.specs.Delete.{delete}
use Rattle.px_ctl_play.specs.Drain.{drain, drain_answered, drained}
use Rattle.px_ctl_play.specs.Latency.{latency, latency_answered, measured}
use Rattle.px_state.specs.State.{State, goes_on, going as still_going, has_index, input_of, input_named, is_stream, stream_of}
use Rattle.px_state.specs.Change.{inputs_noted, posting_to_input, posting_if_there}
use Rattle.px_core.specs.Consistency.{IsInput, IsRising, IsGoing, IsAwaiting}
use Rattle.px_core.specs.Lawful.{Suits, Lawful}
use Rattle.px_core.proofs.ListLaws.{found_test, found_all}
use Rattle.px_core.proofs.EntryLaws.{found_by_index}
use Rattle.px_core.proofs.HandledLaws.{Each}
use Rattle.px_core.proofs.AnswerLaws.{IsLawful}
use Rattle.px_core.proofs.CreateLaws.{repaired_fits}

-- a stream has a channel
pub has_channels : (sinks : List SinkSpec) (made : ℕ) (inputs : List Input) (conn : ConnId) (stream : ℕ) (o : Option Input) → AllByRecursion (IsInput sinks made) inputs → o ≡ stream_of inputs conn stream → IfSome o (λ x. 1 ≤ x.spec.channels)
has_channels sinks made inputs conn stream None h e = tt
has_channels sinks made inputs conn stream (Some x) h e = (found_all (IsInput sinks made) (is_stream conn stream) inputs x h (sym e)).playable.some_channels

-- an input has at most 32 channels
pub few_channels : (sinks : List SinkSpec) (made : ℕ) (inputs : List Input) (index : ℕ) (o : Option Input) → AllByRecursion (IsInput sinks made) inputs → o ≡ input_named inputs index → IfSome o (λ x. x.spec.channels ≤ 32)
few_channels sinks made inputs index o h e = subst (λ p. IfSome p (λ x. (Input.spec x).channels ≤ 32)) (sym e) (inner (input_of inputs (record { 0 = index })) refl)
  where
    inner : (p : Option Input) → input_of inputs (record { 0 = index }) ≡ p → IfSome (still_going p) (λ x. (Input.spec x).channels ≤ 32)
    inner None found = tt
    inner (Some x) found =
        cond_both (goes_on x) (Some x) None (λ p. IfSome p (λ y. (Input.spec y).channels ≤ 32))
        (λ g. (found_all (IsInput sinks made) (has_index (record { 0 = index })) inputs x h found).playable.few_channels)
        (λ g. tt)

-- and so has each of them
pub each_few_channels : (sinks : List SinkSpec) (made : ℕ) (inputs : List Input) → AllByRecursion (IsInput sinks made) inputs → All (λ x. (Input.spec x).channels ≤ 32) inputs
each_few_channels sinks made [] h k d l = absurd (omega (arith, l))
each_few_channels sinks made (x ∷ inputs) h zero d l = h.0.playable.few_channels
each_few_channels sinks made (x ∷ inputs) h (suc k) d l = each_few_channels sinks made inputs h.1 k d (omega (arith, l))

module _ {P : Type 0} (state : State P) (r : IsRising state.inputs) (conn : ConnId) (stream : ℕ) where
  -- it is told something
  posted : (x : Input) → stream_of state.inputs conn stream ≡ Some x → (m : Msg P) → Suits x m → Lawful state (Posted x.index m)
  posted x e m suits = subst (λ o. IfSome o (λ y. Suits y m)) (sym (found_by_index (is_stream conn stream) state.inputs r x e)) suits

  pub cork_lawful : (on : Bool) (tag : ℕ) (o : Option Input) → stream_of state.inputs conn stream ≡ o → Each (IsLawful state) (cork o on tag)
  cork_lawful on tag None e = tt
  cork_lawful on tag (Some x) e = (posted x e (Cork x.index on) refl, tt)

  pub flush_lawful : (tag : ℕ) (o : Option Input) → stream_of state.inputs conn stream ≡ o → Each (IsLawful state) (flush o tag)
  flush_lawful tag None e = tt
  flush_lawful tag (Some x) e = (posted x e (Flush x.index) refl, tt)

  pub trigger_lawful : (tag : ℕ) (o : Option Input) → stream_of state.inputs conn stream ≡ o → Each (IsLawful state) (trigger o tag)
  trigger_lawful tag None e = tt
  trigger_lawful tag (Some x) e = (posted x e (Trigger x.index) refl, tt)

  pub prebuf_lawful : (tag : ℕ) (o : Option Input) → stream_of state.inputs conn stream ≡ o → Each (IsLawful state) (prebuf o tag)
  prebuf_lawful tag None e = tt
  prebuf_lawful tag (Some x) e = (posted x e (Prebuf x.index) refl, tt)

  pub attributes_lawful : (depth rate : ℕ) (wanted : List ℕ) (tag : ℕ) (o : Option Input) → stream_of state.inputs conn stream ≡ o → Each (IsLawful state) (attributes o depth rate wanted tag)
  attributes_lawful depth rate wanted tag None e = tt
  attributes_lawful depth rate wanted tag (Some x) e = (posted x e (Attr x.index (repaired x.spec wanted)) (refl, repaired_fits x.spec wanted), tt)

  -- what changes no attributes leaves the inputs as they are
  inputs_stay : (o : Option Input) (m : Msg P) → ((index : InputId) (inputs : List Input) → inputs_noted index m inputs ≡ inputs) → (posting_if_there o m state).inputs ≡ state.inputs
  inputs_stay None m same = refl
  inputs_stay (Some x) m same = by x.standing
    where
      by : (standing : Standing) → (posting_to_input standing x m state).inputs ≡ state.inputs
      by Settled = same x.index state.inputs
      by (Moving to) = same x.index state.inputs
      by Leaving = refl

  going : (x : Input) → stream_of state.inputs conn stream ≡ Some x → IsGoing state.inputs x.index
  going x e =
      subst (λ o. MatchOption o ⊥ (λ y. goes_on y ≡ true)) (sym (found_by_index (is_stream conn stream) state.inputs r x e))
      (and_parts (nat_eq x.conn.0 conn.0 && nat_eq x.stream stream) (goes_on x) (found_test (is_stream conn stream) state.inputs x e)).1

  -- it is asked something, and the request waits
  asked_lawful : (x : Input) → stream_of state.inputs conn stream ≡ Some x → (m : Msg P) → Suits x m → ((index : InputId) (inputs : List Input) → inputs_noted index m inputs ≡ inputs) → (awaited : Awaited) (tag : ℕ) → IsLawful state (asked x m awaited tag)
  asked_lawful x e m suits same awaited tag =
      (posted x e m suits, (subst (λ inputs. IsAwaiting inputs (record { input = x.index; tag = tag; awaited = awaited })) (sym (inputs_stay (input_of state.inputs x.index) m same)) (going x e), tt))

  pub drain_lawful : (tag : ℕ) (o : Option Input) → stream_of state.inputs conn stream ≡ o → Each (IsLawful state) (drain o tag)
  drain_lawful tag None e = tt
  drain_lawful tag (Some x) e = asked_lawful x e (Drain x.index tag) refl (λ index inputs. refl) Drained tag

  pub latency_lawful : (time : TimeVal) (tag : ℕ) (o : Option Input) → stream_of state.inputs conn stream ≡ o → Each (IsLawful state) (latency o time tag)
  latency_lawful time tag None e = tt
  latency_lawful time tag (Some x) e = asked_lawful x e (Query x.index tag) refl (λ index inputs. refl) (Measured time) tag

-- ---- it ends

pub delete_lawful : {P : Type 0} (state : State P) (o : Option Input) (waiting : List Waiting) (tag : ℕ) → Each (IsLawful state) (delete o waiting tag)
delete_lawful state None waiting tag = tt
delete_lawful state (Some x) waiting tag = (tt, tt)

-- ---- its sink answers a request

drain_answered_lawful : {P : Type 0} (state : State P) (owner : Option Connection) (o : Option Waiting) → IsLawful state (drain_answered owner o)
drain_answered_lawful state owner None = tt
drain_answered_lawful state owner (Some w) = (tt, tt)

pub drained_lawful : {P : Type 0} (state : State P) (input : Option Input) (owner : Option Connection) (waiting : List Waiting) (tag : ℕ) → IsLawful state (drained input owner waiting tag)
drained_lawful state None owner waiting tag = tt
drained_lawful state (Some x) owner waiting tag =
    cond_both (goes_on x) (drain_answered owner (drain_under waiting x.index tag)) idle (IsLawful state) (λ e. drain_answered_lawful state owner (drain_under waiting x.index tag)) (λ e. tt)

latency_answered_lawful : {P : Type 0} (state : State P) (rate : ℕ) (x : Input) (owner : Option Connection) (o : Option Waiting) (progress : Progress) → IsLawful state (latency_answered rate x owner o progress)
latency_answered_lawful state rate x owner None progress = tt
latency_answered_lawful state rate x owner (Some w) progress = (tt, tt)

pub measured_lawful : {P : Type 0} (state : State P) (input : Option Input) (owner : Option Connection) (waiting : List Waiting) (rate tag : ℕ) (progress : Progress) → IsLawful state (measured input owner waiting rate tag progress)
measured_lawful state None owner waiting rate tag progress = tt
measured_lawful state (Some x) owner waiting rate tag progress =
    cond_both (goes_on x) (latency_answered rate x owner (question_under waiting x.index tag) progress) idle (IsLawful state) (λ e. latency_answered_lawful state rate x owner (question_under waiting x.index tag) progress) (λ e. tt)

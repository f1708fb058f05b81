-- A notice that answers a request that waits: the request waits no longer, and all others do.
use Rattle.std.proofs.Common.{◌≡◌, List, [], ◌∷◌, length, Option, Some, Bool, true, false, refl, ap, sym, subst, ◌∙◌, arith, cond}
use Rattle.std.specs.Prelude.{◌+◌, not, filter, nat_eq, Contains, MatchOption}
use Rattle.std.specs.List.{find}
use Rattle.std.proofs.lemmas.Bool.{cond-true, eqb-true, eq-eqb, false≢true, and_from, and_parts}
use Rattle.std.proofs.lemmas.List.Elements.{All-contains, All-from_recursion}
use Rattle.std.proofs.lemmas.Option.{none-some}
use Rattle.px_types.specs.declared.ids.SinkId.{SinkId}
use Rattle.px_model.specs.Frame.{SampleSpec}
use Rattle.px_msg.specs.declared.notice.Notice.{Notice}
use Rattle.px_msg.specs.declared.notice.Notice.TheVariants.{Request, Overflow, Underflow, Started, Drained, Detached, Latency}
use Rattle.px_outcome.specs.declared.input.Connection.{Connection}
use Rattle.px_outcome.specs.declared.input.Input.{Input}
use Rattle.px_outcome.specs.declared.waiting.Waiting.{Waiting}
use Rattle.px_outcome.specs.Outcome.{idle}
use Rattle.px_outcome.specs.Waiting.{is_drain, is_under, is_as, is_drain_under, is_question_under, drain_under, question_under}
use Rattle.px_ctl_play.specs.declared.timing.Progress.{Progress}
use Rattle.px_ctl_play.specs.Drain.{drain_answered}
use Rattle.px_ctl_play.specs.Latency.{latency_answered}
use Rattle.px_sinks.specs.Sinks.{rate_on}
use Rattle.px_state.specs.Outcome.{CoreOutcome}
use Rattle.px_state.specs.State.{State, goes_on, input_of}
use Rattle.px_state.specs.Change.{drop_first}
use Rattle.px_core.specs.Consistency.{IsAwaiting, IsConsistent}
use Rattle.px_core.specs.Answering.{IsAnswered}
use Rattle.px_core.specs.Misfit.{IsAbout, Answers}
use Rattle.px_core.specs.Notice.{owner_of, drained_of, measured_of}
use Rattle.px_core.specs.Step.{notice, answered, stepped}
use Rattle.px_core.proofs.ListLaws.{found_test, same_left}
use Rattle.px_core.proofs.MisfitLaws.{here_by_index, here_on}
use Rattle.px_core.proofs.RefusalLaws.{some_found}

-- ---- one request fewer

one_less : (q : Waiting → Bool) (ws : List Waiting) (z : Waiting) → find q ws ≡ Some z → length (drop_first q ws) + 1 ≡ length ws
one_less q [] z e = absurd (none-some z e)
one_less q (w ∷ ws) z e = step (one_less q ws z) (q w) e
  where
    step : (find q ws ≡ Some z → length (drop_first q ws) + 1 ≡ length ws) → (b : Bool) → cond b (Some w) (find q ws) ≡ Some z → length (cond b ws (w ∷ drop_first q ws)) + 1 ≡ length (w ∷ ws)
    step more true f = omega arith
    step more false f = let l = more f in omega (arith, l)

own_as : (w : Waiting) → is_as w w ≡ true
own_as w = by (is_drain w.awaited) refl
  where
    under : is_under w.input w.tag w ≡ true
    under = and_from (nat_eq w.input.0 w.input.0) (nat_eq w.tag w.tag) (eq-eqb w.input.0 w.input.0 refl) (eq-eqb w.tag w.tag refl)

    by : (b : Bool) → is_drain w.awaited ≡ b → is_as w w ≡ true
    by true e = ap (λ b. (cond b (is_drain_under w.input w.tag) (is_question_under w.input w.tag)) w) e ∙ and_from (is_under w.input w.tag w) (is_drain w.awaited) under e
    by false e = ap (λ b. (cond b (is_drain_under w.input w.tag) (is_question_under w.input w.tag)) w) e ∙ and_from (is_under w.input w.tag w) (not (is_drain w.awaited)) under (ap not e)

same_request : (v w : Waiting) → v.input.0 ≡ w.input.0 → v.tag ≡ w.tag → is_drain v.awaited ≡ is_drain w.awaited → is_as v ≡ is_as w
same_request v w i t d = λ k. cond (d k) (is_drain_under (record { 0 = i k }) (t k)) (is_question_under (record { 0 = i k }) (t k))

module _ {P : Type 0} (state : State P) (after : List Waiting) where
  removed : (v w : Waiting) → Contains state.waiting w → v.input.0 ≡ w.input.0 → v.tag ≡ w.tag → is_drain v.awaited ≡ is_drain w.awaited → after ≡ drop_first (is_as v) state.waiting → IsAnswered state.waiting after w
  removed v w held i t d e =
      let it = some_found (is_as w) state.waiting w held (own_as w) in
      let dropped : after ≡ drop_first (is_as w) state.waiting = e ∙ ap (λ (q : Waiting → Bool). drop_first q state.waiting) (same_request v w i t d) in
      let less = one_less (is_as w) state.waiting it.0 it.1 in
      record {
        fewer = ap (λ (ws : List Waiting). length ws + 1) dropped ∙ less;
        others = ap (filter (λ u. not (is_as w u))) dropped ∙ same_left (λ u. not (is_as w u)) (is_as w) state.waiting (λ u f. ap not (found_test (is_as w) state.waiting u f));
      }

-- ---- the notices that answer

module _ {P : Type 0} (spec_of : P → SampleSpec) (state : State P) (h : IsConsistent spec_of state) (sink : SinkId) (x : Input) (w : Waiting) (waits : Contains state.waiting w) where
  abbrev owner : Option Connection
  owner = owner_of state.connections (Some x)

  is_live : Contains state.inputs x → w.input.0 ≡ x.index.0 → goes_on x ≡ true
  is_live held same =
      subst (λ o. MatchOption o ⊥ (λ y. goes_on y ≡ true)) (ap (λ i. input_of state.inputs (record { 0 = i })) same ∙ here_by_index state.inputs h.steady.rising x held)
      (All-contains (IsAwaiting state.inputs) state.waiting w (All-from_recursion (IsAwaiting state.inputs) state.waiting h.steady.waiting) waits)

  pub request_answered : (n : Notice P) → IsAbout state sink n x → Answers n w → IsAnswered state.waiting (stepped spec_of state (notice sink n)).waiting w
  request_answered (Request input frames) about is = absurd is
  request_answered (Overflow input) about is = absurd is
  request_answered (Underflow input) about is = absurd is
  request_answered (Started input) about is = absurd is
  request_answered (Detached input parcel) about is = absurd is
  request_answered (Drained input tag) about is =
      let own : w.input.0 ≡ x.index.0 = is.0 ∙ sym about.numbered in
      let drains : is_drain w.awaited ≡ true = ap is_drain is.2 in
      let first = some_found (is_drain_under x.index tag) state.waiting w waits
      (and_from (is_under x.index tag w) (is_drain w.awaited)
      (and_from (nat_eq w.input.0 x.index.0) (nat_eq w.tag tag) (eq-eqb w.input.0 x.index.0 own) (eq-eqb w.tag tag is.1)) drains) in
      let parts = and_parts (is_under x.index tag first.0) (is_drain first.0.awaited) (found_test (is_drain_under x.index tag) state.waiting first.0 first.1) in
      let under = and_parts (nat_eq first.0.input.0 x.index.0) (nat_eq first.0.tag tag) parts.0 in
      removed state (stepped spec_of state (notice sink (Drained input tag))).waiting first.0 w waits
      (eqb-true first.0.input.0 x.index.0 under.0 ∙ sym own) (eqb-true first.0.tag tag under.1 ∙ sym is.1) (parts.1 ∙ sym drains)
      (ap (λ (outcome : CoreOutcome P). (answered state outcome).waiting) (
      ap (λ o. drained_of state o tag) (here_on state h.steady.rising sink (Drained input tag) x about)
      ∙ cond-true (goes_on x) (drain_answered owner (drain_under state.waiting x.index tag)) idle (is_live about.held own)
      ∙ ap (drain_answered owner) first.1
      ))
  request_answered (Latency input tag write read buffered playing run) about is =
      let own : w.input.0 ≡ x.index.0 = is.0 ∙ sym about.numbered in
      let asks : not (is_drain w.awaited) ≡ true = ap (λ awaits. not (is_drain awaits)) is.3 in
      let first = some_found (is_question_under x.index tag) state.waiting w waits
      (and_from (is_under x.index tag w) (not (is_drain w.awaited))
      (and_from (nat_eq w.input.0 x.index.0) (nat_eq w.tag tag) (eq-eqb w.input.0 x.index.0 own) (eq-eqb w.tag tag is.1)) asks) in
      let parts = and_parts (is_under x.index tag first.0) (not (is_drain first.0.awaited)) (found_test (is_question_under x.index tag) state.waiting first.0 first.1) in
      let under = and_parts (nat_eq first.0.input.0 x.index.0) (nat_eq first.0.tag tag) parts.0 in
      removed state (stepped spec_of state (notice sink (Latency input tag write read buffered playing run))).waiting first.0 w waits
      (eqb-true first.0.input.0 x.index.0 under.0 ∙ sym own) (eqb-true first.0.tag tag under.1 ∙ sym is.1) (same_not (is_drain first.0.awaited) (is_drain w.awaited) parts.1 asks)
      (ap (λ (outcome : CoreOutcome P). (answered state outcome).waiting) (
      ap (λ o. measured_of state o sink tag progress) (here_on state h.steady.rising sink (Latency input tag write read buffered playing run) x about)
      ∙ cond-true (goes_on x) (latency_answered (rate_on state.sinks sink) x owner (question_under state.waiting x.index tag) progress) idle (is_live about.held own)
      ∙ ap (λ o. latency_answered (rate_on state.sinks sink) x owner o progress) first.1
      ))
    where
      progress : Progress
      progress = record { write = write; read = read; buffered = buffered; playing = playing; run = run }

      same_not : (a b : Bool) → not a ≡ true → not b ≡ true → a ≡ b
      same_not false false e f = refl
      same_not true b e f = absurd (false≢true e)
      same_not false true e f = absurd (false≢true f)

-- Exact entries hand out as many messages as they name.
use Rattle.std.proofs.Common.{◌≡◌, ℕ, zero, suc, ◌+◌, ◌≤◌, List, [], ◌∷◌, ◌++◌, length, replicate, refl, ap, sym, ◌∙◌, arith, length-append}
use Rattle.std.specs.Prelude.{Bool, true, false, nat_eq}
use Rattle.std.specs.List.{sum_by}
use Rattle.std.specs.Option.{option_to_list}
use Rattle.std.proofs.lemmas.Bool.{cond-true, cond-false, eq-eqb, eqb-true, eqb-false}
use Rattle.std.proofs.lemmas.List.{get_or-set_same}
use Rattle.std.proofs.lemmas.List.Sums.{sum_by-cons}
use Rattle.px_types.specs.declared.ids.SinkId.{SinkId}
use Rattle.px_annals.specs.declared.entry.CoreEntry.{CoreEntry}
use Rattle.px_annals.specs.declared.stream.PlainStream.{PlainStream}
use Rattle.px_annals.specs.declared.step.PlainStep.{PlainStep}
use Rattle.px_annals.specs.declared.step.PlainStep.TheVariants as plain
use Rattle.px_msg.specs.declared.message.Msg.{Msg}
use Rattle.px_state.specs.State.{State}
use Rattle.px_state.specs.Out.{waiting_for, next_for, first_of, rest_of, past, handed_out}
use Rattle.px_core.specs.Hearing.{posted_by_step, posted_by_steps}
use Rattle.px_core.specs.Step.{out, stepped_by}
use Rattle.px_core.proofs.HandingLaws.{list_there}
use Rattle.px_core.proofs.HearingLaws.{posted_joined}
use Rattle.px_core_cell.specs.History.{sink_at, steps_in, IsExact, AreExact, named_in}
use Rattle.px_core_cell.specs.Parcel.{spec_of}
use Rattle.px_core_cell.specs.Plain.{steps_of}
use Rattle.px_core_cell.proofs.Doing.{out_spared}

-- the others stay queued
rest_waits : (sink : SinkId) (state : State PlainStream) (m : Msg PlainStream) (rest : List (Msg PlainStream)) → waiting_for state sink ≡ m ∷ rest → waiting_for (handed_out sink state) sink ≡ rest
rest_waits sink state m rest e =
    ap (λ (ms : List (Msg PlainStream)). waiting_for (past (first_of ms) sink state) sink) e
    ∙ get_or-set_same state.posted sink.0 (rest_of (waiting_for state sink)) [] (list_there state.posted sink.0 m rest e)
    ∙ ap rest_of e

-- messages that are queued are handed out
outs_leave : (sink : SinkId) (count : ℕ) (state : State PlainStream) → count ≤ length (waiting_for state sink) → length (posted_by_steps spec_of sink state (replicate count (out sink))) ≡ count
outs_leave sink zero state h = refl
outs_leave sink (suc count) state h = by (waiting_for state sink) refl h (λ few. outs_leave sink count (handed_out sink state) few)
  where
    later : List (Msg PlainStream)
    later = posted_by_steps spec_of sink (handed_out sink state) (replicate count (out sink))

    by : (queued : List (Msg PlainStream)) → waiting_for state sink ≡ queued → suc count ≤ length queued → (count ≤ length (waiting_for (handed_out sink state) sink) → length later ≡ count)
        → length (posted_by_steps spec_of sink state (replicate (suc count) (out sink))) ≡ suc count
    by [] e few more = absurd (omega (arith, few))
    by (m ∷ rest) e few more =
        let one : posted_by_step sink state (out sink) ≡ m ∷ [] =
        cond-true (nat_eq sink.0 sink.0) (option_to_list (next_for state sink)) [] (eq-eqb sink.0 sink.0 refl)
        ∙ ap (λ (ms : List (Msg PlainStream)). option_to_list (first_of ms)) e in
        ap (λ (ms : List (Msg PlainStream)). length (ms ++ later)) one
        ∙ ap suc (more (omega (arith, few, ap (λ (ms : List (Msg PlainStream)). length ms) (rest_waits sink state m rest e))))

-- a step hands as many to a sink as it names for it
step_names : (index : ℕ) (state : State PlainStream) (d : PlainStep) → IsExact state d → length (posted_by_steps spec_of (sink_at index) state (steps_of d)) ≡ named_in index d
step_names index state (plain.Connect conn) h = refl
step_names index state (plain.Frame conn at body) h = refl
step_names index state (plain.Broken conn fault at) h = refl
step_names index state (plain.Close conn) h = refl
step_names index state (plain.Cut conn) h = refl
step_names index state plain.Sweep h = refl
step_names index state (plain.Notice sink notice) h = refl
step_names index state (plain.Out sink count) h = by (nat_eq sink index) refl
  where
    by : (b : Bool) → nat_eq sink index ≡ b → length (posted_by_steps spec_of (sink_at index) state (steps_of (plain.Out sink count))) ≡ named_in index (plain.Out sink count)
    by true e =
        ap (λ (i : ℕ). length (posted_by_steps spec_of (sink_at i) state (steps_of (plain.Out sink count)))) (sym (eqb-true sink index e))
        ∙ outs_leave (sink_at sink) count state h
        ∙ sym (cond-true (nat_eq sink index) count 0 e)
    by false e =
        ap (λ (ms : List (Msg PlainStream)). length ms) (out_spared state index sink count (eqb-false sink index e)).none_posted
        ∙ sym (cond-false (nat_eq sink index) count 0 e)

-- and so do all entries
pub entries_name : (began : State PlainStream) (entries : List CoreEntry) (index : ℕ) → AreExact began entries → length (posted_by_steps spec_of (sink_at index) began (steps_in entries)) ≡ sum_by (λ e. named_in index (CoreEntry.step e)) entries
entries_name began [] index h = refl
entries_name began (e ∷ entries) index h =
    let after : State PlainStream = stepped_by spec_of began (steps_of e.step) in
    let first : List (Msg PlainStream) = posted_by_steps spec_of (sink_at index) began (steps_of e.step) in
    let later : List (Msg PlainStream) = posted_by_steps spec_of (sink_at index) after (steps_in entries) in
    ap (λ (ms : List (Msg PlainStream)). length ms) (posted_joined spec_of (sink_at index) (steps_of e.step) (steps_in entries) began)
    ∙ length-append first later
    ∙ (λ i. step_names index began e.step h.0 i + entries_name after entries index h.1 i)
    ∙ sym (sum_by-cons (λ e. named_in index (CoreEntry.step e)) e entries)

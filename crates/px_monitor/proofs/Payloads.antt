-- The payloads that a record stream is sent, joined, are what its sink plays.
use Rattle.std.proofs.Common.{◌≡◌, ℕ, ◌≤◌, true, false, cond, List, [], ◌∷◌, ◌++◌, map, drop, length, refl, ap, sym, subst, ◌∙◌, arith, ⊎_elim}
use Rattle.std.specs.Prelude.{nat_eq, pos}
use Rattle.std.specs.List.{concat, flat_map, AllByRecursion}
use Rattle.std.proofs.lemmas.Bool.{cases_Bool, cond-true, cond-false, eqb-true, eqb-false, ne_eqb}
use Rattle.std.proofs.lemmas.Grind.{flat_map-append}
use Rattle.std.proofs.Math.Seq.{drop-append_seam}
use Rattle.px_types.specs.declared.ids.SinkId.{SinkId}
use Rattle.px_frame.specs.Descriptor.{descriptor_bytes, data_descriptor}
use Rattle.px_frame.proofs.DescriptorLemmas.{length-descriptor_bytes}
use Rattle.px_session.specs.declared.event.Event.{Event}
use Rattle.px_session.specs.declared.event.Event.TheVariants.{Connect, Bytes, Close, Cut, Turn, Collect, Stop}
use Rattle.px_state.specs.declared.effect.Effect.{Effect}
use Rattle.px_world.specs.Event.{frames_played}
use Rattle.px_monitor.specs.declared.recording.Recording.{Recording}
use Rattle.px_monitor.specs.Fragments.{fragments, data_frame, data_of, streams_on, sent_of}
use Rattle.px_monitor.specs.Monitor.{Monitor, monitor_after}
use Rattle.px_monitor.specs.Run.{with_output, has_output, due_by_event, due_by, sent_to, sent_by, payload_sent, payloads, HaveSizes, AreSized}
use Rattle.px_monitor.proofs.Joining.{joined}
use Rattle.px_monitor.proofs.Kept.{kept}

-- ---- one record stream

payload-part : (r : Recording) (part : List ℕ) → payload_sent (data_frame r part) ≡ part
payload-part r part =
    let d = data_descriptor (length part) r.stream (pos 0) 0 in
    ap (λ n. drop n (descriptor_bytes d ++ part)) (sym (length-descriptor_bytes d)) ∙ drop-append_seam (descriptor_bytes d) part

payloads-parts : (r : Recording) (parts : List (List ℕ)) → payloads (map (data_frame r) parts) ≡ flat_map (λ part. part) parts
payloads-parts r [] = refl
payloads-parts r (part ∷ parts) = ap (λ l. l ++ payloads (map (data_frame r) parts)) (payload-part r part) ∙ ap (λ l. part ++ l) (payloads-parts r parts)

payloads-data : (bytes : List ℕ) (r : Recording) → 1 ≤ r.fragsize → payloads (data_of bytes r) ≡ bytes
payloads-data bytes r some = payloads-parts r (fragments r.fragsize bytes) ∙ joined r.fragsize bytes (omega (arith, some))

-- ---- those of a sink

payloads-append : (a b : List Effect) → payloads (a ++ b) ≡ payloads a ++ payloads b
payloads-append a b = flat_map-append payload_sent a b

same-numbers : (a b : ℕ) → nat_eq a b ≡ nat_eq b a
same-numbers a b =
    ⊎_elim
    (λ (e : nat_eq a b ≡ true). subst (λ x. nat_eq a x ≡ nat_eq x a) (eqb-true a b e) refl)
    (λ (e : nat_eq a b ≡ false). e ∙ sym (ne_eqb b a (λ s. eqb-false a b e (sym s))))
    (cases_Bool (nat_eq a b))

payloads-sink : (sink : SinkId) (frames : List (List ℕ)) (streams : List Recording) → AllByRecursion (λ (r : Recording). 1 ≤ r.fragsize) streams
    → payloads (sent_of sink (concat frames) streams) ≡ flat_map (λ r. concat (cond (nat_eq sink.0 (Recording.sink r).0) frames [])) streams
payloads-sink sink frames [] all = refl
payloads-sink sink frames (r ∷ streams) all =
    let rest = payloads-sink sink frames streams all.1 in
    let others = streams_on sink streams in
    let bytes = concat frames in
    let due = flat_map (λ r. concat (cond (nat_eq sink.0 (Recording.sink r).0) frames [])) streams in
    ⊎_elim
    (λ (e : nat_eq (Recording.sink r).0 sink.0 ≡ true).
    ap (λ l. payloads (flat_map (data_of bytes) l)) (cond-true (nat_eq (Recording.sink r).0 sink.0) (r ∷ others) others e)
    ∙ payloads-append (data_of bytes r) (flat_map (data_of bytes) others)
    ∙ ap (λ l. l ++ payloads (sent_of sink bytes streams)) (payloads-data bytes r all.0)
    ∙ ap (λ l. bytes ++ l) rest
    ∙ ap (λ l. concat l ++ due) (sym (cond-true (nat_eq sink.0 (Recording.sink r).0) frames [] (same-numbers sink.0 (Recording.sink r).0 ∙ e))))
    (λ (e : nat_eq (Recording.sink r).0 sink.0 ≡ false).
    ap (λ l. payloads (flat_map (data_of bytes) l)) (cond-false (nat_eq (Recording.sink r).0 sink.0) (r ∷ others) others e)
    ∙ rest
    ∙ ap (λ l. concat l ++ due) (sym (cond-false (nat_eq sink.0 (Recording.sink r).0) frames [] (same-numbers sink.0 (Recording.sink r).0 ∙ e))))
    (cases_Bool (nat_eq (Recording.sink r).0 sink.0))

nothing-due : (streams : List Recording) → ◌≡◌ {A = List ℕ} [] (flat_map (λ (r : Recording). []) streams)
nothing-due [] = refl
nothing-due (r ∷ streams) = nothing-due streams

-- ---- a run

event-due : (m : Monitor) (e : Event) (output : ℕ) → HaveSizes (monitor_after m e) → payloads (sent_to m e output) ≡ due_by_event m e output
event-due m (Connect conn) output sizes = nothing-due (with_output output (monitor_after m (Connect conn)).records.streams)
event-due m (Bytes conn bytes) output sizes = nothing-due (with_output output (monitor_after m (Bytes conn bytes)).records.streams)
event-due m (Close conn) output sizes = nothing-due (with_output output (monitor_after m (Close conn)).records.streams)
event-due m (Cut conn) output sizes = nothing-due (with_output output (monitor_after m (Cut conn)).records.streams)
event-due m (Turn sink frames n) output sizes =
    payloads-sink (record { 0 = sink }) (frames_played m.world (Turn sink frames n)) (with_output output (monitor_after m (Turn sink frames n)).records.streams)
    (kept (λ (r : Recording). 1 ≤ r.fragsize) (has_output output) (monitor_after m (Turn sink frames n)).records.streams sizes)
event-due m (Collect sink n) output sizes = nothing-due (with_output output (monitor_after m (Collect sink n)).records.streams)
event-due m (Stop sink) output sizes = nothing-due (with_output output (monitor_after m (Stop sink)).records.streams)

pub run-due : (m : Monitor) (events : List Event) (output : ℕ) → AreSized m events → payloads (sent_by m events output) ≡ due_by m events output
run-due m [] output sized = refl
run-due m (e ∷ events) output sized =
    payloads-append (sent_to m e output) (sent_by (monitor_after m e) events output)
    ∙ ap (λ l. l ++ payloads (sent_by (monitor_after m e) events output)) (event-due m e output sized.0)
    ∙ ap (λ l. due_by_event m e output ++ l) (run-due (monitor_after m e) events output sized.1)

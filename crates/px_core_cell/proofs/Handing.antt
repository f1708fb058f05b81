-- What a sink is posted is lawful there, message by message.
use Rattle.std.proofs.Common.{◌≡◌, ℕ, zero, suc, ◌+◌, List, [], ◌∷◌, ◌++◌, map, length, drop, replicate, Option, Some, refl, ap, sym, subst, ◌∙◌}
use Rattle.std.specs.Prelude.{nat_eq, slice_get}
use Rattle.std.specs.List.{AllByRecursion}
use Rattle.std.specs.Option.{option_to_list}
use Rattle.std.proofs.lemmas.Bool.{cond-true, eq-eqb}
use Rattle.std.proofs.lemmas.List.{append-nil, append_assoc, map-append, length-map, replicate-append-replicate}
use Rattle.std.proofs.lemmas.List.Sums.{fold-append}
use Rattle.std.proofs.Math.Seq.{drop-length}
use Rattle.crossbeam_queue.specs.Fifo.{Held}
use Rattle.px_mail.specs.Mailbox.{IsHeldOf, IsLawful}
use Rattle.px_types.specs.declared.ids.SinkId.{SinkId}
use Rattle.px_annals.specs.declared.stream.PlainStream.{PlainStream}
use Rattle.px_header.specs.declared.header.SinkSpec.{SinkSpec}
use Rattle.px_sample.specs.declared.spec.Spec.{Spec}
use Rattle.px_model.specs.Orderly.{Inputs, IsOrderly, inputs_left_by}
use Rattle.px_msg.specs.declared.message.Msg.{Msg}
use Rattle.px_msg.specs.View.{sample_spec, message_of}
use Rattle.px_msg.specs.Letters.{AreLawful}
use Rattle.px_msg.proofs.Lawful.{joins, inputs}
use Rattle.px_stream.specs.HeldStream.{HeldStream}
use Rattle.px_state.specs.State.{State}
use Rattle.px_state.specs.Out.{waiting_for, next_for, handed_out}
use Rattle.px_core.specs.Consistency.{IsConsistent, IsStep}
use Rattle.px_core.specs.Hearing.{posted_by_steps}
use Rattle.px_core.specs.Step.{Step, out, stepped, stepped_by}
use Rattle.px_core.proofs.HearingLaws.{heard_by, steps_sinks, posted_joined, outs}
use Rattle.px_core.proofs.StepLaws.{steps_keep}
use Rattle.px_core.proofs.HandingLaws.{all_out}
use Rattle.px_core_cell.specs.Cell.{SinkEnds}
use Rattle.px_core_cell.specs.History.{sink_at, IsHeard}
use Rattle.px_core_cell.specs.Parcel.{seen_message, spec_of}
use Rattle.px_core_cell.specs.Step.{PostsOne, PostsMany}
use Rattle.px_core_cell.proofs.Seen.{held_spec, lawful}

-- a sink goes on being heard under all steps, once it was posted what they hand out to it
pub heard_on : (state : State PlainStream) (index : ℕ) (s : SinkSpec) (e : SinkEnds) (steps : List (Step PlainStream)) → slice_get state.sinks index ≡ Some s → AllByRecursion IsStep steps → IsConsistent spec_of state → IsHeard state index s e
    → IsHeard (stepped_by spec_of state steps) index s (record e { posted = e.posted ++ posted_by_steps spec_of (sink_at index) state steps })
heard_on state index s e steps there are consistent h =
    let handed : List (Msg PlainStream) = posted_by_steps spec_of (sink_at index) state steps in
    let heard = heard_by spec_of (sink_at index) s steps state there are consistent in
    record {
      key = h.key;
      lawful = joins spec_of (sample_spec s.spec) e.posted handed h.lawful
          (subst (λ (these : Inputs). IsOrderly spec_of (sample_spec s.spec) these (map (message_of (λ p. p)) handed)) h.inputs heard.orderly);
      inputs = heard.left ∙ ap (λ (these : Inputs). inputs_left_by spec_of these (map (message_of (λ p. p)) handed)) h.inputs ∙ sym (inputs spec_of e.posted handed);
    }

posted_one : (state : State PlainStream) (sink : SinkId) (m : Msg PlainStream) → next_for state sink ≡ Some m → posted_by_steps spec_of sink state (out sink ∷ []) ≡ m ∷ []
posted_one state sink m next =
    ap (λ (l : List (Msg PlainStream)). l ++ []) (cond-true (nat_eq sink.0 sink.0) (option_to_list (next_for state sink)) [] (eq-eqb sink.0 sink.0 refl))
    ∙ ap (λ (o : Option (Msg PlainStream)). option_to_list o ++ []) next

-- the next message may be posted
pub may_post : (state : State PlainStream) (sink : SinkId) (s : SinkSpec) (key : Option Spec) (posted : List (Msg HeldStream)) (e : SinkEnds) (item : Msg HeldStream) → e.key ≡ key → e.posted ≡ map seen_message posted → slice_get state.sinks sink.0 ≡ Some s → IsConsistent spec_of state → IsHeard state sink.0 s e
    → next_for state sink ≡ Some (seen_message item) → IsLawful (λ k messages. AreLawful held_spec (sample_spec k) messages) key (posted ++ item ∷ [])
may_post state sink s key posted e item keyed posted_is there consistent h next =
    let after = heard_on state sink.0 s e (out sink ∷ []) there (tt, tt) consistent h in
    let all : e.posted ++ posted_by_steps spec_of sink state (out sink ∷ []) ≡ map seen_message (posted ++ item ∷ []) =
    ap (λ (l : List (Msg PlainStream)). e.posted ++ l) (posted_one state sink (seen_message item) next)
    ∙ ap (λ (l : List (Msg PlainStream)). l ++ seen_message item ∷ []) posted_is
    ∙ sym (map-append seen_message posted (item ∷ [])) in
    let seen : AreLawful spec_of (sample_spec s.spec) (map seen_message (posted ++ item ∷ [])) =
    subst (λ (l : List (Msg PlainStream)). AreLawful spec_of (sample_spec s.spec) l) all after.lawful in
    subst (λ (k : Option Spec). IsLawful (λ k messages. AreLawful held_spec (sample_spec k) messages) k (posted ++ item ∷ [])) (sym h.key ∙ keyed)
    (lawful (sample_spec s.spec) (posted ++ item ∷ []) seen)

-- no message yet
pub none_posted : (sink : SinkId) (state : State PlainStream) (e : SinkEnds) → PostsMany sink 0 state state e e
none_posted sink state e = record { state = refl; ends = ap (λ (l : List (Msg PlainStream)). record e { posted = l }) (sym (append-nil e.posted)) }

abbrev out_of : SinkId → Step PlainStream
out_of sink = out sink

one_more : (sink : SinkId) (n : ℕ) → replicate (n + 1) (out_of sink) ≡ replicate n (out_of sink) ++ out_of sink ∷ []
one_more sink n = sym (replicate-append-replicate n 1 (out_of sink))

-- one message more
pub more_posted : (sink : SinkId) (n : ℕ) (began before after : State PlainStream) (d e f : SinkEnds) → PostsMany sink n began before d e → PostsOne sink before after e f → PostsMany sink (n + 1) began after d f
more_posted sink n began before after d e f so_far one =
    let steps : List (Step PlainStream) = replicate n (out sink) in
    record {
      state = one.state ∙ ap (λ (s : State PlainStream). handed_out sink s) so_far.state ∙ sym (fold-append (stepped spec_of) began steps (out sink ∷ []))
          ∙ ap (λ (l : List (Step PlainStream)). stepped_by spec_of began l) (sym (one_more sink n));
      ends = one.ends ∙ ap (λ (x : SinkEnds). record x { posted = x.posted ++ one.message ∷ [] }) so_far.ends
          ∙ ap (λ (l : List (Msg PlainStream)). record d { posted = l })
          (append_assoc d.posted (posted_by_steps spec_of sink began steps) (one.message ∷ [])
          ∙ ap (λ (l : List (Msg PlainStream)). d.posted ++ l)
          (ap (λ (l : List (Msg PlainStream)). posted_by_steps spec_of sink began steps ++ l)
          (sym (posted_one before sink one.message one.next) ∙ ap (λ (s : State PlainStream). posted_by_steps spec_of sink s (out sink ∷ [])) so_far.state)
          ∙ sym (posted_joined spec_of sink steps (out sink ∷ []) began)
          ∙ ap (λ (l : List (Step PlainStream)). posted_by_steps spec_of sink began l) (sym (one_more sink n))));
    }

-- all that waited were handed out
pub all_gone : (sink : SinkId) (n : ℕ) (began after : State PlainStream) (d e : SinkEnds) → IsConsistent spec_of began → n ≡ length (waiting_for began sink) → PostsMany sink n began after d e → waiting_for after sink ≡ []
all_gone sink n began after d e consistent count posts =
    let are = all_out spec_of began sink consistent.steady n (waiting_for began sink) refl in
    ap (λ (s : State PlainStream). waiting_for s sink) (posts.state ∙ outs spec_of sink n began) ∙ are.waits
    ∙ ap (λ (k : ℕ). drop k (waiting_for began sink)) count ∙ drop-length (waiting_for began sink)

pub all_outs : (sink : SinkId) (n : ℕ) → AllByRecursion (IsStep {P = PlainStream}) (replicate n (out sink))
all_outs sink zero = tt
all_outs sink (suc n) = (tt, all_outs sink n)

-- behind these messages the sink is heard still
pub heard_still : (sink : SinkId) (n : ℕ) (began after : State PlainStream) (d e : SinkEnds) (s : SinkSpec) → slice_get began.sinks sink.0 ≡ Some s → IsConsistent spec_of began → IsHeard began sink.0 s d → PostsMany sink n began after d e → IsHeard after sink.0 s e
heard_still sink n began after d e s there consistent h posts =
    subst (λ (x : State PlainStream × SinkEnds). IsHeard x.0 sink.0 s x.1) (λ i. (sym posts.state i, sym posts.ends i))
    (heard_on began sink.0 s d (replicate n (out sink)) there (all_outs sink n) consistent h)

-- a sink that is there
abbrev pub IsThere : SinkId → State PlainStream → SinkEnds → Type 0
IsThere sink state e = (s : SinkSpec) × (slice_get state.sinks sink.0 ≡ Some s) × IsHeard state sink.0 s e

pub there_still : (sink : SinkId) (n : ℕ) (began after : State PlainStream) (d e : SinkEnds) → IsThere sink began d → IsConsistent spec_of began → PostsMany sink n began after d e → IsThere sink after e
there_still sink n began after d e is consistent posts = (
  is.0,
  ap (λ (l : List SinkSpec). slice_get l sink.0) (ap (λ (s : State PlainStream). s.sinks) posts.state ∙ steps_sinks spec_of began (replicate n (out sink))) ∙ is.1,
  heard_still sink n began after d e is.0 is.1 consistent is.2 posts,
)

-- and the core keeps what it keeps
pub consistent_still : (sink : SinkId) (n : ℕ) (began after : State PlainStream) (d e : SinkEnds) → IsConsistent spec_of began → PostsMany sink n began after d e → IsConsistent spec_of after
consistent_still sink n began after d e consistent posts =
    subst (λ (s : State PlainStream). IsConsistent spec_of s) (sym posts.state) (steps_keep spec_of began (replicate n (out sink)) (all_outs sink n) consistent)

-- the mailbox held 256 of those that were posted, as they are seen
pub held_seen : (posted : List (Msg HeldStream)) → Held 256 (IsHeldOf posted) → Held 256 (IsHeldOf (map seen_message posted))
held_seen posted h = (
  map seen_message h.0,
  length-map h.0 seen_message ∙ h.1,
  (map seen_message h.2.0, ap (λ (l : List (Msg HeldStream)). map seen_message l) h.2.1 ∙ map-append seen_message h.2.0 h.0),
)

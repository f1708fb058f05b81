-- A notice that doesn't fit has no effect and changes nothing.
use Rattle.std.proofs.Common.{◌≡◌, ℕ, ◌<◌, List, [], ◌∷◌, Option, Some, None, Bool, true, false, refl, ap, ◌∙◌, arith, cond}
use Rattle.std.specs.Prelude.{◌&&◌, not, nat_eq, slice_get, All, Contains}
use Rattle.std.specs.List.{AllByRecursion, find}
use Rattle.std.proofs.lemmas.Bool.{cond-false, eqb-true, eq-eqb, false≢true, and_left, and_right, and_from, and_parts}
use Rattle.std.proofs.lemmas.List.Elements.{All-contains_itself, All-contains, All-from_recursion, recursion_from_All}
use Rattle.px_types.specs.declared.ids.SinkId.{SinkId}
use Rattle.px_tag.specs.declared.raw.TimeVal.{TimeVal}
use Rattle.px_model.specs.Frame.{SampleSpec}
use Rattle.px_msg.specs.declared.notice.Notice.{Notice}
use Rattle.px_msg.specs.declared.notice.Notice.TheVariants.{Request, Overflow, Underflow, Started, Drained, Detached, Latency}
use Rattle.px_msg.specs.View.{sample_spec}
use Rattle.px_outcome.specs.declared.input.Connection.{Connection}
use Rattle.px_outcome.specs.declared.input.Input.{Input}
use Rattle.px_outcome.specs.declared.input.Standing.{Standing}
use Rattle.px_outcome.specs.declared.input.Standing.TheVariants.{Settled, Moving, Leaving}
use Rattle.px_outcome.specs.declared.waiting.Awaited.{Awaited}
use Rattle.px_outcome.specs.declared.waiting.Awaited.TheVariants as awaited
use Rattle.px_outcome.specs.declared.waiting.Waiting.{Waiting}
use Rattle.px_outcome.specs.Waiting.{is_drain, is_under, is_drain_under, is_question_under, drain_under, question_under}
use Rattle.px_outcome.specs.Outcome.{idle, notifying}
use Rattle.px_ctl_play.specs.declared.notified.News.{News}
use Rattle.px_ctl_play.specs.declared.notified.News.TheVariants as news
use Rattle.px_ctl_play.specs.declared.timing.Progress.{Progress}
use Rattle.px_ctl_play.specs.Arrival.{hands_over}
use Rattle.px_ctl_play.specs.Drain.{drain_answered}
use Rattle.px_ctl_play.specs.Latency.{latency_answered}
use Rattle.px_ctl_play.specs.Notified.{message_of, notified, has_left, same_spec, gives_up, gone}
use Rattle.px_state.specs.State.{State, is_leaving, goes_on, has_index, input_of}
use Rattle.px_state.specs.Outcome.{CoreOutcome}
use Rattle.px_state.proofs.SceneLaws.{none_events}
use Rattle.px_core.specs.Consistency.{IsRising}
use Rattle.px_core.specs.Misfit.{index_in, IsAbout, IsAnswer, Answers, Misfits, elsewhere, unasked, unbidden, foreign}
use Rattle.px_core.specs.Notice.{is_on, input_on, owner_of, notified_of, drained_of, measured_of, left_of, arrival_at, arrived_with, given_up_by, given_up, notice_answer, IsNews}
use Rattle.px_core.specs.Step.{notice, answered, answer_effects, stepped, effects_of}
use Rattle.px_sinks.specs.Sinks.{rate_on}
use Rattle.px_core.proofs.ListLaws.{found_test, found_all}
use Rattle.px_core.proofs.AnswerLaws.{away}
use Rattle.px_core.proofs.ArrivalLaws.{spec_is}

-- ---- tests and lists

is_false : (b : Bool) → (b ≡ true → ⊥) → b ≡ false
is_false true fails = absurd (fails refl)
is_false false fails = refl

found_held : {A : Type 0} (q : A → Bool) (xs : List A) (y : A) → find q xs ≡ Some y → Contains xs y
found_held q xs y e = found_all (Contains xs) q xs y (recursion_from_All (Contains xs) xs (All-contains_itself xs)) e

none_found : {A : Type 0} (q : A → Bool) (xs : List A) → AllByRecursion (λ x. q x ≡ true → ⊥) xs → find q xs ≡ None
none_found q [] h = refl
none_found q (x ∷ xs) h = cond-false (q x) (Some x) (find q xs) (is_false (q x) h.0) ∙ none_found q xs h.1

-- ---- the one input of an index that passes a test

module _ (q : Input → Bool) (i : ℕ) (numbers : (x : Input) → q x ≡ true → x.index.0 ≡ i) where
  later_found : (x : Input) (xs ys : List Input) → AllByRecursion (λ y. x.index.0 < (Input.index y).0) ys → AllByRecursion (λ y. q y ≡ true → find q xs ≡ Some y) ys
      → AllByRecursion (λ y. q y ≡ true → find q (x ∷ xs) ≡ Some y) ys
  later_found x xs [] above h = tt
  later_found x xs (y ∷ ys) above h = (
    λ t. cond-false (q x) (Some x) (find q xs) (is_false (q x) (λ s. absurd (omega (arith, above.0, numbers x s, numbers y t)))) ∙ h.0 t,
    later_found x xs ys above.1 h.1,
  )

  all_found : (xs : List Input) → IsRising xs → AllByRecursion (λ y. q y ≡ true → find q xs ≡ Some y) xs
  all_found [] r = tt
  all_found (x ∷ xs) r = (λ t. ap (λ b. cond b (Some x) (find q xs)) t, later_found x xs xs r.0 (all_found xs r.1))

  pub held_found : (xs : List Input) → IsRising xs → (x : Input) → Contains xs x → q x ≡ true → find q xs ≡ Some x
  held_found xs r x held =
      All-contains (λ y. q y ≡ true → find q xs ≡ Some y) xs x (All-from_recursion (λ y. q y ≡ true → find q xs ≡ Some y) xs (all_found xs r)) held

pub here_by_index : (xs : List Input) → IsRising xs → (x : Input) → Contains xs x → input_of xs x.index ≡ Some x
here_by_index xs r x held =
    held_found (has_index x.index) x.index.0 (λ y t. eqb-true y.index.0 x.index.0 t) xs r x held (eq-eqb x.index.0 x.index.0 refl)

pub here_on : {P : Type 0} (state : State P) → IsRising state.inputs → (sink : SinkId) (n : Notice P) (x : Input) → IsAbout state sink n x → input_on state.inputs sink (index_in n) ≡ Some x
here_on state r sink n x about =
    held_found (is_on sink (index_in n)) (index_in n).0
    (λ y t. eqb-true y.index.0 (index_in n).0 (and_parts (nat_eq y.index.0 (index_in n).0) (nat_eq y.sink.0 sink.0) t).0)
    state.inputs r x about.held
    (and_from (nat_eq x.index.0 (index_in n).0) (nat_eq x.sink.0 sink.0) (eq-eqb x.index.0 (index_in n).0 about.numbered) (eq-eqb x.sink.0 sink.0 about.on))

-- ---- notices that do nothing

module _ {P : Type 0} (spec_of : P → SampleSpec) (state : State P) (sink : SinkId) where
  abbrev DoesNothing : Notice P → Type 0
  DoesNothing n = (stepped spec_of state (notice sink n) ≡ state) × (effects_of spec_of state (notice sink n) ≡ [])

  nothing : (n : Notice P) → notice_answer spec_of state sink n ≡ idle → DoesNothing n
  nothing n e = (
    ap (λ (outcome : CoreOutcome P). answered state outcome) e,
    ap (λ (outcome : CoreOutcome P). answer_effects None state outcome) e ∙ none_events state,
  )

  -- of no input
  none_about : (n : Notice P) → ((x : Input) → IsAbout state sink n x → ⊥) → input_on state.inputs sink (index_in n) ≡ None
  none_about n none = by (input_on state.inputs sink (index_in n)) refl
    where
      by : (o : Option Input) → input_on state.inputs sink (index_in n) ≡ o → o ≡ None
      by None e = refl
      by (Some x) e =
          let parts = and_parts (nat_eq x.index.0 (index_in n).0) (nat_eq x.sink.0 sink.0) (found_test (is_on sink (index_in n)) state.inputs x e) in
          absurd (none x (record {
            held = found_held (is_on sink (index_in n)) state.inputs x e;
            numbered = eqb-true x.index.0 (index_in n).0 parts.0;
            on = eqb-true x.sink.0 sink.0 parts.1;
          }))

  of_none : (n : Notice P) → input_on state.inputs sink (index_in n) ≡ None → notice_answer spec_of state sink n ≡ idle
  of_none (Request input frames) e = ap (λ o. notified_of state o (news.Request frames)) e
  of_none (Overflow input) e = ap (λ o. notified_of state o news.Overflow) e
  of_none (Underflow input) e = ap (λ o. notified_of state o news.Underflow) e
  of_none (Started input) e = ap (λ o. notified_of state o news.Started) e
  of_none (Drained input tag) e = ap (λ o. drained_of state o tag) e
  of_none (Detached input parcel) e = ap (λ o. given_up spec_of state sink o parcel) e
  of_none (Latency input tag write read buffered playing run) e =
      ap (λ o. measured_of state o sink tag (record { write = write; read = read; buffered = buffered; playing = playing; run = run })) e

  same_either : (b : Bool) (outcome : CoreOutcome P) → outcome ≡ idle → cond b outcome idle ≡ idle
  same_either true outcome e = e
  same_either false outcome e = refl

  -- of one that is there: a request that doesn't wait
  drained_is : (awaits : Awaited) → is_drain awaits ≡ true → awaits ≡ awaited.Drained
  drained_is awaited.Drained e = refl
  drained_is (awaited.Latency time) e = absurd (false≢true e)

  asks_time : (awaits : Awaited) → not (is_drain awaits) ≡ true → (time : TimeVal) × (awaits ≡ awaited.Latency time)
  asks_time awaited.Drained e = absurd (false≢true e)
  asks_time (awaited.Latency time) e = (time, refl)

  unanswered : (n : Notice P) → IsAnswer n → All (λ w. Answers n w → ⊥) state.waiting → (x : Input) → x.index.0 ≡ (index_in n).0 → input_on state.inputs sink (index_in n) ≡ Some x
      → notice_answer spec_of state sink n ≡ idle
  unanswered (Request input frames) is none x own e = absurd is
  unanswered (Overflow input) is none x own e = absurd is
  unanswered (Underflow input) is none x own e = absurd is
  unanswered (Started input) is none x own e = absurd is
  unanswered (Detached input parcel) is none x own e = absurd is
  unanswered (Drained input tag) is none x own e =
      ap (λ o. drained_of state o tag) e
      ∙ same_either (goes_on x) (drain_answered (owner_of state.connections (Some x)) (drain_under state.waiting x.index tag))
      (ap (λ o. drain_answered (owner_of state.connections (Some x)) o)
      (none_found (is_drain_under x.index tag) state.waiting (each state.waiting (recursion_from_All (λ w. Answers {P = P} (Drained input tag) w → ⊥) state.waiting none))))
    where
      each : (ws : List Waiting) → AllByRecursion (λ w. Answers {P = P} (Drained input tag) w → ⊥) ws → AllByRecursion (λ w. is_drain_under x.index tag w ≡ true → ⊥) ws
      each [] h = tt
      each (w ∷ ws) h = (
        λ t.
            let parts = and_parts (is_under x.index tag w) (is_drain w.awaited) t in
            let under = and_parts (nat_eq w.input.0 x.index.0) (nat_eq w.tag tag) parts.0 in
            h.0 (eqb-true w.input.0 x.index.0 under.0 ∙ own, eqb-true w.tag tag under.1, drained_is w.awaited parts.1),
        each ws h.1,
      )
  unanswered (Latency input tag write read buffered playing run) is none x own e =
      ap (λ o. measured_of state o sink tag progress) e
      ∙ same_either (goes_on x) (latency_answered (rate_on state.sinks sink) x (owner_of state.connections (Some x)) (question_under state.waiting x.index tag) progress)
      (ap (λ o. latency_answered (rate_on state.sinks sink) x (owner_of state.connections (Some x)) o progress)
      (none_found (is_question_under x.index tag) state.waiting
      (each state.waiting (recursion_from_All (λ w. Answers {P = P} (Latency input tag write read buffered playing run) w → ⊥) state.waiting none))))
    where
      progress : Progress
      progress = record { write = write; read = read; buffered = buffered; playing = playing; run = run }

      each : (ws : List Waiting) → AllByRecursion (λ w. Answers {P = P} (Latency input tag write read buffered playing run) w → ⊥) ws → AllByRecursion (λ w. is_question_under x.index tag w ≡ true → ⊥) ws
      each [] h = tt
      each (w ∷ ws) h = (
        λ t.
            let parts = and_parts (is_under x.index tag w) (not (is_drain w.awaited)) t in
            let under = and_parts (nat_eq w.input.0 x.index.0) (nat_eq w.tag tag) parts.0 in
            let asked = asks_time w.awaited parts.1 in
            h.0 (eqb-true w.input.0 x.index.0 under.0 ∙ own, eqb-true w.tag tag under.1, asked.0, asked.1),
        each ws h.1,
      )

  -- a parcel that wasn't to be handed over
  no_more : (a b c : Bool) → (b && c) ≡ false → ((a && b) && c) ≡ false
  no_more true b c e = e
  no_more false b c e = refl

  stays : (x : Input) (parcel : P) → hands_over (spec_of parcel) x ≡ false → given_up spec_of state sink (Some x) parcel ≡ idle
  stays x parcel e = by x.standing
    where
      keeps : left_of spec_of state sink (Some x) parcel ≡ idle
      keeps = cond-false (gives_up (spec_of parcel) x) (gone x (slice_get state.groups sink.0) state.inputs) idle
          (no_more (is_leaving x.standing) (has_left x.way) (same_spec (spec_of parcel) (sample_spec x.spec)) e)

      by : (standing : Standing) → given_up_by spec_of state sink x parcel standing ≡ idle
      by Settled = keeps
      by (Moving to) = cond-false (hands_over (spec_of parcel) x) (arrived_with x.index parcel (arrival_at state to x)) (left_of spec_of state sink (Some x) parcel) e ∙ keeps
      by Leaving = keeps

  unwanted : (n : Notice P) (parcel : P) → n ≡ Detached (index_in n) parcel → (x : Input) → input_on state.inputs sink (index_in n) ≡ Some x → hands_over (spec_of parcel) x ≡ false
      → notice_answer spec_of state sink n ≡ idle
  unwanted n parcel is x e off =
      ap (notice_answer spec_of state sink) is
      ∙ ap (λ o. given_up spec_of state sink o parcel) e
      ∙ stays x parcel off

  pub misfit_does_nothing : IsRising state.inputs → (n : Notice P) → Misfits spec_of state sink n → DoesNothing n
  misfit_does_nothing r n (elsewhere none) = nothing n (of_none n (none_about n none))
  misfit_does_nothing r n (unasked x about live is none) = nothing n (unanswered n is none x about.numbered (here_on state r sink n x about))
  misfit_does_nothing r n (unbidden x parcel about brings apart) =
      nothing n (unwanted n parcel brings x (here_on state r sink n x about)
      (and_left (has_left x.way) (same_spec (spec_of parcel) (sample_spec x.spec)) (is_false (has_left x.way) (λ t. apart (away x.way t)))))
  misfit_does_nothing r n (foreign x parcel about brings apart) =
      nothing n (unwanted n parcel brings x (here_on state r sink n x about)
      (and_right (has_left x.way) (same_spec (spec_of parcel) (sample_spec x.spec)) (is_false (same_spec (spec_of parcel) (sample_spec x.spec)) (λ t. apart (spec_is (spec_of parcel) (sample_spec x.spec) t)))))

  -- a notice of news about an input that has ended
  pub ended_does_nothing : IsRising state.inputs → (n : Notice P) → IsNews n → (x : Input) → IsAbout state sink n x → x.standing ≡ Leaving → DoesNothing n
  ended_does_nothing r n is x about left = nothing n (by n is (here_on state r sink n x about))
    where
      ended : goes_on x ≡ false
      ended = ap (λ standing. not (is_leaving standing)) left

      unheard : (about : News) (owner : Option Connection) → notified {P = P} (Some x) owner about ≡ idle
      unheard about None = refl
      unheard about (Some c) = cond-false (goes_on x) (notifying c.conn (message_of about x)) idle ended

      by : (m : Notice P) → IsNews m → input_on state.inputs sink (index_in m) ≡ Some x → notice_answer spec_of state sink m ≡ idle
      by (Request input frames) is e = ap (λ o. notified_of state o (news.Request frames)) e ∙ unheard (news.Request frames) (owner_of state.connections (Some x))
      by (Overflow input) is e = ap (λ o. notified_of state o news.Overflow) e ∙ unheard news.Overflow (owner_of state.connections (Some x))
      by (Underflow input) is e = ap (λ o. notified_of state o news.Underflow) e ∙ unheard news.Underflow (owner_of state.connections (Some x))
      by (Started input) is e = ap (λ o. notified_of state o news.Started) e ∙ unheard news.Started (owner_of state.connections (Some x))
      by (Drained input tag) is e =
          ap (λ o. drained_of state o tag) e
          ∙ cond-false (goes_on x) (drain_answered (owner_of state.connections (Some x)) (drain_under state.waiting x.index tag)) idle ended
      by (Detached input parcel) is e = absurd is
      by (Latency input tag write read buffered playing run) is e =
          ap (λ o. measured_of state o sink tag (record { write = write; read = read; buffered = buffered; playing = playing; run = run })) e
          ∙ cond-false (goes_on x)
          (latency_answered (rate_on state.sinks sink) x (owner_of state.connections (Some x)) (question_under state.waiting x.index tag) (record { write = write; read = read; buffered = buffered; playing = playing; run = run }))
          idle ended

-- The counts of a run go on event by event, and what is shown of an event follows from what it did.
use Rattle.std.proofs.Common.{◌≡◌, ℕ, ◌+◌, Bool, true, false, cond, nat_eq, List, [], ◌∷◌, ◌++◌, length, length-append, Option, refl, ap, sym, ◌∙◌, append_assoc, append-nil}
use Rattle.std.specs.List.{concat, count_by}
use Rattle.std.proofs.lemmas.List.Sums.{sum_by-append}
use Rattle.px_session.specs.declared.event.Event.{Event}
use Rattle.px_session.specs.declared.event.Event.TheVariants.{Connect, Bytes, Close, Cut, Turn, Collect, Stop}
use Rattle.px_state.specs.declared.effect.Effect.{Effect}
use Rattle.px_world.specs.World.{World}
use Rattle.px_world.specs.Event.{world_after, effects_after, frames_played, stopped_by}
use Rattle.px_world.specs.History.{played_on}
use Rattle.px_app.specs.declared.view.Lens.{Lens}
use Rattle.px_app.specs.declared.view.Lens.TheVariants as lens
use Rattle.px_app.specs.declared.tally.Tally.{Tally}
use Rattle.px_app.specs.Summary.{is_sent, is_closed, sent_in, closed_in, effects_by_run, tally_by, tallied}
use Rattle.px_app.specs.Mode.{state_by}
use Rattle.px_app.specs.View.{part_of, world_course}
use Rattle.px_app.specs.Records.{turn_sink, raw_part, shown_part}
use Rattle.px_app.proofs.RecordLaws.{outcome_is}

-- ---- counts

counts-append : (p : Effect → Bool) (xs ys : List Effect) → count_by p (xs ++ ys) ≡ count_by p xs + count_by p ys
counts-append p xs ys = sum_by-append (λ x. cond (p x) 1 0) xs ys

effects-push : (w : World) (events : List Event) (e : Event) → effects_by_run w (events ++ e ∷ []) ≡ effects_by_run w events ++ effects_after (state_by world_course w events) e
effects-push w [] e = append-nil (effects_after w e)
effects-push w (d ∷ events) e =
    ap (λ (l : List Effect). effects_after w d ++ l) (effects-push (world_after w d) events e)
    ∙ sym (append_assoc (effects_after w d) (effects_by_run (world_after w d) events) (effects_after (state_by world_course (world_after w d) events) e))

abbrev tally_of : ℕ → ℕ → ℕ → Tally
tally_of events sent closed = record { events = events; sent = sent; closed = closed }

pub tally-push : (w : World) (events : List Event) (e : Event) → tally_by w (events ++ e ∷ []) ≡ tallied (tally_by w events) (effects_after (state_by world_course w events) e)
tally-push w events e =
    let done = effects_by_run w events in
    let more = effects_after (state_by world_course w events) e in
    let count : length (events ++ e ∷ []) ≡ length events + 1 = length-append events (e ∷ []) in
    let sent = ap sent_in (effects-push w events e) ∙ counts-append is_sent done more in
    let closed = ap closed_in (effects-push w events e) ∙ counts-append is_closed done more in
    ap (λ (n : ℕ). tally_of n (sent_in (effects_by_run w (events ++ e ∷ []))) (closed_in (effects_by_run w (events ++ e ∷ [])))) count
    ∙ ap (λ (n : ℕ). tally_of (length events + 1) n (closed_in (effects_by_run w (events ++ e ∷ [])))) sent
    ∙ ap (λ (n : ℕ). tally_of (length events + 1) (sent_in done + sent_in more) n) closed

-- ---- of an event

concat-if : (b : Bool) (frames : List (List ℕ)) → concat (cond b frames []) ≡ cond b (concat frames) []
concat-if true frames = refl
concat-if false frames = refl

raw-is : (w : World) (e : Event) (k : ℕ) → raw_part (turn_sink e) k (concat (frames_played w e)) ≡ concat (played_on w e k)
raw-is w (Connect conn) k = refl
raw-is w (Bytes conn bytes) k = refl
raw-is w (Close conn) k = refl
raw-is w (Cut conn) k = refl
raw-is w (Turn sink frames n) k = sym (concat-if (nat_eq sink k) (frames_played w (Turn sink frames n)))
raw-is w (Collect sink n) k = refl
raw-is w (Stop sink) k = refl

-- what is shown of an event, from what it did
pub shown_is : (l : Lens) (w : World) (e : Event) (effects : List Effect) (stopped : Option ℕ) (frames : ℕ) (played : List ℕ) → effects ≡ effects_after w e → stopped ≡ stopped_by w e → frames ≡ length (frames_played w e) → played ≡ concat (frames_played w e)
    → shown_part l (turn_sink e) effects stopped frames played ≡ part_of l w e
shown_is lens.Records w e effects stopped frames played same stop count bytes = outcome_is w e effects stopped frames played same stop count bytes
shown_is (lens.Raw k) w e effects stopped frames played same stop count bytes = ap (raw_part (turn_sink e) k) bytes ∙ raw-is w e k
shown_is lens.Summary w e effects stopped frames played same stop count bytes = refl

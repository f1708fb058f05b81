-- A replay is a run of the world.
use Rattle.std.proofs.Common.{◌≡◌, ◌≢◌, inl, ℕ, List, [], ◌∷◌, ◌++◌, Option, None, Some, Err, refl, sym, ap, subst, ◌∙◌}
use Rattle.std.specs.List.{concat}
use Rattle.std.proofs.lemmas.List.Folds.{concat-append}
use Rattle.px_ends.specs.Visible.{after_adding}
use Rattle.px_ends.specs.Whole.{AddsFront}
use Rattle.px_types.specs.declared.status.Status.{Status}
use Rattle.px_session.specs.Reader.{Reader}
use Rattle.px_header.specs.declared.header.Header.{Header}
use Rattle.px_session.specs.declared.event.Event.{Event}
use Rattle.px_world.specs.declared.fault.WorldFault.{WorldFault}
use Rattle.px_world.specs.declared.fault.WorldFault.TheVariants.{Live, NotLive, NoSink, Worn, TooMany, NoMemory}
use Rattle.px_world.specs.World.{World, new_world}
use Rattle.px_world.specs.Admission.{refusal_of}
use Rattle.px_world.specs.Event.{world_after, effects_after}
use Rattle.px_world.specs.History.{AreDecided, played_on, played_by_run}
use Rattle.px_world.specs.Output.{world_by, records_of, output_of, AreAdmitted as IsRun}
use Rattle.px_world.specs.Running.{StandsFor}
use Rattle.px_world.proofs.Decided.{is-decided}
use Rattle.px_app.specs.declared.replay_stage.Replaying.{Replaying}
use Rattle.px_app.specs.declared.tally.Tally.{Tally}
use Rattle.px_app.specs.declared.view.Lens.{Lens}
use Rattle.px_app.specs.declared.view.Lens.TheVariants as lens
use Rattle.px_app.specs.declared.ending.Ending.{Ending}
use Rattle.px_app.specs.declared.ending.Ending.TheVariants as ending
use Rattle.px_app.specs.Ends.{Ends, Log}
use Rattle.px_app.specs.Mode.{state_by, state_after, AreAdmitted, shown_by, output_by}
use Rattle.px_app.specs.Played.{InputPlayed, Played}
use Rattle.px_app.specs.Replay.{IsAfter, Unmade, Replays}
use Rattle.px_app.specs.Session.{IsPlayed}
use Rattle.px_app.specs.Stage.{EventDone, EventCut, EventPlayed}
use Rattle.px_app.specs.Summary.{tallied, tally_by}
use Rattle.px_app.specs.Step.{IsOpened}
use Rattle.px_app.specs.View.{Shown, lens_of, part_of, ending_of, last_part, world_course, replay_mode, shown_of_run}
use Rattle.px_app.proofs.ModeLaws.{state-push}
use Rattle.px_app.proofs.PlayLaws.{opened_unnamed, opened_nothing}
use Rattle.px_app.proofs.PlayedLaws.{plays}
use Rattle.px_app.proofs.ViewLaws.{tally-push}

-- ---- the world's own words

pub states_are : (w : World) (events : List Event) → state_by world_course w events ≡ world_by w events
states_are w [] = refl
states_are w (e ∷ events) = states_are (world_after w e) events

pub admitted_run : (w : World) (events : List Event) → AreAdmitted world_course w events → IsRun w events
admitted_run w [] a = tt
admitted_run w (e ∷ events) a = (a.0, admitted_run (world_after w e) events a.1)

pub run_admitted : (w : World) (events : List Event) → IsRun w events → AreAdmitted world_course w events
run_admitted w [] a = tt
run_admitted w (e ∷ events) a = (a.0, run_admitted (world_after w e) events a.1)

pub shown_are : (l : Lens) (w : World) (events : List Event) → shown_by replay_mode l w events ≡ shown_of_run l w events
shown_are lens.Records w [] = refl
shown_are lens.Records w (e ∷ events) = ap (λ (b : List ℕ). records_of w e ++ b) (shown_are lens.Records (world_after w e) events)
shown_are (lens.Raw k) w [] = refl
shown_are (lens.Raw k) w (e ∷ events) =
    ap (λ (b : List ℕ). concat (played_on w e k) ++ b) (shown_are (lens.Raw k) (world_after w e) events)
    ∙ sym (concat-append (played_on w e k) (played_by_run (world_after w e) events k))
shown_are lens.Summary w [] = refl
shown_are lens.Summary w (e ∷ events) = shown_are lens.Summary (world_after w e) events

pub outputs_are : (header : Header) (events : List Event) → output_by replay_mode lens.Records header events ≡ output_of header events
outputs_are header events = ap (λ (b : List ℕ). b ++ last_part lens.Records header events) (shown_are lens.Records (new_world header) events)

-- ---- what is played whole

pub are_decided : (bytes : List ℕ) (header : Header) (events : List Event) → IsPlayed world_course bytes header events → AreDecided header events
are_decided bytes header events p = λ k s there. is-decided header events k s there (admitted_run (new_world header) events p.admitted)

pub replays : (shown : Shown) (answered : Status) (before after : Ends) (log_before log_after : Log) → Played replay_mode shown answered before after log_before log_after → Replays shown answered before after log_before log_after
replays shown answered before after log_before log_after x =
    let p = plays replay_mode shown answered before after log_before log_after x in
    record { plays = p; decided = λ is. are_decided (p.ok is).bytes (p.ok is).header (p.ok is).events (p.ok is).played }

-- why there is no stage
pub unmade_played : (shown : Shown) (ended : Ending) (reader : Reader) (header : Header) (before after : Ends) → IsOpened reader header before after → Unmade ended (lens_of shown header.sinks) → InputPlayed replay_mode shown ended before after
unmade_played shown ending.NoSuchSink reader header before after o none = opened_unnamed replay_mode shown reader header before after o none
unmade_played shown ending.Memory reader header before after o none = opened_nothing replay_mode shown reader header before after o
unmade_played shown ending.Done reader header before after o none = absurd none
unmade_played shown (ending.Refused refusal) reader header before after o none = absurd none
unmade_played shown ending.Usage reader header before after o none = absurd none
unmade_played shown ending.ReadFault reader header before after o none = absurd none
unmade_played shown ending.WriteFault reader header before after o none = absurd none

-- ---- an event

-- what is shown of it was added
pub event_done : (l : Lens) (w : World) (e : Event) (bytes : List ℕ) (before now : Option (List ℕ)) → bytes ≡ part_of l w e → refusal_of w e ≡ None → now ≡ after_adding before bytes → EventDone replay_mode l w e before now
event_done l w e bytes before now same admitted gained = record { admitted = admitted; gained = gained ∙ ap (after_adding before) same }

-- or a front of it
pub event_cut : (l : Lens) (w : World) (e : Event) (bytes : List ℕ) (before now : Option (List ℕ)) → bytes ≡ part_of l w e → refusal_of w e ≡ None → AddsFront bytes before now → EventCut replay_mode l w e before now
event_cut l w e bytes before now same admitted cut = record { admitted = admitted; gained = subst (λ (b : List ℕ). AddsFront b before now) same cut }

-- a fault of the world, unless it is want of memory, is why the event isn't admitted
pub event_refused : (fault : WorldFault) (l : Lens) (w : World) (e : Event) (held : Option (List ℕ)) → (fault ≢ NoMemory → refusal_of w e ≡ Some fault) → EventPlayed replay_mode {B = Option (List ℕ)} (Err fault) l w e held held
event_refused NoMemory l w e held refused = inl refl
event_refused Live l w e held refused = (refused (λ (f : Live ≡ NoMemory). cc), refl)
event_refused NotLive l w e held refused = (refused (λ (f : NotLive ≡ NoMemory). cc), refl)
event_refused NoSink l w e held refused = (refused (λ (f : NoSink ≡ NoMemory). cc), refl)
event_refused Worn l w e held refused = (refused (λ (f : Worn ≡ NoMemory). cc), refl)
event_refused (TooMany asked there) l w e held refused = (refused (λ (f : TooMany asked there ≡ NoMemory). cc), refl)

-- the stage after it
pub stands_on : (old new : Replaying) (l : Lens) (header : Header) (events : List Event) (e : Event) → IsAfter old l header events → new.lens ≡ old.lens → new.header ≡ old.header
    → StandsFor new.world (world_after (state_after world_course header events) e) → new.tally ≡ tallied old.tally (effects_after (state_after world_course header events) e) → IsAfter new l header (events ++ e ∷ [])
stands_on old new l header events e a same_lens same_header stands tally = record {
  looks = same_lens ∙ a.looks;
  head = same_header ∙ a.head;
  stands = subst (λ (w : World). StandsFor new.world w) (sym (state-push world_course (new_world header) events e)) stands;
  counted = tally ∙ ap (λ (t : Tally). tallied t (effects_after (state_after world_course header events) e)) a.counted ∙ sym (tally-push (new_world header) events e);
}

-- ---- the end

pub closes_are : (stage : Replaying) (l : Lens) (header : Header) (events : List Event) → IsAfter stage l header events
    → ending_of stage.lens stage.tally stage.header.sinks stage.world.mixers ≡ last_part l header events
closes_are stage l header events a =
    ap (λ (m : Lens). ending_of m stage.tally stage.header.sinks stage.world.mixers) a.looks
    ∙ ap (λ (t : Tally). ending_of l t stage.header.sinks stage.world.mixers) a.counted
    ∙ ap (λ (h : Header). ending_of l (tally_by (new_world header) events) h.sinks stage.world.mixers) a.head
    ∙ ap (ending_of l (tally_by (new_world header) events) header.sinks) (a.stands.mixers ∙ ap (λ (w : World). w.mixers) (states_are (new_world header) events))

-- What each step of playing an input leaves.
use Rattle.std.proofs.Common.{◌≡◌, inl, inr, ℕ, List, [], ◌∷◌, ◌++◌, Option, None, Some, Result, Ok, Err, OnOk, refl, sym, ap, subst, ◌∙◌}
use Rattle.px_ends.specs.Visible.{before_taking, after_adding, IsAtEnd}
use Rattle.px_types.specs.Faults.{Rose}
use Rattle.px_ends.specs.Whole.{AddsFront}
use Rattle.px_ends.proofs.VisibleBytes.{taking_both, adding_nothing, adding_both}
use Rattle.px_header.specs.declared.header.Header.{Header}
use Rattle.px_session.specs.declared.event.Event.{Event}
use Rattle.px_session.specs.declared.event.Step.{Step}
use Rattle.px_session.specs.declared.event.Step.TheVariants as step
use Rattle.px_session.specs.declared.fault.Cause.{Cause}
use Rattle.px_session.specs.declared.fault.Cause.TheVariants as cause
use Rattle.px_session.specs.declared.fault.ReadError.{ReadError}
use Rattle.px_session.specs.declared.fault.ReadError.TheVariants as error
use Rattle.px_session.specs.declared.form.Form.{Form}
use Rattle.px_session.specs.Place.{Place, Refusal as Broken, start_of}
use Rattle.px_session.specs.HeaderReading.{header_at}
use Rattle.px_session.specs.EventReading.{event_at}
use Rattle.px_session.specs.Session.{step_at}
use Rattle.px_session.specs.Reader.{Reader, place_with, EndsWith, Takes}
use Rattle.px_session.proofs.StepLaws.{first_read, first_refused, later_read, later_refused}
use Rattle.px_world.specs.declared.fault.WorldFault.{WorldFault}
use Rattle.px_app.specs.declared.playing.Playing.{Playing}
use Rattle.px_app.specs.declared.refusal.Refusal.{Refusal}
use Rattle.px_app.specs.declared.refusal.Why.TheVariants as why
use Rattle.px_app.specs.declared.ending.Ending.{Ending}
use Rattle.px_app.specs.declared.ending.Ending.TheVariants as ending
use Rattle.px_app.specs.Ends.{Ends, AreQuiet, SameOrRose}
use Rattle.px_app.specs.Mode.{Mode, state_after, parts_by, output_by}
use Rattle.px_app.specs.Played.{WasUnnamed, PlayedFront, InputPlayed, InputCounted}
use Rattle.px_app.specs.Refusal.{of_bytes, of_event}
use Rattle.px_app.specs.Session.{IsPlayed, Begins}
use Rattle.px_app.specs.Stage.{EventDone, EventCut}
use Rattle.px_app.specs.Step.{unread, IsOpened, Unopened, Closes, EventStepped, Reached, Stepped}
use Rattle.px_app.proofs.BeginLaws.{begins_more, begins_next, ends_played}
use Rattle.px_app.proofs.FrontLaws.{second_cut, whole_front, no_front}
use Rattle.px_app.proofs.ModeLaws.{parts-push, parts-none}
use Rattle.px_app.proofs.RefuseLaws.{IsEarly, was_refused, was_unnamed}

-- ---- early ends

same_cause : (c d : Cause) → why.Session c ≡ why.Session d → c ≡ d
same_cause c d e = cc

ended_early : (at : ℕ) (c : Cause) (left : Option (List ℕ)) → EndsWith (Err (error.Refused at c)) left → why.Session c ≡ why.Session cause.Truncated → IsAtEnd left
ended_early at c left ends early = subst (λ (d : Cause). EndsWith (Err (error.Refused at d)) left) (same_cause c cause.Truncated early) ends

event_not_early : (at : ℕ) (e : Event) (fault : WorldFault) (refusal : Refusal) → refusal ≡ of_event at e fault → IsEarly refusal → ⊥
event_not_early at e fault refusal is early = other fault _ (sym (ap (λ (r : Refusal). r.why) is) ∙ early)
  where
    other : (fault : WorldFault) (number : ℕ) → why.World fault number ≡ why.Session cause.Truncated → ⊥
    other fault number e = cc

-- ---- the header

abbrev IsNew : Reader → Type 0
IsNew reader = reader ≡ record { at = 0; ahead = []; begun = None }

abbrev new_reader : Reader
new_reader = record { at = 0; ahead = []; begun = None }

unopened_first : (new : Reader) (e : ReadError) (before after : Ends) → Takes (Err e) new_reader new before.left after.left → after.held ≡ before.held → Unopened (unread e) before after
unopened_first new (error.Refused at c) before after t same_held = record {
  bytes = t.taken;
  departed = t.departed;
  none = (record { at = at; cause = c }, first_refused (start_of t.taken) (record { at = at; cause = c }) t.stepped, refl);
  at_end = ended_early at c after.left t.ended;
  same = same_held;
}
unopened_first new error.Failed before after t same_held = record { bytes = t.taken; departed = t.departed; same = same_held }
unopened_first new error.NoMemory before after t same_held = record { bytes = t.taken; departed = t.departed; same = same_held }

-- no header was read
pub new_unopened : (old new : Reader) (e : ReadError) (before after : Ends) → IsNew old → Takes (Err e) old new before.left after.left → after.held ≡ before.held → Unopened (unread e) before after
new_unopened old new e before after is t same_held = unopened_first new e before after (subst (λ (r : Reader). Takes (Err e) r new before.left after.left) is t) same_held

abbrev TookHeader : Reader → Reader → Header → Option (List ℕ) → Option (List ℕ) → Type 0
TookHeader old new h before after = Takes (Ok (step.Header h)) old new before after

same_head : (g h : Header) → step.Header g ≡ step.Header h → g ≡ h
same_head g h e = cc

-- one was
pub new_opened : (old new : Reader) (h : Header) (before after : Ends) → IsNew old → TookHeader old new h before.left after.left → after.held ≡ before.held → IsOpened new h before after
new_opened old new h before after is took same_held =
    let t : TookHeader new_reader new h before.left after.left = subst (λ (r : Reader). TookHeader r new h before.left after.left) is took in
    let first = first_read (start_of t.taken) ((t.stepped.0, step.Header h), place_with new new.ahead) t.stepped.1 in
    record {
      bytes = t.taken;
      form = t.stepped.0;
      departed = t.departed;
      head = subst (λ (g : Header). header_at (start_of t.taken) ≡ Ok ((t.stepped.0, g), place_with new new.ahead)) (sym (same_head h first.0 first.2)) first.1;
      begun = t.stepped.2;
      same = same_held;
    }

module _ {W A L : Type 0} (mode : Mode W A L) (asked : A) where
  -- nothing was gained
  pub nothing_played : (bytes : List ℕ) (before after : Ends) → before.left ≡ before_taking bytes after.left → after.held ≡ before.held → PlayedFront mode asked before after
  nothing_played bytes before after departed same_held = record { bytes = bytes; given = []; departed = departed; gives = inl refl; gained = no_front [] before.held after.held same_held }

  -- how a run ends without a header
  pub unopened_played : (ended : Ending) (before after : Ends) → Unopened ended before after → InputPlayed mode asked ended before after
  unopened_played (ending.Refused refusal) before after u =
      was_refused mode asked u.bytes refusal None [] before after u.departed (inl (u.none, refl)) refl u.at_end (u.same ∙ sym (adding_nothing before.held))
  unopened_played ending.Memory before after u = nothing_played u.bytes before after u.departed u.same
  unopened_played ending.ReadFault before after u = nothing_played u.bytes before after u.departed u.same
  unopened_played ending.WriteFault before after u = absurd u
  unopened_played ending.Done before after u = absurd u
  unopened_played ending.Usage before after u = absurd u
  unopened_played ending.NoSuchSink before after u = absurd u

  -- and with one that hasn't what is asked for
  pub opened_unnamed : (reader : Reader) (header : Header) (before after : Ends) → IsOpened reader header before after → mode.looks asked header ≡ None → WasUnnamed mode asked before after
  opened_unnamed reader header before after o unnamed = was_unnamed mode asked o.bytes header before after o.departed (o.form, place_with reader reader.ahead, o.head) unnamed o.same

  pub opened_nothing : (reader : Reader) (header : Header) (before after : Ends) → IsOpened reader header before after → PlayedFront mode asked before after
  opened_nothing reader header before after o = nothing_played o.bytes before after o.departed o.same

  -- what begins with a header, and no event
  abbrev opened_begins : (reader : Reader) (header : Header) (before after : Ends) (o : IsOpened reader header before after) → Begins mode.course o.bytes header [] (place_with reader reader.ahead)
  opened_begins reader header before after o = record { form = o.form; start = place_with reader reader.ahead; head = o.head; lead = refl; admitted = tt }

  -- a front of what is shown of the header was gathered
  pub opened_cut : (reader : Reader) (header : Header) (look : L) (before now after : Ends) → IsOpened reader header before now → now.left ≡ after.left → mode.looks asked header ≡ Some look → AddsFront (mode.opens look header) now.held after.held → PlayedFront mode asked before after
  opened_cut reader header look before now after o same_left looks cut = record {
    bytes = o.bytes;
    given = parts_by mode look header [];
    departed = o.departed ∙ ap (before_taking o.bytes) same_left;
    gives = inr (inl (header, [], place_with reader reader.ahead, look, opened_begins reader header before now o, looks, refl));
    gained = subst (λ (g : List ℕ). AddsFront g before.held after.held) (sym (parts-none mode look header)) (subst (λ (h : Option (List ℕ)). AddsFront (mode.opens look header) h after.held) o.same cut);
  }

  -- or all of it
  pub opened_reached : {T : Type 0} (stands : T → L → Header → List Event → Type 0) (playing : Playing T) (header : Header) (look : L) (before now after : Ends) → IsOpened playing.reader header before now → now.left ≡ after.left → mode.looks asked header ≡ Some look
      → stands playing.stage look header [] → after.held ≡ after_adding now.held (mode.opens look header) → Reached mode stands asked playing before after
  opened_reached stands playing header look before now after o same_left looks stage gained = record {
    bytes = o.bytes;
    header = header;
    events = [];
    look = look;
    departed = o.departed ∙ ap (before_taking o.bytes) same_left;
    begins = opened_begins playing.reader header before now o;
    begun = o.begun;
    looks = looks;
    stage = stage;
    gained = gained ∙ ap (λ (h : Option (List ℕ)). after_adding h (mode.opens look header)) o.same ∙ ap (after_adding before.held) (sym (parts-none mode look header));
  }

-- ---- what was taken after the bytes that were read before

-- `first` are the ends before the run, `now` those before this step, and `after` those after it
module _ {T W A L : Type 0} (mode : Mode W A L) (stands : T → L → Header → List Event → Type 0) (asked : A) (playing : Playing T) (new : Reader) (first now after : Ends) (r : Reached mode stands asked playing first now) where
  abbrev all_of : List ℕ → List ℕ
  all_of taken = r.bytes ++ taken

  abbrev here_of : List ℕ → Place
  here_of taken = place_with playing.reader (playing.reader.ahead ++ taken)

  both_departed : (taken : List ℕ) → now.left ≡ before_taking taken after.left → first.left ≡ before_taking (all_of taken) after.left
  both_departed taken departed = r.departed ∙ ap (before_taking r.bytes) departed ∙ taking_both r.bytes taken after.left

  abbrev begins_so : (taken : List ℕ) → Begins mode.course (all_of taken) r.header r.events (here_of taken)
  begins_so taken = begins_more mode.course r.bytes r.header r.events (place_with playing.reader playing.reader.ahead) taken r.begins

  abbrev w : W
  w = state_after mode.course r.header r.events

  abbrev parts : List ℕ
  parts = parts_by mode r.look r.header r.events

  -- no event was played
  unplayed_front : (taken : List ℕ) → now.left ≡ before_taking taken after.left → after.held ≡ now.held → PlayedFront mode asked first after
  unplayed_front taken departed same_held = record {
    bytes = all_of taken;
    given = parts;
    departed = both_departed taken departed;
    gives = inr (inl (r.header, r.events, here_of taken, r.look, begins_so taken, r.looks, refl));
    gained = whole_front parts first.held after.held (same_held ∙ r.gained);
  }

  abbrev form : Form
  form = r.begins.form

  -- what was read is an event of the form, or the end, or is refused
  as_refused : (taken : List ℕ) (f : Broken) → step_at playing.reader.begun (here_of taken) ≡ Err f → event_at form (here_of taken) ≡ Err f
  as_refused taken f e = later_refused form (here_of taken) f (subst (λ (b : Option Form). step_at b (here_of taken) ≡ Err f) r.begun e)

  abbrev Reads : List ℕ → Form → Step → Place → Type 0
  Reads taken f s here = step_at playing.reader.begun (here_of taken) ≡ Ok ((f, s), here)

  later : (taken : List ℕ) (f : Form) (s : Step) (here : Place) → Reads taken f s here → (event_at form (here_of taken) ≡ Ok (s, here)) × (f ≡ form)
  later taken f s here e = later_read form (here_of taken) ((f, s), here) (subst (λ (b : Option Form). step_at b (here_of taken) ≡ Ok ((f, s), here)) r.begun e)

  pub stop_read : (e : ReadError) → Takes (Err e) playing.reader new now.left after.left → after.held ≡ now.held → InputPlayed mode asked (unread e) first after
  stop_read (error.Refused at c) t same_held =
      was_refused mode asked (all_of t.taken) (of_bytes (record { at = at; cause = c })) (Some (r.header, r.events)) parts first after (both_departed t.taken t.departed)
      (inr (r.header, r.events, here_of t.taken, begins_so t.taken, inl (record { at = at; cause = c }, as_refused t.taken (record { at = at; cause = c }) t.stepped, refl), refl))
      (r.look, r.looks, refl)
      (ended_early at c after.left t.ended) (same_held ∙ r.gained)
  stop_read error.Failed t same_held = unplayed_front t.taken t.departed same_held
  stop_read error.NoMemory t same_held = unplayed_front t.taken t.departed same_held

  module _ (t : Takes (Ok step.End) playing.reader new now.left after.left) where
    ended_played : IsPlayed mode.course (all_of t.taken) r.header r.events
    ended_played = ends_played mode.course (all_of t.taken) r.header r.events (here_of t.taken) (place_with new new.ahead) (begins_so t.taken) (later t.taken t.stepped.0 step.End (place_with new new.ahead) t.stepped.1).0

    pub stop_end : (ended : Ending) → Closes ended (mode.closes r.look r.header r.events) now.held after.held → InputPlayed mode asked ended first after
    stop_end ending.Done closes = record {
      bytes = all_of t.taken;
      header = r.header;
      events = r.events;
      look = r.look;
      played = ended_played;
      looks = r.looks;
      departed = both_departed t.taken t.departed;
      at_end = t.ended;
      gained = closes
          ∙ ap (λ (m : Option (List ℕ)). after_adding m (mode.closes r.look r.header r.events)) r.gained
          ∙ adding_both parts (mode.closes r.look r.header r.events) first.held;
    }
    stop_end ending.Memory closes = record {
      bytes = all_of t.taken;
      given = output_by mode r.look r.header r.events;
      departed = both_departed t.taken t.departed;
      gives = inr (inr (r.header, r.events, r.look, ended_played, t.ended, r.looks, refl));
      gained = second_cut parts (mode.closes r.look r.header r.events) first.held now.held after.held r.gained closes;
    }
    stop_end ending.WriteFault closes = absurd closes
    stop_end (ending.Refused refusal) closes = absurd closes
    stop_end ending.Usage closes = absurd closes
    stop_end ending.ReadFault closes = absurd closes
    stop_end ending.NoSuchSink closes = absurd closes

  module _ (e : Event) (t : Takes (Ok (step.Event e)) playing.reader new now.left after.left) where
    read : event_at form (here_of t.taken) ≡ Ok (step.Event e, place_with new new.ahead)
    read = (later t.taken t.stepped.0 (step.Event e) (place_with new new.ahead) t.stepped.1).0

    same_form : new.begun ≡ Some form
    same_form = t.stepped.2 ∙ ap Some (later t.taken t.stepped.0 (step.Event e) (place_with new new.ahead) t.stepped.1).1

    abbrev more : List Event
    more = r.events ++ e ∷ []

    abbrev next : mode.course.refuses w e ≡ None → Begins mode.course (all_of t.taken) r.header more (place_with new new.ahead)
    next admitted = begins_next mode.course (all_of t.taken) r.header r.events (here_of t.taken) (place_with new new.ahead) e (begins_so t.taken) read admitted

    cut_front : EventCut mode r.look w e now.held after.held → PlayedFront mode asked first after
    cut_front cut = record {
      bytes = all_of t.taken;
      given = parts_by mode r.look r.header more;
      departed = both_departed t.taken t.departed;
      gives = inr (inl (r.header, more, place_with new new.ahead, r.look, next cut.admitted, r.looks, refl));
      gained = subst (λ (g : List ℕ). AddsFront g first.held after.held) (sym (parts-push mode r.look r.header r.events e)) (second_cut parts (mode.shows r.look w e) first.held now.held after.held r.gained cut.gained);
    }

    -- the playing after the event
    module _ (behind : Playing T) (same_reader : behind.reader ≡ new) where
      gone : stands behind.stage r.look r.header more → EventDone mode r.look w e now.held after.held → Reached mode stands asked behind first after
      gone stage played = record {
        bytes = all_of t.taken;
        header = r.header;
        events = more;
        look = r.look;
        departed = both_departed t.taken t.departed;
        begins = rw same_reader (next played.admitted);
        begun = rw same_reader same_form;
        looks = r.looks;
        stage = stage;
        gained = played.gained
            ∙ ap (λ (m : Option (List ℕ)). after_adding m (mode.shows r.look w e)) r.gained
            ∙ adding_both parts (mode.shows r.look w e) first.held
            ∙ ap (after_adding first.held) (sym (parts-push mode r.look r.header r.events e));
      }

      pub go_on : (result : Result Unit Ending) → OnOk result (stands behind.stage r.look r.header more) → EventStepped mode result playing.reader.at r.look w e now.held after.held → Stepped mode stands asked result behind first after
      go_on (Ok done) stage played = gone stage played
      go_on (Err (ending.Refused refusal)) stage played =
          was_refused mode asked (all_of t.taken) refusal (Some (r.header, r.events)) parts first after (both_departed t.taken t.departed)
          (inr (r.header, r.events, here_of t.taken, begins_so t.taken, inr (e, place_with new new.ahead, played.0, read, played.1, played.2), refl))
          (r.look, r.looks, refl)
          (λ early. absurd (event_not_early playing.reader.at e played.0 refusal played.2 early)) (played.3 ∙ r.gained)
      go_on (Err ending.Memory) stage (inl same_held) = unplayed_front t.taken t.departed same_held
      go_on (Err ending.Memory) stage (inr cut) = cut_front cut
      go_on (Err ending.WriteFault) stage played = absurd played
      go_on (Err ending.Done) stage played = absurd played
      go_on (Err ending.Usage) stage played = absurd played
      go_on (Err ending.ReadFault) stage played = absurd played
      go_on (Err ending.NoSuchSink) stage played = absurd played

-- ---- counts

-- where no call had failed before, those counted are the same from the first on
pub counted_from : (ended : Ending) (first now after : Ends) → AreQuiet first now → InputCounted ended now after → InputCounted ended first after
counted_from ending.ReadFault first now after quiet counted = (subst (λ (n : ℕ). Rose n after.read_faults) quiet.0 counted.0, subst (λ (n : ℕ). SameOrRose n after.write_faults) quiet.1 counted.1)
counted_from ending.WriteFault first now after quiet counted = (counted.0 ∙ quiet.0, subst (λ (n : ℕ). Rose n after.write_faults) quiet.1 counted.1)
counted_from ending.Done first now after quiet counted = (counted.0 ∙ quiet.0, counted.1 ∙ quiet.1)
counted_from (ending.Refused refusal) first now after quiet counted = (counted.0 ∙ quiet.0, counted.1 ∙ quiet.1)
counted_from ending.Usage first now after quiet counted = (counted.0 ∙ quiet.0, counted.1 ∙ quiet.1)
counted_from ending.Memory first now after quiet counted = (counted.0 ∙ quiet.0, counted.1 ∙ quiet.1)
counted_from ending.NoSuchSink first now after quiet counted = (counted.0 ∙ quiet.0, counted.1 ∙ quiet.1)

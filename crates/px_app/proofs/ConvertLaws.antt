-- What a conversion writes is the session in the second form.
use Rattle.std.proofs.Common.{◌≡◌, ◌≤◌, List, ℕ, [], ◌∷◌, ◌++◌, length, None, Some, refl, ap, ◌∙◌}
use Rattle.std.specs.List.{flat_map, AllByRecursion}
use Rattle.px_types.specs.declared.status.Status.{Status}
use Rattle.px_ends.specs.Visible.{after_adding}
use Rattle.px_header.specs.declared.header.Header.{Header}
use Rattle.px_session.specs.declared.event.Event.{Event}
use Rattle.px_session.specs.declared.form.Form.{Form}
use Rattle.px_session.specs.declared.form.Form.TheVariants.{Two}
use Rattle.px_session.specs.EventRules.{IsEvent}
use Rattle.px_session.specs.Law.{AreBytes}
use Rattle.px_session.specs.Place.{limit}
use Rattle.px_session.specs.Session.{Ended, Events, IsSession}
use Rattle.px_session.specs.Spelling as spelling
use Rattle.px_session.proofs.Answered.{event_in_second}
use Rattle.px_session.proofs.SessionLaws.{session_again, session_found}
use Rattle.px_app.specs.Convert.{convert_mode, Converts}
use Rattle.px_app.specs.Ends.{Ends, Log}
use Rattle.px_app.specs.Mode.{Course, Mode, output_by, shown_by}
use Rattle.px_app.specs.Played.{Played}
use Rattle.px_app.specs.Session.{IsPlayed}
use Rattle.px_app.proofs.EitherLaws.{one_way}
use Rattle.px_app.proofs.PlayedLaws.{plays}

-- ---- the spelling

shown_is : (w : Unit {0}) (events : List Event) → shown_by convert_mode tt w events ≡ flat_map (spelling.event Two) events
shown_is w [] = refl
shown_is w (e ∷ events) = ap (λ (b : List ℕ). spelling.event Two e ++ b) (shown_is tt events)

pub output_is : (header : Header) (events : List Event) → output_by convert_mode tt header events ≡ spelling.spelled Two header events
output_is header events = ap (λ (b : List ℕ). (spelling.header Two header ++ b) ++ (spelling.end_byte ∷ [])) (shown_is tt events)

some_no_none : {L : Type 0} (l : L) → Some l ≡ None → ⊥
some_no_none l e = cc

pub converts : (answered : Status) (before after : Ends) (log_before log_after : Log) → Played convert_mode tt answered before after log_before log_after → Converts answered before after log_before log_after
converts answered before after log_before log_after x =
    let p = plays convert_mode tt answered before after log_before log_after x in
    record {
      plays = p;
      converted = λ is. (p.ok is).gained ∙ ap (after_adding before.held) (output_is (p.ok is).header (p.ok is).events);
      named = λ is. some_no_none tt (p.no_such_sink is).unnamed;
    }

-- ---- read again

all_in_second : (form : Form) (events : List Event) → AllByRecursion (IsEvent form) events → AllByRecursion (IsEvent Two) events
all_in_second form [] all = tt
all_in_second form (e ∷ events) all = (event_in_second form e all.0, all_in_second form events all.1)

module _ {W : Type 0} (course : Course W) where
  pub read_again : (bytes : List ℕ) (header : Header) (events : List Event) → AreBytes bytes → IsPlayed course bytes header events → length (spelling.spelled Two header events) ≤ limit
      → IsSession (spelling.spelled Two header events) (Events Two header events Ended)
  read_again bytes header events are p short =
      let found = session_found bytes p.form header events Ended are p.session in
      session_again Two header events found.header_lawful (all_in_second p.form events found.events_lawful) short

  -- admitted events stay so in the other form
  pub played_again : (bytes : List ℕ) (header : Header) (events : List Event) → AreBytes bytes → IsPlayed course bytes header events → length (spelling.spelled Two header events) ≤ limit
      → IsPlayed course (spelling.spelled Two header events) header events
  played_again bytes header events are p short = record { form = Two; session = read_again bytes header events are p short; admitted = p.admitted }

module _ {W A L : Type 0} (mode : Mode W A L) where
  pub same_output : (bytes : List ℕ) (header other : Header) (events others : List Event) (l : L) → AreBytes bytes → IsPlayed mode.course bytes header events → length (spelling.spelled Two header events) ≤ limit
      → IsPlayed mode.course (spelling.spelled Two header events) other others → output_by mode l other others ≡ output_by mode l header events
  same_output bytes header other events others l are p short q =
      let same = one_way mode.course (spelling.spelled Two header events) other header others events q (played_again mode.course bytes header events are p short) in
      ap (λ (h : Header). output_by mode l h others) same.0 ∙ ap (output_by mode l header) same.1

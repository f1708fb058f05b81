-- What holds of the events of a mode goes on event by event.
use Rattle.std.proofs.Common.{◌≡◌, ℕ, List, [], ◌∷◌, ◌++◌, None, refl, ap, sym, ◌∙◌, append_assoc, append-nil}
use Rattle.px_header.specs.declared.header.Header.{Header}
use Rattle.px_session.specs.declared.event.Event.{Event}
use Rattle.px_app.specs.Mode.{Course, state_by, AreAdmitted, state_after, Mode, shown_by, parts_by}

module _ {W : Type 0} (course : Course W) where
  pub admitted-split : (w : W) (earlier later : List Event) → AreAdmitted course w (earlier ++ later) → AreAdmitted course w earlier × AreAdmitted course (state_by course w earlier) later
  admitted-split w [] later a = (tt, a)
  admitted-split w (e ∷ earlier) later a =
      let rest = admitted-split (course.after w e) earlier later a.1 in
      ((a.0, rest.0), rest.1)

  pub admitted-push : (w : W) (events : List Event) (e : Event) → AreAdmitted course w events → course.refuses (state_by course w events) e ≡ None → AreAdmitted course w (events ++ e ∷ [])
  admitted-push w [] e a lawful = (lawful, tt)
  admitted-push w (d ∷ events) e a lawful = (a.0, admitted-push (course.after w d) events e a.1 lawful)

  pub state-push : (w : W) (events : List Event) (e : Event) → state_by course w (events ++ e ∷ []) ≡ course.after (state_by course w events) e
  state-push w [] e = refl
  state-push w (d ∷ events) e = state-push (course.after w d) events e

module _ {W A L : Type 0} (mode : Mode W A L) where
  shown-push : (look : L) (w : W) (events : List Event) (e : Event) → shown_by mode look w (events ++ e ∷ []) ≡ shown_by mode look w events ++ mode.shows look (state_by mode.course w events) e
  shown-push look w [] e = append-nil (mode.shows look w e)
  shown-push look w (d ∷ events) e =
      ap (λ (l : List ℕ). mode.shows look w d ++ l) (shown-push look (mode.course.after w d) events e)
      ∙ sym (append_assoc (mode.shows look w d) (shown_by mode look (mode.course.after w d) events) (mode.shows look (state_by mode.course (mode.course.after w d) events) e))

  pub parts-push : (look : L) (header : Header) (events : List Event) (e : Event) → parts_by mode look header (events ++ e ∷ []) ≡ parts_by mode look header events ++ mode.shows look (state_after mode.course header events) e
  parts-push look header events e =
      ap (λ (l : List ℕ). mode.opens look header ++ l) (shown-push look (mode.course.first header) events e)
      ∙ sym (append_assoc (mode.opens look header) (shown_by mode look (mode.course.first header) events) (mode.shows look (state_after mode.course header events) e))

  pub parts-none : (look : L) (header : Header) → parts_by mode look header [] ≡ mode.opens look header
  parts-none look header = append-nil (mode.opens look header)

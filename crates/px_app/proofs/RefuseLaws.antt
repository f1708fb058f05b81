-- What is refused stays so, whatever follows, and is no session that is played.
use Rattle.std.proofs.Common.{◌≡◌, inl, inr, ℕ, List, [], ◌++◌, Option, None, Some, sym, ap, subst, ◌∙◌}
use Rattle.px_ends.specs.Visible.{before_taking, after_adding, IsAtEnd, WhereVisible}
use Rattle.px_header.specs.declared.header.Header.{Header}
use Rattle.px_session.specs.declared.event.Event.{Event}
use Rattle.px_session.specs.declared.fault.Cause.TheVariants as cause
use Rattle.px_session.specs.declared.form.Form.{Form}
use Rattle.px_session.specs.Place.{Place, Refusal as Broken, start_of}
use Rattle.px_session.specs.HeaderReading.{header_at}
use Rattle.px_session.specs.EventReading.{event_at}
use Rattle.px_session.proofs.Steady.{more, any}
use Rattle.px_session.proofs.SteadySession.{Closed, header_steady, event_steady}
use Rattle.px_app.specs.declared.refusal.Refusal.{Refusal}
use Rattle.px_app.specs.declared.refusal.Why.TheVariants as why
use Rattle.px_app.specs.Refusal.{of_bytes}
use Rattle.px_app.specs.Session.{NoneBegins, StopsHere, Before, IsRefused, HasHeader}
use Rattle.px_app.specs.Ends.{Ends}
use Rattle.px_app.specs.Mode.{Course, Mode}
use Rattle.px_app.specs.Played.{GivenBefore, WasRefused, WasUnnamed}
use Rattle.px_app.proofs.BeginLaws.{header_more, event_more, begins_more, broken_more}

abbrev pub IsEarly : Refusal → Type 0
IsEarly refusal = refusal.why ≡ why.Session cause.Truncated

early_is : (refusal : Refusal) (broken : Broken) → refusal ≡ of_bytes broken → broken.cause ≡ cause.Truncated → IsEarly refusal
early_is refusal broken is early = ap (λ (r : Refusal). r.why) is ∙ ap why.Session early

none_more : (bytes : List ℕ) (refusal : Refusal) (behind : List ℕ) → NoneBegins bytes refusal → (IsEarly refusal → behind ≡ []) → NoneBegins (bytes ++ behind) refusal
none_more bytes refusal behind none ends = (none.0, broken_more any header_at header_steady (start_of bytes) none.0 behind none.1 (λ early. ends (early_is refusal none.0 none.2 early)), none.2)

module _ {W : Type 0} (course : Course W) where
  stops_more : (form : Form) (header : Header) (before : List Event) (here : Place) (refusal : Refusal) (behind : List ℕ) → StopsHere course form header before here refusal → (IsEarly refusal → behind ≡ []) → StopsHere course form header before (more here behind) refusal
  stops_more form header before here refusal behind (inl none) ends = inl (none.0, broken_more Closed (event_at form) (event_steady form) here none.0 behind none.1 (λ early. ends (early_is refusal none.0 none.2 early)), none.2)
  stops_more form header before here refusal behind (inr barred) ends = inr (barred.0, more barred.1 behind, barred.2, event_more form here barred.0 barred.1 behind barred.3, barred.4, barred.5)

  pub refused_more : (bytes : List ℕ) (refusal : Refusal) (before : Before) (behind : List ℕ) → IsRefused course bytes refusal before → (IsEarly refusal → behind ≡ []) → IsRefused course (bytes ++ behind) refusal before
  refused_more bytes refusal before behind (inl none) ends = inl (none_more bytes refusal behind none.0 ends, none.1)
  refused_more bytes refusal before behind (inr s) ends = inr (s.0, s.1, more s.2 behind, begins_more course bytes s.0 s.1 s.2 behind s.3, stops_more s.3.form s.0 s.1 s.2 refusal behind s.4 ends, s.5)

  -- all that the source had is refused, where it tells
  refused_visible : (bytes : List ℕ) (refusal : Refusal) (events : Before) (before after : Option (List ℕ)) → before ≡ before_taking bytes after → IsRefused course bytes refusal events → (IsEarly refusal → IsAtEnd after) → WhereVisible before (λ all. IsRefused course all refusal events)
  refused_visible bytes refusal events before None same is ends = subst (λ (b : Option (List ℕ)). WhereVisible b (λ all. IsRefused course all refusal events)) (sym same) tt
  refused_visible bytes refusal events before (Some left) same is ends = subst (λ (b : Option (List ℕ)). WhereVisible b (λ all. IsRefused course all refusal events)) (sym same) (refused_more bytes refusal events left is ends)

-- ---- a header without what is asked for

has_more : (bytes : List ℕ) (header : Header) (behind : List ℕ) → HasHeader bytes header → HasHeader (bytes ++ behind) header
has_more bytes header behind has = (has.0, more has.1 behind, header_more (start_of bytes) (has.0, header) has.1 behind has.2)

has_visible : (bytes : List ℕ) (header : Header) (before after : Option (List ℕ)) → before ≡ before_taking bytes after → HasHeader bytes header → WhereVisible before (λ all. HasHeader all header)
has_visible bytes header before None same has = subst (λ (b : Option (List ℕ)). WhereVisible b (λ all. HasHeader all header)) (sym same) tt
has_visible bytes header before (Some left) same has = subst (λ (b : Option (List ℕ)). WhereVisible b (λ all. HasHeader all header)) (sym same) (has_more bytes header left has)

-- ---- how it ended

module _ {W A L : Type 0} (mode : Mode W A L) where
  pub was_refused : (asked : A) (bytes : List ℕ) (refusal : Refusal) (events : Before) (given : List ℕ) (before after : Ends) → before.left ≡ before_taking bytes after.left → IsRefused mode.course bytes refusal events → GivenBefore mode asked events given → (IsEarly refusal → IsAtEnd after.left) → after.held ≡ after_adding before.held given
      → WasRefused mode asked refusal before after
  was_refused asked bytes refusal events given before after departed is gives ends gained = record {
    bytes = bytes;
    behind = events;
    given = given;
    refused = is;
    gives = gives;
    departed = departed;
    at_end = ends;
    whole = refused_visible mode.course bytes refusal events before.left after.left departed is ends;
    gained = gained;
  }

  pub was_unnamed : (asked : A) (bytes : List ℕ) (header : Header) (before after : Ends) → before.left ≡ before_taking bytes after.left → HasHeader bytes header → mode.looks asked header ≡ None → after.held ≡ before.held → WasUnnamed mode asked before after
  was_unnamed asked bytes header before after departed has unnamed same_held = record {
    bytes = bytes;
    header = header;
    head = has;
    unnamed = unnamed;
    departed = departed;
    whole = has_visible bytes header before.left after.left departed has;
    gained = same_held;
  }

-- What playing an input by a mode leaves: what was read of the input, what the output gained, which calls failed, and what was reported.
use Rattle.std.specs.Prelude.{◌≡◌, ◌⊎◌, ℕ, List, [], Option, None, Some}
use Rattle.px_types.specs.declared.status.Status.{Status}
use Rattle.px_types.specs.declared.status.Status.TheVariants as status
use Rattle.px_types.specs.Faults.{Rose}
use Rattle.px_ends.specs.Visible.{before_taking, after_adding, IsAtEnd, WhereVisible}
use Rattle.px_ends.specs.Whole.{AddsFront}
use Rattle.px_header.specs.declared.header.Header.{Header}
use Rattle.px_session.specs.declared.event.Event.{Event}
use Rattle.px_session.specs.declared.fault.Cause.TheVariants.{Truncated}
use Rattle.px_session.specs.Place.{Place}
use Rattle.px_app.specs.declared.refusal.Refusal.{Refusal}
use Rattle.px_app.specs.declared.refusal.Why.TheVariants as why
use Rattle.px_app.specs.declared.ending.Ending.{Ending}
use Rattle.px_app.specs.declared.ending.Ending.TheVariants as ending
use Rattle.px_app.specs.Ends.{Ends, Log, AreQuiet, SameOrRose}
use Rattle.px_app.specs.Mode.{Mode, parts_by, output_by}
use Rattle.px_app.specs.Report.{Reported}
use Rattle.px_app.specs.Session.{IsPlayed, IsNotPlayed, Begins, Before, IsRefused, HasHeader}

-- A failed call of the input or the output is counted at that end. After a failed read the write of the pending output may have failed too.
abbrev pub InputCounted : Ending → Ends → Ends → Type 0
InputCounted ending.ReadFault before after = Rose before.read_faults after.read_faults × SameOrRose before.write_faults after.write_faults
InputCounted ending.WriteFault before after = (after.read_faults ≡ before.read_faults) × Rose before.write_faults after.write_faults
InputCounted other before after = AreQuiet before after

-- `asked` is what is asked of the session
module _ {W A L : Type 0} (mode : Mode W A L) where
  -- The source was read to its end, its bytes are a session that is played, and the output gained exactly what is shown of it.
  pub record PlayedWhole (asked : A) (before after : Ends) : Type 0 where
    pub bytes : List ℕ
    pub header : Header
    pub events : List Event
    pub look : L
    pub played : IsPlayed mode.course bytes header events
    pub looks : mode.looks asked header ≡ Some look
    pub departed : before.left ≡ before_taking bytes after.left
    pub at_end : IsAtEnd after.left
    pub gained : after.held ≡ after_adding before.held (output_by mode look header events)

  -- what is shown of the events before a refusal: nothing before a header
  abbrev pub GivenBefore : A → Before → List ℕ → Type 0
  GivenBefore asked None given = given ≡ []
  GivenBefore asked (Some x) given = (look : L) × (mode.looks asked x.0 ≡ Some look) × (given ≡ parts_by mode look x.0 x.1)

  -- The bytes that were read are refused, whatever follows them, and so are all that the source had, where they are visible. The output gained what is
  -- shown of the events before the refusal, and nothing after that.
  pub record WasRefused (asked : A) (refusal : Refusal) (before after : Ends) : Type 0 where
    pub bytes : List ℕ
    pub behind : Before
    pub given : List ℕ
    pub refused : IsRefused mode.course bytes refusal behind
    pub gives : GivenBefore asked behind given
    pub departed : before.left ≡ before_taking bytes after.left
    -- an early end is a refusal only where the source has ended
    pub at_end : refusal.why ≡ why.Session Truncated → IsAtEnd after.left
    pub whole : WhereVisible before.left (λ all. IsRefused mode.course all refusal behind)
    pub gained : after.held ≡ after_adding before.held given

  -- A header was read that hasn't what is asked for, and no event. The output gained nothing.
  pub record WasUnnamed (asked : A) (before after : Ends) : Type 0 where
    pub bytes : List ℕ
    pub header : Header
    pub head : HasHeader bytes header
    pub unnamed : mode.looks asked header ≡ None
    pub departed : before.left ≡ before_taking bytes after.left
    pub whole : WhereVisible before.left (λ all. HasHeader all header)
    pub gained : after.held ≡ before.held

  -- what is shown of the bytes read: nothing before a header, then the events that were read, and the whole session where the source has ended
  abbrev pub Gives : A → List ℕ → Option (List ℕ) → List ℕ → Type 0
  Gives asked bytes left given =
      (given ≡ [])
      ⊎ ((header : Header) × (events : List Event) × (here : Place) × (look : L) × Begins mode.course bytes header events here × (mode.looks asked header ≡ Some look) × (given ≡ parts_by mode look header events))
      ⊎ ((header : Header) × (events : List Event) × (look : L) × IsPlayed mode.course bytes header events × IsAtEnd left × (mode.looks asked header ≡ Some look) × (given ≡ output_by mode look header events))

  -- The output gained a front of what is shown of the bytes that were read.
  pub record PlayedFront (asked : A) (before after : Ends) : Type 0 where
    pub bytes : List ℕ
    pub given : List ℕ
    pub departed : before.left ≡ before_taking bytes after.left
    pub gives : Gives asked bytes after.left given
    pub gained : AddsFront given before.held after.held

  -- how playing an input ends
  abbrev pub InputPlayed : A → Ending → Ends → Ends → Type 0
  InputPlayed asked ending.Done before after = PlayedWhole asked before after
  InputPlayed asked (ending.Refused refusal) before after = WasRefused asked refusal before after
  InputPlayed asked ending.Memory before after = PlayedFront asked before after
  InputPlayed asked ending.ReadFault before after = PlayedFront asked before after
  InputPlayed asked ending.WriteFault before after = PlayedFront asked before after
  InputPlayed asked ending.NoSuchSink before after = WasUnnamed asked before after
  InputPlayed asked ending.Usage before after = ⊥

  -- Playing returned this status: it ended so, and that was reported.
  pub record Played (asked : A) (answered : Status) (before after : Ends) (log_before log_after : Log) : Type 0 where
    pub ended : Ending
    pub played : InputPlayed asked ended before after
    pub counted : InputCounted ended before after
    pub reported : Reported ended answered log_before log_after

  -- the bytes begin with a header that hasn't what is asked for
  abbrev pub IsUnnamed : A → List ℕ → Type 0
  IsUnnamed asked bytes = (header : Header) × HasHeader bytes header × (mode.looks asked header ≡ None)

  -- the status of an input where no read and no write fails
  pub record Completes (asked : A) (answered : Status) (bytes : List ℕ) : Type 0 where
    pub unnamed : IsUnnamed asked bytes → (answered ≡ status.NoSuchSink) ⊎ (answered ≡ status.Memory)
    pub played : ¬ IsUnnamed asked bytes → (header : Header) (events : List Event) → IsPlayed mode.course bytes header events → (answered ≡ status.Ok) ⊎ (answered ≡ status.Memory)
    pub not_played : ¬ IsUnnamed asked bytes → IsNotPlayed mode.course bytes → (answered ≡ status.Refused) ⊎ (answered ≡ status.Memory)

-- What a serving call writes of its tape.
use Rattle.std.specs.Prelude.{◌≡◌, ◌⊎◌, ℕ, List, Option, None, Some}
use Rattle.std.specs.List.{AllByRecursion}
use Rattle.px_types.specs.declared.status.Status.{Status}
use Rattle.px_types.specs.declared.status.Status.TheVariants as status
use Rattle.px_types.specs.Faults.{Rose}
use Rattle.px_ends.specs.Visible.{after_adding}
use Rattle.px_ends.specs.Whole.{AddsFront}
use Rattle.px_session.specs.declared.event.Event.{Event}
use Rattle.px_header.specs.declared.header.Header.{Header}
use Rattle.px_session.specs.EventRules.{IsEvent}
use Rattle.px_session.specs.Spelling.{spelled}
use Rattle.px_tape.specs.Tape.{form}

-- a sink of bytes: its bytes, where they are visible, and how many of its calls failed
pub record Output : Type 0 where
  pub held : Option (List ℕ)
  pub faults : ℕ

abbrev pub out_end : Option (List ℕ) → ℕ → Output
out_end held faults = record { held = held; faults = faults }

-- a fault of the output is the last of the causes
abbrev pub faulted : Status → Status
faulted status.Ok = status.WriteFault
faulted other = other

-- the session of these events was written, or a write failed after a front of it
abbrev pub WritesEvents : Header → List Event → Output → Output → Status → Status → Type 0
WritesEvents header events before after ended answered =
    ((answered ≡ ended) × (after.held ≡ after_adding before.held (spelled form header events)) × (after.faults ≡ before.faults))
    ⊎ ((answered ≡ faulted ended) × AddsFront (spelled form header events) before.held after.held × Rose before.faults after.faults)

-- a call that ended so wrote its tape, whose events are a possible session; without one it wrote nothing
abbrev pub WritesTape : Header → Option (List Event) → Output → Output → Status → Status → Type 0
WritesTape header None before after ended answered = (answered ≡ ended) × (after ≡ before)
WritesTape header (Some events) before after ended answered = AllByRecursion (IsEvent form) events × WritesEvents header events before after ended answered

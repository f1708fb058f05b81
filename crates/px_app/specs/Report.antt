-- What the log gains at the end of a run.
use Rattle.std.specs.Prelude.{◌≡◌, ◌≢◌, ◌⊎◌}
use Rattle.px_types.specs.declared.status.Status.{Status}
use Rattle.px_types.specs.declared.status.Status.TheVariants as status
use Rattle.px_ends.specs.Visible.{after_adding}
use Rattle.px_types.specs.Faults.{Rose}
use Rattle.px_ends.specs.Whole.{AddsFront}
use Rattle.px_app.specs.declared.ending.Ending.{Ending}
use Rattle.px_app.specs.declared.ending.Ending.TheVariants as ending
use Rattle.px_app.specs.Ends.{Log}
use Rattle.px_app.specs.Ending.{status_of, line_of, IsRefusal}

-- the log gained the whole line, no write of it failed, and the status is the ending's
pub record Logged (said : Ending) (answered : Status) (before after : Log) : Type 0 where
  pub answer : answered ≡ status_of said
  pub line : after.held ≡ after_adding before.held (line_of said)
  pub quiet : after.faults ≡ before.faults

-- a write of the log failed, so that it gained a front of the line at most
pub record LogFailed (said : Ending) (answered : Status) (before after : Log) : Type 0 where
  pub answer : answered ≡ status.WriteFault
  pub some : said ≢ ending.Done
  pub front : AddsFront (line_of said) before.held after.held
  pub rose : Rose before.faults after.faults

-- the ending that is reported: the run's own, or `Memory` where there was no memory for the line of a refusal
abbrev pub Says : Ending → Ending → Type 0
Says ended said = (said ≡ ended) ⊎ (IsRefusal ended × (said ≡ ending.Memory))

abbrev pub Reported : Ending → Status → Log → Log → Type 0
Reported ended answered before after =
    (said : Ending) × Says ended said × (Logged said answered before after ⊎ LogFailed said answered before after)

-- What generating a session leaves, and what its statuses say.
use Rattle.std.specs.Prelude.{◌≡◌, ◌⊎◌, ℕ}
use Rattle.px_types.specs.declared.status.Status.{Status}
use Rattle.px_types.specs.declared.status.Status.TheVariants as status
use Rattle.px_ends.specs.Visible.{after_adding}
use Rattle.px_ends.specs.Whole.{AddsFront}
use Rattle.px_gen.specs.Generator.{generated}
use Rattle.px_app.specs.declared.ending.Ending.{Ending}
use Rattle.px_app.specs.declared.ending.Ending.TheVariants as ending
use Rattle.px_app.specs.Ends.{Ends, Log}
use Rattle.px_app.specs.Played.{InputCounted}
use Rattle.px_app.specs.Plays.{IsAccounted, NoneRose}
use Rattle.px_app.specs.Report.{Reported}

-- nothing was read
abbrev pub IsUnread : Ends → Ends → Type 0
IsUnread before after = after.left ≡ before.left

-- the session was written whole
pub record MadeWhole (number count : ℕ) (before after : Ends) : Type 0 where
  pub unread : IsUnread before after
  pub gained : after.held ≡ after_adding before.held (generated number count)

-- a front of it was written
pub record MadeFront (number count : ℕ) (before after : Ends) : Type 0 where
  pub unread : IsUnread before after
  pub gained : AddsFront (generated number count) before.held after.held

abbrev pub Makes : Ending → ℕ → ℕ → Ends → Ends → Type 0
Makes ending.Done number count before after = MadeWhole number count before after
Makes ending.Memory number count before after = MadeFront number count before after
Makes ending.WriteFault number count before after = MadeFront number count before after
Makes other number count before after = ⊥

-- generating a session returned this status: it ended so, and that was reported
pub record Made (number count : ℕ) (answered : Status) (before after : Ends) (log_before log_after : Log) : Type 0 where
  pub ended : Ending
  pub makes : Makes ended number count before after
  pub counted : InputCounted ended before after
  pub reported : Reported ended answered log_before log_after

-- how generating ends, by the generator's status
abbrev pub made_by : Status → Ending
made_by status.Ok = ending.Done
made_by status.Memory = ending.Memory
made_by other = ending.WriteFault

-- A session was generated, and the status says what was written of it.
pub record Generates (number count : ℕ) (answered : Status) (before after : Ends) (log_before log_after : Log) : Type 0 where
  -- what was written, which calls failed, and what was reported; all else follows from it
  pub exact : Made number count answered before after log_before log_after
  pub ok : answered ≡ status.Ok → MadeWhole number count before after
  pub front : MadeFront number count before after
  pub accounted : IsAccounted answered before after log_before log_after
  pub others : (answered ≡ status.Ok) ⊎ (answered ≡ status.Memory) ⊎ (answered ≡ status.WriteFault)
  -- where no call fails, the session is written, unless memory ran out
  pub complete : NoneRose before after log_before log_after → (answered ≡ status.Ok) ⊎ (answered ≡ status.Memory)

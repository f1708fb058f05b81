-- What a run of the program does by the words of its command line: one record for each.
use Rattle.std.specs.Prelude.{◌≡◌, ◌⊎◌, ℕ, List, Option}
use Rattle.px_types.specs.declared.status.Status.{Status}
use Rattle.px_types.specs.declared.status.Status.TheVariants as status
use Rattle.px_annals.specs.declared.entry.CoreEntry.{CoreEntry}
use Rattle.px_annals.specs.declared.entry.LaneEntry.{LaneEntry}
use Rattle.px_ends.specs.Device.{DeviceState}
use Rattle.px_ends.specs.Links.{LinkCounts}
use Rattle.px_app.specs.declared.ending.Ending.TheVariants as ending
use Rattle.px_app.specs.Convert.{Converts}
use Rattle.px_app.specs.Controlling.{ControlledBy}
use Rattle.px_app.specs.Ends.{Ends, Log}
use Rattle.px_app.specs.Fine.{IsFine}
use Rattle.px_app.specs.Making.{Generates}
use Rattle.px_app.specs.Monitor.{Monitors}
use Rattle.px_app.specs.Outside.{Outside, HostStays}
use Rattle.px_app.specs.Plays.{IsAccounted}
use Rattle.px_app.specs.Ramp.{Ramps}
use Rattle.px_app.specs.Replay.{Replays}
use Rattle.px_app.specs.Report.{Reported}
use Rattle.px_app.specs.Samples.{Samples as PlaysSamples}
use Rattle.px_app.specs.Serving.{Served}
use Rattle.px_app.specs.Tape.{out_end}
use Rattle.px_app.specs.Words.{Command, Replay, Monitor, Samples, Ramp, Convert, Gen, Serve, Control, Other}

-- Words that aren't those of the usage text: nothing was read or written, and the usage was reported.
pub record IsUsage (answered : Status) (before after : Ends) (log_before log_after : Log) : Type 0 where
  pub same : after ≡ before
  pub exact : Reported ending.Usage answered log_before log_after
  pub accounted : IsAccounted answered before after log_before log_after
  pub others : (answered ≡ status.Usage) ⊎ (answered ≡ status.WriteFault)

-- what is done by words other than those of `serve` and `ctl`
abbrev pub DoesAlone : Command → Status → Ends → Ends → Log → Log → Type 0
DoesAlone (Replay shown) answered before after log_before log_after = Replays shown answered before after log_before log_after
DoesAlone Monitor answered before after log_before log_after = Monitors answered before after log_before log_after
DoesAlone Samples answered before after log_before log_after = PlaysSamples answered before after log_before log_after
DoesAlone (Ramp frames) answered before after log_before log_after = Ramps frames answered before after log_before log_after
DoesAlone Convert answered before after log_before log_after = Converts answered before after log_before log_after
DoesAlone (Gen number count) answered before after log_before log_after = Generates number count answered before after log_before log_after
DoesAlone Other answered before after log_before log_after = IsUsage answered before after log_before log_after
DoesAlone Serve answered before after log_before log_after = ⊥
DoesAlone Control answered before after log_before log_after = ⊥

module _ {D R C L : Type 0} (core_visible : C → Option (List CoreEntry)) (core_faults core_fulls : C → ℕ) (now : D → DeviceState) (visible : R → Option (List LaneEntry)) (faults fulls : R → ℕ) where
  -- The host was started, served, and given back what it made, and the tape was written to the output, where the words ask for one.
  pub record Serves (texts : List (List ℕ)) (answered : Status) (before after : Outside D R C L) : Type 0 where
    pub exact : Served core_visible core_faults core_fulls now visible faults fulls texts answered before.host after.host
        (out_end before.ends.held before.ends.write_faults) (out_end after.ends.held after.ends.write_faults) before.log after.log
    -- nothing was read
    pub unread : after.ends.left ≡ before.ends.left
    pub quiet : after.ends.read_faults ≡ before.ends.read_faults
    -- where that ends with Ok, no link comes any more, and nothing of the host failed
    pub ok : answered ≡ status.Ok → IsFine before.host after.host
    -- nothing was dialled
    pub dialled : after.dialled ≡ before.dialled

module _ {D R C L : Type 0} (core_visible : C → Option (List CoreEntry)) (core_faults core_fulls : C → ℕ) (now : D → DeviceState) (visible : R → Option (List LaneEntry)) (faults fulls : R → ℕ)
    (left sent : L → Option (List ℕ)) (counts : L → LinkCounts) where
  -- What a command does. All but `serve` and `ctl` leave the host alone.
  abbrev pub Does : Command → List (List ℕ) → Status → Outside D R C L → Outside D R C L → Type 0
  Does Serve texts answered before after = Serves core_visible core_faults core_fulls now visible faults fulls texts answered before after
  Does Control texts answered before after = ControlledBy left sent counts texts answered before after
  Does (Replay shown) texts answered before after = Replays shown answered before.ends after.ends before.log after.log × HostStays before after
  Does Monitor texts answered before after = Monitors answered before.ends after.ends before.log after.log × HostStays before after
  Does Samples texts answered before after = PlaysSamples answered before.ends after.ends before.log after.log × HostStays before after
  Does (Ramp frames) texts answered before after = Ramps frames answered before.ends after.ends before.log after.log × HostStays before after
  Does Convert texts answered before after = Converts answered before.ends after.ends before.log after.log × HostStays before after
  Does (Gen number count) texts answered before after = Generates number count answered before.ends after.ends before.log after.log × HostStays before after
  Does Other texts answered before after = IsUsage answered before.ends after.ends before.log after.log × HostStays before after

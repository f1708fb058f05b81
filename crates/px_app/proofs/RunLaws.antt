-- What the status of a run says, from what the words ask for and what was done.
use Rattle.std.proofs.Common.{◌≡◌, ◌⊎◌, inl, inr, ℕ, List, Bool, true, false, cond, Option, option_map, refl, sym, ap, subst}
use Rattle.std.specs.Prelude.{unwrap_or}
use Rattle.px_types.specs.declared.status.Status.{Status}
use Rattle.px_types.specs.declared.status.Status.TheVariants as status
use Rattle.px_annals.specs.declared.entry.CoreEntry.{CoreEntry}
use Rattle.px_annals.specs.declared.entry.LaneEntry.{LaneEntry}
use Rattle.px_ends.specs.Device.{DeviceState}
use Rattle.px_ends.specs.Links.{LinkCounts}
use Rattle.px_gen.specs.Generator.{generated}
use Rattle.px_app.specs.declared.ending.Ending.{Ending}
use Rattle.px_app.specs.declared.ending.Ending.TheVariants as ending
use Rattle.px_app.specs.declared.words.Words.{Words}
use Rattle.px_app.specs.Ends.{Ends, Log}
use Rattle.px_app.specs.Ending.{status_of}
use Rattle.px_app.specs.Making.{MadeFront, Makes, Made, Generates}
use Rattle.px_app.specs.Outside.{Outside, HostStays}
use Rattle.px_app.specs.Plays.{NoneRose}
use Rattle.px_app.specs.Report.{Reported}
use Rattle.px_app.specs.Run.{IsUsage, DoesAlone, Serves, Does}
use Rattle.px_app.specs.Serving.{Served}
use Rattle.px_app.specs.Tape.{out_end}
use Rattle.px_app.specs.Controlling.{ControlledBy}
use Rattle.px_ctl.specs.Words.{is_ctl}
use Rattle.px_app.specs.Words.{Command, Replay, Monitor, Samples, Ramp, Convert, Gen, Serve, Control, Other, meaning_in, meaning_of, is_serve, alone_in, command_in}
use Rattle.px_app.proofs.FineLaws.{served_fine}
use Rattle.px_app.proofs.FrontLaws.{whole_front}
use Rattle.px_app.proofs.PlayedLaws.{accounted_so, not_write_fault}
use Rattle.px_app.proofs.ReportLaws as report

-- ---- a session that is made

module _ (number count : ℕ) where
  made_front : (ended : Ending) (before after : Ends) → Makes ended number count before after → MadeFront number count before after
  made_front ending.Done before after m = record { unread = m.unread; gained = whole_front (generated number count) before.held after.held m.gained }
  made_front ending.Memory before after m = m
  made_front ending.WriteFault before after m = m
  made_front (ending.Refused refusal) before after m = absurd m
  made_front ending.Usage before after m = absurd m
  made_front ending.ReadFault before after m = absurd m
  made_front ending.NoSuchSink before after m = absurd m

  made_status : (ended : Ending) (answered : Status) (before after : Ends) → Makes ended number count before after → answered ≡ status_of ended → (answered ≡ status.Ok) ⊎ (answered ≡ status.Memory) ⊎ (answered ≡ status.WriteFault)
  made_status ending.Done answered before after m is = inl is
  made_status ending.Memory answered before after m is = inr (inl is)
  made_status ending.WriteFault answered before after m is = inr (inr is)
  made_status (ending.Refused refusal) answered before after m is = absurd m
  made_status ending.Usage answered before after m is = absurd m
  made_status ending.ReadFault answered before after m is = absurd m
  made_status ending.NoSuchSink answered before after m is = absurd m

  module _ (answered : Status) (before after : Ends) (log_before log_after : Log) (x : Made number count answered before after log_before log_after) where
    ends_with : (e : Ending) → x.ended ≡ e → Makes e number count before after
    ends_with e is = subst (λ (d : Ending). Makes d number count before after) is x.makes

    made_others : (answered ≡ status.Ok) ⊎ (answered ≡ status.Memory) ⊎ (answered ≡ status.WriteFault)
    made_others = elim (report.status_among x.ended answered log_before log_after x.reported) [
      | inl same ↦ made_status x.ended answered before after x.makes same
      | inr rest ↦ (elim rest [
        | inl memory ↦ inr (inl memory.1)
        | inr fault ↦ inr (inr fault)
      ])
    ]

    made_complete : NoneRose before after log_before log_after → (answered ≡ status.Ok) ⊎ (answered ≡ status.Memory)
    made_complete none = elim made_others [
      | inl ok ↦ inl ok
      | inr rest ↦ (elim rest [
        | inl memory ↦ inr memory
        | inr fault ↦ absurd (not_write_fault x.ended answered before after log_before log_after x.counted x.reported none fault)
      ])
    ]

    pub generates : Generates number count answered before after log_before log_after
    generates = record {
      exact = x;
      ok = λ is. ends_with ending.Done (report.ended_done x.ended answered log_before log_after x.reported is);
      front = made_front x.ended before after x.makes;
      accounted = accounted_so x.ended answered before after log_before log_after x.counted x.reported;
      others = made_others;
      complete = made_complete;
    }

-- ---- other words

module _ (answered : Status) (ends : Ends) (before after : Log) (r : Reported ending.Usage answered before after) where
  usage_or_fault : (answered ≡ status.Usage) ⊎ (answered ≡ status.WriteFault)
  usage_or_fault = elim (report.status_among ending.Usage answered before after r) [
    | inl same ↦ inl same
    | inr rest ↦ (elim rest [
      | inl memory ↦ absurd memory.0
      | inr fault ↦ inr fault
    ])
  ]

  pub is_usage : IsUsage answered ends ends before after
  is_usage = record { same = refl; exact = r; accounted = accounted_so ending.Usage answered ends ends before after (refl, refl) r; others = usage_or_fault }

-- ---- by the command

pub alone_is : (texts : List (List ℕ)) (found : Option Words) → option_map meaning_of found ≡ meaning_in texts → unwrap_or (option_map meaning_of found) Other ≡ alone_in texts
alone_is texts found is = ap (λ (o : Option Command). unwrap_or o Other) is

module _ {D R C L : Type 0} (core_visible : C → Option (List CoreEntry)) (core_faults core_fulls : C → ℕ) (now : D → DeviceState) (visible : R → Option (List LaneEntry)) (faults fulls : R → ℕ)
    (texts : List (List ℕ)) (answered : Status) (before after : Outside D R C L) where
  pub serves : Served core_visible core_faults core_fulls now visible faults fulls texts answered before.host after.host
      (out_end before.ends.held before.ends.write_faults) (out_end after.ends.held after.ends.write_faults) before.log after.log
      → after.ends.left ≡ before.ends.left → after.ends.read_faults ≡ before.ends.read_faults → after.dialled ≡ before.dialled
      → Serves core_visible core_faults core_fulls now visible faults fulls texts answered before after
  serves s unread quiet dialled = record {
    exact = s;
    unread = unread;
    quiet = quiet;
    ok = served_fine core_visible core_faults core_fulls now visible faults fulls texts answered before.host after.host
        (out_end before.ends.held before.ends.write_faults) (out_end after.ends.held after.ends.write_faults) before.log after.log s;
    dialled = dialled;
  }

module _ {D R C L : Type 0} (core_visible : C → Option (List CoreEntry)) (core_faults core_fulls : C → ℕ) (now : D → DeviceState) (visible : R → Option (List LaneEntry)) (faults fulls : R → ℕ)
    (left sent : L → Option (List ℕ)) (counts : L → LinkCounts) (texts : List (List ℕ)) (answered : Status) (before after : Outside D R C L) where
  abbrev DoesSo : Command → Type 0
  DoesSo command = Does core_visible core_faults core_fulls now visible faults fulls left sent counts command texts answered before after

  by_command : (command : Command) → DoesAlone command answered before.ends after.ends before.log after.log → HostStays before after → DoesSo command
  by_command (Replay shown) does host = (does, host)
  by_command Monitor does host = (does, host)
  by_command Samples does host = (does, host)
  by_command (Ramp frames) does host = (does, host)
  by_command Convert does host = (does, host)
  by_command (Gen number count) does host = (does, host)
  by_command Other does host = (does, host)
  by_command Serve does host = absurd does
  by_command Control does host = absurd does

  -- by words that aren't those of `serve`
  abbrev Otherwise : Bool → Type 0
  Otherwise ctl = DoesSo (cond ctl Control (alone_in texts))

  unserved : is_serve texts ≡ false → Otherwise (is_ctl texts) → DoesSo (command_in texts)
  unserved other does = subst (λ (b : Bool). DoesSo (cond b Serve (cond (is_ctl texts) Control (alone_in texts)))) (sym other) does

  pub does_alone : is_serve texts ≡ false → is_ctl texts ≡ false → DoesAlone (alone_in texts) answered before.ends after.ends before.log after.log → HostStays before after
      → DoesSo (command_in texts)
  does_alone unserving other does host = unserved unserving (subst Otherwise (sym other) (by_command (alone_in texts) does host))

  pub does_control : is_serve texts ≡ false → is_ctl texts ≡ true → ControlledBy left sent counts texts answered before after → DoesSo (command_in texts)
  does_control unserving is controls = unserved unserving (subst Otherwise (sym is) controls)

  pub does_serve : is_serve texts ≡ true → Serves core_visible core_faults core_fulls now visible faults fulls texts answered before after → DoesSo (command_in texts)
  does_serve is serves = subst (λ (b : Bool). DoesSo (cond b Serve (cond (is_ctl texts) Control (alone_in texts)))) (sym is) serves

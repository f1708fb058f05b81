-- What the words of `ctl` do, and what the log gains of it.
use Rattle.std.specs.Prelude.{◌≡◌, ◌⊎◌, ℕ, List, Option, ⊤}
use Rattle.px_types.specs.declared.status.Status.{Status}
use Rattle.px_types.specs.declared.status.Status.TheVariants as status
use Rattle.px_types.specs.Faults.{Rose}
use Rattle.px_ends.specs.Links.{LinkCounts}
use Rattle.px_client.specs.declared.end.ClientEnd.{ClientEnd}
use Rattle.px_client.specs.declared.end.ClientEnd.TheVariants as ends
use Rattle.px_client.specs.Causes.{RoseBy, PATIENCE}
use Rattle.px_ctl.specs.declared.words.ControlWords.{ControlWords}
use Rattle.px_ctl.specs.declared.end.ControlEnd.{ControlEnd}
use Rattle.px_ctl.specs.Words.{IsSaid}
use Rattle.px_ctl.specs.Control.{IsCookie, IsNoCookie, RunsOver, Controls}
use Rattle.px_ctl.specs.End.{ControlReported}
use Rattle.px_app.specs.declared.ending.Ending.{Ending}
use Rattle.px_app.specs.declared.ending.Ending.TheVariants as ending
use Rattle.px_app.specs.Report.{Reported}
use Rattle.px_app.specs.Outside.{Outside, sides_of, HostStays}

-- the words aren't those of `ctl`
abbrev pub AreUnsaid : List (List ℕ) → Type 0
AreUnsaid texts = (said : ControlWords) → IsSaid texts said → ⊥

module _ {D R C L : Type 0} where
  -- nothing was read or written but the log's line of this ending
  pub record OnlyReports (ended : Ending) (answered : Status) (before after : Outside D R C L) : Type 0 where
    pub ends : after.ends ≡ before.ends
    pub host : HostStays before after
    pub reported : Reported ended answered before.log after.log

module _ {D R C L : Type 0} (left sent : L → Option (List ℕ)) (counts : L → LinkCounts) where
  -- the errand of the words was done as far as it went, and how that ended was reported
  pub record Controlled (texts : List (List ℕ)) (answered : Status) (before after : Outside D R C L) : Type 0 where
    pub said : ControlWords
    pub is_said : IsSaid texts said
    pub end : ControlEnd
    pub controls : Controls left sent counts end said.errand before.ends.left after.ends.left before.ends.read_faults after.ends.read_faults (sides_of before) (sides_of after)
    pub reported : ControlReported end answered before.log.held after.log.held before.log.faults after.log.faults

  -- with a cookie in the input, a client did the errand of the words over a link that the host dialled, and ended so
  pub record ClientEnds (end : ClientEnd) (texts : List (List ℕ)) (before after : Outside D R C L) : Type 0 where
    pub said : ControlWords
    pub is_said : IsSaid texts said
    pub cookie : List ℕ
    pub read : IsCookie cookie before.ends.left after.ends.left
    pub runs : RunsOver left sent counts end cookie said.errand (sides_of before) (sides_of after)

  -- what each status says
  abbrev pub Shows : Status → List (List ℕ) → Outside D R C L → Outside D R C L → Type 0
  -- the reply to the errand's command came, and its inputs' lines were written
  Shows status.Ok texts before after = ClientEnds ends.Ok texts before after
  Shows status.Usage texts before after = AreUnsaid texts
  Shows status.Refused texts before after = (at : ℕ) × IsNoCookie at before.ends.left after.ends.left
  Shows status.ReadFault texts before after = Rose before.ends.read_faults after.ends.read_faults
  Shows status.WriteFault texts before after = Rose before.ends.write_faults after.ends.write_faults ⊎ Rose before.log.faults after.log.faults
  Shows status.Host texts before after = Rose before.host.faults after.host.faults ⊎ Rose before.dialled.link_faults after.dialled.link_faults
  Shows status.Denied texts before after = (code : ℕ) × ClientEnds (ends.Denied code) texts before after
  Shows status.BadReply texts before after = (at : ℕ) × ClientEnds (ends.BadReply at) texts before after
  Shows status.Gone texts before after = ClientEnds ends.Gone texts before after × Rose before.dialled.ends after.dialled.ends
  Shows status.Silent texts before after = ClientEnds ends.Silent texts before after × RoseBy PATIENCE before.dialled.not_yets after.dialled.not_yets
  Shows status.Memory texts before after = ⊤
  -- never
  Shows status.Device texts before after = ⊥
  Shows status.NoSuchSink texts before after = ⊥
  Shows status.HistoryFull texts before after = ⊥

  -- `ctl` by these words: they aren't its words, there was no memory to read them, or their errand was done
  pub record ControlledBy (texts : List (List ℕ)) (answered : Status) (before after : Outside D R C L) : Type 0 where
    pub exact : (AreUnsaid texts × OnlyReports ending.Usage answered before after) ⊎ OnlyReports ending.Memory answered before after
        ⊎ Controlled texts answered before after
    pub shows : Shows answered texts before after

-- Where a serving call ends with status Ok, nothing of its host failed.
use Rattle.std.proofs.Common.{◌≡◌, inl, inr, ℕ, Bool, List, [], ◌∷◌, Option, None, Some, refl, sym, ap, subst, ◌∙◌}
use Rattle.std.specs.Prelude.{MatchOption}
use Rattle.std.specs.Option.{option_or}
use Rattle.px_types.specs.declared.status.Status.{Status}
use Rattle.px_types.specs.declared.status.Status.TheVariants as status
use Rattle.px_types.specs.Faults.{Rose}
use Rattle.px_annals.specs.declared.entry.CoreEntry.{CoreEntry}
use Rattle.px_annals.specs.declared.entry.LaneEntry.{LaneEntry}
use Rattle.px_annals.specs.declared.recorder.RecordFault.{RecordFault}
use Rattle.px_annals.specs.declared.recorder.RecordFault.TheVariants as record_fault
use Rattle.px_annals.specs.declared.stream.PlainStream.{PlainStream}
use Rattle.px_state.specs.State.{State}
use Rattle.px_ends.specs.Device.{DeviceState}
use Rattle.px_ends.specs.declared.host.ServeOptions.{ServeOptions}
use Rattle.px_session.specs.declared.event.Event.{Event}
use Rattle.px_header.specs.declared.header.Header.{Header}
use Rattle.px_ends.specs.Host.{HostState, Part, TakesPart, started_by}
use Rattle.px_core_cell.specs.Cause.{IsCaused}
use Rattle.px_workers.specs.declared.stop.Stop.{Stop}
use Rattle.px_workers.specs.declared.stop.Stop.TheVariants as stop
use Rattle.px_workers.specs.declared.sink_state.SinkFault.{SinkFault}
use Rattle.px_workers.specs.declared.sink_state.SinkFault.TheVariants as sink_fault
use Rattle.px_workers.specs.Working.{IsFaultOf}
use Rattle.px_workers.specs.Hosted.{IsLater, IsCauseOf}
use Rattle.px_server.specs.declared.served.LanePart.{LanePart}
use Rattle.px_server.specs.Causes.{status_of_record, status_of_fault, met_or_fine, decided}
use Rattle.px_server.specs.Parts.{Worked, AreParts}
use Rattle.px_server.specs.Serving.{first_met}
use Rattle.px_app.specs.declared.refusal.Refusal.{Refusal}
use Rattle.px_app.specs.declared.ending.Ending.{Ending}
use Rattle.px_app.specs.declared.ending.Ending.TheVariants as ending
use Rattle.px_app.specs.declared.serve.call.ServeEnd.{ServeEnd}
use Rattle.px_app.specs.declared.serve.call.ServeEnd.TheVariants.{Usage, Refused, Ended}
use Rattle.px_app.specs.declared.serve_words.words.ServeWords.{ServeWords}
use Rattle.px_app.specs.Ends.{Log}
use Rattle.px_app.specs.Report.{Says, Reported}
use Rattle.px_app.specs.Serves.{IsServing, IsEarly, ServesWith, ServesBy}
use Rattle.px_app.specs.Serving.{EndReported, Served}
use Rattle.px_app.specs.Tape.{Output, WritesTape, faulted}
use Rattle.px_app.specs.Back.{TakesParts, TakesCores}
use Rattle.px_app.specs.Fine.{IsFine}
use Rattle.px_app.proofs.ReportLaws.{done_is}

-- ---- the status

record_not_ok : (fault : RecordFault) → status_of_record fault ≡ status.Ok → ⊥
record_not_ok record_fault.NoMemory e = cc
record_not_ok (record_fault.Full entries bytes) e = cc
record_not_ok record_fault.Failed e = cc

-- a worker that came upon nothing has no status
fault_not_ok : (fault : SinkFault) → status_of_fault fault ≡ Some status.Ok → ⊥
fault_not_ok sink_fault.Nothing e = cc
fault_not_ok sink_fault.Stopped e = cc
fault_not_ok (sink_fault.Unrecorded why) e = record_not_ok why cc

fault_none : (fault : SinkFault) → status_of_fault fault ≡ None → fault ≡ sink_fault.Nothing
fault_none sink_fault.Nothing e = refl
fault_none sink_fault.Stopped e = absurd cc
fault_none (sink_fault.Unrecorded why) e = absurd cc

first_not_ok : (works : List Worked) → first_met works ≡ Some status.Ok → ⊥
first_not_ok [] e = cc
first_not_ok (work ∷ works) e = step (status_of_fault work.sink_fault) refl (first_not_ok works) e where
  step : (o : Option Status) → status_of_fault work.sink_fault ≡ o → (first_met works ≡ Some status.Ok → ⊥) → option_or o (first_met works) ≡ Some status.Ok → ⊥
  step None same rest is = rest is
  step (Some answered) same rest is = fault_not_ok work.sink_fault (same ∙ is)

met_ok : (works : List Worked) → met_or_fine (first_met works) ≡ status.Ok → first_met works ≡ None
met_ok works e = step (first_met works) refl e where
  step : (o : Option Status) → first_met works ≡ o → met_or_fine o ≡ status.Ok → first_met works ≡ None
  step None same is = same
  step (Some answered) same is = absurd (first_not_ok works (same ∙ ap Some is))

-- what decided was that no link comes any more, and nothing else had a cause
pub record Decides (why : Stop) (fault : Option RecordFault) (works : List Worked) : Type 0 where
  pub over : why ≡ stop.Over
  pub none : fault ≡ None
  pub nothing : first_met works ≡ None

pub decided_ok : (why : Stop) (fault : Option RecordFault) (works : List Worked) → decided why fault (first_met works) ≡ status.Ok → Decides why fault works
decided_ok stop.Over None works e = record { over = refl; none = refl; nothing = met_ok works e }
decided_ok stop.Over (Some fault) works e = absurd (record_not_ok fault e)
decided_ok stop.Memory fault works e = absurd cc
decided_ok stop.Host fault works e = absurd cc
decided_ok (stop.Unrecorded why) None works e = absurd cc
decided_ok (stop.Unrecorded why) (Some fault) works e = absurd (record_not_ok fault e)

-- a call that ended with a status, whose tape was written, has Ok only where it ended with it
tape_ok : (header : Header) (tape : Option (List Event)) (before after : Output) (ended answered : Status) → WritesTape header tape before after ended answered → answered ≡ status.Ok → ended ≡ status.Ok
tape_ok header None before after ended answered writes ok = sym writes.0 ∙ ok
tape_ok header (Some events) before after ended answered (lawful, inl same) ok = sym same.0 ∙ ok
tape_ok header (Some events) before after ended answered (lawful, inr fault) ok = absurd (not_faulted ended (sym fault.0 ∙ ok)) where
  not_faulted : (s : Status) → faulted s ≡ status.Ok → ⊥
  not_faulted status.Ok e = cc
  not_faulted status.Refused e = cc
  not_faulted status.Usage e = cc
  not_faulted status.Memory e = cc
  not_faulted status.ReadFault e = cc
  not_faulted status.WriteFault e = cc
  not_faulted status.Device e = cc
  not_faulted status.Host e = cc
  not_faulted status.NoSuchSink e = cc
  not_faulted status.HistoryFull e = cc
  not_faulted status.Denied e = cc
  not_faulted status.BadReply e = cc
  not_faulted status.Gone e = cc
  not_faulted status.Silent e = cc

-- a report of an ending that isn't Done isn't Ok
reported_not_ok : (end : Ending) (answered : Status) (before after : Log) → Reported end answered before after → answered ≡ status.Ok → end ≡ ending.Done
reported_not_ok end answered before after (said, says, inl logged) ok = step says where
  done : said ≡ ending.Done
  done = done_is said (sym logged.answer ∙ ok)

  step : Says end said → end ≡ ending.Done
  step (inl same) = sym same ∙ done
  step (inr memory) = absurd (let e : ending.Memory ≡ ending.Done = sym memory.1 ∙ done in cc)
reported_not_ok end answered before after (said, says, inr failed) ok = absurd (let e : status.WriteFault ≡ status.Ok = sym failed.answer ∙ ok in cc)

usage_not_ok : (answered : Status) (before after : Log) → Reported ending.Usage answered before after → answered ≡ status.Ok → ⊥
usage_not_ok answered before after r ok = (let e = reported_not_ok ending.Usage answered before after r ok in cc)

refused_not_ok : (refusal : Refusal) (answered : Status) (before after : Log) → Reported (ending.Refused refusal) answered before after → answered ≡ status.Ok → ⊥
refused_not_ok refusal answered before after r ok = (let e = reported_not_ok (ending.Refused refusal) answered before after r ok in cc)

nothing_first : (work : Worked) (works : List Worked) → first_met (work ∷ works) ≡ None → (work.sink_fault ≡ sink_fault.Nothing) × (first_met works ≡ None)
nothing_first work works e = step (status_of_fault work.sink_fault) refl e where
  step : (o : Option Status) → status_of_fault work.sink_fault ≡ o → option_or o (first_met works) ≡ None → (work.sink_fault ≡ sink_fault.Nothing) × (first_met works ≡ None)
  step None same is = (fault_none work.sink_fault same, is)
  step (Some answered) same is = absurd cc

-- ---- the parts

module _ {D R C : Type 0} where
  -- a host's counts of what failed are what they were
  pub record AreSame (before after : HostState D R C) : Type 0 where
    pub overs : after.overs ≡ before.overs
    pub faults : after.faults ≡ before.faults
    pub device_faults : after.device_faults ≡ before.device_faults
    pub recorder_faults : after.recorder_faults ≡ before.recorder_faults
    pub fulls : after.fulls ≡ before.fulls

  pub same_refl : (before after : HostState D R C) → after ≡ before → AreSame before after
  same_refl before after e = record {
    overs = ap (λ h. h.overs) e;
    faults = ap (λ h. h.faults) e;
    device_faults = ap (λ h. h.device_faults) e;
    recorder_faults = ap (λ h. h.recorder_faults) e;
    fulls = ap (λ h. h.fulls) e;
  }

  same_then : (a b c : HostState D R C) → AreSame a b → AreSame b c → AreSame a c
  same_then a b c first then = record {
    overs = then.overs ∙ first.overs;
    faults = then.faults ∙ first.faults;
    device_faults = then.device_faults ∙ first.device_faults;
    recorder_faults = then.recorder_faults ∙ first.recorder_faults;
    fulls = then.fulls ∙ first.fulls;
  }

  part_same : (device_faults recorder_faults fulls : ℕ) (part : Part D R) (before after : HostState D R C) → device_faults ≡ 0 → recorder_faults ≡ 0 → fulls ≡ 0
      → TakesPart device_faults recorder_faults fulls part before after → AreSame before after
  part_same device_faults recorder_faults fulls part before after one two three takes = record {
    overs = ap (λ h. h.overs) takes.3;
    faults = ap (λ h. h.faults) takes.3;
    device_faults = takes.0.0 one;
    recorder_faults = takes.1.0 two;
    fulls = takes.2.0 three;
  }

  -- what failed of the core's recorder
  pub core_same : (core_faults core_fulls : C → ℕ) (recorder : C) (before after : HostState D R C) → core_faults recorder ≡ 0 → core_fulls recorder ≡ 0
      → TakesCores core_faults core_fulls (Some recorder) before after → AreSame before after
  core_same core_faults core_fulls recorder before after one two takes = record {
    overs = ap (λ h. h.overs) takes.2;
    faults = ap (λ h. h.faults) takes.2;
    device_faults = ap (λ h. h.device_faults) takes.2;
    recorder_faults = takes.0.0 one;
    fulls = takes.1.0 two;
  }

  module _ (began : State PlainStream) (core : Option (List CoreEntry)) (now : D → DeviceState) (visible : R → Option (List LaneEntry)) (faults fulls : R → ℕ) where
    -- where no worker came upon anything, what is taken back leaves the counts
    pub parts_same : (works : List Worked) (parts : List (LanePart D R)) (before after : HostState D R C) → first_met works ≡ None
        → AreParts began core now visible faults fulls works parts → TakesParts now faults fulls parts before after → AreSame before after
    parts_same [] [] before after none parts takes = same_refl before after takes
    parts_same [] (part ∷ parts) before after none all takes = absurd all
    parts_same (work ∷ works) [] before after none all takes = absurd all
    parts_same (work ∷ works) (part ∷ parts) before after none all takes =
        let first = nothing_first work works none in
        let counts : IsFaultOf (now part.device).faults (faults part.recorder) (fulls part.recorder) sink_fault.Nothing =
        subst (λ (f : SinkFault). IsFaultOf (now part.device).faults (faults part.recorder) (fulls part.recorder) f) first.0 all.0.sink_fault in
        same_then before takes.0 after
        (part_same (now part.device).faults (faults part.recorder) (fulls part.recorder) (record { sink = part.sink; device = part.device; recorder = part.recorder }) before takes.0 counts.0 counts.1 counts.2 takes.1)
        (parts_same works parts takes.0 after first.1 all.1 takes.2)

-- ---- the call

module _ {D R C : Type 0} (core_visible : C → Option (List CoreEntry)) (core_faults core_fulls : C → ℕ) (now : D → DeviceState) (visible : R → Option (List LaneEntry)) (faults fulls : R → ℕ) where
  cores_same : (fault : Option RecordFault) (core : Option C) (before after : HostState D R C) → fault ≡ None → MatchOption core (fault ≡ None) (λ r. IsCaused fault (core_faults r) (core_fulls r))
      → TakesCores core_faults core_fulls core before after → AreSame before after
  cores_same fault None before after none back takes = same_refl before after takes
  cores_same fault (Some recorder) before after none caused takes = core_same core_faults core_fulls recorder before after (caused.none none).0 (caused.none none).1 takes

  -- what failed where the counts are what they were once all was taken back
  fine_by : (before mid after : HostState D R C) → IsLater before mid → IsCauseOf stop.Over before mid → AreSame mid after → IsFine before after
  fine_by before mid after later cause same = record {
    over = subst (λ (n : ℕ). Rose before.overs n) (sym same.overs) cause.0;
    faults = same.faults ∙ cause.1;
    device_faults = same.device_faults ∙ later.device_faults;
    recorder_faults = same.recorder_faults ∙ later.recorder_faults;
    fulls = same.fulls ∙ later.fulls;
  }

  -- a serving call that ended with Ok, after which all was taken back
  serving_fine : (source : Option (List ℕ)) (header : Header) (taped : Bool) (before after : HostState D R C) (out_before out_after : Output) (answered : Status)
      → IsServing core_visible core_faults core_fulls now visible faults fulls source header taped before after out_before out_after answered → answered ≡ status.Ok → IsFine before after
  serving_fine source header taped before after out_before out_after answered s ok =
      let d = s.served.ends.decided in
      let ended_ok : s.ended ≡ status.Ok = tape_ok header s.tape out_before out_after s.ended answered s.written ok in
      let decides : Decides d.stop d.fault s.served.ends.works = decided_ok d.stop d.fault s.served.ends.works (sym d.status ∙ ended_ok) in
      let cause : IsCauseOf stop.Over before s.served_state = subst (λ (why : Stop). IsCauseOf why before s.served_state) decides.over d.cause in
      let parts : AreSame s.served_state s.parts_state =
      parts_same _ _ now visible faults fulls s.served.ends.works s.parts s.served_state s.parts_state decides.nothing s.served.ends.lanes s.parts_back in
      let cores : AreSame s.parts_state after = cores_same d.fault s.core s.parts_state after decides.none d.recorder_back s.core_back in
      fine_by before s.served_state after s.served.later cause (same_then s.served_state s.parts_state after parts cores)

  early_not_ok : (options : ServeOptions) (before after : HostState D R C) → IsEarly core_visible core_faults core_fulls now visible faults fulls options status.Ok before after → ⊥
  early_not_ok options before after (inl memory) = (let e = memory.0 in cc)
  early_not_ok options before after (inr host) = (let e = host.0 in cc)

  with_fine : (said : ServeWords) (before after : HostState D R C) (out_before out_after : Output)
      → ServesWith core_visible core_faults core_fulls now visible faults fulls said (Ended status.Ok) before after out_before out_after → IsFine before after
  with_fine said before after out_before out_after (inl early) = absurd (early_not_ok said.options before after early.0)
  with_fine said before after out_before out_after (inr (bytes, header, told, is, lawful, serving)) =
      let f = serving_fine said.source header said.tape (started_by said.options before) after out_before out_after status.Ok serving refl in
      record { over = f.over; faults = f.faults; device_faults = f.device_faults; recorder_faults = f.recorder_faults; fulls = f.fulls }

  by_fine : (texts : List (List ℕ)) (before after : HostState D R C) (out_before out_after : Output)
      → ServesBy core_visible core_faults core_fulls now visible faults fulls texts (Ended status.Ok) before after out_before out_after → IsFine before after
  by_fine texts before after out_before out_after (inl memory) = absurd (let e = memory.0 in cc)
  by_fine texts before after out_before out_after (inr (said, is, serves)) = with_fine said before after out_before out_after serves

  reported_ok : (end : ServeEnd) (answered : Status) (before after : Log) → EndReported end answered before after → answered ≡ status.Ok → end ≡ Ended status.Ok
  reported_ok Usage answered before after r ok = absurd (usage_not_ok answered before after r ok)
  reported_ok (Refused at cause) answered before after r ok = absurd (refused_not_ok _ answered before after r ok)
  reported_ok (Ended ended) answered before after (inl same) ok = ap Ended (sym same.0 ∙ ok)
  reported_ok (Ended ended) answered before after (inr fault) ok = absurd (let e : status.WriteFault ≡ status.Ok = sym fault.0 ∙ ok in cc)

  -- by the words of `serve`, where the status is Ok
  pub served_fine : (texts : List (List ℕ)) (answered : Status) (before after : HostState D R C) (out_before out_after : Output) (log_before log_after : Log)
      → Served core_visible core_faults core_fulls now visible faults fulls texts answered before after out_before out_after log_before log_after → answered ≡ status.Ok → IsFine before after
  served_fine texts answered before after out_before out_after log_before log_after s ok =
      by_fine texts before after out_before out_after
      (subst (λ (end : ServeEnd). ServesBy core_visible core_faults core_fulls now visible faults fulls texts end before after out_before out_after) (reported_ok s.end answered log_before log_after s.reported ok) s.serves)

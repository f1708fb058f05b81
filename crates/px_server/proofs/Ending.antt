-- What a serving call does, of what its parts do.
use Rattle.std.proofs.Common.{◌≡◌, ℕ, suc, List, [], ◌∷◌, ◌++◌, map, length, Option, None, Some, IsSome, IfSome, refl, sym, subst, ◌∙◌, ap, rules, arith, ◌+◌, ◌≤◌}
use Rattle.std.specs.Prelude.{slice_get}
use Rattle.std.proofs.lemmas.List.{length-append, length-map, append-nil}
use Rattle.px_types.specs.declared.status.Status.{Status}
use Rattle.px_types.specs.declared.status.Status.TheVariants as status
use Rattle.px_annals.specs.declared.entry.CoreEntry.{CoreEntry}
use Rattle.px_annals.specs.declared.entry.LaneEntry.{LaneEntry}
use Rattle.px_annals.specs.declared.recorder.RecordFault.{RecordFault}
use Rattle.px_annals.specs.declared.stream.PlainStream.{PlainStream}
use Rattle.px_ends.specs.Device.{DeviceState}
use Rattle.px_ends.specs.Host.{HostState}
use Rattle.px_header.specs.declared.header.Header.{Header}
use Rattle.px_header.specs.declared.header.SinkSpec.{SinkSpec}
use Rattle.px_state.specs.State.{State, new_state_with}
use Rattle.px_core_cell.specs.Cause.{IsCaused}
use Rattle.px_core_cell.specs.Cell.{Cell, SinkEnds}
use Rattle.px_core_cell.specs.History.{IsReplay, IsAgreed}
use Rattle.px_server.specs.declared.served.LanePart.{LanePart}
use Rattle.px_workers.specs.declared.stop.Stop.{Stop}
use Rattle.px_workers.specs.declared.stop.Stop.TheVariants as stops
use Rattle.px_server.specs.Causes.{decided, undecided}
use Rattle.px_workers.specs.Hosted.{IsLater, IsCalm, IsCauseOf}
use Rattle.px_server.specs.Hosted.{HasLent}
use Rattle.px_workers.specs.Working.{Start, start_of, Unworked}
use Rattle.px_server.specs.Parts.{Worked, AreParts, IsFrontOf, unworked, starts_of, starts_from}
use Rattle.px_server.specs.Serving.{first_met, IsDecided, Ends, IsServed}
use Rattle.px_workers.proofs.Later.{later_later, cause_later}
use Rattle.px_server.proofs.Parts.{parts_count, starts_unworked}

none_there : (C : Type 0) → IsSome {T = C} None → ⊥
none_there C some = search rules

-- what a core's entries say of a sink, wherever its recorder tells
pub replay_agreed : {C : Type 0} (began : State PlainStream) (cell : Cell C) (core : Option (List CoreEntry)) → IfSome core (IsReplay began cell)
    → (i : ℕ) (e : SinkEnds) → slice_get cell.ends i ≡ Some e → IfSome core (λ entries. IsAgreed began entries (0 + i) e)
replay_agreed began cell None none i e is = tt
replay_agreed began cell (Some entries) replay i e is =
    let same : i ≡ 0 + i = omega arith in subst (λ (n : ℕ). IsAgreed began entries n e) same (replay.agreed i e is)

starts_count : (index : ℕ) (sinks : List SinkSpec) → length (starts_from index sinks) ≡ length sinks
starts_count index [] = refl
starts_count index (s ∷ sinks) = ap suc (starts_count (index + 1) sinks)

module _ {D R C : Type 0} (now : D → DeviceState) (visible : R → Option (List LaneEntry)) (faults fulls : R → ℕ) (core_visible : C → Option (List CoreEntry)) (core_faults core_fulls : C → ℕ) where
  -- a call whose workers were joined
  pub run_ends : (began : State PlainStream) (idle : List (Unworked D R)) (before after : HostState D R C)
      (stop : Stop) (fault : Option RecordFault) (sink_fault : Option Status) (answered : Status) (parts : List (LanePart D R)) (recorder : C)
      → AreParts began (core_visible recorder) now visible faults fulls (map unworked idle) parts → sink_fault ≡ first_met (map unworked idle)
      → IsCauseOf stop before after → IsCaused fault (core_faults recorder) (core_fulls recorder) → answered ≡ decided stop fault sink_fault
      → Ends core_visible core_faults core_fulls began now visible faults fulls (map start_of idle) before after answered parts (Some recorder)
  run_ends began idle before after stop fault sink_fault answered parts recorder all first cause caused is = record {
    works = map unworked idle;
    all = starts_unworked idle;
    lanes = all;
    decided = record {
      stop = stop;
      cause = cause;
      fault = fault;
      recorder_back = caused;
      status = is ∙ ap (decided stop fault) first;
    };
  }

  -- its sinks, by how they began before their workers had them
  pub ends_since : (began : State PlainStream) (starts begun : List Start) (before after : HostState D R C) (answered : Status) (parts : List (LanePart D R)) (core : Option C)
      → starts ≡ begun → Ends core_visible core_faults core_fulls began now visible faults fulls starts before after answered parts core
      → Ends core_visible core_faults core_fulls began now visible faults fulls begun before after answered parts core
  ends_since began starts begun before after answered parts core same e = record { works = e.works; all = e.all ∙ same; lanes = e.lanes; decided = e.decided }

  -- a call that has made no core is decided by what made it stop
  pub undecided_is : (before after : HostState D R C) (stop : Stop) (works : List Worked) → IsCauseOf stop before after
      → IsDecided core_visible core_faults core_fulls before after (undecided stop) works None
  undecided_is before after stops.Over works cause = record { stop = stops.Memory; cause = tt; fault = None; recorder_back = refl; status = refl }
  undecided_is before after stops.Memory works cause = record { stop = stops.Memory; cause = tt; fault = None; recorder_back = refl; status = refl }
  undecided_is before after stops.Host works cause = record { stop = stops.Host; cause = cause; fault = None; recorder_back = refl; status = refl }
  undecided_is before after (stops.Unrecorded why) works cause = record { stop = stops.Memory; cause = tt; fault = None; recorder_back = refl; status = refl }

  pub unserved_is : (source : Option (List ℕ)) (header : Header) (idle : List (Unworked D R)) (before after : HostState D R C) (stop : Stop) (answered : Status) (parts : List (LanePart D R)) (core : Option C)
      → IsFrontOf (map start_of idle) (starts_of header.sinks) → IsLater before after → HasLent (length idle) 0 after → IsCauseOf stop before after
      → answered ≡ undecided stop → ((began : State PlainStream) → AreParts began None now visible faults fulls (map unworked idle) parts) → core ≡ None
      → IsServed core_visible core_faults core_fulls now visible faults fulls source header before after answered parts core
  unserved_is source header idle before after stop answered parts core front later lent cause is all none =
      let count : length parts ≡ length idle = parts_count (new_state_with source header) None now visible faults fulls (map unworked idle) parts (all (new_state_with source header)) ∙ length-map idle unworked in
      subst (λ (s : Status). IsServed core_visible core_faults core_fulls now visible faults fulls source header before after s parts core) (sym is)
      (subst (λ (o : Option C). IsServed core_visible core_faults core_fulls now visible faults fulls source header before after (undecided stop) parts o) (sym none)
      (record {
        later = later;
        lent = subst (λ (n : ℕ). HasLent n 0 after) (sym count) lent;
        starts = map start_of idle;
        front = front;
        all = λ some. absurd (none_there C some);
        ends = record {
          works = map unworked idle;
          all = starts_unworked idle;
          lanes = all (new_state_with source header);
          decided = undecided_is before after stop (map unworked idle) cause;
        };
        whole = λ fine. absurd (not_fine stop fine);
      })) where
        not_fine : (s : Stop) → undecided s ≡ status.Ok → ⊥
        not_fine stops.Over fine = search rules
        not_fine stops.Memory fine = search rules
        not_fine stops.Host fine = search rules
        not_fine (stops.Unrecorded why) fine = search rules

  pub served_is : (source : Option (List ℕ)) (header : Header) (began : State PlainStream) (idle : List (Unworked D R)) (before after : HostState D R C) (answered : Status) (parts : List (LanePart D R)) (core : Option C)
      → began ≡ new_state_with source header → map start_of idle ≡ starts_of header.sinks → IsLater before after → HasLent (length idle) 1 after → IsSome core
      → Ends core_visible core_faults core_fulls began now visible faults fulls (map start_of idle) before after answered parts core
      → IsServed core_visible core_faults core_fulls now visible faults fulls source header before after answered parts core
  served_is source header began idle before after answered parts None is starts later lent some ends = absurd (none_there C some)
  served_is source header began idle before after answered parts (Some recorder) is starts later lent some ends =
      let count : length parts ≡ length idle =
      parts_count began (core_visible recorder) now visible faults fulls ends.works parts ends.lanes ∙ sym (length-map ends.works (λ w. Worked.start w)) ∙ ap length ends.all ∙ length-map idle start_of in
      record {
        later = later;
        lent = subst (λ (n : ℕ). HasLent n 1 after) (sym count) lent;
        starts = map start_of idle;
        front = ([], starts_all starts);
        all = λ there. starts;
        ends = subst (λ (b : State PlainStream). Ends core_visible core_faults core_fulls b now visible faults fulls (map start_of idle) before after answered parts (Some recorder)) is ends;
        whole = λ fine. some;
      } where
        starts_all : {xs ys : List Start} → xs ≡ ys → ys ≡ xs ++ []
        starts_all same = search rules

  -- where the core's recorder came back, there is a part for each sink of the header
  pub served_count : (source : Option (List ℕ)) (header : Header) (before after : HostState D R C) (answered : Status) (parts : List (LanePart D R)) (core : Option C)
      → IsServed core_visible core_faults core_fulls now visible faults fulls source header before after answered parts core → IsSome core → length parts ≡ length header.sinks
  served_count source header before after answered parts core s some =
      parts_count _ _ now visible faults fulls s.ends.works parts s.ends.lanes ∙ sym (length-map s.ends.works (λ w. Worked.start w)) ∙ ap length s.ends.all ∙ ap length (s.all some) ∙ starts_count 0 header.sinks

  -- it is the same call seen from before the host made its parts
  pub served_since : (source : Option (List ℕ)) (header : Header) (before made after : HostState D R C) (answered : Status) (parts : List (LanePart D R)) (core : Option C)
      → IsLater before made → IsCalm before made → IsServed core_visible core_faults core_fulls now visible faults fulls source header made after answered parts core
      → IsServed core_visible core_faults core_fulls now visible faults fulls source header before after answered parts core
  served_since source header before made after answered parts core first calm s =
      let d = s.ends.decided in record {
        later = later_later before made after first s.later;
        lent = s.lent;
        starts = s.starts;
        front = s.front;
        all = s.all;
        ends = record {
          works = s.ends.works;
          all = s.ends.all;
          lanes = s.ends.lanes;
          decided = record { stop = d.stop; cause = cause_later d.stop before made after first calm d.cause; fault = d.fault; recorder_back = d.recorder_back; status = d.status };
        };
        whole = s.whole;
      }

-- as many sinks as the header has, or fewer
pub few_begin : {D R : Type 0} (sinks : List SinkSpec) (idle : List (Unworked D R)) → IsFrontOf (map start_of idle) (starts_of sinks) → length idle ≤ length sinks
few_begin sinks idle (rest, all) =
    let whole : length (starts_of sinks) ≡ length (map start_of idle ++ rest) = ap length all in
    omega (arith, whole, length-append (map start_of idle) rest, length-map idle start_of, starts_count 0 sinks)

-- all of them
pub front_all : {D R : Type 0} (sinks : List SinkSpec) (idle : List (Unworked D R)) → map start_of idle ≡ starts_of sinks → IsFrontOf (map start_of idle) (starts_of sinks)
front_all sinks idle same = ([], sym same ∙ sym (append-nil (map start_of idle)))

pub front_none : {D R : Type 0} (sinks : List SinkSpec) (idle : List (Unworked D R)) → idle ≡ [] → IsFrontOf (map start_of idle) (starts_of sinks)
front_none sinks idle none = subst (λ (l : List _). IsFrontOf (map start_of l) (starts_of sinks)) (sym none) (starts_of sinks, refl)

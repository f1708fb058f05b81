use Rattle.std.proofs.Common.{rules, ◌≡◌, ◌∷◌, [], ◌++◌, List, IfSome}
use Rattle.px_annals.specs.declared.entry.CoreEntry.{CoreEntry}
use Rattle.px_core_cell.specs.Cell.{ends_of}
use Rattle.px_core_cell.specs.History.{IsAgreed}
use Rattle.px_lane_cell.specs.History.{unturned}
use Rattle.px_server.specs.Delivered.{IsDelivered}
use Rattle.px_server.specs.Parts.{unworked}
use Rattle.px_workers.specs.Working.{Unworked, AreTaped}
use Rattle.px_server.proofs.Parts.{part_agreed, handed_none, handed_one, handed_all, met_one, met_all}
use Rattle.px_server.proofs.Delivering.{agreed_one, entries_follow, boxes_rest}
use Rattle.px_server.proofs.Taping.{taping_first, turns_none, turns_one}
use Rattle.px_server.proofs.left.close_all.Goals as goal

pub loop-sink-init : goal.loop-sink-init
loop-sink-init g c = record {
  room = search rules;
  boxes = search rules;
  sink_fault = search rules;
  turns_room = search rules;
  turns = λ on. (on, turns_none g.E.Recorder.visible c.args.lanes.now.items c.args.turns.now.items c.requires.none c.requires.no_turns);
  parts = λ began core visible. (search rules, handed_none began core g.D.Device.now g.E.Recorder.visible g.E.Recorder.faults g.E.Recorder.fulls c.args.idle.now.items c.args.lanes.now.items c.requires.none);
}

pub loop-sink-preserved : goal.loop-sink-preserved
loop-sink-preserved g c =
    let one : Unworked g.row.D.Denot g.row.E.Denot = record { sink = c.in-Some.field-0.sink; cell = c.in-Some.field-0.cell; sink_fault = c.in-Some.field-0.sink_fault; turns = c.in-Some.field-0.turns } in
    let left = c.loop-sink.idle.items in
    let rest = c.pop_front.new.self.items in
    let end = c.in-Some-pop_front.end in
    let front : left ≡ one ∷ rest = search rules in
    let next : c.loop-sink.ends.items ≡ end ∷ c.pop_front-in-Some.new.self.items = search rules in
    let more : c.push.new.self.items ≡ c.loop-sink.lanes.items ++ c.closed.result ∷ [] = search rules in
    record {
      room = search rules;
      boxes = boxes_rest left rest one c.loop-sink.ends.items c.pop_front-in-Some.new.self.items end front next c.loop-sink.invariant.boxes;
      sink_fault = met_one c.loop-sink.first c.or-first.result left rest c.args.idle.now.items one front (search rules) c.loop-sink.invariant.sink_fault;
      turns_room = search rules;
      turns = λ on.
          let so = c.loop-sink.invariant.turns on in
          let first = taping_first left rest one front so.0 in
          let taped : AreTaped g.E.Recorder.visible one.sink one.cell.recorder one.turns = search rules in (
            first.1,
            turns_one g.E.Recorder.visible c.loop-sink.lanes.items c.push.new.self.items c.closed.result c.loop-sink.turns.items c.add_turns.new.turns.items one.sink one.cell.recorder one.turns
                more c.closed.ensures.recorder.0 c.closed.ensures.recorder.1 first.0 taped c.add_turns.ensures.more so.1,
          );
      parts = λ began core visible.
          let so = c.loop-sink.invariant.parts began core visible in
          let all = agreed_one began core left rest one c.loop-sink.ends.items c.pop_front-in-Some.new.self.items end front next so.0 in (
            all.1,
            handed_one began core g.D.Device.now g.E.Recorder.visible g.E.Recorder.faults g.E.Recorder.fulls c.args.idle.now.items left rest one c.loop-sink.lanes.items c.push.new.self.items c.closed.result
                front more (part_agreed began core g.D.Device.now g.E.Recorder.visible g.E.Recorder.faults g.E.Recorder.fulls (unworked one) c.closed.result (c.closed.ensures.part began one.sink_fault (search rules))
                (entries_follow core (λ (entries : List CoreEntry). IsAgreed began entries one.sink.0 (ends_of end))
                (λ (entries : List CoreEntry). IfSome (g.E.Recorder.visible c.closed.result.recorder) (IsDelivered began entries one.sink (unturned one.cell.lane.sink)))
                (c.closed.ensures.delivered began) all.0)) so.1,
          );
    }

pub returns-clause-sink_fault : goal.returns-clause-sink_fault
returns-clause-sink_fault g c =
    let none : c.loop-sink.idle.items ≡ [] = search rules in
    met_all c.loop-sink.first c.loop-sink.idle.items c.args.idle.now.items none c.loop-sink.invariant.sink_fault

pub returns-clause-parts : goal.returns-clause-parts
returns-clause-parts g c = λ began core visible.
    let none : c.loop-sink.idle.items ≡ [] = search rules in
    handed_all began core g.D.Device.now g.E.Recorder.visible g.E.Recorder.faults g.E.Recorder.fulls c.args.idle.now.items c.loop-sink.idle.items c.loop-sink.lanes.items none
    (c.loop-sink.invariant.parts began core visible).1

pub returns-clause-turns : goal.returns-clause-turns
returns-clause-turns g c = λ on. (c.loop-sink.invariant.turns on).1

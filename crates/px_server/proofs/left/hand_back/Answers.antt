use Rattle.std.proofs.Common.{rules, ◌≡◌, ◌∷◌, [], ◌++◌, None}
use Rattle.px_workers.specs.Working.{Unworked}
use Rattle.px_server.proofs.Parts.{handed_none, handed_one, handed_all}
use Rattle.px_server.proofs.left.hand_back.Goals as goal

pub loop-sink-init : goal.loop-sink-init
loop-sink-init g c = record {
  room = search rules;
  parts = λ began. handed_none began None g.D.Device.now g.E.Recorder.visible g.E.Recorder.faults g.E.Recorder.fulls c.args.idle.now.items c.args.lanes.now.items c.requires.none;
}

pub loop-sink-preserved : goal.loop-sink-preserved
loop-sink-preserved g c =
    let one : Unworked g.row.D.Denot g.row.E.Denot = c.in-Some.sink in
    let front : c.loop-sink.idle.items ≡ one ∷ c.pop_front.new.self.items = search rules in
    let more : c.push.new.self.items ≡ c.loop-sink.lanes.items ++ c.part_of.result ∷ [] = search rules in
    record {
      room = search rules;
      parts = λ began. handed_one began None g.D.Device.now g.E.Recorder.visible g.E.Recorder.faults g.E.Recorder.fulls c.args.idle.now.items c.loop-sink.idle.items c.pop_front.new.self.items one
          c.loop-sink.lanes.items c.push.new.self.items c.part_of.result front more (c.part_of.ensures began) (c.loop-sink.invariant.parts began);
    }

pub returns : goal.returns
returns g c = λ began.
    let none : c.loop-sink.idle.items ≡ [] = search rules in
    handed_all began None g.D.Device.now g.E.Recorder.visible g.E.Recorder.faults g.E.Recorder.fulls c.args.idle.now.items c.loop-sink.idle.items c.loop-sink.lanes.items none (c.loop-sink.invariant.parts began)

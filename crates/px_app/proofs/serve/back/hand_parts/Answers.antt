use Rattle.std.proofs.Common.{rules, ◌≡◌, List, [], length, refl, sym, subst, ◌∙◌}
use Rattle.px_server.specs.Hosted.{HasLent}
use Rattle.px_app.specs.Back.{TakesParts}
use Rattle.px_app.proofs.BackLaws.{lent_rest, lent_end, lent_fewer, back_one, back_none}
use Rattle.px_app.proofs.serve.back.hand_parts.Goals as goal

pub loop-part-init : goal.loop-part-init
loop-part-init g c = record {
  lent = subst (λ (l : List _). HasLent (length l) c.args.cores (g.H.Host.now c.args.host.now)) (sym c.from_vec-left.ensures.items) c.requires;
  parts = λ final all. subst (λ (l : List _). TakesParts g.H.D.Device.now g.H.R.Recorder.faults g.H.R.Recorder.fulls l (g.H.Host.now c.args.host.now) final) c.from_vec-left.ensures.items all;
  dialled = refl;
}

pub loop-part-preserved : goal.loop-part-preserved
loop-part-preserved g c = record {
  lent = lent_fewer g.H.D.Device.now g.H.R.Recorder.faults g.H.R.Recorder.fulls (length c.pop_front.new.self.items) c.args.cores
      (g.H.D.Device.now c.in-Some.part.device).faults (g.H.R.Recorder.faults c.in-Some.part.recorder) (g.H.R.Recorder.fulls c.in-Some.part.recorder)
      c.in-Some.part (g.H.Host.now c.loop-part.host) (g.H.Host.now c.retire.new.self) c.retire.ensures.host
      (lent_rest c.loop-part.left.items c.pop_front.new.self.items c.in-Some.part c.args.cores (g.H.Host.now c.loop-part.host) c.in-Some.ensures.items c.loop-part.invariant.lent);
  parts = λ final later. c.loop-part.invariant.parts final
      (back_one g.H.D.Device.now g.H.R.Recorder.faults g.H.R.Recorder.fulls c.loop-part.left.items c.pop_front.new.self.items c.in-Some.part
      (g.H.Host.now c.loop-part.host) (g.H.Host.now c.retire.new.self) final c.in-Some.ensures.items c.retire.ensures.host later);
  dialled = c.retire.ensures.dialled ∙ c.loop-part.invariant.dialled;
}

pub returns-clause-parts : goal.returns-clause-parts
returns-clause-parts g c =
    let none : c.loop-part.left.items ≡ [] = search rules in
    c.loop-part.invariant.parts (g.H.Host.now c.loop-part.host)
    (back_none g.H.D.Device.now g.H.R.Recorder.faults g.H.R.Recorder.fulls c.loop-part.left.items (g.H.Host.now c.loop-part.host) none)

pub returns-clause-lent : goal.returns-clause-lent
returns-clause-lent g c =
    let none : c.loop-part.left.items ≡ [] = search rules in lent_end c.loop-part.left.items c.args.cores (g.H.Host.now c.loop-part.host) none c.loop-part.invariant.lent

pub returns-clause-dialled : goal.returns-clause-dialled
returns-clause-dialled g c = c.loop-part.invariant.dialled

use Rattle.std.proofs.Common.{rules, take, ap, sym, ◌∙◌}
use Rattle.px_ends.specs.Visible.{before_taking}
use Rattle.px_ends.proofs.VisibleBytes.{taking_both}
use Rattle.px_ends.proofs.Filling.{front_of_filled}
use Rattle.px_ends.proofs.whole.fill.Goals as goal

pub loop-filled-preserved : goal.loop-filled-preserved
loop-filled-preserved g c =
    let filled = c.loop-filled.filled in
    let buffer = c.loop-filled.buffer in
    let part = c.read.new.buffer in
    let left = g.S.Source.left c.read.new.self in
    record {
      departed = c.loop-filled.invariant.departed
          ∙ ap (before_taking (take filled buffer)) c.in-Bytes.ensures.bytes.left
          ∙ taking_both (take filled buffer) (take c.in-Bytes.n part) left
          ∙ ap (λ bytes. before_taking bytes left) (sym (front_of_filled buffer part filled c.in-Bytes.n c.loop-filled.invariant.fit c.in-Bytes.ensures.bytes.fit));
      sound = c.in-Bytes.ensures.count ∙ c.loop-filled.invariant.sound;
      fit = search rules;
    }

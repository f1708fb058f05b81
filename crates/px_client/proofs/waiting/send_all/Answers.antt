use Rattle.std.proofs.Common.{length, ◌-◌, take, drop, ap, sym, ◌∙◌}
use Rattle.std.proofs.lemmas.List.{take-append-drop}
use Rattle.px_ends.specs.Visible.{after_adding}
use Rattle.px_ends.proofs.VisibleBytes.{adding_both}
use Rattle.px_ends.proofs.Filling.{front_of_more, within_rest}
use Rattle.px_client.proofs.Unmoved.{on_err, unsent}
use Rattle.px_client.proofs.Loops.{sound_both}
use Rattle.px_client.proofs.waiting.send_all.Goals as goal

pub returns-in_err-sent-clause-err : goal.returns-in_err-sent-clause-err
returns-in_err-sent-clause-err g c = on_err c.from_residual.result (record {
  front = take c.loop-sent.sent c.args.bytes.now;
  rest = drop c.loop-sent.sent c.args.bytes.now;
  joined = sym (take-append-drop c.loop-sent.sent c.args.bytes.now);
  held = unsent _ _ _ _ c.in_err-sent.ensures.bytes ∙ c.loop-sent.invariant.added;
})

pub loop-sent-preserved : goal.loop-sent-preserved
loop-sent-preserved g c =
    let sent = c.loop-sent.sent in
    let bytes = c.args.bytes.now in
    let n = c.in_ok-sent.field-0 in
    let held = g.L.Link.sent c.args.link.now in
    let taken = take n (take (length bytes - sent) (drop sent bytes)) in
    record {
      added = c.in_ok-sent.ensures.bytes.held
          ∙ ap (λ before. after_adding before taken) c.loop-sent.invariant.added
          ∙ adding_both (take sent bytes) taken held
          ∙ ap (after_adding held) (front_of_more bytes sent n);
      left = c.in_ok-sent.ensures.other ∙ c.loop-sent.invariant.left;
      sound = sound_both c.loop-sent.invariant.sound c.in_ok-sent.ensures.count;
      fit = within_rest bytes sent n c.loop-sent.invariant.fit c.in_ok-sent.ensures.bytes.fit;
    }

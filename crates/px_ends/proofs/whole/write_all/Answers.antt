use Rattle.std.proofs.Common.{take, drop, length, ◌-◌, ap, sym, ◌∙◌}
use Rattle.std.proofs.lemmas.List.{take-append-drop}
use Rattle.px_ends.specs.Visible.{after_adding}
use Rattle.px_ends.proofs.VisibleBytes.{adding_both}
use Rattle.px_ends.proofs.Filling.{front_of_more, within_rest}
use Rattle.px_ends.proofs.whole.write_all.Goals as goal

pub loop-written-preserved : goal.loop-written-preserved
loop-written-preserved g c =
    let written = c.loop-written.written in
    let bytes = c.args.bytes.now in
    let n = c.in-Bytes.n in
    let held = g.K.Sink.held c.args.sink.now in
    let taken = take n (take (length bytes - written) (drop written bytes)) in
    record {
      added = c.in-Bytes.ensures.bytes.held
          ∙ ap (λ before. after_adding before taken) c.loop-written.invariant.added
          ∙ adding_both (take written bytes) taken held
          ∙ ap (after_adding held) (front_of_more bytes written n);
      sound = c.in-Bytes.ensures.count ∙ c.loop-written.invariant.sound;
      fit = within_rest bytes written n c.loop-written.invariant.fit c.in-Bytes.ensures.bytes.fit;
    }

pub returns-in-Failed-clause-err : goal.returns-in-Failed-clause-err
returns-in-Failed-clause-err g c = record {
  front = take c.loop-written.written c.args.bytes.now;
  rest = drop c.loop-written.written c.args.bytes.now;
  joined = sym (take-append-drop c.loop-written.written c.args.bytes.now);
  held = c.in-Failed.ensures.bytes ∙ c.loop-written.invariant.added;
}

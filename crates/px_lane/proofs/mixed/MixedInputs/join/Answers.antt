use Rattle.std.proofs.Common.{length, ap, ◌∙◌}
use Rattle.px_model.specs.Stream.{Stream}
use Rattle.px_model.specs.Applied.{applied}
use Rattle.px_model.specs.Message.{StreamMessage}
use Rattle.px_lane.proofs.Sharing.{come_fed}
use Rattle.px_lane.proofs.mixed.MixedInputs.join.Goals as goal

pub insert-requires-clause-fed : goal.insert-requires-clause-fed
insert-requires-clause-fed g c =
    ap (λ (s : Stream). length s.feed) c.apply.ensures.stream
    ∙ come_fed c.args.self.now.spec.channels c.args.input.0 (applied c.args.self.now.frames (StreamMessage.attach c.args.feed c.args.factors) c.args.parcel.stream) c.args.self.now.inputs c.requires.mixes.fed

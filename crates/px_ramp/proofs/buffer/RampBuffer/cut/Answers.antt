use Rattle.std.proofs.Common.{ℕ, ◌*◌, take, ap, ◌∙◌}
use Rattle.px_sample.specs.Format.{frame_size_of}
use Rattle.px_ramp.specs.Table.{HeldFrames}
use Rattle.px_ramp.proofs.buffer.RampBuffer.cut.Goals as goal

pub returns-clause-bytes : goal.returns-clause-bytes
returns-clause-bytes c =
    c.truncate.ensures.items
    ∙ ap (λ (m : ℕ). take (c.args.below * m) c.self.inside.bytes.items) c.frame_size-size.ensures
    ∙ ap (λ (v : HeldFrames). take (c.args.below * frame_size_of v.spec) v.bytes) c.self.view_is

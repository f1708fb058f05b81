use Rattle.std.proofs.Common.{◌≡◌, ◌+◌, ℕ, List, ◌++◌, take, drop, ap, ◌∙◌}
use Rattle.px_ends.specs.DeviceBuffer.{BufferedBytes}
use Rattle.px_ends.proofs.Frames.{put_further}
use Rattle.px_ends.proofs.device_buffer.DeviceBuffer.put.Goals as goal

pub returns : goal.returns
returns c =
    let b = c.self.inside in
    let now = c.args.bytes.now in
    ap (λ (bytes : List ℕ). record { room = b.room; bytes = drop b.gone bytes }) c.put_from.ensures.bytes
    ∙ ap (λ (bytes : List ℕ). record { room = b.room; bytes = bytes }) (put_further b.gone c.args.from b.bytes.items now c.self.invariant.1)
    ∙ ap (λ (v : BufferedBytes). record v { bytes = take c.args.from v.bytes ++ now }) c.self.view_is

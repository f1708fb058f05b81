use Rattle.std.proofs.Common.{◌≡◌, ◌+◌, ◌≤◌, drop, length, arith, sym, subst, length-drop}
use Rattle.std.proofs.lemmas.Grind.{common_steps}
use Rattle.px_ends.specs.DeviceBuffer.{BufferedBytes}
use Rattle.px_ends.proofs.device_buffer.DeviceBuffer.advance.Goals as goal

pub invariant_of-self-else-self : goal.invariant_of-self-else-self
invariant_of-self-else-self c =
    let b = c.self.inside in
    let left : c.args.count ≤ length (drop b.gone b.bytes.items) = subst (λ (v : BufferedBytes). c.args.count ≤ length v.bytes) (sym c.self.view_is) c.requires in (
      omega (arith, c.if-self.false),
      omega (arith, left, length-drop b.gone b.bytes.items, c.self.invariant.1),
      c.self.invariant.2,
    )

use Rattle.std.proofs.Common.{◌+◌, ◌-◌, ◌/◌, ◌≤◌, length, subst, sym, ap, ◌∙◌, arith}
use Rattle.px_ends.specs.DeviceBuffer.{BufferedBytes}
use Rattle.px_ends.specs.Device.{IsPut, HoldsFrames}
use Rattle.px_ends.specs.MemoryDevice.{state_of}
use Rattle.px_ends.proofs.Frames.{frames_inside, frames_put, frames_fit, frames_between}
use Rattle.px_ends.proofs.memory_device.MemDeviceDevice.put.Goals as goal

pub put-requires-clause-inside : goal.put-requires-clause-inside
put-requires-clause-inside c =
    let d = c.self.inside in
    let h = c.self.invariant in
    let r = subst (λ v. IsPut (state_of v) c.args.at c.args.bytes.now) (sym c.self.view_is) c.requires in
    rw c.bytes_of-from.ensures (frames_inside (length d.buffer.bytes) (c.args.at - d.consumed) d.consumed d.filled d.frame h.6 (omega (arith, h.3, r.not_near, r.no_gap)))

pub put-requires-clause-fits : goal.put-requires-clause-fits
put-requires-clause-fits c =
    let d = c.self.inside in
    let h = c.self.invariant in
    let r = subst (λ v. IsPut (state_of v) c.args.at c.args.bytes.now) (sym c.self.view_is) c.requires in
    rw c.bytes_of-from.ensures (frames_fit (length c.args.bytes.now) c.args.at (length c.args.bytes.now / d.frame) d.consumed d.depth d.frame _ (omega (arith, h.3, r.not_near)) r.fit r.whole (omega (arith, h.7)))

pub invariant_of-self : goal.invariant_of-self
invariant_of-self c =
    let d = c.self.inside in
    let h = c.self.invariant in
    let r = subst (λ v. IsPut (state_of v) c.args.at c.args.bytes.now) (sym c.self.view_is) c.requires in
    let late : d.consumed ≤ c.args.at = omega (arith, h.3, r.not_near) in
    let e = ap (λ (b : BufferedBytes). b.bytes) c.put.ensures in (
      h.0,
      h.1,
      h.2,
      omega (arith, late),
      r.fit,
      r.countable,
      rw (e, c.bytes_of-from.ensures) (frames_put d.buffer.bytes c.args.bytes.now c.args.at (length c.args.bytes.now / d.frame) d.consumed d.filled d.frame h.6 late r.no_gap r.whole),
      ap (λ (b : BufferedBytes). b.room) c.put.ensures ∙ h.7,
      h.8,
    )

pub returns-clause-full : goal.returns-clause-full
returns-clause-full c =
    let d = c.self.inside in
    let h = c.self.invariant in
    let n = (invariant_of-self c) in (
      subst (λ v. HoldsFrames (state_of v)) c.self.view_is (frames_between (length d.buffer.bytes) d.consumed d.filled d.frame h.6 h.3),
      frames_between (length c.put.new.self.bytes) d.consumed (c.args.at + length c.args.bytes.now / d.frame) d.frame n.6 n.3,
    )

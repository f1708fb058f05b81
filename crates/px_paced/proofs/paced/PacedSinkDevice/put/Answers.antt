use Rattle.std.proofs.Common.{◌-◌, ◌*◌, ◌/◌, ◌≤◌, length, subst, sym, arith}
use Rattle.px_ends.specs.Device.{IsPut}
use Rattle.px_ends.proofs.Frames.{frames_inside, frames_fit}
use Rattle.px_paced.specs.Paced.{state_of}
use Rattle.px_paced.proofs.paced.PacedSinkDevice.put.Goals as goal

pub put_behind-requires-clause-inside : goal.put_behind-requires-clause-inside
put_behind-requires-clause-inside g c =
    let d = c.self.inside in
    let h = c.self.invariant in
    let r = subst (λ v. IsPut (state_of v) c.args.at c.args.bytes.now) (sym c.self.view_is) c.requires in
    rw c.bytes_of-from.ensures (frames_inside (length d.ring.items) (c.args.at - d.consumed) d.consumed d.filled d.frame h.7 (omega (arith, h.4, r.not_near, r.no_gap)))

pub put_behind-requires-clause-fits : goal.put_behind-requires-clause-fits
put_behind-requires-clause-fits g c =
    let d = c.self.inside in
    let h = c.self.invariant in
    let r = subst (λ v. IsPut (state_of v) c.args.at c.args.bytes.now) (sym c.self.view_is) c.requires in
    let room : d.depth * d.frame ≤ d.ring.capacity = omega (arith, h.8) in
    rw c.bytes_of-from.ensures (frames_fit (length c.args.bytes.now) c.args.at (length c.args.bytes.now / d.frame) d.consumed d.depth d.frame d.ring.capacity (omega (arith, h.4, r.not_near)) r.fit r.whole room)

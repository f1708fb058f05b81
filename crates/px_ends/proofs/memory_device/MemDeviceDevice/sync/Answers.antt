use Rattle.std.proofs.Common.{◌+◌, ◌-◌, ◌*◌, ◌<◌, ◌≤◌, ◌^◌, ℕ, length, take, ap, sym, refl, ◌∙◌, arith, length-append, subst, rules}
use Rattle.std.proofs.lemmas.List.{length-take-le}
use Rattle.px_ends.specs.Device.{HoldsFrames, Fails}
use Rattle.px_ends.specs.DeviceBuffer.{BufferedBytes}
use Rattle.px_ends.specs.MemoryDevice.{left_after, state_of, sync_failed}
use Rattle.px_ends.proofs.Failing.{sync_fails}
use Rattle.px_ends.proofs.Frames.{frames_inside, frames_left, due_waits, room_left, frames_between}
use Rattle.px_ends.specs.contracts.memory_device.MemDevice.{the_view}
use Rattle.px_ends.proofs.memory_device.MemDeviceDevice.sync.Goals as goal

pub play-requires-clause-inside : goal.play-requires-clause-inside
play-requires-clause-inside c =
    let d = c.self.inside in
    let there = due_waits d.armed d.each d.left (d.filled - d.consumed) in
    let h = c.self.invariant in
    rw c.bytes_of-bytes.ensures (frames_inside (length d.buffer.bytes) c.due-frames.result d.consumed d.filled d.frame h.6 (omega (arith, c.due-frames.ensures, there, h.3)))

pub invariant_of-self-2 : goal.invariant_of-self-2
invariant_of-self-2 c =
    let d = c.self.inside in
    let h = c.self.invariant in
    let there = due_waits d.armed d.each d.left (d.filled - d.consumed) in
    let fit : c.due-frames.result + d.consumed ≤ d.filled = omega (arith, c.due-frames.ensures, there, h.3) in
    let inside = frames_inside (length d.buffer.bytes) c.due-frames.result d.consumed d.filled d.frame h.6 fit in
    let room = room_left d.armed d.each d.left (d.filled - d.consumed) (length d.played.items) d.frame _ h.8 in
    let e = c.play.ensures in (
      h.0,
      h.1,
      h.2,
      omega (arith, fit),
      omega (arith, h.4),
      h.5,
      rw (ap (λ (b : BufferedBytes). b.bytes) e.rest, c.bytes_of-bytes.ensures) (frames_left d.buffer.bytes c.due-frames.result d.consumed d.filled d.frame h.6 fit),
      ap (λ (b : BufferedBytes). b.room) e.rest ∙ h.7,
      omega (
        arith,
        ap (length {A = ℕ}) e.played,
        length-append d.played.items (take c.bytes_of-bytes.result d.buffer.bytes),
        length-take-le c.bytes_of-bytes.result d.buffer.bytes (rw c.bytes_of-bytes.ensures inside),
        c.bytes_of-bytes.ensures,
        ap (λ (n : ℕ). n * d.frame) c.due-frames.ensures,
        ap (λ (n : ℕ). (0 + n) * d.frame) c.left_of-self-inside.ensures,
        ap (λ (n : ℕ). (0 + left_after d.armed d.left n) * d.frame) c.due-frames.ensures,
        room,
        e.played_room,
      ),
    )

pub returns-then-is_failing-clause-full : goal.returns-then-is_failing-clause-full
returns-then-is_failing-clause-full c =
    let d = c.self.inside in
    let h = c.self.invariant in
    let full = frames_between (length d.buffer.bytes) d.consumed d.filled d.frame h.6 h.3 in
    (subst (λ v. HoldsFrames (state_of v)) c.self.view_is full, full)

pub returns-clause-full : goal.returns-clause-full
returns-clause-full c =
    let d = c.self.inside in
    let h = c.self.invariant in
    let n = invariant_of-self-2 c in (
      subst (λ v. HoldsFrames (state_of v)) c.self.view_is (frames_between (length d.buffer.bytes) d.consumed d.filled d.frame h.6 h.3),
      frames_between (length c.play.new.self.bytes) (d.consumed + c.due-frames.result) d.filled d.frame n.6 n.3,
    )

pub returns-then-is_failing-clause-after_fault : goal.returns-then-is_failing-clause-after_fault
returns-then-is_failing-clause-after_fault c =
    ap (λ (n : ℕ). record (sync_failed (the_view c.self.inside)) { faults = n }) c.saturating_add-self-inside.ensures ∙ ap sync_failed c.self.view_is

pub returns-then-is_failing-clause-err : goal.returns-then-is_failing-clause-err
returns-then-is_failing-clause-err c =
    let small : c.args.self.now.faults < 2 ^ 64 = search rules in
    subst (λ v. Fails (state_of c.args.self.now) (state_of v)) (sym (returns-then-is_failing-clause-after_fault c)) (sync_fails c.args.self.now small (sym c.is_failing.ensures ∙ c.if-is_failing.true))

pub returns-then-is_failing-clause-fails : goal.returns-then-is_failing-clause-fails
returns-then-is_failing-clause-fails c = (λ e. sym c.is_failing.ensures ∙ c.if-is_failing.true, λ t. refl)

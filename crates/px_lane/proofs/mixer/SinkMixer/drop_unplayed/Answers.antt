use Rattle.std.proofs.Common.{◌≡◌, ℕ, ◌+◌, ◌-◌, List, take, true, ap, sym, ◌∙◌, arith}
use Rattle.px_sample.specs.Format.{frame_size_of}
use Rattle.px_model.specs.Frame.{Frame, frames_of}
use Rattle.px_model.specs.Sink.{Sink, Input}
use Rattle.px_lane.specs.Mixing.{RoomySink, sink_of, given_up}
use Rattle.px_lane.proofs.Buffers.{frames_stay}
use Rattle.px_lane.proofs.Shares.{frames_sized}
use Rattle.px_lane.proofs.mixer.SinkMixer.drop_unplayed.Goals as goal

pub returns-clause-value : goal.returns-clause-value
returns-clause-value c =
    let d = c.self.inside in
    let size = frame_size_of d.spec in
    let h = c.self.invariant.1 in
    let staying = d.horizon - d.consumed in
    let all : staying + (d.filled - d.horizon) ≡ d.filled - d.consumed = omega (arith, h.consumed_first, h.horizon_first) in
    let before : Sink = sink_of d.spec (record { guard = d.guard; depth = d.depth; consumed = d.consumed; filled = d.filled; horizon = d.horizon }) d.stopped d.bytes d.inputs.inputs in
    ap (λ (xs : List Input). sink_of d.spec (record { guard = d.guard; depth = d.depth; consumed = d.consumed; filled = d.horizon; horizon = d.horizon }) true d.bytes xs) c.drop_unplayed.ensures.inputs
    ∙ ap (λ (frames : List Frame). let s : Sink = record (given_up before) { buffer = frames } in s)
    (sym (frames_stay (frame_size_of d.spec) (d.horizon - d.consumed) (d.filled - d.horizon) d.bytes)
    ∙ ap (λ (n : ℕ). take (d.horizon - d.consumed) (frames_of (frame_size_of d.spec) n d.bytes)) all)
    ∙ ap (λ (m : RoomySink). given_up m.sink) c.self.view_is

pub returns-clause-whole : goal.returns-clause-whole
returns-clause-whole c =
    let d = c.self.inside in
    let h = c.self.invariant.1 in
    frames_sized d.spec (d.horizon - d.consumed) d.depth d.bytes c.self.invariant.2 (omega (arith, h.consumed_first, h.horizon_first, h.filled_bounded))

use Rattle.std.proofs.Common.{◌≡◌, ℕ, ◌+◌, ◌-◌, ◌*◌, ◌≤◌, length, drop, ap, sym, ◌∙◌, subst, arith, length-drop}
use Rattle.std.specs.List.{concat}
use Rattle.std.proofs.lemmas.List.{take_all}
use Rattle.px_sample.specs.Format.{frame_size_of}
use Rattle.px_model.specs.Frame.{frames_of}
use Rattle.px_lane.specs.Mixing.{RoomySink}
use Rattle.px_lane.proofs.Buffers.{bytes_behind}
use Rattle.px_lane.proofs.mixer.SinkMixer.fresh.Goals as goal

pub returns : goal.returns
returns c =
    let d = c.self.inside in
    let h = c.self.invariant.1 in
    let at : ℕ = (d.horizon - d.consumed) + c.args.stay in
    let full : d.filled ≡ d.consumed + d.depth = subst (λ (m : RoomySink). m.sink.filled ≡ m.sink.consumed + m.sink.depth) (sym c.self.view_is) c.requires.full in
    let within : c.args.stay ≤ d.filled - d.horizon = subst (λ (m : RoomySink). c.args.stay ≤ m.sink.filled - m.sink.horizon) (sym c.self.view_is) c.requires.within in
    let all : at + (d.depth - at) ≡ d.filled - d.consumed = omega (arith, full, within, h.consumed_first, h.horizon_first) in
    let long : length d.bytes ≡ (at + (d.depth - at)) * frame_size_of d.spec =
    c.self.invariant.2 ∙ ap (λ (n : ℕ). n * frame_size_of d.spec) (omega (arith, all, full)) in
    take_all _ (drop (at * c.frame_size.result) c.as_slice.result.now) (omega (arith, length-drop (at * c.frame_size.result) c.as_slice.result.now))
    ∙ ap (λ (n : ℕ). drop (at * n) c.as_slice.result.now) c.frame_size.ensures
    ∙ ap (drop (at * frame_size_of d.spec)) c.as_slice.ensures
    ∙ sym (bytes_behind (frame_size_of d.spec) at (d.depth - at) d.bytes long)
    ∙ ap (λ (n : ℕ). concat (drop at (frames_of (frame_size_of d.spec) n d.bytes))) all
    ∙ ap (λ (m : RoomySink). concat (drop ((m.sink.horizon - m.sink.consumed) + c.args.stay) m.sink.buffer)) c.self.view_is

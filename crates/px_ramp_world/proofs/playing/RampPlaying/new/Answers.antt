use Rattle.std.proofs.Common.{◌≡◌, ℕ, ◌≤◌, sym, subst, ap, ◌∙◌}
use Rattle.px_msg.specs.View.{sample_spec}
use Rattle.px_ends.specs.declared.device.DeviceShape.{DeviceShape}
use Rattle.px_ends.specs.Device.{IsShape}
use Rattle.px_ends.specs.MemoryDevice.{MemoryDevice, state_of, new_memory_device}
use Rattle.px_model.specs.Sink.{empty_sink}
use Rattle.px_lane.specs.Lane.{IsAttached}
use Rattle.px_ramp.specs.Lane.{RampMixer}
use Rattle.px_world.proofs.Shapes.{shape_for, is-shape, is-attached}
use Rattle.px_ramp_world.proofs.playing.RampPlaying.new.Goals as goal

pub new-requires : goal.new-requires
new-requires c = subst IsShape (sym c.shape_of.ensures) (is-shape c.requires.sink.0 c.args.sink.now c.requires.sink.1)

pub new-requires-2-clause-attached : goal.new-requires-2-clause-attached
new-requires-2-clause-attached c =
    let sink = c.args.sink.now in
    let is : c.in_ok-device.device ≡ new_memory_device (shape_for sink) = c.in_ok-device.ensures ∙ ap (λ (shape : DeviceShape). new_memory_device shape) c.shape_of.ensures in
    subst (λ (d : MemoryDevice). IsAttached (state_of d) (empty_sink (sample_spec sink.spec) sink.guard sink.depth)) (sym is) (is-attached sink)

pub returns-clause-playing : goal.returns-clause-playing
returns-clause-playing c =
    let sink = c.args.sink.now in
    let is : c.in_ok-device.device ≡ new_memory_device (shape_for sink) = c.in_ok-device.ensures ∙ ap (λ (shape : DeviceShape). new_memory_device shape) c.shape_of.ensures in
    let lane = c.in_ok-new.ensures in
    record {
      taken = ap (λ (l : RampMixer MemoryDevice). l.device.played) lane ∙ ap (λ (d : MemoryDevice). d.played) is;
      attached = λ going. subst (λ (l : RampMixer MemoryDevice). IsAttached (state_of l.device) l.ramped.sink) (sym lane)
          (subst (λ (d : MemoryDevice). IsAttached (state_of d) (empty_sink (sample_spec sink.spec) sink.guard sink.depth)) (sym is) (is-attached sink));
      known = sym (ap (λ (l : RampMixer MemoryDevice). l.ramped.sink.stopped) lane);
      low_depth = subst (λ (n : ℕ). n ≤ 65536) (sym (ap (λ (l : RampMixer MemoryDevice). l.ramped.sink.depth) lane)) c.requires.sink.1.depth.1;
    }

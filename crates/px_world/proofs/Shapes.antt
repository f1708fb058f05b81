-- The device of a sink of a header.
use Rattle.std.proofs.Common.{ℕ, ◌*◌, ◌≤◌, List, refl, sym, arith}
use Rattle.px_sample.specs.declared.format.Format.{Format}
use Rattle.px_sample.specs.declared.format.Format.TheVariants.{U8, Alaw, Ulaw, S16Le, S16Be, Float32Le, Float32Be, S32Le, S32Be, S24Le, S24Be, S24In32Le, S24In32Be}
use Rattle.px_sample.specs.Format.{size_of, frame_size_of}
use Rattle.px_header.specs.declared.header.SinkSpec.{SinkSpec}
use Rattle.px_header.specs.HeaderRules.{IsSink}
use Rattle.px_msg.specs.View.{sample_spec}
use Rattle.px_msg.proofs.Sizes.{same_frame_size}
use Rattle.px_ends.specs.declared.device.DeviceShape.{DeviceShape}
use Rattle.px_ends.specs.Device.{IsShape}
use Rattle.px_ends.specs.MemoryDevice.{state_of, new_memory_device}
use Rattle.px_model.specs.Sink.{empty_sink}
use Rattle.px_lane.specs.Lane.{IsAttached}

some-bytes : (format : Format) (channels : ℕ) → 1 ≤ channels → 1 ≤ size_of format * channels
some-bytes U8 channels h = omega (arith, h)
some-bytes Alaw channels h = omega (arith, h)
some-bytes Ulaw channels h = omega (arith, h)
some-bytes S16Le channels h = omega (arith, h)
some-bytes S16Be channels h = omega (arith, h)
some-bytes Float32Le channels h = omega (arith, h)
some-bytes Float32Be channels h = omega (arith, h)
some-bytes S32Le channels h = omega (arith, h)
some-bytes S32Be channels h = omega (arith, h)
some-bytes S24Le channels h = omega (arith, h)
some-bytes S24Be channels h = omega (arith, h)
some-bytes S24In32Le channels h = omega (arith, h)
some-bytes S24In32Be channels h = omega (arith, h)

few-bytes : (format : Format) (channels : ℕ) → channels ≤ 32 → size_of format * channels ≤ 128
few-bytes U8 channels h = omega (arith, h)
few-bytes Alaw channels h = omega (arith, h)
few-bytes Ulaw channels h = omega (arith, h)
few-bytes S16Le channels h = omega (arith, h)
few-bytes S16Be channels h = omega (arith, h)
few-bytes Float32Le channels h = omega (arith, h)
few-bytes Float32Be channels h = omega (arith, h)
few-bytes S32Le channels h = omega (arith, h)
few-bytes S32Be channels h = omega (arith, h)
few-bytes S24Le channels h = omega (arith, h)
few-bytes S24Be channels h = omega (arith, h)
few-bytes S24In32Le channels h = omega (arith, h)
few-bytes S24In32Be channels h = omega (arith, h)

abbrev pub shape_for : SinkSpec → DeviceShape
shape_for s = record { frame = frame_size_of s.spec; rate = s.spec.rate; guard = s.guard; depth = s.depth }

pub is-shape : (earlier : List SinkSpec) (s : SinkSpec) → IsSink earlier s → IsShape (shape_for s)
is-shape earlier s h = record {
  some_bytes = some-bytes s.spec.format s.spec.channels h.channels.0;
  few_bytes = few-bytes s.spec.format s.spec.channels h.channels.1;
  some_rate = h.rate.0;
  high_rate = h.rate.1;
  some_depth = h.depth.0;
  low_depth = h.depth.1;
  guard_within = h.guard;
}

pub is-attached : (s : SinkSpec) → IsAttached (state_of (new_memory_device (shape_for s))) (empty_sink (sample_spec s.spec) s.guard s.depth)
is-attached s = record {
  frame = sym (same_frame_size s.spec);
  guard = refl;
  depth = refl;
  consumed = refl;
  filled = refl;
  buffer = refl;
}

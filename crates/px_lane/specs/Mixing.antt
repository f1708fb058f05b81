-- What a sink mixes, in the code as in the model.
use Rattle.std.specs.Prelude.{ℕ, ◌+◌, ◌-◌, ◌^◌, ◌≤◌, Bool, true, List, take}
use Rattle.px_sample.specs.declared.spec.Spec.{Spec}
use Rattle.px_sample.specs.Format.{IsLinear, frame_size_of}
use Rattle.px_msg.specs.View.{sample_spec}
use Rattle.px_model.specs.Frame.{frames_of}
use Rattle.px_model.specs.Sink.{Sink, Input}

-- a sink, how many frames past its horizon are the mix of its streams as they stand, and how many more messages, with how many blocks in all, its
-- inputs take without memory
pub record RoomySink : Type 0 where
  pub sink : Sink
  pub unaltered : ℕ
  pub room : ℕ
  pub block_room : ℕ

-- a spec at which streams are mixed: whole numbers in even steps, and 1 to 32 channels
pub record IsMixed (spec : Spec) : Type 0 where
  pub linear : IsLinear spec.format
  pub some_channels : 1 ≤ spec.channels
  pub few_channels : spec.channels ≤ 32

-- the counts of a sink
pub record Counts : Type 0 where
  pub guard : ℕ
  pub depth : ℕ
  pub consumed : ℕ
  pub filled : ℕ
  pub horizon : ℕ

-- a sink with a buffer of bytes
abbrev pub sink_of : Spec → Counts → Bool → List ℕ → List Input → Sink
sink_of spec counts stopped bytes inputs = record {
  spec = sample_spec spec;
  guard = counts.guard;
  depth = counts.depth;
  consumed = counts.consumed;
  filled = counts.filled;
  horizon = counts.horizon;
  stopped = stopped;
  buffer = frames_of (frame_size_of spec) (counts.filled - counts.consumed) bytes;
  inputs = inputs;
}

-- the invariant of the counts: consumed, horizon and filled in order, each within its bound of the one before
pub record AreInOrder (counts : Counts) : Type 0 where
  pub consumed_first : counts.consumed ≤ counts.horizon
  pub horizon_first : counts.horizon ≤ counts.filled
  pub horizon_near : counts.horizon ≤ counts.consumed + counts.guard
  pub filled_bounded : counts.filled ≤ counts.consumed + counts.depth
  pub depth_bounded : counts.depth ≤ 65536
  pub countable : counts.filled ≤ 2 ^ 61

-- all frames from the horizon on are dropped, and the sink is stopped
abbrev pub given_up : Sink → Sink
given_up sink = record sink {
  stopped = true;
  filled = sink.horizon;
  buffer = take (sink.horizon - sink.consumed) sink.buffer;
}

use Rattle.std.proofs.Common.{◌+◌, ◌*◌, ◌++◌, ◌≤◌, ℕ, List, length, map, take, drop, ap, sym, ◌∙◌, subst, arith, length-append}
use Rattle.std.specs.List.{concat, range_with_len}
use Rattle.std.proofs.Math.Nat.{mul-le-mul_left, mul-le-mul_right}
use Rattle.px_sample.specs.Format.{frame_size_of}
use Rattle.px_msg.specs.View.{sample_spec}
use Rattle.px_model.specs.Frame.{Frame}
use Rattle.px_model.specs.Sink.{streams_of}
use Rattle.px_stream.specs.Samples.{samples}
use Rattle.px_lane.specs.Inputs.{inputs_of}
use Rattle.px_ramp.specs.RampMix.{ramp_frame}
use Rattle.px_ramp.proofs.Unramped.{plain_long, frames_stand, ramped_then_plain, over_appended}
use Rattle.px_ramp.proofs.mixing.mix_into.Goals as goal

pub append-requires : goal.append-requires
append-requires g c =
    omega (arith, c.requires.room, ap (λ (xs : List ℕ). length xs) c.requires.plain, plain_long c.args.sink.now c.requires.linear (streams_of (inputs_of c.args.inputs.now)) c.args.count)

pub returns-then-running-eq0-clause-bytes : goal.returns-then-running-eq0-clause-bytes
returns-then-running-eq0-clause-bytes g c =
    c.append.ensures.items
    ∙ ap (λ (xs : List ℕ). c.args.bytes.now.items ++ xs)
    (c.requires.plain
    ∙ ap (λ (fs : List Frame). concat fs)
    (frames_stand c.args.frames c.args.horizon c.args.table.now.ramps (sample_spec c.args.sink.now) (inputs_of c.args.inputs.now) 0 c.args.count
    (λ f later less. c.running-running.ensures.stands f (omega (arith, later, c.if-running-eq0.true)) (omega (arith, less)))))

pub mix_between-requires-clause-size : goal.mix_between-requires-clause-size
mix_between-requires-clause-size g c = omega (arith, c.requires.size, mul-le-mul_left c.args.sink.now.channels c.running-running.ensures.few)

pub mix_between-requires-clause-whole : goal.mix_between-requires-clause-whole
mix_between-requires-clause-whole g c = ap (λ (m : ℕ). c.len-from.result + c.running-running.result * m) c.frame_size.ensures

pub mix_between-requires-clause-inside : goal.mix_between-requires-clause-inside
mix_between-requires-clause-inside g c =
    subst (λ (m : ℕ). c.len-from.result + c.running-running.result * m ≤ length c.append.new.bytes.items) (sym c.frame_size.ensures)
    (omega (
      arith,
      c.len-from.ensures,
      ap (λ (xs : List ℕ). length xs) c.append.ensures.items,
      length-append c.args.bytes.now.items c.args.plain.now,
      ap (λ (xs : List ℕ). length xs) c.requires.plain,
      plain_long c.args.sink.now c.requires.linear (streams_of (inputs_of c.args.inputs.now)) c.args.count,
      mul-le-mul_right (frame_size_of c.args.sink.now) c.running-running.ensures.few,
    ))

pub returns-clause-bytes : goal.returns-clause-bytes
returns-clause-bytes g c =
    let frames : List ℕ = concat (map (ramp_frame samples c.args.frames c.args.horizon c.args.table.now.ramps (sample_spec c.args.sink.now) (inputs_of c.args.inputs.now)) (range_with_len 0 c.running-running.result)) in
    let to : ℕ = c.len-from.result + c.running-running.result * c.frame_size.result in
    c.mix_between.ensures.bytes
    ∙ ap (λ (xs : List ℕ). take c.len-from.result xs ++ (frames ++ drop to xs)) c.append.ensures.items
    ∙ over_appended c.args.bytes.now.items c.args.plain.now frames c.len-from.result to (c.running-running.result * frame_size_of c.args.sink.now) (omega (arith, c.len-from.ensures))
    (ap (λ (m : ℕ). c.len-from.result + c.running-running.result * m) c.frame_size.ensures)
    ∙ ap (λ (xs : List ℕ). c.args.bytes.now.items ++ xs)
    (ramped_then_plain c.args.frames c.args.horizon c.args.table.now.ramps c.args.sink.now c.requires.linear (inputs_of c.args.inputs.now) c.running-running.result c.args.count
    c.running-running.ensures.few c.running-running.ensures.stands c.args.plain.now c.requires.plain)

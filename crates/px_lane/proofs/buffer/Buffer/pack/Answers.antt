use Rattle.std.proofs.Common.{◌≡◌, ℕ, ◌-◌, ◌≤◌, ◌++◌, List, length, map, take, drop, ap, sym, ◌∙◌, arith}
use Rattle.std.specs.List.{concat, range_with_len}
use Rattle.px_msg.specs.View.{sample_spec}
use Rattle.px_model.specs.Mix.{mix_of}
use Rattle.px_model.specs.Sink.{streams_of}
use Rattle.px_stream.specs.Samples.{samples}
use Rattle.px_lane.proofs.Gone.{held_all, packed_in_place}
use Rattle.px_lane.proofs.buffer.Buffer.pack.Goals as goal

pub returns-clause-bytes : goal.returns-clause-bytes
returns-clause-bytes g c =
    let d = c.self.inside in
    let held : length (take d.size (drop d.gone d.bytes.items)) ≡ d.size = held_all d.size d.gone d.bytes.items c.self.invariant.0 c.self.invariant.1 in
    let inside : c.args.at ≤ d.size = omega (arith, c.requires.size, sym (ap (λ (xs : List ℕ). length xs) c.self.view_is) ∙ held) in
    packed_in_place d.size d.gone c.args.at d.bytes.items c.pack_between.new.bytes.items
    (concat (map (mix_of samples (sample_spec c.args.inputs.now.spec) (streams_of c.args.inputs.now.inputs)) (range_with_len c.args.from (c.args.inputs.now.frames - c.args.from))))
    c.self.invariant.0 c.self.invariant.1 inside c.pack_between.ensures.size c.pack_between.ensures.bytes
    ∙ ap (λ (xs : List ℕ). take c.args.at xs ++ concat (map (mix_of samples (sample_spec c.args.inputs.now.spec) (streams_of c.args.inputs.now.inputs)) (range_with_len c.args.from (c.args.inputs.now.frames - c.args.from)))) c.self.view_is

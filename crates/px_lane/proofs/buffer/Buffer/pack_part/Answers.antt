use Rattle.std.proofs.Common.{◌≡◌, ℕ, ◌+◌, ◌-◌, ◌≤◌, ◌++◌, List, length, map, take, drop, ap, sym, ◌∙◌, arith}
use Rattle.std.specs.List.{concat, range_with_len}
use Rattle.px_msg.specs.View.{sample_spec}
use Rattle.px_model.specs.Mix.{mix_of}
use Rattle.px_model.specs.Sink.{streams_of}
use Rattle.px_stream.specs.Samples.{samples}
use Rattle.px_lane.proofs.Gone.{held_all, packed_between}
use Rattle.px_lane.proofs.buffer.Buffer.pack_part.Goals as goal

pub pack_part-requires-clause-inside : goal.pack_part-requires-clause-inside
pack_part-requires-clause-inside g c =
    let d = c.self.inside in
    let held : length (take d.size (drop d.gone d.bytes.items)) ≡ d.size = held_all d.size d.gone d.bytes.items c.self.invariant.0 c.self.invariant.1 in
    omega (arith, c.requires.inside, sym (ap (λ (xs : List ℕ). length xs) c.self.view_is) ∙ held, c.self.invariant.0, c.self.invariant.1)

pub returns-clause-bytes : goal.returns-clause-bytes
returns-clause-bytes g c =
    let d = c.self.inside in
    let held : length (take d.size (drop d.gone d.bytes.items)) ≡ d.size = held_all d.size d.gone d.bytes.items c.self.invariant.0 c.self.invariant.1 in
    let inside : c.args.end ≤ d.size = omega (arith, c.requires.inside, sym (ap (λ (xs : List ℕ). length xs) c.self.view_is) ∙ held) in
    packed_between d.size d.gone c.args.at c.args.end d.bytes.items c.pack_part.new.bytes.items
    (concat (map (mix_of samples (sample_spec c.args.inputs.now.spec) (streams_of c.args.inputs.now.inputs)) (range_with_len c.args.from (c.args.to - c.args.from))))
    c.self.invariant.0 c.self.invariant.1 (omega (arith, c.requires.size)) inside c.pack_part.ensures.size c.pack_part.ensures.bytes
    ∙ ap (λ (xs : List ℕ). take c.args.at xs ++ (concat (map (mix_of samples (sample_spec c.args.inputs.now.spec) (streams_of c.args.inputs.now.inputs)) (range_with_len c.args.from (c.args.to - c.args.from))) ++ drop c.args.end xs)) c.self.view_is

use Rattle.std.proofs.Common.{map, ◌*◌, ◌+◌, ℕ, ◌∙◌, sym, ap}
use Rattle.std.specs.List.{concat, range_with_len}
use Rattle.px_sample.specs.declared.format.Format.{Format}
use Rattle.px_sample.specs.Format.{size_of}
use Rattle.px_mixcache.specs.Packing.{frame_of}
use Rattle.px_mixcache.proofs.packing.pack_frames.Goals as goal

pub pack_stereo-requires-clause-two : goal.pack_stereo-requires-clause-two
pack_stereo-requires-clause-two g c = c.is_stereo.ensures.two c.if-is_stereo.true

pub pack_stereo-requires-clause-whole : goal.pack_stereo-requires-clause-whole
pack_stereo-requires-clause-whole g c =
    c.requires.whole
    ∙ ap (λ (n : ℕ). c.args.frames * (n * size_of c.args.format)) (c.is_stereo.ensures.two c.if-is_stereo.true)
    ∙ ap (λ (f : Format). c.args.frames * (2 * size_of f)) (c.is_stereo.ensures.format c.if-is_stereo.true)

pub returns-then-is_stereo-clause-bytes : goal.returns-then-is_stereo-clause-bytes
returns-then-is_stereo-clause-bytes g c =
    c.pack_stereo.ensures
    ∙ ap (λ (f : Format). concat (map (frame_of f c.args.runs.now) (range_with_len c.args.from c.args.frames))) (sym (c.is_stereo.ensures.format c.if-is_stereo.true))

pub returns-then-is_stereo-clause-ticks : goal.returns-then-is_stereo-clause-ticks
returns-then-is_stereo-clause-ticks g c = c.tick.ensures ∙ ap (λ (n : ℕ). c.args.steps.now + n * c.args.frames) (sym (c.is_stereo.ensures.two c.if-is_stereo.true))

use Rattle.std.proofs.Common.{◌-◌, ◌∙◌, map, ap, arith}
use Rattle.std.specs.List.{concat, range_with_len}
use Rattle.px_mixcache.specs.Cache.{KeptSums}
use Rattle.px_mixcache.specs.Packing.{frame_of}
use Rattle.px_kept_mix.proofs.Packing.{frames_packed}
use Rattle.px_kept_mix.proofs.kept.KeptMix.pack_between.Goals as goal

pub returns-clause-bytes : goal.returns-clause-bytes
returns-clause-bytes g c = λ inputs h.
    c.frames.ensures.bytes
    ∙ ap (λ (v : KeptSums). concat (map (frame_of c.args.sink.now.format v.runs) (range_with_len c.args.from (c.args.to - c.args.from)))) c.self.view_is
    ∙ frames_packed c.args.sink.now inputs c.args.self.now h c.args.from (c.args.to - c.args.from) (omega (arith, c.requires.order, c.requires.inside))

use Rattle.std.proofs.Common.{ℕ, ◌+◌, ◌-◌, ◌*◌, ◌<◌, length, take, drop, ap, sym, ◌∙◌, arith}
use Rattle.px_mixcache.specs.Cache.{run_at}
use Rattle.px_mixcache.specs.Packing.{stereo_frames}
use Rattle.px_mixcache.proofs.Each.{there}
use Rattle.px_mixcache.proofs.StereoFrames.{part_read, part_long, sums_are, parts_are}
use Rattle.px_mixcache.proofs.stereo.pack_stereo.Goals as goal

pub pack_two-requires-clause-long : goal.pack_two-requires-clause-long
pack_two-requires-clause-long c =
    let runs = c.args.runs.now in
    let one : 1 < length runs = omega (arith, c.requires.two) in
    let none : 0 < length runs = omega (arith, c.requires.two) in
    let left = sums_are runs 0 c.index-runs-0.result c.sums.result.now c.sums.ensures.sums (c.index-runs-0.is ∙ there runs 0 c.index-runs-0.result none) in
    let right = sums_are runs 1 c.index-runs-1.result c.sums-2.result.now c.sums-2.ensures.sums (c.index-runs-1.is ∙ there runs 1 c.index-runs-1.result one) in
    part_long runs 1 c.sums-2.result.now c.args.from c.args.frames right (c.requires.inside 1 one)
    ∙ sym (part_long runs 0 c.sums.result.now c.args.from c.args.frames left (c.requires.inside 0 none))

pub pack_two-requires-clause-whole : goal.pack_two-requires-clause-whole
pack_two-requires-clause-whole c =
    let runs = c.args.runs.now in
    let none : 0 < length runs = omega (arith, c.requires.two) in
    let left = sums_are runs 0 c.index-runs-0.result c.sums.result.now c.sums.ensures.sums (c.index-runs-0.is ∙ there runs 0 c.index-runs-0.result none) in
    c.requires.whole ∙ ap (λ (n : ℕ). n * 4) (sym (part_long runs 0 c.sums.result.now c.args.from c.args.frames left (c.requires.inside 0 none)))

pub returns : goal.returns
returns c =
    let runs = c.args.runs.now in
    let from = c.args.from in
    let frames = c.args.frames in
    let one : 1 < length runs = omega (arith, c.requires.two) in
    let none : 0 < length runs = omega (arith, c.requires.two) in
    let left = sums_are runs 0 c.index-runs-0.result c.sums.result.now c.sums.ensures.sums (c.index-runs-0.is ∙ there runs 0 c.index-runs-0.result none) in
    let right = sums_are runs 1 c.index-runs-1.result c.sums-2.result.now c.sums-2.ensures.sums (c.index-runs-1.is ∙ there runs 1 c.index-runs-1.result one) in
    let lefts = take (from + frames - from) (drop from c.sums.result.now) in
    let rights = take (from + frames - from) (drop from c.sums-2.result.now) in
    c.pack_two.ensures
    ∙ ap (stereo_frames lefts rights 0) (part_long runs 0 c.sums.result.now from frames left (c.requires.inside 0 none))
    ∙ parts_are runs lefts rights from frames c.requires.two
    (λ k less. part_read (run_at runs 0).sums c.sums.result.now from frames k left less)
    (λ k less. part_read (run_at runs 1).sums c.sums-2.result.now from frames k right less)

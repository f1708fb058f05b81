use Rattle.std.proofs.Common.{◌≡◌, ◌<◌, length, arith, ◌∙◌, ap, w32, rules, pos, to_z, of_z, get_or, subst, sym}
use Rattle.std.proofs.lemmas.Int.{to_z-of_z}
use Rattle.px_sample.specs.WorkValue.{at_width, IsWithin}
use Rattle.px_sample.proofs.RunLemmas.{mapped_more, each_more, rest_stays, read_as_is}
use Rattle.px_sample.proofs.width.rescale_all.Goals as goal

pub rescale-requires : goal.rescale-requires
rescale-requires g c =
    let i = c.loop-value.value-index in
    let there : i < length c.args.values.now = omega arith in
    let here = subst (IsWithin g.R.Rescale.from) (sym (c.loop-value.invariant.rest i (pos 0) (search rules)))
    (c.requires i (pos 0) there) in
    subst (IsWithin g.R.Rescale.from) (sym (read_as_is g.R.Rescale.from _ here)) here

pub loop-value-preserved : goal.loop-value-preserved
loop-value-preserved g c =
    let i = c.loop-value.value-index in
    let there : i < length c.args.values.now = omega arith in
    let room : i < length c.loop-value.values = omega arith in
    let same : get_or c.loop-value.values i (pos 0) ≡ get_or c.args.values.now i (pos 0) =
    c.loop-value.invariant.rest i (pos 0) (search rules) in
    let here = subst (IsWithin g.R.Rescale.from) (sym same) (c.requires i (pos 0) there) in
    let written : to_z w32 (of_z w32 c.rescale.result) ≡ c.rescale.result = to_z-of_z w32 c.rescale.result (search rules) in
    record {
      values = mapped_more (at_width g.R.Rescale.from g.R.Rescale.to) c.loop-value.values c.args.values.now i (pos 0) _
          room there c.loop-value.invariant.values
          (written ∙ c.rescale.ensures.value
          ∙ ap (at_width g.R.Rescale.from g.R.Rescale.to) (read_as_is g.R.Rescale.from _ here ∙ same));
      rest = rest_stays c.loop-value.values c.args.values.now i _ c.loop-value.invariant.rest;
      within = each_more (IsWithin g.R.Rescale.to) c.loop-value.values i _ room
          c.loop-value.invariant.within (subst (IsWithin g.R.Rescale.to) (sym written) c.rescale.ensures.within);
    }

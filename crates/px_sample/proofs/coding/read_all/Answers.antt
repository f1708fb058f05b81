use Rattle.std.proofs.Common.{◌≡◌, ◌<◌, length, arith, ◌∙◌, ap, w32, rules, to_z, of_z}
use Rattle.std.proofs.lemmas.Int.{to_z-of_z}
use Rattle.px_sample.specs.Format.{width_of}
use Rattle.px_sample.specs.WorkValue.{work_value_of, IsWithin}
use Rattle.px_sample.proofs.RunLemmas.{mapped_more, whole_samples, each_more}
use Rattle.px_sample.proofs.coding.read_all.Goals as goal

pub loop-place-preserved : goal.loop-place-preserved
loop-place-preserved g c =
    let count : length c.as_chunks.result.0.now ≡ length c.args.out.now =
    c.as_chunks.ensures.front_len ∙ whole_samples _ _ _ c.requires.some c.requires.lengths in
    let same : to_z w32 (of_z w32 c.read.result) ≡ c.read.result = to_z-of_z w32 c.read.result (search rules) in
    let room : c.loop-place.place < length c.loop-place.out = omega arith in
    record {
      values = mapped_more (work_value_of g.C.ReadSample.format) c.loop-place.out c.as_chunks.result.0.now c.loop-place.place
          c.index-samples-place.result _ room (omega arith) c.loop-place.invariant.values
          (same ∙ c.read.ensures.value ∙ ap (work_value_of g.C.ReadSample.format) c.index-samples-place.is);
      within = each_more (IsWithin (width_of g.C.ReadSample.format)) c.loop-place.out c.loop-place.place _ room
          c.loop-place.invariant.within (rw same c.read.ensures.within);
    }

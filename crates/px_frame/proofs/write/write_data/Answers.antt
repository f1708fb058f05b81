use Rattle.std.proofs.Common.{◌∙◌, ap, w64, of_z}
use Rattle.std.proofs.lemmas.Int.{to_z-of_z}
use Rattle.std.proofs.lemmas.Result.{IfOk-weaker}
use Rattle.px_frame.proofs.WriteLemmas.{data-read}
use Rattle.px_frame.proofs.write.write_data.Goals as goal

pub returns-clause-frame : goal.returns-clause-frame
returns-clause-frame c =
    let bits = c.cast_unsigned-bits.ensures ∙ ap (of_z w64) (to_z-of_z w64 c.args.offset c.ranges.offset) in
    IfOk-weaker c.framed.result _ _
    (λ packet e.
    data-read c.args.bytes.now packet c.args.stream c.args.offset c.args.seek c.cast_unsigned-bits.result c.from.result
    c.requires.some c.requires.few c.requires.channel c.requires.mode c.ranges.stream.fits c.ranges.offset bits c.from.ensures e)
    c.framed.ensures

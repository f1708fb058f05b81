use Rattle.std.proofs.lemmas.Result.{IfOk-weaker}
use Rattle.px_frame.proofs.WriteLemmas.{packet-read}
use Rattle.px_frame.proofs.write.write_packet.Goals as goal

pub returns-clause-frame : goal.returns-clause-frame
returns-clause-frame c = IfOk-weaker c.framed.result _ _ (λ packet e. packet-read c.args.bytes.now packet c.requires.some c.requires.few e) c.framed.ensures

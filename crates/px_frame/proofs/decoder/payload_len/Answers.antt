use Rattle.std.proofs.Common.{ℕ, ◌+◌, List, length, ap, ◌∙◌}
use Rattle.px_frame.proofs.PassingLemmas.{control-length, write-length}
use Rattle.px_frame.proofs.decoder.payload_len.Goals as goal

pub returns-in-Control-clause-size : goal.returns-in-Control-clause-size
returns-in-Control-clause-size c = ap (λ (b : List ℕ). 20 + length b) c.bytes.ensures ∙ control-length c.args.body.now _ c.in-Control.is

pub returns-in-Write-clause-size : goal.returns-in-Write-clause-size
returns-in-Write-clause-size c = ap (λ (n : ℕ). 20 + n) c.len.ensures ∙ write-length c.args.body.now _ _ _ _ c.in-Write.is

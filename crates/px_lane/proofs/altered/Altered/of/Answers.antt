use Rattle.std.proofs.Common.{◌<◌, ◌≤◌, ⊎_elim, arith}
use Rattle.px_stream.specs.Messages.{message_of}
use Rattle.px_stream.proofs.Sounding.{unaltered_sounds}
use Rattle.px_lane.proofs.altered.Altered.of.Goals as goal

pub returns-clause-sounds : goal.returns-clause-sounds
returns-clause-sounds c = λ k less out.
    ⊎_elim
    (λ (low : k < c.unaltered-from.result). unaltered_sounds (message_of c.args.change.now) c.args.stream.now.stream c.args.mixed k (omega (arith, low, c.unaltered-from.ensures)))
    (λ (past : c.resumed-to.result ≤ k). c.resumed-to.ensures.sounds k past less)
    out

use Rattle.std.proofs.Common.{◌≡◌, fold, take}
use Rattle.px_reply.specs.Front.{reply_to}
use Rattle.px_reply.specs.Info.{with_sink}
use Rattle.px_reply.proofs.server.sink_infos.Given as goal

abbrev pub invariant-loop-info : goal.invariant-loop-info
invariant-loop-info l = l.writer ≡ fold (with_sink l.version) (reply_to l.tag) (take l.info-index l.infos)

-- What is told of sinks and of inputs can be said in a packet.
use Rattle.std.proofs.Common.{List, [], ◌∷◌, ◌++◌, All}
use Rattle.std.proofs.lemmas.List.Elements.{All-push}
use Rattle.px_reply.specs.declared.info.SinkInfo.{SinkInfo}
use Rattle.px_reply.specs.declared.info.InputInfo.{InputInfo}
use Rattle.px_ctl_info.specs.Infos.{IsSinkInfo, IsInputInfo}

pub one_more_sink : (infos : List SinkInfo) (info : SinkInfo) → All IsSinkInfo infos → IsSinkInfo info → All IsSinkInfo (infos ++ info ∷ [])
one_more_sink infos info all one = All-push IsSinkInfo infos info all one

pub one_more_input : (infos : List InputInfo) (info : InputInfo) → All IsInputInfo infos → IsInputInfo info → All IsInputInfo (infos ++ info ∷ [])
one_more_input infos info all one = All-push IsInputInfo infos info all one

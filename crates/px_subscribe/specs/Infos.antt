-- All infos of a server, its sinks, inputs and clients at one moment.
use Rattle.std.specs.Prelude.{ℕ, Option}
use Rattle.px_reply.specs.declared.info.SinkInfo.{SinkInfo}
use Rattle.px_reply.specs.declared.info.InputInfo.{InputInfo}
use Rattle.px_reply.specs.declared.info.ClientInfo.{ClientInfo}
use Rattle.px_reply.specs.declared.info.ServerInfo.{ServerInfo}

-- for each index the info of the object with it, where one exists; and the server's info
pub record Infos : Type 0 where
  pub sinks : ℕ → Option SinkInfo
  pub inputs : ℕ → Option InputInfo
  pub clients : ℕ → Option ClientInfo
  pub server : Option ServerInfo

-- the number of indices that were ever given, from 0 on
pub record Given : Type 0 where
  pub sinks : ℕ
  pub inputs : ℕ
  pub clients : ℕ

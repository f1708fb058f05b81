-- The replies that the server writes, as the client reads them.
use Rattle.std.specs.Prelude.{◌<◌, ◌^◌, List}
use Rattle.std.specs.List.{AllByRecursion}
use Rattle.px_tag.specs.Item.{IsText, IsSpec, IsMap, IsVolumes, IsPropList}
use Rattle.px_reply.specs.declared.info.InputInfo.{InputInfo}
use Rattle.px_client.specs.declared.inputs.Input.{Input}

-- what the client shows of an input
abbrev pub shown : InputInfo → Input
shown i = record { index = i.index; sink = i.sink; volume = i.volume; mute = i.mute }

-- an input that has a spelling
pub record IsInfo (i : InputInfo) : Type 0 where
  pub index : i.index < 2 ^ 32
  pub name : IsText i.name
  pub client : i.client < 2 ^ 32
  pub sink : i.sink < 2 ^ 32
  pub spec : IsSpec i.spec
  pub map : IsMap i.map
  pub volume : IsVolumes i.volume
  pub list : IsPropList i.list

abbrev pub AreInfos : List InputInfo → Type 0
AreInfos infos = AllByRecursion IsInfo infos

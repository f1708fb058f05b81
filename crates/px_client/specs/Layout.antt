-- The layouts of the replies that the client waits for.
use Rattle.std.specs.Prelude.{◌≡◌, ℕ, Bool, List, [], ◌++◌, map, Option}
use Rattle.std.specs.List.{flat_map}
use Rattle.px_tag.specs.declared.raw.RawSpec.{RawSpec}
use Rattle.px_tag.specs.PropList.{Property}
use Rattle.px_tag.specs.Item.{number, text, usec, flag, spec, channel_map, channel_volumes, proplist}
use Rattle.px_reply.specs.Front.{reply_to}
use Rattle.px_client.specs.declared.inputs.Input.{Input}
use Rattle.px_client.specs.declared.awaited.Awaited.{Awaited}
use Rattle.px_client.specs.declared.awaited.Awaited.TheVariants as awaits

-- a sink input as a packet has it, with any values of its fields
pub record Entry : Type 0 where
  pub index : ℕ
  pub name : Option (List ℕ)
  pub owner : ℕ
  pub client : ℕ
  pub sink : ℕ
  pub spec : RawSpec
  pub map : List ℕ
  pub volume : List ℕ
  pub buffered : ℕ
  pub latency : ℕ
  pub method : Option (List ℕ)
  pub driver : Option (List ℕ)
  pub mute : Bool
  -- in their written form: a key may be there twice
  pub properties : List Property

abbrev pub entry_cells : Entry → List ℕ
entry_cells e =
    (number e.index ++ (text e.name ++ (number e.owner ++ (number e.client ++ number e.sink))))
    ++ ((spec e.spec ++ (channel_map e.map ++ channel_volumes e.volume))
    ++ (usec e.buffered ++ (usec e.latency ++ (text e.method ++ (text e.driver ++ (flag e.mute ++ proplist e.properties))))))

-- what the client shows of it
abbrev pub entry_shown : Entry → Input
entry_shown e = record { index = e.index; sink = e.sink; volume = e.volume; mute = e.mute }

-- the packet has the layout of the awaited reply, and these inputs
abbrev pub HasLayout : Awaited → List Input → List ℕ → Type 0
HasLayout awaits.Version inputs packet = (version : ℕ) × (packet ≡ reply_to 0 ++ number version) × (inputs ≡ [])
HasLayout awaits.Client inputs packet = (client : ℕ) × (packet ≡ reply_to 1 ++ number client) × (inputs ≡ [])
HasLayout awaits.Nothing inputs packet = (packet ≡ reply_to 2) × (inputs ≡ [])
HasLayout awaits.List inputs packet = (entries : List Entry) × (packet ≡ reply_to 2 ++ flat_map entry_cells entries) × (inputs ≡ map entry_shown entries)

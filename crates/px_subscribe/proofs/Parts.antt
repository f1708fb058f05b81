-- The two parts of a change.
use Rattle.std.proofs.Common.{◌≡◌, refl}
use Rattle.px_flat.specs.FlatVolume.{FlatGroup}
use Rattle.px_msg.specs.declared.message.Msg.{Msg}
use Rattle.px_outcome.specs.declared.change.Change.{Change}
use Rattle.px_outcome.specs.declared.change.Change.TheVariants.{Authed, Named, Masked, Defaulted, Made, Described, Leaves, Moves, Arrives, Released, Posted, Regrouped, Asked, Answered, Gone, Ended, Forgotten}
use Rattle.px_subscribe.specs.Scene.{Scene, scene_changed, clients_changed, inputs_changed}

-- one after the other they are the whole change
pub both_parts : {P : Type 0} (s : Scene) (change : Change (Msg P) FlatGroup) → inputs_changed (clients_changed s change) change ≡ scene_changed s change
both_parts s (Authed conn version) = refl
both_parts s (Named conn list) = refl
both_parts s (Masked conn mask) = refl
both_parts s (Defaulted sink) = refl
both_parts s (Made x m streams inputs) = refl
both_parts s (Described index list) = refl
both_parts s (Leaves index) = refl
both_parts s (Moves index to) = refl
both_parts s (Arrives index m) = refl
both_parts s (Released index) = refl
both_parts s (Posted index m) = refl
both_parts s (Regrouped sink group m) = refl
both_parts s (Asked w) = refl
both_parts s (Answered w) = refl
both_parts s (Gone index) = refl
both_parts s (Ended conn reason fault at) = refl
both_parts s (Forgotten conn) = refl

-- A name is a text, where there is one.
use Rattle.std.proofs.Common.{List, [], ◌∷◌, ◌++◌, All}
use Rattle.std.proofs.lemmas.List.Elements.{All-push}
use Rattle.px_tag.specs.Item.{IsText}
use Rattle.px_reply.specs.declared.info.ClientInfo.{ClientInfo}

pub one_more : (infos : List ClientInfo) (info : ClientInfo) → All (λ i. IsText (ClientInfo.name i)) infos → IsText info.name → All (λ i. IsText (ClientInfo.name i)) (infos ++ info ∷ [])
one_more infos info all one = All-push (λ i. IsText (ClientInfo.name i)) infos info all one

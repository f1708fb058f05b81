use Rattle.std.proofs.Common.{◌≡◌, ◌∷◌, ◌++◌, [], sym, subst, ◌∙◌}
use Rattle.px_input_table.specs.InputTable.{AreByStream, key_of}
use Rattle.px_input_table.proofs.ByStream.{Renews, holds-pushed}
use Rattle.px_input_table.proofs.input_table.InputTable.push.Goals as goal

pub invariant_of-self : goal.invariant_of-self
invariant_of-self c =
    let all = c.self.inside.all.items in
    let x = c.args.input in
    let table = c.self.inside.by_stream in
    let new = c.renew.new.by_stream in
    let now : c.deref.result.now ≡ all ++ x ∷ [] = c.deref.ensures.value ∙ c.push_reserved.ensures.items in
    let renews : Renews (all ++ x ∷ []) (key_of x) table new =
    subst (λ key. Renews (all ++ x ∷ []) key table new) c.key_of.ensures (subst (λ xs. Renews xs c.key_of.result table new) now c.renew.ensures.entries) in
    subst (λ xs. AreByStream xs new) (sym c.push_reserved.ensures.items) (holds-pushed all table c.self.invariant x new renews)

-- Mailboxes that are the same have the same names.
use Rattle.std.proofs.Common.{◌≡◌, List, [], ◌∷◌, map, refl, sym, ap, ◌∙◌}
use Rattle.px_core_cell.specs.Boxes.{Boxes}
use Rattle.px_workers.specs.Working.{Unworked, mailboxes_of}
use Rattle.px_server.specs.Mailboxes.{names_of, boxes_in}

module _ {D E : Type 0} where
  named : (idle : List (Unworked D E)) → map boxes_in idle ≡ map names_of (map mailboxes_of idle)
  named [] = refl
  named (u ∷ idle) = ap (λ (l : List Boxes). boxes_in u ∷ l) (named idle)

  pub same_boxes : (idle before : List (Unworked D E)) → map mailboxes_of idle ≡ map mailboxes_of before → map boxes_in idle ≡ map boxes_in before
  same_boxes idle before same = named idle ∙ ap (map names_of) same ∙ sym (named before)

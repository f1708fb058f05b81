-- Sinks whose workers end go before those that no worker had, and what stays of each.
use Rattle.std.proofs.Common.{◌≡◌, List, [], ◌∷◌, ◌++◌, Bool, map, sym, ◌∙◌, ap}
use Rattle.std.proofs.lemmas.List.{append_assoc, map-append}
use Rattle.std.proofs.lemmas.Simd.{map-map}
use Rattle.px_lane_cell.specs.declared.ends.Boxes.{Boxes}
use Rattle.px_workers.specs.Working.{Unworked, Start, start_of, mailboxes_of, tapes_in, Lasting, lasting_of, GoesOn}

abbrev pub lasting_with : Start → Boxes → Bool → Lasting
lasting_with start boxes tapes = record { start = start; boxes = boxes; tapes = tapes }

module _ {D E : Type 0} where
  -- what work that goes on keeps
  pub lasting_on : (before after : Unworked D E) → GoesOn before after → lasting_of after ≡ lasting_of before
  lasting_on before after goes =
      ap (λ (s : Start). lasting_with s (mailboxes_of after) (tapes_in after)) goes.start
      ∙ ap (λ (b : Boxes). lasting_with (start_of before) b (tapes_in after)) goes.boxes
      ∙ ap (lasting_with (start_of before) (mailboxes_of before)) goes.tapes

  -- each part of what was kept
  lasting_part : {X : Type 0} (part : Lasting → X) (idle before : List (Unworked D E)) → map lasting_of idle ≡ map lasting_of before → map (λ u. part (lasting_of u)) idle ≡ map (λ u. part (lasting_of u)) before
  lasting_part part idle before lasting = sym (map-map part lasting_of idle) ∙ ap (map part) lasting ∙ map-map part lasting_of before

  pub starts_last : (idle before : List (Unworked D E)) → map lasting_of idle ≡ map lasting_of before → map start_of idle ≡ map start_of before
  starts_last = lasting_part (λ k. k.start)

  pub boxes_last : (idle before : List (Unworked D E)) → map lasting_of idle ≡ map lasting_of before → map mailboxes_of idle ≡ map mailboxes_of before
  boxes_last = lasting_part (λ k. k.boxes)

  pub tapes_last : (idle before : List (Unworked D E)) → map lasting_of idle ≡ map lasting_of before → map tapes_in idle ≡ map tapes_in before
  tapes_last = lasting_part (λ k. k.tapes)

-- one was joined, and stands before those that no worker had
pub joined_one : {X Y : Type 0} (f : X → Y) (sinks rest idle next : List X) (given back : X)
    → sinks ≡ rest ++ given ∷ [] → next ≡ back ∷ idle → f back ≡ f given → map f (rest ++ next) ≡ map f (sinks ++ idle)
joined_one f sinks rest idle next given back behind front same =
    ap (λ (l : List _). map f (rest ++ l)) front
    ∙ map-append f rest (back ∷ idle)
    ∙ ap (λ (y : _). map f rest ++ (y ∷ map f idle)) same
    ∙ sym (map-append f rest (given ∷ idle))
    ∙ ap (map f) (sym (append_assoc rest (given ∷ []) idle))
    ∙ ap (λ (l : List _). map f (l ++ idle)) (sym behind)

-- Parts that are written one behind the other.
use Rattle.std.proofs.Common.{◌≡◌, ℕ, List, [], ◌∷◌, ◌++◌, Option, Result, Ok, Err, sym, ap, ◌∙◌, append_assoc}
use Rattle.std.proofs.lemmas.List.{append-nil}
use Rattle.std.proofs.lemmas.Grind.{flat_map-append}
use Rattle.std.specs.List.{flat_map}
use Rattle.px_ends.specs.Visible.{after_adding}
use Rattle.px_ends.specs.Whole.{AddsFront}
use Rattle.px_session.specs.Spelling.{event, end_byte}
use Rattle.px_session.specs.Spelling as spelling
use Rattle.px_session.proofs.Added.{front_then, both_added}
use Rattle.px_gen.specs.declared.writing.Stop.{Stop}
use Rattle.px_gen.specs.Generator.{form, header, opening, steps, generated}
use Rattle.px_gen.specs.Writing.{Writes}

-- a front of the first part was written
pub stops_first : (first second : List ℕ) (old now : Option (List ℕ)) → AddsFront first old now → AddsFront (first ++ second) old now
stops_first first second old now stopped = record {
  front = stopped.front;
  rest = stopped.rest ++ second;
  joined = ap (λ (t : List ℕ). t ++ second) stopped.joined ∙ append_assoc stopped.front stopped.rest second;
  held = stopped.held;
}

-- the first part was written, and behind it the second, or a front of it
pub goes_on : (result : Result Unit Stop) (first second : List ℕ) (old mid now : Option (List ℕ)) → mid ≡ after_adding old first → Writes result second mid now → Writes result (first ++ second) old now
goes_on (Ok done) first second old mid now written more = both_added first second old mid now written more
goes_on (Err stop) first second old mid now written more =
    front_then first second [] (first ++ second) old mid now written more (ap (λ (t : List ℕ). first ++ t) (sym (append-nil second)))

pub joined : (number count : ℕ) → spelling.header form header ++ (flat_map (event form) opening ++ (flat_map (event form) (steps count number) ++ end_byte ∷ [])) ≡ generated number count
unfolding generated spelling.header event spelling.sink
joined number count =
    ap (λ (t : List ℕ). spelling.header form header ++ t)
    (sym (append_assoc (flat_map (event form) opening) (flat_map (event form) (steps count number)) (end_byte ∷ []))
    ∙ ap (λ (t : List ℕ). t ++ end_byte ∷ []) (sym (flat_map-append (event form) opening (steps count number))))

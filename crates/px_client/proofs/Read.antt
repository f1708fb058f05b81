-- The inputs of a reply, read one after the other.
use Rattle.std.proofs.Common.{◌≡◌, ℕ, suc, ◌+◌, ◌-◌, ◌<◌, List, [], ◌∷◌, ◌++◌, Result, Ok, Err, refl, ap, sym, append-nil, append_assoc, ◌∙◌, arith}
use Rattle.px_tag.specs.declared.fault.TagFault.{TagFault}
use Rattle.px_tag.specs.Place.{Place, ◌>>=◌}
use Rattle.px_tag.specs.Reading.{end_at}
use Rattle.px_client.specs.declared.inputs.Input.{Input}
use Rattle.px_client.specs.Answers.{input_at, inputs_at}

-- those read before these
abbrev pub behind : List Input → Result (List Input) TagFault → Result (List Input) TagFault
behind inputs (Ok others) = Ok (inputs ++ others)
behind inputs (Err fault) = Err fault

joined : (inputs : List Input) (input : Input) (others : Result (List Input) TagFault) → behind inputs (others >>= λ list. Ok (input ∷ list)) ≡ behind (inputs ++ input ∷ []) others
joined inputs input (Ok others) = ap Ok (sym (append_assoc inputs (input ∷ []) others))
joined inputs input (Err fault) = refl

one_less : (most done : ℕ) → done < most → most - done ≡ suc (most - (done + 1))
one_less most done less = omega (arith, less)

module _ (inputs : List Input) (most done : ℕ) (place : Place) (less : done < most) where
  pub read_end : end_at place ≡ Ok tt → behind inputs (inputs_at (most - done) place) ≡ Ok inputs
  read_end e = ap (λ (n : ℕ). behind inputs (inputs_at n place)) (one_less most done less) ∙ rw e (ap Ok (append-nil inputs))

  pub read_more : (fault : TagFault) (input : Input) (next : Place) → end_at place ≡ Err fault → input_at place ≡ Ok (input, next)
      → behind inputs (inputs_at (most - done) place) ≡ behind (inputs ++ input ∷ []) (inputs_at (most - (done + 1)) next)
  read_more fault input next e is =
      ap (λ (n : ℕ). behind inputs (inputs_at n place)) (one_less most done less) ∙ rw (e, is) (joined inputs input (inputs_at (most - (done + 1)) next))

  pub read_fault : (more fault : TagFault) → end_at place ≡ Err more → input_at place ≡ Err fault → behind inputs (inputs_at (most - done) place) ≡ Err fault
  read_fault more fault e is = ap (λ (n : ℕ). behind inputs (inputs_at n place)) (one_less most done less) ∙ rw (e, is) refl

-- Sinks go from those without a worker to those with one.
use Rattle.std.proofs.Common.{◌≡◌, ℕ, ◌+◌, ◌<◌, ◌++◌, ◌∷◌, [], List, length, ap, sym, ◌∙◌, arith, append_assoc}

module _ {X : Type 0} where
  -- what was taken from the front is there again
  pub put_back : (idle rest back : List X) (one again : X) → idle ≡ one ∷ rest → again ≡ one → back ≡ again ∷ rest → back ≡ idle
  put_back idle rest back one again is same put = put ∙ ap (λ (x : X). x ∷ rest) same ∙ sym is

  -- the first of some is behind the others now
  pub moved_over : (with same more idle rest : List X) (one run : X) → same ≡ with → more ≡ same ++ run ∷ [] → run ≡ one → idle ≡ one ∷ rest → more ++ rest ≡ with ++ idle
  moved_over with same more idle rest one run is pushed so taken =
      ap (λ (l : List X). l ++ rest) pushed ∙ append_assoc same (run ∷ []) rest ∙ ap (λ (l : List X). l ++ run ∷ rest) is ∙ ap (λ (x : X). with ++ x ∷ rest) so ∙ ap (λ (l : List X). with ++ l) (sym taken)

  pub fewer_left : (idle rest : List X) (one : X) → idle ≡ one ∷ rest → length rest < length idle
  fewer_left idle rest one taken = omega (arith, ap (length {A = X}) taken)

  -- one share went with it
  pub parts_over : (after before : ℕ) (idle rest : List X) (one : X) → after + 1 ≡ before → idle ≡ one ∷ rest → after + length idle ≡ before + length rest
  parts_over after before idle rest one given taken = omega (arith, given, ap (length {A = X}) taken)

  pub parts_same : (after before : ℕ) (idle back : List X) → after ≡ before → back ≡ idle → after + length idle ≡ before + length back
  parts_same after before idle back same put = omega (arith, same, ap (length {A = X}) put)

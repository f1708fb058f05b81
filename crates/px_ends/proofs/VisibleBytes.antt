-- How departures and additions join over several calls.
use Rattle.std.proofs.Common.{◌≡◌, ℕ, List, [], ◌++◌, Option, None, Some, refl, ap, sym, append_assoc}
use Rattle.std.proofs.lemmas.List.{append-nil}
use Rattle.px_ends.specs.Visible.{before_taking, after_adding}

pub taking_nothing : (left : Option (List ℕ)) → before_taking [] left ≡ left
taking_nothing None = refl
taking_nothing (Some bytes) = refl

-- first these bytes departed, then those
pub taking_both : (a b : List ℕ) (left : Option (List ℕ)) → before_taking a (before_taking b left) ≡ before_taking (a ++ b) left
taking_both a b None = refl
taking_both a b (Some bytes) = ap Some (sym (append_assoc a b bytes))

pub adding_nothing : (held : Option (List ℕ)) → after_adding held [] ≡ held
adding_nothing None = refl
adding_nothing (Some bytes) = ap Some (append-nil bytes)

pub adding_both : (a b : List ℕ) (held : Option (List ℕ)) → after_adding (after_adding held a) b ≡ after_adding held (a ++ b)
adding_both a b None = refl
adding_both a b (Some bytes) = ap Some (append_assoc bytes a b)

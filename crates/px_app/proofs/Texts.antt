-- What the getters of the matches give, by the rows.
use Rattle.std.proofs.Common.{◌≡◌, ap, arith, refl, sym, subst, List, ℕ, Option, Some, None, Result, Ok, Err, option_map}
use Rattle.std.specs.Prelude.{IsSome}
use Rattle.std.specs.Str.Parse.{ParsesUnsigned}
use Rattle.clap.specs.Matches.{ReadsOne}
use Rattle.px_app.specs.ServeCommand.{IsLinks, number}

-- an answer that shows as some text is some answer
pub some_text : {X : Type 0} (f : X → List ℕ) (o : Option X) (v : Option (List ℕ)) → option_map f o ≡ v → IsSome v → IsSome o
some_text f None v same has = subst IsSome (sym same) has
some_text f (Some x) v same has = refl

-- digits of a number of links are read as that number
pub links_one : (E : Type 0) (G : List ℕ → Result ℕ E → Type 0) (text : List ℕ) (r : Option ℕ) → ReadsOne G text r
    → ((u : List ℕ) (x : Result ℕ E) → G u x → ParsesUnsigned 16 10 u x) → IsLinks text → r ≡ Some (number text)
links_one E G text (Some v) read only is = ap Some (only text (Ok v) read).1
links_one E G text None read only is = absurd (only text (Err read.0) read.1 (is.0, omega (arith, is.2)))

pub is_there : {X : Type 0} (o : Option X) (x : X) → o ≡ Some x → IsSome o
is_there o x e = subst IsSome (sym e) refl

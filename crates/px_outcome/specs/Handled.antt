-- A command's handler: a chain of checks, of which the first that fails refuses it with its code, and after them the outcome.
use Rattle.std.specs.Prelude.{◌≡◌, Bool, true, false, Option, None, Some, Result, Ok, Err}
use Rattle.px_types.specs.declared.error_code.ErrorCode.{ErrorCode}
use Rattle.px_outcome.specs.declared.refusal.Refusal.{Refusal}
use Rattle.px_outcome.specs.declared.refusal.Refusal.TheVariants.{Code, NoMemory}

abbrev pub Handled : Type 0 → Type 0
Handled A = Result A Refusal

infixl 10 ◌>>=◌
abbrev pub ◌>>=◌ : {A B : Type 0} → Handled A → (A → Handled B) → Handled B
(Ok x) >>= f = f x
(Err refusal) >>= f = Err refusal

-- a required condition
abbrev pub check : Bool → ErrorCode → Handled (Unit {0})
check true code = Ok tt
check false code = Err (Code code)

-- a value that must be there
abbrev pub present : {A : Type 0} → Option A → ErrorCode → Handled A
present (Some x) code = Ok x
present None code = Err (Code code)

-- A call returned what the handler gives, or the handler's refusal; NoMemory is always allowed.
abbrev pub HandledAs : {A : Type 0} → Result A Refusal → Handled A → Type 0
HandledAs (Ok x) handled = handled ≡ Ok x
HandledAs (Err (Code code)) handled = handled ≡ Err (Code code)
HandledAs (Err NoMemory) handled = Unit {0}

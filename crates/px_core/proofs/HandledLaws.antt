-- What holds of each outcome that a handler gives.
use Rattle.std.proofs.Common.{◌≡◌, Bool, true, false, Ok, Err, refl}
use Rattle.px_types.specs.declared.error_code.ErrorCode.{ErrorCode}
use Rattle.px_outcome.specs.Handled.{Handled, ◌>>=◌, check}

abbrev pub Each : {A : Type 0} → (A → Type 0) → Handled A → Type 0
Each Q (Ok x) = Q x
Each Q (Err refusal) = Unit {0}

pub each_check : {A : Type 0} (Q : A → Type 0) (b : Bool) (code : ErrorCode) (f : Unit {0} → Handled A) → Each Q (f tt) → Each Q (check b code >>= f)
each_check Q true code f h = h
each_check Q false code f h = tt

pub each_then : {A B : Type 0} (Q : B → Type 0) (handled : Handled A) (f : A → Handled B) → ((x : A) → Each Q (f x)) → Each Q (handled >>= f)
each_then Q (Ok x) f h = h x
each_then Q (Err refusal) f h = tt

pub each_by : {A : Type 0} (Q : A → Type 0) (handled : Handled A) → ((x : A) → handled ≡ Ok x → Q x) → Each Q handled
each_by Q (Ok x) h = h x refl
each_by Q (Err refusal) h = tt

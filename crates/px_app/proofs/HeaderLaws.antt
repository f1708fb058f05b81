-- What stands first in a session is a header, or the bytes are refused.
use Rattle.std.proofs.Common.{◌≡◌, ◌≢◌, ℕ, ◌==◌, List, [], length, Bool, true, false, if◌then◌else◌, Option, Some, None, Result, Ok, Err, refl, sym, ap, subst, ◌∙◌, arith}
use Rattle.std.proofs.lemmas.Bool.Decides.{nat_tests}
use Rattle.px_header.specs.declared.header.Header.{Header}
use Rattle.px_session.specs.declared.event.Step.{Step}
use Rattle.px_session.specs.declared.event.Step.TheVariants as step
use Rattle.px_session.specs.declared.fault.Cause.TheVariants.{Trailing}
use Rattle.px_session.specs.declared.fault.ReadError.{ReadError}
use Rattle.px_session.specs.declared.fault.ReadError.TheVariants.{Refused, Failed, NoMemory}
use Rattle.px_session.specs.declared.form.Form.{Form}
use Rattle.px_session.specs.Place.{Refusal, start_of}
use Rattle.px_session.specs.Reader.{Reader, place_with, all_ahead, Gives}
use Rattle.px_session.specs.HeaderReading.{header_at}
use Rattle.px_session.specs.Session.{first_at}
use Rattle.px_session.specs.Held.{FailsCount}
use Rattle.px_session.proofs.StepLaws.{first_read, first_refused}
use Rattle.px_app.specs.HeaderFile.{whole, FirstGives, HeaderGives}

same_header : (g h : Header) → step.Header g ≡ step.Header h → g ≡ h
same_header g h e = cc

abbrev pub IsHeaderStep : Step → Type 0
IsHeaderStep (step.Header h) = Unit {0}
IsHeaderStep (step.Event e) = ⊥
IsHeaderStep step.End = ⊥

abbrev fresh : Reader
fresh = record { at = 0; ahead = []; begun = None }

-- the step that a reader gives first of these bytes
first_step : (reader new : Reader) (bytes : List ℕ) (after : Option (List ℕ)) (s : Step) → reader ≡ fresh
    → Gives (Ok s) reader new (all_ahead reader (Some bytes)) after → (behind : List ℕ) × (form : Form) × (first_at (start_of bytes) ≡ Ok ((form, s), place_with new behind))
first_step reader new bytes after s is gives =
    let g : Gives (Ok s) fresh new (all_ahead fresh (Some bytes)) after = subst (λ (r : Reader). Gives (Ok s) r new (all_ahead r (Some bytes)) after) is gives in (g.0, g.2.0, g.2.1)

-- it is a header
pub first_is : (reader new : Reader) (bytes : List ℕ) (after : Option (List ℕ)) (s : Step) → reader ≡ fresh
    → Gives (Ok s) reader new (all_ahead reader (Some bytes)) after → IsHeaderStep s
first_is reader new bytes after s is gives =
    let r = first_step reader new bytes after s is gives in
    let h = first_read (start_of bytes) ((r.1, s), place_with new r.0) r.2 in
    subst IsHeaderStep (sym h.2) tt

-- it stands first in the bytes
pub first_gives : (reader new : Reader) (bytes : List ℕ) (after : Option (List ℕ)) (s : Step) (h : Header) → reader ≡ fresh → s ≡ step.Header h
    → Gives (Ok s) reader new (all_ahead reader (Some bytes)) after → FirstGives (Ok h) bytes new.at
first_gives reader new bytes after s h is a gives =
    let r = first_step reader new bytes after s is gives in
    let f = first_read (start_of bytes) ((r.1, s), place_with new r.0) r.2 in
    let same = same_header f.0 h (sym f.2 ∙ a) in
    (r.1, place_with new r.0, subst (λ (g : Header). header_at (start_of bytes) ≡ Ok ((r.1, g), place_with new r.0)) same f.1, refl)

-- the first rule that they break; no read of them fails
pub first_refuses : (reader new : Reader) (bytes : List ℕ) (after : Option (List ℕ)) (e : ReadError) (end : ℕ) → reader ≡ fresh
    → Gives (Err e) reader new (all_ahead reader (Some bytes)) after → FailsCount e 0 0 → FirstGives (Err e) bytes end
first_refuses reader new bytes after (Refused at cause) end is gives counts =
    let g : Gives (Err (Refused at cause)) fresh new (all_ahead fresh (Some bytes)) after =
    subst (λ (r : Reader). Gives (Err (Refused at cause)) r new (all_ahead r (Some bytes)) after) is gives in
    first_refused (start_of bytes) (record { at = at; cause = cause }) g.2
first_refuses reader new bytes after Failed end is gives counts = absurd (omega (arith, counts.more))
first_refuses reader new bytes after NoMemory end is gives counts = tt

abbrev trailing : ℕ → Result Header Refusal
trailing at = Err (record { at = at; cause = Trailing })

chosen : (b : Bool) (c : Bool) (x y : Result Header Refusal) → b ≡ c → (if b then x else y) ≡ (if c then x else y)
chosen b c x y same = ap (λ (t : Bool). if t then x else y) same

-- a header that is all of the bytes
pub all_read : (h : Header) (bytes : List ℕ) (end : ℕ) → FirstGives (Ok h) bytes end → end ≡ length bytes → HeaderGives (Ok h) bytes
all_read h bytes end (form, place, first, at) all =
    let same : (place.at == length bytes) ≡ true = grind (arith, nat_tests) in
    ap (whole (length bytes)) first ∙ chosen (place.at == length bytes) true (Ok h) (trailing place.at) same

-- one that bytes trail
pub some_read : (h : Header) (bytes : List ℕ) (end : ℕ) → FirstGives (Ok h) bytes end → end ≢ length bytes → HeaderGives (Err (Refused end Trailing)) bytes
some_read h bytes end (form, place, first, at) more =
    let same : (place.at == length bytes) ≡ false = grind (arith, nat_tests) in
    ap (whole (length bytes)) first ∙ chosen (place.at == length bytes) false (Ok h) (trailing place.at) same ∙ ap trailing at

-- bytes that a header doesn't stand first in
pub none_read : (e : ReadError) (bytes : List ℕ) (end : ℕ) → FirstGives (Err e) bytes end → HeaderGives (Err e) bytes
none_read (Refused at cause) bytes end first = ap (whole (length bytes)) first
none_read Failed bytes end first = first
none_read NoMemory bytes end first = tt

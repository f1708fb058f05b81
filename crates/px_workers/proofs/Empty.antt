-- A mailbox to which nothing was posted isn't full.
use Rattle.std.proofs.Common.{◌≡◌, ◌+◌, List, [], length, ap, sym, ◌∙◌, arith, length-append}
use Rattle.crossbeam_queue.specs.Fifo.{Held}
use Rattle.px_mail.specs.Mailbox.{IsHeldOf}

pub never_full : {T : Type 0} (posted : List T) → posted ≡ [] → Held 256 (IsHeldOf posted) → ⊥
never_full {T} posted none held =
    let all : 0 ≡ length held.2.0 + length held.0 = ap (length {A = T}) (sym none ∙ held.2.1) ∙ length-append held.2.0 held.0 in
    omega (arith, all, held.1)

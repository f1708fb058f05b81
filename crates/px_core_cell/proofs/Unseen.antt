-- Steps over a recorder whose content isn't visible: no entry is made, and each clause about it holds.
use Rattle.std.proofs.Common.{◌≡◌, ℕ, List, Option, Some, None, Ok, true, refl, ap, sym, subst, ◌∙◌, true≢false}
use Rattle.std.specs.Prelude.{⊤}
use Rattle.std.specs.Option.{option_map}
use Rattle.px_annals.specs.History.{Limit, noted, sizes_by, SaysFull}
use Rattle.px_annals.specs.Size.{size_of_core_entry}
use Rattle.px_annals.specs.declared.entry.CoreEntry.{CoreEntry}
use Rattle.px_annals.specs.declared.step.PlainStep.{PlainStep}
use Rattle.px_annals.specs.declared.step.PlainStep.TheVariants as plain
use Rattle.px_frame.specs.Fault.{code_of}
use Rattle.px_core_cell.specs.declared.step.CoreStep.{CoreStep}
use Rattle.px_core_cell.specs.declared.step.CoreStep.TheVariants as asked
use Rattle.px_core_cell.specs.Cause.{Answered}
use Rattle.px_core_cell.specs.Plain.{plain_body}
use Rattle.px_core_cell.specs.Step.{is_own, IsEntryFor}

-- the entry of a step without a sink; a sweep stands for the two others
abbrev pub own_entry_of : CoreStep → PlainStep
own_entry_of (asked.Connect conn) = plain.Connect conn.0
own_entry_of (asked.Frame conn f) = plain.Frame conn.0 f.at (plain_body f.body)
own_entry_of (asked.Broken conn fault at) = plain.Broken conn.0 (code_of fault) at
own_entry_of (asked.Close conn) = plain.Close conn.0
own_entry_of (asked.Cut conn) = plain.Cut conn.0
own_entry_of asked.Sweep = plain.Sweep
own_entry_of (asked.Notice sink) = plain.Sweep
own_entry_of (asked.Out sink) = plain.Sweep

pub is_entry : (step : CoreStep) → is_own step ≡ true → IsEntryFor step (own_entry_of step)
is_entry (asked.Connect conn) own = refl
is_entry (asked.Frame conn f) own = refl
is_entry (asked.Broken conn fault at) own = refl
is_entry (asked.Close conn) own = refl
is_entry (asked.Cut conn) own = refl
is_entry asked.Sweep own = refl
is_entry (asked.Notice sink) own = absurd (true≢false (sym own))
is_entry (asked.Out sink) own = absurd (true≢false (sym own))

never_full : (limit : Option Limit) → SaysFull {A = ⊤} (Ok tt) limit None
never_full None = tt
never_full (Some limit) = tt

module _ {C : Type 0} (limit : C → Option Limit) (visible : C → Option (List CoreEntry)) (faults fulls : C → ℕ) where
  pub unseen_answered : (before after : C) → visible before ≡ None → after ≡ before → Answered limit visible faults fulls (Ok tt) before after
  unseen_answered before after unseen same = (
    subst (λ (o : Option (List CoreEntry)). SaysFull {A = ⊤} (Ok tt) (limit before) (option_map (sizes_by size_of_core_entry) o)) (sym unseen) (never_full (limit before)),
    ap limit same,
    (ap faults same, ap fulls same),
  )

  pub unseen_noted : (before after : C) (entry : CoreEntry) → visible before ≡ None → after ≡ before → visible after ≡ noted entry (visible before)
  unseen_noted before after entry unseen same = ap visible same ∙ unseen ∙ ap (λ (o : Option (List CoreEntry)). noted entry o) (sym unseen)

-- The words, the cookie and the report.
use Rattle.std.proofs.Common.{◌≡◌, ◌⊎◌, ℕ, Bool, true, false, List, length, take, Option, None, Some, sym, ap, subst, ◌∙◌, arith}
use Rattle.std.proofs.lemmas.Option.{same_Some}
use Rattle.std.proofs.lemmas.List.{length-take-le}
use Rattle.px_types.specs.declared.status.Status.{Status}
use Rattle.px_types.specs.declared.status.Status.TheVariants as status
use Rattle.px_ends.specs.Visible.{before_taking, IsAtEnd}
use Rattle.px_ends.specs.Whole.{Front}
use Rattle.px_client.specs.declared.errand.Errand.{Errand}
use Rattle.px_client.specs.declared.end.ClientEnd.TheVariants as ends
use Rattle.px_client.specs.Errand.{IsErrand}
use Rattle.px_ctl.specs.declared.words.ControlWords.{ControlWords}
use Rattle.px_ctl.specs.declared.end.ControlEnd.{ControlEnd}
use Rattle.px_ctl.specs.declared.end.ControlEnd.TheVariants.{Refused, ReadFault, Ended}
use Rattle.px_ctl.specs.Words.{errand_in, after_socket, IsSaid}
use Rattle.px_ctl.specs.Control.{IsCookie}
use Rattle.px_ctl.specs.End.{status_of, is_done, line_of, memory_line, Logs, ControlReported}

-- ---- words

none_some : {A : Type 0} (x : A) → (let o : Option A = None in o) ≡ Some x → ⊥
none_some x e = cc

module _ (texts : List (List ℕ)) where
  pub unsaid_before : after_socket texts ≡ None → (said : ControlWords) → IsSaid texts said → ⊥
  unsaid_before none said is = none_some (said.socket, is.rest) (sym none ∙ is.after)

  module _ (path : List ℕ) (rest : List (List ℕ)) (after : after_socket texts ≡ Some (path, rest)) where
    same_rest : (said : ControlWords) (is : IsSaid texts said) → rest ≡ is.rest
    same_rest said is = ap (λ (p : List ℕ × List (List ℕ)). p.1) (same_Some (path, rest) (said.socket, is.rest) (sym after ∙ is.after))

    pub unsaid_rest : errand_in rest ≡ None → (said : ControlWords) → IsSaid texts said → ⊥
    unsaid_rest none said is = none_some said.errand (sym none ∙ ap errand_in (same_rest said is) ∙ is.gives)

    pub unsaid_errand : (errand : Errand) → errand_in rest ≡ Some errand → (IsErrand errand → ⊥) → (said : ControlWords) → IsSaid texts said → ⊥
    unsaid_errand errand gives other said is =
        let same : errand ≡ said.errand = same_Some errand said.errand (sym gives ∙ ap errand_in (same_rest said is) ∙ is.gives) in
        other (subst IsErrand (sym same) is.allowed)

    pub said_by : (said : ControlWords) → said.socket ≡ path → errand_in rest ≡ Some said.errand → IsErrand said.errand → IsSaid texts said
    said_by said is gives allowed = record {
      rest = rest;
      after = after ∙ ap (λ (p : List ℕ). Some (p, rest)) (sym is);
      gives = gives;
      allowed = allowed;
    }

-- ---- the cookie

pub cookie_in : (n : ℕ) (buffer : List ℕ) (left left' : Option (List ℕ)) → n ≡ 256 → length buffer ≡ 257 → Front n buffer left left' → IsAtEnd left' → IsCookie (take 256 buffer) left left'
cookie_in n buffer left left' is size front end = record {
  size = length-take-le 256 buffer (omega (arith, size));
  read = subst (λ (m : ℕ). left ≡ before_taking (take m buffer) left') is front.left;
  end = end;
}

-- ---- the report

done_not : (let b : Bool = true in b) ≡ false → ⊥
done_not e = cc

module _ (answered : Status) (held held' : Option (List ℕ)) (faults faults' : ℕ) where
  abbrev Wrote : ControlEnd → Type 0
  Wrote end = Logs (status_of end) (line_of end) answered held held' faults faults' ⊎ Logs status.Memory memory_line answered held held' faults faults'

  pub reported_line : (end : ControlEnd) → is_done end ≡ false → Wrote end → ControlReported end answered held held' faults faults'
  reported_line (Refused at) other wrote = wrote
  reported_line ReadFault other wrote = wrote
  reported_line (Ended ends.Ok) other wrote = absurd (done_not other)
  reported_line (Ended ends.Memory) other wrote = wrote
  reported_line (Ended ends.WriteFault) other wrote = wrote
  reported_line (Ended ends.Host) other wrote = wrote
  reported_line (Ended (ends.Denied code)) other wrote = wrote
  reported_line (Ended (ends.BadReply at)) other wrote = wrote
  reported_line (Ended ends.Gone) other wrote = wrote
  reported_line (Ended ends.Silent) other wrote = wrote

  pub reported_done : (end : ControlEnd) → is_done end ≡ true → (answered ≡ status.Ok) × (held' ≡ held) × (faults' ≡ faults) → ControlReported end answered held held' faults faults'
  reported_done (Ended ends.Ok) is done = done
  reported_done (Refused at) is done = absurd (done_not (sym is))
  reported_done ReadFault is done = absurd (done_not (sym is))
  reported_done (Ended ends.Memory) is done = absurd (done_not (sym is))
  reported_done (Ended ends.WriteFault) is done = absurd (done_not (sym is))
  reported_done (Ended ends.Host) is done = absurd (done_not (sym is))
  reported_done (Ended (ends.Denied code)) is done = absurd (done_not (sym is))
  reported_done (Ended (ends.BadReply at)) is done = absurd (done_not (sym is))
  reported_done (Ended ends.Gone) is done = absurd (done_not (sym is))
  reported_done (Ended ends.Silent) is done = absurd (done_not (sym is))

use Rattle.std.proofs.Common.{◌≡◌, ℕ, ap, sym, subst, ◌∙◌, length, map}
use Rattle.std.specs.List.{AllByRecursion}
use Rattle.px_flat.specs.Member.{IsMember, at_reference}
use Rattle.px_flat.proofs.Preserved.{all_map, at_reference_keeps, length_widened}
use Rattle.px_flat.proofs.TrueTo.{followed_is}
use Rattle.px_flat.proofs.group.Group.set_sink.Goals as goal

pub set_all-requires : goal.set_all-requires
set_all-requires c =
    let sized : length c.widened-self-inside.result ≡ length c.self.inside.reference =
    ap length c.widened-self-inside.ensures ∙ length_widened c.args.volume.now (length c.values.result.now) ∙ ap length c.values.ensures.value in
    let all = subst (λ (n : ℕ). AllByRecursion (IsMember n) c.self.inside.members.items) (sym sized) c.self.invariant.members in
    all

pub invariant_of-self : goal.invariant_of-self
invariant_of-self c =
    let sized : length c.widened-self-inside.result ≡ length c.self.inside.reference =
    ap length c.widened-self-inside.ensures ∙ length_widened c.args.volume.now (length c.values.result.now) ∙ ap length c.values.ensures.value in
    let all = subst (λ (n : ℕ). AllByRecursion (IsMember n) c.self.inside.members.items) (sym sized) c.self.invariant.members in
    rw c.set_all.ensures
    (followed_is c.dividing_is_undone.ensures.undone c.widened-self-inside.result c.self.inside.muted (map (at_reference c.widened-self-inside.result) c.self.inside.members.items)
    (all_map (IsMember (length c.widened-self-inside.result)) (IsMember (length c.widened-self-inside.result)) (at_reference c.widened-self-inside.result)
    (at_reference_keeps (length c.widened-self-inside.result) c.widened-self-inside.result) c.self.inside.members.items all))

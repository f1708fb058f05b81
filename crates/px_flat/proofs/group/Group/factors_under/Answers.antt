use Rattle.std.proofs.Common.{ℕ, List, sym, subst, length}
use Rattle.px_flat.specs.FlatVolume.{FlatGroup, real_of}
use Rattle.px_flat.specs.Member.{IsMember, is_input}
use Rattle.px_flat.proofs.Found.{found_all}
use Rattle.px_flat.proofs.Preserved.{length_real}
use Rattle.px_flat.proofs.group.Group.factors_under.Goals as goal

pub factors_under-requires : goal.factors_under-requires
factors_under-requires c =
    let there = sym (rw c.as_slice.ensures.value at (rw c.in-Some.is at c.found.ensures)) in
    let is = found_all (IsMember (length c.self.inside.reference)) (is_input c.args.input) c.self.inside.members.items c.in-Some.member.now c.self.invariant.members there in
    subst (λ (r : List ℕ). IsMember (length r) c.in-Some.member.now) (sym c.requires)
    (subst (λ (g : FlatGroup). IsMember (length (real_of g)) c.in-Some.member.now) c.self.view_is
    (subst (λ (n : ℕ). IsMember n c.in-Some.member.now) (sym (length_real c.self.inside.reference c.self.inside.members.items)) is))

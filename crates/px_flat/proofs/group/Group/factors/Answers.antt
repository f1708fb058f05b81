use Rattle.std.proofs.Common.{ℕ, sym, subst, length}
use Rattle.px_flat.specs.Member.{IsMember, is_input}
use Rattle.px_flat.proofs.Found.{found_all}
use Rattle.px_flat.proofs.group.Group.factors.Goals as goal

pub factors_under-requires : goal.factors_under-requires
factors_under-requires c =
    let there = rw c.as_slice.ensures.value at c.member_of-member.ensures in
    subst (λ (n : ℕ). IsMember n c.member_of-member.result.now) (sym c.real_of-real.ensures.length)
    (found_all (IsMember (length c.self.inside.reference)) (is_input c.args.input) c.self.inside.members.items c.member_of-member.result.now c.self.invariant.members there)

use Rattle.std.proofs.Common.{ltb, ltb-true, ltb-false, arith, rules}
use Rattle.std.proofs.lemmas.List.Sorted.{IsPartitionPoint-from_clause, IsPartitionedBy-ltb}
use Rattle.px_flat.specs.declared.member.Member.{Member}
use Rattle.px_ctl_info.proofs.Halved.{rising_by}
use Rattle.px_ctl_info.proofs.infos.lower.Goals as goal

pub returns-clause-below : goal.returns-clause-below
returns-clause-below c k d l =
    let parted = IsPartitionedBy-ltb (λ m. (Member.input m).0) _ c.args.input.0 (rising_by 0 c.args.members.now c.requires) in
    let point = IsPartitionPoint-from_clause (λ m. ltb (Member.input m).0 c.args.input.0) _ _ c.partition_point.ensures.partitioned parted (λ a r q k. search rules) in
    ltb-true _ _ (point.0 k d (omega (arith, l, c.partition_point.ensures.bound)) l)

pub returns-clause-end : goal.returns-clause-end
returns-clause-end c d few =
    let parted = IsPartitionedBy-ltb (λ m. (Member.input m).0) _ c.args.input.0 (rising_by 0 c.args.members.now c.requires) in
    let point = IsPartitionPoint-from_clause (λ m. ltb (Member.input m).0 c.args.input.0) _ _ c.partition_point.ensures.partitioned parted (λ a r q k. search rules) in
    ltb-false _ _ (point.1 c.partition_point.result d (omega arith) few)

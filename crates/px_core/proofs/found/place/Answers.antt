use Rattle.std.proofs.Common.{ltb, ltb-true, ltb-false, arith, rules}
use Rattle.std.proofs.lemmas.List.Sorted.{IsPartitionPoint-from_clause, IsPartitionedBy-ltb}
use Rattle.px_outcome.specs.declared.input.Input.{Input}
use Rattle.px_core.proofs.Finding.{rising_by, each_below}
use Rattle.px_core.proofs.found.place.Goals as goal

pub returns-clause-below : goal.returns-clause-below
returns-clause-below c =
    let parted = IsPartitionedBy-ltb (λ x. (Input.index x).0) _ c.args.index.0 (rising_by c.args.inputs.now c.requires) in
    let point = IsPartitionPoint-from_clause (λ x. ltb (Input.index x).0 c.args.index.0) _ _ c.partition_point.ensures.partitioned parted (λ a r q k. search rules) in
    each_below c.args.index.0 c.partition_point.result c.args.inputs.now c.partition_point.ensures.bound (λ j d l. ltb-true _ _ (point.0 j d (omega arith) l))

pub returns-clause-end : goal.returns-clause-end
returns-clause-end c d few =
    let parted = IsPartitionedBy-ltb (λ x. (Input.index x).0) _ c.args.index.0 (rising_by c.args.inputs.now c.requires) in
    let point = IsPartitionPoint-from_clause (λ x. ltb (Input.index x).0 c.args.index.0) _ _ c.partition_point.ensures.partitioned parted (λ a r q k. search rules) in
    ltb-false _ _ (point.1 c.partition_point.result d (omega arith) few)

use Rattle.std.proofs.Common.{rules, ◌+◌, nat_le, get_or, arith}
use Rattle.std.proofs.lemmas.Bool.{leb-true}
use Rattle.std.proofs.lemmas.List.Sorted.{IsPartitionPoint-from_clause, IsPartitionedBy-leb}
use Rattle.cache_check.specs.declared.extents.Extent.{Extent}
use Rattle.cache_check.proofs.gaps.count_before.Goals as goal

pub returns-clause-before : goal.returns-clause-before
returns-clause-before c = λ i d lt.
    let point = IsPartitionPoint-from_clause (λ (e : Extent). nat_le (e.at + 8) c.args.address) c.args.extents.now c.partition_point.result c.partition_point.ensures.partitioned
    (IsPartitionedBy-leb (λ (e : Extent). e.at + 8) c.args.extents.now c.args.address (λ a b e le inside. omega (arith, c.requires a b e le inside))) (λ a r f h. search rules) in
    leb-true ((get_or c.args.extents.now i d).at + 8) c.args.address (point.0 i d (omega arith) lt)

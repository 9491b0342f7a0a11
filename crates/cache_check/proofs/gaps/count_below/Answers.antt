use Rattle.std.proofs.Common.{rules, ◌≡◌, ◌≤◌, ℕ, false, nat_lt, get_or, arith}
use Rattle.std.proofs.lemmas.Bool.{ltb-true}
use Rattle.std.proofs.lemmas.Bool.Decides.{nat_tests}
use Rattle.std.proofs.lemmas.List.Sorted.{IsPartitionPoint-from_clause, IsPartitionedBy-ltb}
use Rattle.cache_check.specs.declared.extents.Extent.{Extent}
use Rattle.cache_check.proofs.gaps.count_below.Goals as goal

not_below : (a b : ℕ) → nat_lt a b ≡ false → b ≤ a
not_below a b is = grind (arith, nat_tests)

pub returns-clause-below : goal.returns-clause-below
returns-clause-below c = λ i d lt.
    let point = IsPartitionPoint-from_clause (λ (e : Extent). nat_lt e.at c.args.address) c.args.extents.now c.partition_point.result c.partition_point.ensures.partitioned
    (IsPartitionedBy-ltb (λ (e : Extent). e.at) c.args.extents.now c.args.address c.requires) (λ a r f h. search rules) in
    ltb-true (get_or c.args.extents.now i d).at c.args.address (point.0 i d (omega arith) lt)

pub returns-clause-above : goal.returns-clause-above
returns-clause-above c = λ i d le inside.
    let point = IsPartitionPoint-from_clause (λ (e : Extent). nat_lt e.at c.args.address) c.args.extents.now c.partition_point.result c.partition_point.ensures.partitioned
    (IsPartitionedBy-ltb (λ (e : Extent). e.at) c.args.extents.now c.args.address c.requires) (λ a r f h. search rules) in
    not_below (get_or c.args.extents.now i d).at c.args.address (point.1 i d le inside)

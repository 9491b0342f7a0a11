-- The words rise, so halving finds the first one that isn't below.
use Rattle.std.proofs.Common.{ℕ, rules}
use Rattle.std.specs.Prelude.{nat_lt}
use Rattle.std.proofs.lemmas.List.Sorted.{IsPartitionPoint-from_clause, IsPartitionedBy-ltb}
use Rattle.slide_chain.proofs.RisingLaws.{words-rise, point-front, point-rest}
use Rattle.slide_chain.proofs.rising.words_below.Goals as goal

pub returns-clause-front : goal.returns-clause-front
returns-clause-front c =
    let ws = c.args.words.now in
    let parted = IsPartitionedBy-ltb (λ (w : ℕ). w) ws c.args.end (words-rise 0 ws c.requires.rises) in
    let point = IsPartitionPoint-from_clause (λ (w : ℕ). nat_lt w c.args.end) ws c.partition_point.result c.partition_point.ensures.partitioned parted (λ a r q k. search rules) in
    point-front c.args.end ws c.partition_point.result c.partition_point.ensures.bound point

pub returns-clause-rest : goal.returns-clause-rest
returns-clause-rest c =
    let ws = c.args.words.now in
    let parted = IsPartitionedBy-ltb (λ (w : ℕ). w) ws c.args.end (words-rise 0 ws c.requires.rises) in
    let point = IsPartitionPoint-from_clause (λ (w : ℕ). nat_lt w c.args.end) ws c.partition_point.result c.partition_point.ensures.partitioned parted (λ a r q k. search rules) in
    point-rest c.args.end ws c.partition_point.result c.partition_point.ensures.bound point

use Rattle.std.proofs.Common.{rules, ◌+◌, nat_lt}
use Rattle.std.proofs.lemmas.List.Sorted.{IsPartitionPoint-from_clause}
use Rattle.slide_chain.specs.declared.words.ChainWord.{ChainWord}
use Rattle.extractor.proofs.HomeLaws.{parted, first_is}
use Rattle.extractor.proofs.homes.first_from.Goals as goal

pub returns : goal.returns
returns c =
    first_is c.args.start c.args.bound c.args.words.now c.partition_point.result c.partition_point.ensures.bound
    (IsPartitionPoint-from_clause (λ (w : ChainWord). nat_lt (c.args.start + w.offset) c.args.bound) c.args.words.now c.partition_point.result c.partition_point.ensures.partitioned
    (parted c.args.start c.args.bound c.args.words.now c.requires) (λ a r f h. search rules))

use Rattle.std.proofs.Common.{◌≡◌, ◌-◌, take, drop, length, rules}
use Rattle.std.specs.Prelude.{nat_lt}
use Rattle.std.proofs.lemmas.List.{take_rest}
use Rattle.std.proofs.lemmas.List.Sorted.{IsPartitionPoint-from_clause}
use Rattle.prebind.specs.declared.resolved.PlacedWord.{PlacedWord}
use Rattle.macho_image.specs.Segments.{contains}
use Rattle.ref_rewrite.proofs.ChainedLaws.{IsPoint, below_first, contained_first, own_words}
use Rattle.ref_rewrite.proofs.chained.words_in.Goals as goal

pub returns : goal.returns
returns c =
    let s = c.args.segment.now in
    let ws = c.args.words.now in
    let a = c.partition_point-from.result in
    let behind : take (length c.args.words.now - c.partition_point-from.result) (drop c.partition_point-from.result c.args.words.now) ≡ drop c.partition_point-from.result c.args.words.now =
    take_rest c.args.words.now c.partition_point-from.result in
    let rest = take (length ws - a) (drop a ws) in
    let first : IsPoint (λ w. nat_lt w.at.address c.args.segment.now.vmaddr) c.args.words.now c.partition_point-from.result =
    IsPartitionPoint-from_clause (λ (w : PlacedWord). nat_lt w.at.address s.vmaddr) ws a c.partition_point-from.ensures.partitioned (below_first s ws c.requires) (λ a r f h. search rules) in
    let second : IsPoint (λ w. contains c.args.segment.now w.at.address) (take (length c.args.words.now - c.partition_point-from.result) (drop c.partition_point-from.result c.args.words.now)) c.partition_point-count.result =
    IsPartitionPoint-from_clause (λ (w : PlacedWord). contains s w.at.address) rest c.partition_point-count.result c.partition_point-count.ensures.partitioned (contained_first s ws rest a behind c.requires first) (λ a r f h. search rules) in
    own_words s ws rest a c.partition_point-count.result behind first second

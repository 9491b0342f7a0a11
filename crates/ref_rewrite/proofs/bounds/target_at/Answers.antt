use Rattle.std.proofs.Common.{rules, ◌∙◌}
use Rattle.std.proofs.lemmas.List.Sorted.{IsPartitionPoint-from_clause}
use Rattle.ref_rewrite.proofs.BoundLaws.{is_below, parted, target_here, target_none, target_past}
use Rattle.ref_rewrite.proofs.bounds.target_at.Goals as goal

pub returns-in_err-word : goal.returns-in_err-word
returns-in_err-word c =
    let a = c.args.address in
    let ws = c.args.words.now in
    let i = c.partition_point-index.result in
    let point = IsPartitionPoint-from_clause (is_below a) ws i c.partition_point-index.ensures.partitioned (parted a ws c.requires) (λ a r f h. search rules) in
    c.from_residual.ensures ∙ target_past a ws i point c.in_err-word.ensures.lookup.3

pub returns-then-word-address : goal.returns-then-word-address
returns-then-word-address c =
    let a = c.args.address in
    let ws = c.args.words.now in
    let i = c.partition_point-index.result in
    let point = IsPartitionPoint-from_clause (is_below a) ws i c.partition_point-index.ensures.partitioned (parted a ws c.requires) (λ a r f h. search rules) in
    let lookup = c.in_ok-word.ensures.lookup in
    target_here a ws i c.in_ok-word.word.now point lookup.3.0 lookup.1 c.if-word-address.true

pub returns-else-word-address : goal.returns-else-word-address
returns-else-word-address c =
    let a = c.args.address in
    let ws = c.args.words.now in
    let i = c.partition_point-index.result in
    let point = IsPartitionPoint-from_clause (is_below a) ws i c.partition_point-index.ensures.partitioned (parted a ws c.requires) (λ a r f h. search rules) in
    let lookup = c.in_ok-word.ensures.lookup in
    target_none a ws i c.in_ok-word.word.now c.requires point lookup.3.0 lookup.1 c.if-word-address.false

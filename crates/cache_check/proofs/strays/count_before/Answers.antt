use Rattle.std.proofs.Common.{rules, ◌≡◌, ◌≤◌, ◌<◌, ℕ, ◌+◌, true, nat_le, List, length, get_or, arith, subst, sym, inl, inr}
use Rattle.std.specs.List.Sorted.{IsPartitionedBy}
use Rattle.std.proofs.lemmas.Bool.{cases_lt, leb-true, le-leb}
use Rattle.std.proofs.lemmas.List.Sorted.{IsPartitionPoint-from_clause}
use Rattle.slide_chain.specs.declared.words.ChainWord.{ChainWord}
use Rattle.cache_check.proofs.strays.count_before.Goals as goal

parted : (start address : ℕ) (xs : List ChainWord) → ((i j : ℕ) (d : ChainWord) → i < j → j < length xs → (get_or xs i d).offset + 8 ≤ (get_or xs j d).offset)
    → IsPartitionedBy (λ (w : ChainWord). nat_le (start + w.offset + 8) address) xs
parted start address xs rises i j d le lt is = elim (cases_lt i j) [
  | inl before ↦
      let high = leb-true (start + (get_or xs j d).offset + 8) address is in
      le-leb (start + (get_or xs i d).offset + 8) address (omega (arith, rises i j d before lt, high))
  | inr same ↦ let e : i ≡ j = omega (arith, le, same) in subst (λ (m : ℕ). nat_le (start + (get_or xs m d).offset + 8) address ≡ true) (sym e) is
]

pub returns-clause-before : goal.returns-clause-before
returns-clause-before c = λ i d lt.
    let point = IsPartitionPoint-from_clause (λ (w : ChainWord). nat_le (c.args.chains.now.start + w.offset + 8) c.args.address) c.args.chains.now.words.now c.partition_point.result c.partition_point.ensures.partitioned
    (parted c.args.chains.now.start c.args.address c.args.chains.now.words.now c.args.chains.now.rises) (λ a r f h. search rules) in
    leb-true (c.args.chains.now.start + (get_or c.args.chains.now.words.now i d).offset + 8) c.args.address (point.0 i d (omega arith) lt)

use Rattle.std.proofs.Common.{rules}
use Rattle.std.proofs.lemmas.List.Sorted.{IsNonDecreasingBy-from_sort_by_key}
use Rattle.prebind.specs.declared.resolved.PlacedWord.{PlacedWord}
use Rattle.prebind.proofs.words.sort_words.Goals as goal

pub returns : goal.returns
returns c = record {
  moved = c.in_ok-sort_by_key.ensures.permutation;
  rises = IsNonDecreasingBy-from_sort_by_key (λ (w : PlacedWord). w.at.address) c.sort_by_key.new.self.items c.in_ok-sort_by_key.ensures.sorted (λ a r f h. search rules);
}

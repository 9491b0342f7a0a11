use Rattle.std.proofs.Common.{◌≤◌, ◌<◌, ℕ, ◌+◌, ◌^◌, List, length, get_or, sym, subst}
use Rattle.slide_chain.specs.declared.words.ChainWord.{ChainWord}
use Rattle.cache_header.specs.declared.head.Mapping.{Mapping}
use Rattle.cache_check.specs.Inside.{view_fields}
use Rattle.cache_check.proofs.ChainLaws.{words_rise, three_mappings, words_low}
use Rattle.cache_check.proofs.sides.chains_of.Goals as goal

pub data_mapping-requires : goal.data_mapping-requires
data_mapping-requires c = three_mappings (view_fields c.view.inside) c.view.invariant

pub invariant_of-result : goal.invariant_of-result
invariant_of-result c = record {
  rises = subst (λ (ws : List ChainWord). (i j : ℕ) (d : ChainWord) → i < j → j < length ws → (get_or ws i d).offset + 8 ≤ (get_or ws j d).offset) (sym c.deref.ensures.value)
      (words_rise 0 c.view.inside.words.items c.view.invariant.words);
  low = subst (λ (ws : List ChainWord). (i : ℕ) (d : ChainWord) → i < length ws → c.data_mapping.result.address + (get_or ws i d).offset < 2 ^ 63) (sym c.deref.ensures.value)
      (subst (λ (m : Mapping). (i : ℕ) (d : ChainWord) → i < length c.view.inside.words.items → m.address + (get_or c.view.inside.words.items i d).offset < 2 ^ 63) (sym c.data_mapping.ensures)
      (words_low (view_fields c.view.inside) c.view.invariant));
}

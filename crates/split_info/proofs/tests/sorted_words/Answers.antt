use Rattle.std.proofs.Common.{rules}
use Rattle.std.proofs.lemmas.List.Sorted.{IsNonDecreasingBy-from_sort_by_key}
use Rattle.macho_image.specs.declared.place.Location.{Location}
use Rattle.split_info.proofs.tests.sorted_words.Goals as goal

pub returns : goal.returns
returns c = IsNonDecreasingBy-from_sort_by_key (λ (l : Location). l.address) c.sort_unstable_by_key.new.self.items c.sort_unstable_by_key.ensures.sorted (λ a r f h. search rules)

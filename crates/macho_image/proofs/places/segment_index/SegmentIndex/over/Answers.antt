use Rattle.std.proofs.Common.{rules}
use Rattle.std.proofs.lemmas.List.Sorted.{IsNonDecreasingBy-from_sort_by_key}
use Rattle.macho_image.specs.declared.places.segment_index.Entry.{Entry}
use Rattle.macho_image.proofs.IndexLaws.{index_in_turn, index_found}
use Rattle.macho_image.proofs.places.segment_index.SegmentIndex.over.Goals as goal

pub invariant_of-result : goal.invariant_of-result
invariant_of-result c =
    let rises = IsNonDecreasingBy-from_sort_by_key (λ (e : Entry). e.start) c.sort_by_key.new.self.items c.in_ok-sort_by_key.ensures.sorted (λ a r f h. search rules) in
    index_in_turn c.args.segments.now c.in_ok-entries.entries.items c.sort_by_key.new.self.items c.requires.apart c.in_ok-entries.ensures c.in_ok-sort_by_key.ensures.permutation rises

pub returns : goal.returns
returns c = index_found c.args.segments.now c.in_ok-entries.entries.items c.sort_by_key.new.self.items c.requires.apart c.in_ok-entries.ensures c.in_ok-sort_by_key.ensures.permutation

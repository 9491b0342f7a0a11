use Rattle.std.proofs.Common.{rules, ◌++◌, List, map, ap, ◌∙◌}
use Rattle.std.specs.Prelude.{filter}
use Rattle.std.proofs.lemmas.List.Sorted.{IsNonDecreasingBy-from_sort_by_key}
use Rattle.prebind.specs.Words.{is_no_pointer}
use Rattle.cache_check.specs.declared.extents.Extent.{Extent}
use Rattle.cache_check.specs.Steps.Extents.{pointer_extent, reference_extent}
use Rattle.cache_check.proofs.ExtentLaws.{held_alike, all_narrow}
use Rattle.cache_check.proofs.extents.extents_of.Goals as goal

pub returns-clause-sorted : goal.returns-clause-sorted
returns-clause-sorted c = IsNonDecreasingBy-from_sort_by_key (λ (e : Extent). e.at) c.sort_by_key.new.self.items c.in_ok-sort_by_key.ensures.sorted (λ a r f h. search rules)

pub returns-clause-covers : goal.returns-clause-covers
returns-clause-covers c = λ k sections segments address.
    let made = c.in_ok-push_references.ensures ∙ ap (λ (l : List Extent). l ++ map reference_extent (filter is_no_pointer c.args.references.now))
    (c.in_ok-push_pointers.ensures ∙ ap (λ (l : List Extent). l ++ map pointer_extent c.args.pointers.now) c.in_ok-extents.ensures.items) in
    held_alike k address sections segments c.args.pointers.now c.args.references.now c.push_references.new.extents.items c.sort_by_key.new.self.items made c.in_ok-sort_by_key.ensures.permutation

pub returns-clause-narrow : goal.returns-clause-narrow
returns-clause-narrow c = λ i d lt.
    let made = c.in_ok-push_references.ensures ∙ ap (λ (l : List Extent). l ++ map reference_extent (filter is_no_pointer c.args.references.now))
    (c.in_ok-push_pointers.ensures ∙ ap (λ (l : List Extent). l ++ map pointer_extent c.args.pointers.now) c.in_ok-extents.ensures.items) in
    all_narrow c.args.pointers.now c.args.references.now c.push_references.new.extents.items c.sort_by_key.new.self.items made c.in_ok-sort_by_key.ensures.permutation i d lt

use Rattle.std.proofs.Common.{◌≤◌, ◌+◌, List, ℕ, length, sym, subst, ◌∙◌}
use Rattle.dsc_base.specs.declared.fault.Span.{Span}
use Rattle.cache_check.specs.Shape.{data_mapping}
use Rattle.cache_check.proofs.ViewLaws.{mappings_count, data_inside}
use Rattle.cache_check.proofs.read.flatten.Goals as goal

pub data_range-requires : goal.data_range-requires
data_range-requires c = mappings_count (length c.args.cache.now) c.args.head.now c.requires.shaped

pub unslide_range-requires-clause-inside : goal.unslide_range-requires-clause-inside
unslide_range-requires-clause-inside c =
    let bytes = c.deref_mut.ensures.value ∙ c.in_ok-flat.ensures.items in
    subst (λ (s : Span). s.at + s.len ≤ length c.deref_mut.result.now) (sym c.data_range.ensures)
    (subst (λ (l : List ℕ). (data_mapping c.args.head.now.mappings).file + (data_mapping c.args.head.now.mappings).size ≤ length l) (sym bytes) (data_inside (length c.args.cache.now) c.args.head.now c.requires.shaped))

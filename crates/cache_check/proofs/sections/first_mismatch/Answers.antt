use Rattle.std.proofs.Common.{◌++◌, List, map, ap, ◌∙◌}
use Rattle.std.specs.Prelude.{filter}
use Rattle.std.specs.List.{list_any}
use Rattle.cache_check.specs.declared.extents.Extent.{Extent}
use Rattle.cache_check.specs.Steps.Extents.{holds}
use Rattle.prebind.specs.Words.{pointer_word, reference_word, is_no_pointer}
use Rattle.cache_check.specs.Differences.{cached_starts}
use Rattle.cache_check.specs.Steps.Sides.{chain_view}
use Rattle.cache_check.proofs.ByteLaws.{same_sections, three_first}
use Rattle.cache_check.proofs.sections.first_mismatch.Goals as goal

pub returns : goal.returns
returns c =
    three_first (chain_view c.args.matching.now.chains) (cached_starts c.args.matching.now.all.now) c.args.pointers.now
    (map pointer_word c.args.pointers.now ++ map (reference_word c.args.number c.args.matching.now.file.now.sections c.args.matching.now.file.now.segments) (filter is_no_pointer c.args.references.now))
    c.args.matching.now.file.now c.args.matching.now.cached.now c.first_word-word.result c.first_stray-stray.result c.first_byte.result c.earlier.result c.earlier-2.result
    c.first_word-word.ensures c.first_stray-stray.ensures
    (c.first_byte.ensures ∙ same_sections c.deref.result.now
    (map pointer_word c.args.pointers.now ++ map (reference_word c.args.number c.args.matching.now.file.now.sections c.args.matching.now.file.now.segments) (filter is_no_pointer c.args.references.now))
    (λ a. ap (λ (l : List Extent). list_any (holds a) l) c.deref.ensures.value ∙ c.in_ok-extents.ensures.covers c.args.number c.args.matching.now.file.now.sections c.args.matching.now.file.now.segments a) c.args.matching.now.file.now c.args.matching.now.cached.now)
    c.earlier.ensures c.earlier-2.ensures

use Rattle.std.proofs.Common.{◌≡◌, ◌++◌, map, take}
use Rattle.std.specs.Prelude.{filter}
use Rattle.prebind.specs.Words.{is_no_pointer}
use Rattle.cache_check.specs.Steps.Extents.{reference_extent}
use Rattle.cache_check.proofs.extents.push_references.Given as goal

abbrev pub invariant-loop-reference : goal.invariant-loop-reference
invariant-loop-reference l = l.extents.items ≡ l.initial.extents.items ++ map reference_extent (filter is_no_pointer (take l.reference-index l.references))

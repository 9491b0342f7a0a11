use Rattle.std.proofs.Common.{◌≡◌, ◌++◌, map, take}
use Rattle.cache_check.specs.Steps.Extents.{pointer_extent}
use Rattle.cache_check.proofs.extents.push_pointers.Given as goal

abbrev pub invariant-loop-word : goal.invariant-loop-word
invariant-loop-word l = l.extents.items ≡ l.initial.extents.items ++ map pointer_extent (take l.word-index l.pointers)

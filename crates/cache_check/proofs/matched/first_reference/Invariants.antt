use Rattle.std.proofs.Common.{◌≡◌, map, take}
use Rattle.std.specs.Prelude.{filter, fold}
use Rattle.prebind.specs.Words.{reference_word, is_no_pointer}
use Rattle.cache_check.specs.Steps.Matched.{sooner}
use Rattle.cache_check.proofs.matched.first_reference.Given as goal

abbrev pub invariant-loop-reference : goal.invariant-loop-reference
invariant-loop-reference l =
    l.first ≡ fold (sooner l.matching) l.initial.first (map (reference_word l.number l.matching.file.now.sections l.matching.file.now.segments) (filter is_no_pointer (take l.reference-index l.references)))

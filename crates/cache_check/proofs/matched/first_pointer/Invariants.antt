use Rattle.std.proofs.Common.{◌≡◌, map, take}
use Rattle.prebind.specs.Words.{pointer_word}
use Rattle.cache_check.specs.Bytes.{earliest}
use Rattle.cache_check.specs.Steps.Matched.{differs}
use Rattle.cache_check.proofs.matched.first_pointer.Given as goal

abbrev pub invariant-loop-word : goal.invariant-loop-word
invariant-loop-word l = l.first ≡ earliest (differs l.matching) (map pointer_word (take l.word-index l.pointers))

use Rattle.std.proofs.Common.{◌≡◌, None}
use Rattle.cache_check.specs.Bytes.{in_section}
use Rattle.cache_check.specs.Steps.Gaps.{held_mismatch}
use Rattle.cache_check.specs.Firsts.{first_below}
use Rattle.cache_check.proofs.sections.first_byte.Given as goal

abbrev pub invariant-loop-number : goal.invariant-loop-number
invariant-loop-number l = first_below (in_section (held_mismatch l.extents) l.matching.file.now l.matching.cached.now) l.number ≡ None

use Rattle.std.proofs.Common.{◌≡◌, None}
use Rattle.cache_check.specs.Bytes.{in_section, stray_in}
use Rattle.cache_check.specs.Steps.Sides.{chain_view}
use Rattle.cache_check.specs.Firsts.{first_below}
use Rattle.cache_check.proofs.sections.first_stray.Given as goal

abbrev pub invariant-loop-number : goal.invariant-loop-number
invariant-loop-number l = first_below (in_section (stray_in (chain_view l.matching.chains) l.pointers) l.matching.file.now l.matching.cached.now) l.number ≡ None

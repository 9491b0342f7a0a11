use Rattle.std.proofs.Common.{◌≡◌, ◌≤◌, ◌-◌, ◌*◌, ◌++◌, length}
use Rattle.macho_image.specs.Macho.{sections_in}
use Rattle.macho_image.proofs.segment.read_sections.Given as goal

abbrev pub invariant-loop : goal.invariant-loop
invariant-loop l = (80 * (l.count - l.counter) ≤ length l.rest) × (sections_in l.count l.bytes ≡ l.sections.items ++ sections_in (l.count - l.counter) l.rest)

use Rattle.std.proofs.Common.{◌≡◌, ◌-◌, ◌*◌, ◌/◌, ◌++◌, length, drop}
use Rattle.macho_edit.specs.Segments.{moved_sections}
use Rattle.macho_edit.proofs.segment.append_sections.Given as goal

-- what is written, and then the sections that are left, are all sections
abbrev pub invariant-loop-k : goal.invariant-loop-k
invariant-loop-k l =
    l.out.items ++ moved_sections l.place l.start (length l.sections / 80 - l.k) (drop (80 * l.k) l.sections)
    ≡ l.fn.out.items ++ moved_sections l.place l.start (length l.sections / 80) l.sections

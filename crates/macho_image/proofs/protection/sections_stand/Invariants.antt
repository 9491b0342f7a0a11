use Rattle.std.proofs.Common.{◌≡◌, drop}
use Rattle.macho_image.specs.Rules.{sections_stand, sections_start}
use Rattle.macho_image.proofs.protection.sections_stand.Given as goal

abbrev pub invariant-loop-section : goal.invariant-loop-section
invariant-loop-section l =
    sections_stand l.segment (sections_start l.header_size l.segment) 0 l.segment.sections
    ≡ sections_stand l.segment (sections_start l.header_size l.segment) l.floor (drop l.section-index l.section-items)

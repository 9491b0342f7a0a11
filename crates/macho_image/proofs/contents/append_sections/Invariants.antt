use Rattle.std.proofs.Common.{◌≡◌, ◌++◌, take, map}
use Rattle.macho_image.specs.Macho.{section_of}
use Rattle.macho_image.proofs.contents.append_sections.Given as goal

abbrev pub invariant-loop-section_fields : goal.invariant-loop-section_fields
invariant-loop-section_fields l = l.sections.items ≡ l.initial.sections.items ++ map (section_of l.segment) (take l.section_fields-index l.fields)

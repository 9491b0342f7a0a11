use Rattle.cache_check.proofs.PartLaws.{AreShaped}
use Rattle.cache_check.proofs.shapes.push_sections.Given as goal

abbrev pub invariant-loop-section : goal.invariant-loop-section
invariant-loop-section l = AreShaped l.segment l.number l.sections l.initial.numbers.items l.numbers.items l.section-index

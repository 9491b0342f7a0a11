use Rattle.std.proofs.Common.{drop}
use Rattle.slide_chain.specs.Making.{AreOutside}
use Rattle.slide_chain.proofs.tests.are_outside.Given as goal

-- if the words behind are outside, all are
abbrev pub invariant-loop-word : goal.invariant-loop-word
invariant-loop-word l = AreOutside l.mask l.area (drop l.word-index l.words) → AreOutside l.mask l.area l.words

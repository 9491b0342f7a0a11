use Rattle.std.proofs.Common.{drop}
use Rattle.slide_chain.specs.Making.{AreWords, AllBelow}
use Rattle.slide_chain.proofs.tests.are_words.Given as goal

-- if the words behind are such from a place on, all are
abbrev pub invariant-loop-word : goal.invariant-loop-word
invariant-loop-word l = AreWords l.from (drop l.word-index l.words) × AllBelow l.size (drop l.word-index l.words) → AreWords 0 l.words × AllBelow l.size l.words

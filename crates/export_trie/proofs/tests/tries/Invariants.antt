-- The steps are counted in the blank's ledger.
use Rattle.export_trie.proofs.tests.tries.Given as goal

abbrev pub ghosts-all_accepted : goal.ghosts-all_accepted
ghosts-all_accepted g a = record { name = a.blank.name; parts = a.blank.parts }

-- The steps are counted in the blank's ledger.
use Rattle.prebind.proofs.tests.steps_of_a_search.Given as goal

abbrev pub ghosts-counted_row_stands : goal.ghosts-counted_row_stands
ghosts-counted_row_stands g a = record { name = a.blank.name; parts = a.blank.parts }

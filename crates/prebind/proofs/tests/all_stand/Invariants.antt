-- The steps are counted in the blank's ledger.
use Rattle.prebind.proofs.tests.all_stand.Given as goal

abbrev pub ghosts-rows_stand : goal.ghosts-rows_stand
ghosts-rows_stand g a = record { name = a.blank.name; parts = a.blank.parts }

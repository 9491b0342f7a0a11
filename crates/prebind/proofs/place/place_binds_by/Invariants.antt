-- The steps are counted in the blank's ledger.
use Rattle.prebind.proofs.place.place_binds_by.Given as goal

abbrev pub ghosts-place_binds_counted : goal.ghosts-place_binds_counted
ghosts-place_binds_counted a = record { name = a.blank.name; parts = a.blank.parts }

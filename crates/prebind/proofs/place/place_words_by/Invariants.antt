-- The steps are counted in the blank's ledger.
use Rattle.prebind.proofs.place.place_words_by.Given as goal

abbrev pub ghosts-place_counted : goal.ghosts-place_counted
ghosts-place_counted a = record { name = a.blank.name; parts = a.blank.parts }

use Rattle.std.proofs.Common.{◌<◌, ◌^◌, All, take}
use Rattle.macho_edit.proofs.header.fit_moves.Given as goal

-- the addresses of the moves before the index fit
abbrev pub invariant-loop-moved : goal.invariant-loop-moved
invariant-loop-moved l = All (λ m. m.address < 2 ^ 64) (take l.moved-index l.moves)

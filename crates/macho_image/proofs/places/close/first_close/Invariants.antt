use Rattle.std.proofs.Common.{◌≡◌, ◌-◌, drop}
use Rattle.macho_image.proofs.CloseLaws.{close_pair}
use Rattle.macho_image.proofs.places.close.first_close.Given as goal

abbrev pub invariant-loop-i : goal.invariant-loop-i
invariant-loop-i l = close_pair l.locations ≡ close_pair (drop (l.i - 1) l.locations)

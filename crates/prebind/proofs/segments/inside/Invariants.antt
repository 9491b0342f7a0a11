use Rattle.std.proofs.Common.{◌≡◌, drop}
use Rattle.macho_image.specs.Segments.{inside_from, inside}
use Rattle.prebind.proofs.segments.inside.Given as goal

abbrev pub invariant-loop-number : goal.invariant-loop-number
invariant-loop-number l = inside_from l.number (drop l.number l.segments) l.address ≡ inside l.segments l.address

use Rattle.std.proofs.Common.{◌≡◌, drop, map}
use Rattle.macho_image.specs.Segments.{inside_from, inside}
use Rattle.prebind.specs.Indexed.{bare_segment}
use Rattle.prebind.proofs.spans.inside.Given as goal

abbrev pub invariant-loop-number : goal.invariant-loop-number
invariant-loop-number l = inside_from l.number (map bare_segment (drop l.number l.spans)) l.address ≡ inside (map bare_segment l.spans) l.address

use Rattle.std.proofs.Common.{◌≡◌, drop}
use Rattle.prebind.specs.Places.{exports_in}
use Rattle.prebind.specs.Resolves.{first_exporting}
use Rattle.prebind.proofs.resolution.first_exporting.Given as goal

abbrev pub invariant-loop-image : goal.invariant-loop-image
invariant-loop-image l = first_exporting (exports_in l.streams) l.name (drop l.image-index l.order) ≡ first_exporting (exports_in l.streams) l.name l.order

use Rattle.std.proofs.Common.{◌≡◌, take}
use Rattle.prebind.specs.Places.{exports_in}
use Rattle.prebind.proofs.index.all_names.Given as goal

abbrev pub invariant-loop-image : goal.invariant-loop-image
invariant-loop-image l = l.names ≡ exports_in (take l.image-index l.streams)

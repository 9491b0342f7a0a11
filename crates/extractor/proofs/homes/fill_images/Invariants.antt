use Rattle.std.proofs.Common.{◌-◌, length}
use Rattle.extractor.proofs.HomeLaws.{AreHomes}
use Rattle.extractor.proofs.homes.fill_images.Given as goal

abbrev pub invariant-loop-n : goal.invariant-loop-n
invariant-loop-n l = AreHomes l.start l.words l.homes (length l.images - l.n) l.images

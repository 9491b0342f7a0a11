use Rattle.macho_image.proofs.FileLists.{AreAccepted}
use Rattle.macho_image.proofs.files.read_images.Given as goal

abbrev pub invariant-loop-number : goal.invariant-loop-number
invariant-loop-number l = AreAccepted l.files l.images.items l.number

use Rattle.std.proofs.Common.{refl}
use Rattle.macho_image.specs.Segments.{inside}
use Rattle.prebind.proofs.spans.inside.Goals as goal

pub loop-number-init : goal.loop-number-init
unfolding inside
loop-number-init c = refl

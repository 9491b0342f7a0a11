use Rattle.macho_image.specs.Views.{image_view}
use Rattle.macho_image.proofs.WalkLaws.{sound_header}
use Rattle.macho_image.proofs.image.Image.commands.Goals as goal

pub new-requires-clause-shape : goal.new-requires-clause-shape
new-requires-clause-shape c = let kept = sound_header (image_view c.self.inside) c.self.invariant in kept.shape

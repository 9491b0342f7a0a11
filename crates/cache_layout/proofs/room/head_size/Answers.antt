use Rattle.std.proofs.Common.{length, ap, arith}
use Rattle.cache_layout.proofs.HeadLaws.{paths-fit, paths-most}
use Rattle.cache_layout.proofs.room.head_size.Goals as goal

pub overflow_add-size-in-loop-image-2 : goal.overflow_add-size-in-loop-image-2
overflow_add-size-in-loop-image-2 c = omega (arith, paths-fit c.args.images.now c.loop-image.image-index c.image-item.result c.requires.names (omega arith) c.image-item.is, ap (λ i. length i.install_name) c.image.view_is)

pub returns-clause-fits : goal.returns-clause-fits
returns-clause-fits c = omega (arith, c.loop-image.invariant, paths-most c.args.images.now c.loop-image.image-index c.requires.names)

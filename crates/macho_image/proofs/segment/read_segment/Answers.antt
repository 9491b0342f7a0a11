use Rattle.std.proofs.Common.{ap, arith, length, length-drop}
use Rattle.macho_image.proofs.segment.read_segment.Goals as goal

pub read_sections-requires : goal.read_sections-requires
read_sections-requires c = omega (arith, ap length c.behind.ensures, length-drop 72 c.command.inside.bytes.now)

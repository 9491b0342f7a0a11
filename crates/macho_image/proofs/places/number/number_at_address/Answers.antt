use Rattle.std.proofs.Common.{◌-◌, sym, ap, ◌∙◌, arith}
use Rattle.macho_image.specs.Records.{Seg}
use Rattle.macho_image.specs.Segments.{number_of}
use Rattle.macho_image.proofs.NumberLaws.{number_past}
use Rattle.macho_image.proofs.places.number.number_at_address.Goals as goal

pub returns-then-distance-len : goal.returns-then-distance-len
unfolding number_of
returns-then-distance-len c =
    sym (number_past c.segment.inside.bytes.now (c.args.address - c.segment.inside.vmaddr) (omega (arith, c.saturating_sub-distance.ensures, c.if-distance-len.true)))
    ∙ ap (λ (s : Seg). number_of 8 s c.args.address) c.segment.view_is

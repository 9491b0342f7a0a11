use Rattle.std.proofs.Common.{◌∙◌, ap, ap₂, ℕ, Option}
use Rattle.macho_image.specs.Records.{SegmentLoad}
use Rattle.macho_image.specs.Rules.{first_load, names_outside, outside_of}
use Rattle.macho_image.proofs.ranges.linkedit_range.Goals as goal

pub returns : goal.returns
returns c =
    let bounds = ap₂ (λ (low high : ℕ). first_load (λ l. names_outside low high l.bytes) c.args.commands.now) c.bounds_of.ensures.low c.bounds_of.ensures.high in
    c.first_outside.ensures ∙ (bounds ∙ ap (λ (o : Option SegmentLoad). outside_of o c.args.commands.now) c.in_ok-linkedit.ensures)

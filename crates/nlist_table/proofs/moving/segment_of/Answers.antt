use Rattle.std.proofs.Common.{ap, arith, length}
use Rattle.macho_image.specs.Records.{Img}
use Rattle.nlist_table.proofs.SectionLaws.{section_within}
use Rattle.nlist_table.proofs.moving.segment_of.Goals as goal

pub returns-clause-within : goal.returns-clause-within
returns-clause-within c =
    let same = ap (λ (i : Img). i.sections) c.image.view_is in
    section_within c.args.image.now c.facts.ensures c.image.inside.sections.items _ c.index-section.result.now same (omega (arith, c.requires.first, c.requires.last, ap length same)) c.index-section.ensures

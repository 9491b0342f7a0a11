use Rattle.std.proofs.Common.{◌≡◌, ◌++◌, List, ℕ, OnOk, subst, ap}
use Rattle.macho_image.specs.Records.{Seg}
use Rattle.cache_check.proofs.PartLaws.{section_is}
use Rattle.cache_check.proofs.shapes.push_section.Goals as goal

pub returns : goal.returns
returns c =
    subst (λ (l : List ℕ). OnOk c.push_three.result (c.push_three.new.numbers.items ≡ c.args.numbers.now.items ++ l))
    (section_is c.args.segment.now c.args.section.now c.segment.inside.vmaddr c.name_number-name.result c.from.result c.from-2.result (ap (λ (s : Seg). s.vmaddr) c.segment.view_is) c.name_number-name.ensures c.from.ensures c.from-2.ensures)
    c.push_three.ensures

use Rattle.std.proofs.Common.{List, sym, ap, ◌∙◌, arith}
use Rattle.macho_image.specs.Records.{Img}
use Rattle.macho_image.specs.declared.section.Section.{Section}
use Rattle.macho_image.specs.Places.{numbered_section}
use Rattle.cache_check.proofs.PairLaws.{numbered_low}
use Rattle.cache_check.proofs.pairs.pair_of.Goals as goal

pub returns-clause-here : goal.returns-clause-here
returns-clause-here c =
    numbered_low c.args.file.now c.args.number c.in_ok-here.here.now c.facts.ensures
    (ap (λ (xs : List Section). numbered_section xs c.args.number) (sym (c.deref.ensures.value ∙ ap (λ (i : Img). i.sections) c.file.view_is)) ∙ sym c.in_ok-here.ensures)

pub returns-clause-there : goal.returns-clause-there
returns-clause-there c =
    let low = numbered_low c.args.cached.now c.args.number c.in_ok-there.there.now c.facts-2.ensures
    (ap (λ (xs : List Section). numbered_section xs c.args.number) (sym (c.deref-2.ensures.value ∙ ap (λ (i : Img). i.sections) c.cached.view_is)) ∙ sym c.in_ok-there.ensures) in
    omega (arith, low)

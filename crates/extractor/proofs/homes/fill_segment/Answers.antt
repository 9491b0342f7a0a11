use Rattle.std.proofs.Common.{◌+◌, ◌∙◌, ap, ap₂, sym, arith, subst, nat_eq}
use Rattle.std.proofs.lemmas.Bool.{eq-eqb}
use Rattle.extractor.specs.Homes.{IsFirstFrom}
use Rattle.macho_image.specs.Records.{Seg}
use Rattle.extractor.proofs.HomeLaws.{segment_filled, first_order}
use Rattle.extractor.proofs.homes.fill_segment.Goals as goal

pub fill_range-requires : goal.fill_range-requires
fill_range-requires c = record {
  order = first_order c.args.start c.from-low.result (c.from-low.result + c.from.result) c.args.words.now c.first_from-first.result c.first_from-end.result (omega arith) c.first_from-first.ensures c.first_from-end.ensures;
  within = omega (arith, c.first_from-end.ensures.within, c.requires.many);
}

pub returns-then-segment-eq-READ_WRITE-clause-homes : goal.returns-then-segment-eq-READ_WRITE-clause-homes
returns-then-segment-eq-READ_WRITE-clause-homes c =
    let low = c.from-low.ensures ∙ ap (λ (s : Seg). s.vmaddr) c.segment.view_is in
    let size = c.from.ensures ∙ ap (λ (s : Seg). s.vmsize) c.segment.view_is in
    segment_filled c.args.start c.args.words.now c.args.segment.now c.args.home c.first_from-first.result c.first_from-end.result c.args.homes.now c.fill_range.new.homes
    (sym (ap (λ (s : Seg). nat_eq s.initprot 3) c.segment.view_is) ∙ eq-eqb c.segment.inside.initprot 3 c.if-segment-eq-READ_WRITE.true) c.requires.many
    (subst (λ n. IsFirstFrom c.args.start c.args.words.now n c.first_from-first.result) low c.first_from-first.ensures)
    (subst (λ n. IsFirstFrom c.args.start c.args.words.now n c.first_from-end.result) (ap₂ (λ a b. a + b) low size) c.first_from-end.ensures) c.fill_range.ensures

use Rattle.std.proofs.Common.{◌∙◌, subst}
use Rattle.extractor.specs.Homes.{IsFirstFrom}
use Rattle.extractor.proofs.PointerLaws.{chained_past, chained_at}
use Rattle.extractor.proofs.pointers.is_chained.Goals as goal

pub returns-in-Some : goal.returns-in-Some
returns-in-Some c =
    let lookup = c.in-Some.ensures.lookup in
    let first = subst (λ n. IsFirstFrom c.args.start c.args.words.now n c.first_from.result) c.from.ensures c.first_from.ensures in
    c.begins_at.ensures ∙ chained_at c.args.start c.args.address c.args.words.now c.first_from.result c.in-Some.word.now c.requires first lookup.3.0 lookup.1

pub returns-in-None : goal.returns-in-None
returns-in-None c =
    let first = subst (λ n. IsFirstFrom c.args.start c.args.words.now n c.first_from.result) c.from.ensures c.first_from.ensures in
    chained_past c.args.start c.args.address c.args.words.now c.first_from.result first c.in-None.ensures.lookup.3

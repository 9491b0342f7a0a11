use Rattle.std.proofs.Common.{rules, tests, nat_eq}
use Rattle.std.proofs.lemmas.Iterator.Splits.{YieldsList-from_slice_split}
use Rattle.std.proofs.lemmas.Iterator.Search.{all_from_yields_List}
use Rattle.macho_image.specs.Rules.{is_safe_part}
use Rattle.macho_image.proofs.names.has_safe_parts.Goals as goal

pub returns : goal.returns
returns c =
    all_from_yields_List is_safe_part _ _ c.all.result c.all.ensures.ran
    (YieldsList-from_slice_split _ (λ y. nat_eq y 0x2F) c.args.path.now c.split.ensures.rest c.split.ensures.done c.split.ensures.closure (λ x b q k. search (rules, tests)))
    (λ x b q k. search (rules, tests))

use Rattle.std.proofs.Common.{rules, tests, nat_eq}
use Rattle.std.proofs.lemmas.Iterator.{YieldsList-from_slice}
use Rattle.std.proofs.lemmas.Iterator.Search.{position_from_yields_List}
use Rattle.macho_image.proofs.names.nul_at.Goals as goal

pub returns : goal.returns
returns c = position_from_yields_List (λ x. nat_eq x 0) _ _ c.position.result c.position.ensures.ran (YieldsList-from_slice _ c.iter.ensures.rest) (λ x b q k. search (rules, tests))

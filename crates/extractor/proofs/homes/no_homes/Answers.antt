use Rattle.std.proofs.Common.{◌++◌, ◌∷◌, [], List, Option, None, ap, ◌∙◌}
use Rattle.std.proofs.lemmas.List.{replicate-append-replicate}
use Rattle.extractor.specs.declared.homes.Home.{Home}
use Rattle.extractor.proofs.homes.no_homes.Goals as goal

pub loop-k-preserved : goal.loop-k-preserved
loop-k-preserved c = c.in_ok-push.ensures.items ∙ (ap (λ (hs : List (Option Home)). hs ++ None ∷ []) c.loop-k.invariant ∙ replicate-append-replicate c.loop-k.k 1 None)

use Rattle.std.proofs.Common.{◌++◌, ◌∷◌, [], List, Vec, Global, ap, ap₂, ◌∙◌}
use Rattle.std.proofs.lemmas.List.{replicate-append-replicate}
use Rattle.macho_image.specs.declared.place.Location.{Location}
use Rattle.extractor.specs.Free.{lists}
use Rattle.extractor.proofs.FreeLaws.{lists_more}
use Rattle.extractor.proofs.free.no_locations.Goals as goal

pub loop-k-init : goal.loop-k-init
loop-k-init c = ap (λ (vs : List (Vec Location Global)). lists vs) c.in_ok-free.ensures.items

pub loop-k-preserved : goal.loop-k-preserved
loop-k-preserved c =
    lists_more c.loop-k.free.items c.push.new.self.items c.new.result c.in_ok-push.ensures.items
    ∙ (ap₂ (λ (ls : List (List Location)) (l : List Location). ls ++ l ∷ []) c.loop-k.invariant c.new.ensures.items ∙ replicate-append-replicate c.loop-k.k 1 [])

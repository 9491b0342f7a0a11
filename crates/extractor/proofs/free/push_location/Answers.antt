use Rattle.std.proofs.Common.{rules, List, [], ◌++◌, ◌∷◌, slice_index_or, ap, sym, ◌∙◌}
use Rattle.macho_image.specs.declared.place.Location.{Location}
use Rattle.extractor.specs.Free.{lists}
use Rattle.extractor.proofs.FreeLaws.{lists_set, lists_at}
use Rattle.extractor.proofs.free.push_location.Goals as goal

pub returns : goal.returns
returns c =
    lists_set c.args.free.now.items c.args.number c.push.new.self (slice_index_or (lists c.args.free.now.items) c.args.number [] ++ c.args.location ∷ [])
    (c.in_ok-push.ensures.items ∙ ap (λ (l : List Location). l ++ c.args.location ∷ []) (search (rules, sym (lists_at c.args.free.now.items c.args.number c.index_mut-own.result.now c.requires))))

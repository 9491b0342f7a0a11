use Rattle.std.proofs.Common.{◌∙◌, ap, ℕ, List}
use Rattle.macho_image.specs.Addresses.{are_in_turn}
use Rattle.macho_image.proofs.Sharing.{turn_is}
use Rattle.macho_image.proofs.shared.share_none.Goals as goal

pub returns-clause-found : goal.returns-clause-found
returns-clause-found c =
    c.are_in_turn.ensures
    ∙ (ap (λ (rs : List (ℕ × ℕ)). are_in_turn 0 rs) c.deref.ensures.value ∙ turn_is c.args.segments.now c.in_ok-ranges.ranges.items c.in_ok-ranges.ensures.same c.in_ok-ranges.ensures.sorted)

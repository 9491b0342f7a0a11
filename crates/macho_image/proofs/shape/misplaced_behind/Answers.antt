use Rattle.std.proofs.Common.{◌∙◌, ap, ap₂, sym, ℕ, Option}
use Rattle.std.specs.Option.{option_or}
use Rattle.macho_image.specs.Rules.{misplaced_behind}
use Rattle.macho_image.proofs.Reserved.{misplaced_behind-last}
use Rattle.macho_image.proofs.shape.misplaced_behind.Goals as goal

pub returns : goal.returns
returns c =
    let ends = c.in_ok-last.ensures.cases in
    let joined = ap₂ (λ (a b : Option ℕ). option_or a b) c.misnamed.ensures c.bad_linkedit.ensures in
    c.or.ensures ∙ (joined ∙ (sym (misplaced_behind-last c.in_ok-last.between.now c.in_ok-last.last.now) ∙ ap misplaced_behind (sym ends.0)))

use Rattle.std.proofs.Common.{◌≡◌, ap, ◌∙◌, arith, suc}
use Rattle.macho_image.specs.Records.{Load}
use Rattle.macho_image.proofs.WalkLaws.{walk_next, walk_behind}
use Rattle.macho_image.proofs.commands.CommandsIterator.next.Goals as goal

pub split_first-command-requires : goal.split_first-command-requires
split_first-command-requires c =
    let more : c.self.inside.left ≡ suc c.in_ok-left.left = omega (arith, c.in_ok-left.ensures) in
    let step = walk_next c.self.inside.left c.in_ok-left.left c.self.inside.at c.self.inside.rest.now c.self.invariant more in
    step.whole

pub invariant_of-self : goal.invariant_of-self
invariant_of-self c =
    let more : c.self.inside.left ≡ suc c.in_ok-left.left = omega (arith, c.in_ok-left.ensures) in
    let step = walk_next c.self.inside.left c.in_ok-left.left c.self.inside.at c.self.inside.rest.now c.self.invariant more in
    walk_behind c.in_ok-left.left c.self.inside.at c.self.inside.rest.now c.split_first-command.result.1.now c.command.inside.bytes.now step
    (ap (λ (l : Load). l.bytes) (c.command.view_is ∙ c.split_first-command.ensures.first)) c.split_first-command.ensures.behind

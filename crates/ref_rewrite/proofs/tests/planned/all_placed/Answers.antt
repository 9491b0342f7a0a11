use Rattle.std.proofs.Common.{◌∙◌, map, arith}
use Rattle.std.proofs.lemmas.List.{length-map}
use Rattle.prebind.specs.Steps.{set_of}
use Rattle.prebind.specs.declared.resolved.PlacedWord.{PlacedWord}
use Rattle.prebind.proofs.PlacedLists.{lists_placed}
use Rattle.ref_rewrite.proofs.tests.planned.all_placed.Goals as goal

pub returns : goal.returns
returns c =
    lists_placed (set_of c.args.set.now) (map (λ w. w.items) c.loop-number.placed.items)
    (length-map c.loop-number.placed.items (λ w. w.items) ∙ omega (arith, c.loop-number.invariant.many, c.loop-number-test.false))
    (λ k lt. c.loop-number.invariant.each k (omega (arith, lt, c.loop-number-test.false)))

use Rattle.std.proofs.Common.{◌<◌, ◌^◌, subst, All}
use Rattle.std.proofs.lemmas.List.{take_all}
use Rattle.std.proofs.lemmas.List.Elements.{All-nil, All-more}
use Rattle.macho_image.specs.declared.place.Moved.{Moved}
use Rattle.macho_edit.proofs.header.fit_moves.Goals as goal

pub loop-moved-init : goal.loop-moved-init
loop-moved-init c = All-nil (λ (m : Moved). m.address < 2 ^ 64)

pub loop-moved-preserved : goal.loop-moved-preserved
loop-moved-preserved c = All-more (λ (m : Moved). m.address < 2 ^ 64) c.args.moves.now c.loop-moved.moved-index _ c.loop-moved-test.true c.loop-moved.invariant c.fit_sizes.ensures.address

pub returns : goal.returns
returns c = subst (All (λ (m : Moved). m.address < 2 ^ 64)) (take_all c.loop-moved.moved-index c.args.moves.now c.loop-moved-test.false) c.loop-moved.invariant

-- Each part has as many words as it takes.
use Rattle.std.proofs.Common.{sym, subst}
use Rattle.dsc_gen.specs.Draws.{Draw, IsDraw}
use Rattle.dsc_gen.proofs.DrawLaws.{drawn_whole}
use Rattle.dsc_gen.proofs.draws.draw_image.Goals as goal

pub returns-clause-whole : goal.returns-clause-whole
returns-clause-whole c = subst (λ (d : Draw). IsDraw c.args.shape.now d) (sym c.in_ok-draw.ensures.drawn) (drawn_whole c.args.shape.now c.args.generator.now)

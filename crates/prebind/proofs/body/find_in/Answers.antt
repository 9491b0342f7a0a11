use Rattle.std.proofs.Common.{sym, ◌∙◌}
use Rattle.prebind.proofs.BodyLaws.{inside_body, inside_linkedit, inside_neither}
use Rattle.prebind.proofs.body.find_in.Goals as goal

pub returns-in-Some : goal.returns-in-Some
returns-in-Some c = inside_body c.args.segments.now c.args.linkedit c.args.address c.in-Some.place (c.in-Some.ensures ∙ c.requires.indexed c.args.address)

pub returns-in-None : goal.returns-in-None
returns-in-None c = inside_linkedit c.args.segments.now c.args.linkedit c.args.address (c.in-None.ensures ∙ c.requires.indexed c.args.address) (sym c.if-covers.ensures)

pub returns-in-None-2 : goal.returns-in-None-2
returns-in-None-2 c = inside_neither c.args.segments.now c.args.linkedit c.args.address (c.in-None-2.ensures ∙ c.requires.indexed c.args.address) (sym c.if-covers.ensures)

use Rattle.dsc_tool.proofs.WordLaws.{inputs_are}
use Rattle.dsc_tool.proofs.command.are_inputs.Goals as goal

pub returns-then-are_few : goal.returns-then-are_few
returns-then-are_few c = inputs_are c.args.out.now c.args.names.now c.are_few.result c.contains.result c.are_few.ensures c.if-are_few.true c.contains.ensures.value

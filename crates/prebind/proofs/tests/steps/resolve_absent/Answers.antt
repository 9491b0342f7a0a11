use Rattle.std.proofs.Common.{arith}
use Rattle.prebind.proofs.AskedLaws.{asked_four}
use Rattle.prebind.proofs.tests.steps.resolve_absent.Goals as goal

pub returns : goal.returns
returns g c =
    let one = c.requires.one in
    omega (arith, c.resolve_indexed.ensures.counted one.set one.are, asked_four one.set c.args.links.now c.args.indexed.now c.args.name.now one.are c.requires.searched c.requires.found)

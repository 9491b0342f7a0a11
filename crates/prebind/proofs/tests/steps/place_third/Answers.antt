use Rattle.std.proofs.Common.{arith}
use Rattle.prebind.proofs.AskedLaws.{asked_three, asked_once}
use Rattle.prebind.proofs.tests.steps.place_third.Goals as goal

pub returns : goal.returns
returns g c =
    let one = c.requires.image in
    omega (
      arith,
      c.place_words_indexed.ensures.counted one.set one.are one.own,
      asked_once one.set c.args.binds.now c.args.name.now c.requires.bound,
      asked_three one.set c.args.links.now c.args.indexed.now c.args.name.now c.args.offset one.are c.requires.searched c.requires.found,
    )

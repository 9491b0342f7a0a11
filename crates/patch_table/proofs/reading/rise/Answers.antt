use Rattle.std.proofs.Common.{arith}
use Rattle.patch_table.proofs.RecordLaws.{rises_more}
use Rattle.patch_table.proofs.reading.rise.Goals as goal

pub loop-k-preserved : goal.loop-k-preserved
loop-k-preserved c =
    rises_more c.args.records.now c.loop-k.k _ c.loop-k.auto.k c.loop-k-test.true c.if-records-k.false c.loop-k.invariant

pub returns-clause-yes : goal.returns-clause-yes
returns-clause-yes c = λ yes i d lt. c.loop-k.invariant i d (omega (arith, lt, c.loop-k-test.false))

use Rattle.std.proofs.Common.{arith}
use Rattle.prebind.proofs.WordLaws.{unbroken_more}
use Rattle.prebind.specs.Words.{placed_bind}
use Rattle.prebind.proofs.ListLaws.{mapped_more}
use Rattle.prebind.proofs.BoundLaws.{probes_here}
use Rattle.prebind.proofs.place_indexed.place_binds.Goals as goal

pub returns-in_err-word-clause-counted : goal.returns-in_err-word-clause-counted
returns-in_err-word-clause-counted g c = λ set are.
    omega (arith, c.loop-index.invariant.counted set are, c.place_bind.ensures.counted set are, probes_here set c.args.image c.loop-index.index c.args.binds.now c.index-binds-index.result c.loop-index-test.true c.index-binds-index.is)

pub returns-in_err-push-clause-counted : goal.returns-in_err-push-clause-counted
returns-in_err-push-clause-counted g c = λ set are.
    omega (arith, c.loop-index.invariant.counted set are, c.place_bind.ensures.counted set are, probes_here set c.args.image c.loop-index.index c.args.binds.now c.index-binds-index.result c.loop-index-test.true c.index-binds-index.is)

pub loop-index-preserved : goal.loop-index-preserved
loop-index-preserved g c = record {
  made = λ set are.
      mapped_more (placed_bind set c.args.image) c.args.binds.now c.loop-index.index c.index-binds-index.result c.loop-index.words.items c.push.new.self.items c.in_ok-word.word c.loop-index-test.true c.index-binds-index.is (c.loop-index.invariant.made set are)
      (c.in_ok-word.ensures.found set are) c.in_ok-push.ensures.items;
  unbroken = λ set are.
      unbroken_more set c.args.image c.loop-index.index c.args.binds.now c.index-binds-index.result c.loop-index-test.true c.index-binds-index.is (c.in_ok-word.ensures.cause set are) (c.loop-index.invariant.unbroken set are);
  counted = λ set are.
      omega (arith, c.loop-index.invariant.counted set are, c.place_bind.ensures.counted set are, probes_here set c.args.image c.loop-index.index c.args.binds.now c.index-binds-index.result c.loop-index-test.true c.index-binds-index.is);
}

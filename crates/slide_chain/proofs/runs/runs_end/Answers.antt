use Rattle.std.proofs.Common.{◌-◌, get_or, arith}
use Rattle.slide_chain.specs.Chains.{is_marked}
use Rattle.slide_chain.proofs.MadeLaws.{marked-large, marked-small}
use Rattle.slide_chain.proofs.RunLaws.{any-later, none-more}
use Rattle.slide_chain.proofs.runs.runs_end.Goals as goal

pub loop-end-preserved : goal.loop-end-preserved
loop-end-preserved c = record {
  inside = omega (arith, c.loop-end.invariant.inside);
  behind = none-more is_marked c.args.extras.now c.loop-end.end (omega arith) c.loop-end.invariant.inside
      (marked-small (get_or c.args.extras.now (c.loop-end.end - 1) 0) c.if-extras-end-lt-MARKED.true) c.loop-end.invariant.behind;
}

pub returns-else-extras-end-lt-MARKED-clause-last : goal.returns-else-extras-end-lt-MARKED-clause-last
returns-else-extras-end-lt-MARKED-clause-last c = λ i before.
    any-later is_marked c.args.extras.now i (c.loop-end.end - 1) (omega arith) (omega (arith, c.loop-end.invariant.inside)) (marked-large (get_or c.args.extras.now (c.loop-end.end - 1) 0) c.if-extras-end-lt-MARKED.false)

-- The loop's steps.
use Rattle.std.proofs.Common.{arith}
use Rattle.dsc_base.specs.Uleb.{uleb_bytes}
use Rattle.dsc_base.proofs.UlebLaws.{counted_none, counted_more, counted_all, length-shortest_some}
use Rattle.dsc_base.proofs.uleb.uleb_len.Goals as goal

pub loop-rest-init : goal.loop-rest-init
loop-rest-init c = counted_none c.args.value c.ranges.value.fits

pub loop-rest-preserved : goal.loop-rest-preserved
loop-rest-preserved c = counted_more c.loop-rest.len c.loop-rest.rest c.args.value (omega arith) c.loop-rest.invariant

pub returns-clause-few : goal.returns-clause-few
returns-clause-few c =
    omega (arith, counted_all c.loop-rest.len c.loop-rest.rest c.args.value (omega arith) c.loop-rest.invariant, length-shortest_some 9 c.args.value)

pub returns-clause-len : goal.returns-clause-len
unfolding uleb_bytes
returns-clause-len c = counted_all c.loop-rest.len c.loop-rest.rest c.args.value (omega arith) c.loop-rest.invariant

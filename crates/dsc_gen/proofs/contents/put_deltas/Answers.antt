-- Each turn sets one delta.
use Rattle.std.proofs.Common.{◌≤◌, ◌∙◌, ◌+◌, ◌*◌, ap, length, arith}
use Rattle.dsc_base.proofs.NumberLaws.{length-put_number}
use Rattle.dsc_gen.proofs.WordLaws.{deltas_more, deltas_all}
use Rattle.dsc_gen.proofs.contents.put_deltas.Goals as goal

pub loop-i-preserved : goal.loop-i-preserved
loop-i-preserved c =
    let room : 16 * c.loop-i.i + 4 ≤ length c.loop-i.bytes = omega (arith, c.loop-i.invariant.same) in
    record {
      set = deltas_more c.args.size c.args.targets.now c.loop-i.i _ _ _ c.loop-i-test.true c.loop-i.invariant.set c.put_u32.ensures.put;
      same = ap length c.put_u32.ensures.put ∙ (length-put_number 4 c.loop-i.bytes (16 * c.loop-i.i) _ room ∙ c.loop-i.invariant.same);
    }

pub returns : goal.returns
returns c = deltas_all c.args.size c.args.targets.now c.loop-i.i _ _ c.loop-i-test.false c.loop-i.invariant.set

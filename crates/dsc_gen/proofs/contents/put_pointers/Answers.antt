-- Each turn sets one pointer.
use Rattle.dsc_base.specs.Numbers.{put_number}
use Rattle.std.proofs.Common.{ℕ, ◌≤◌, ◌∙◌, ◌+◌, ◌*◌, ap, length, arith}
use Rattle.dsc_base.proofs.NumberLaws.{length-put_number}
use Rattle.dsc_gen.proofs.WordLaws.{pointers_more, pointers_all}
use Rattle.dsc_gen.proofs.contents.put_pointers.Goals as goal

pub loop-i-preserved : goal.loop-i-preserved
loop-i-preserved c =
    let room : 32 * c.loop-i.i + 8 ≤ length c.loop-i.bytes = omega (arith, c.loop-i.invariant.same) in
    record {
      set = pointers_more c.args.size c.args.pointers.now c.loop-i.i _ _ _ c.loop-i-test.true c.loop-i.invariant.set (c.put_u64.ensures.put ∙ ap (λ (v : ℕ). put_number 8 c.loop-i.bytes (32 * c.loop-i.i) v) c.from.ensures);
      same = ap length c.put_u64.ensures.put ∙ (length-put_number 8 c.loop-i.bytes (32 * c.loop-i.i) _ room ∙ c.loop-i.invariant.same);
    }

pub returns : goal.returns
returns c = pointers_all c.args.size c.args.pointers.now c.loop-i.i _ _ c.loop-i-test.false c.loop-i.invariant.set

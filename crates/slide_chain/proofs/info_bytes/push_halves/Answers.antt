use Rattle.std.proofs.Common.{◌∙◌, sym}
use Rattle.slide_chain.proofs.InfoLaws.{halves-more, halves-ends}
use Rattle.slide_chain.proofs.info_bytes.push_halves.Goals as goal

pub loop-number-preserved : goal.loop-number-preserved
loop-number-preserved c =
    halves-more c.args.numbers.now c.loop-number.bytes.items _ c.push_u16.new.bytes.items c.loop-number.number-index c.loop-number-test.true (c.in_ok-push_u16.ensures {u = tt}) c.loop-number.invariant

pub returns : goal.returns
returns c = sym (halves-ends c.args.numbers.now c.loop-number.bytes.items c.loop-number.number-index c.loop-number-test.false) ∙ c.loop-number.invariant

use Rattle.std.proofs.Common.{◌∙◌, ◌++◌, ◌+◌, ◌-◌, ◌*◌, List, ℕ, sym, ap, arith}
use Rattle.slide_chain.specs.Info.{halves_at}
use Rattle.slide_chain.proofs.InfoLaws.{halves_at-more, halves_at-ends}
use Rattle.slide_chain.proofs.info_read.read_halves.Goals as goal

pub loop-i-preserved : goal.loop-i-preserved
loop-i-preserved c =
    ap (λ (l : List ℕ). l ++ halves_at (c.args.count - (c.loop-i.i + 1)) c.args.bytes.now (c.args.at + 2 * (c.loop-i.i + 1))) c.in_ok-push.ensures.items
    ∙ halves_at-more c.loop-i.numbers.items c.args.bytes.now _ (c.args.count - c.loop-i.i) (c.args.count - (c.loop-i.i + 1)) (c.args.at + 2 * c.loop-i.i) (c.args.at + 2 * (c.loop-i.i + 1))
    c.get_u16.result (omega arith) (omega arith) c.get_u16.ensures c.loop-i.invariant

pub returns : goal.returns
returns c = sym (halves_at-ends c.loop-i.numbers.items c.args.bytes.now (c.args.count - c.loop-i.i) (c.args.at + 2 * c.loop-i.i) (omega arith)) ∙ c.loop-i.invariant

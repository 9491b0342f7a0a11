use Rattle.std.proofs.Common.{◌∙◌, ◌++◌, ◌+◌, List, ℕ, drop, sym, ap}
use Rattle.std.proofs.lemmas.List.{append-nil}
use Rattle.slide_chain.specs.Making.{marked_last}
use Rattle.slide_chain.proofs.MakeLaws.{extras_for-few, extras_for-more, marked-more, marked-ends}
use Rattle.slide_chain.proofs.making.push_extras.Goals as goal

pub returns-then-firsts-lt2 : goal.returns-then-firsts-lt2
returns-then-firsts-lt2 c = sym (ap (λ (l : List ℕ). c.args.extras.now.items ++ l) (extras_for-few c.args.firsts.now c.if-firsts-lt2.true) ∙ append-nil c.args.extras.now.items)

pub loop-i-preserved : goal.loop-i-preserved
loop-i-preserved c =
    ap (λ (l : List ℕ). l ++ marked_last (drop (c.loop-i.i + 1) c.args.firsts.now)) c.in_ok-push.ensures.items
    ∙ marked-more c.args.firsts.now c.loop-i.extras.items _ c.loop-i.i c.extra.result c.loop-i-test.true c.extra.ensures c.loop-i.invariant

pub returns : goal.returns
returns c =
    sym (marked-ends c.args.firsts.now c.loop-i.extras.items c.loop-i.i c.loop-i-test.false)
    ∙ (c.loop-i.invariant ∙ ap (λ (l : List ℕ). c.args.extras.now.items ++ l) (sym (extras_for-more c.args.firsts.now c.if-firsts-lt2.false)))

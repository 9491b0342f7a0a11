-- The extras are flagged from the last one on.
use Rattle.std.proofs.Common.{◌+◌, ◌-◌, ◌∙◌, refl, length, arith}
use Rattle.slide_chain.proofs.ThinLaws.{marking-none, marking-more, marking-good}
use Rattle.slide_chain.proofs.thinning.mark_repeated.Goals as goal

pub loop-i-init : goal.loop-i-init
loop-i-init c = marking-none c.args.extras.now c.args.seen.now c.args.repeated.now (length c.args.extras.now + 1) (length c.args.extras.now) refl c.requires.flags (omega arith) c.requires.unseen

pub loop-i-preserved : goal.loop-i-preserved
loop-i-preserved c =
    marking-more c.args.extras.now c.loop-i.seen _ c.loop-i.repeated _ c.loop-i.run c.run_at-run.result c.loop-i.i (c.loop-i.i - 1) c.is_repeated.result (omega arith)
    (c.loop-i.auto.repeated ∙ c.requires.flags) (c.loop-i.auto.seen ∙ c.requires.names) c.run_at-run.ensures c.is_repeated.ensures refl refl c.loop-i.invariant

pub returns : goal.returns
returns c = marking-good c.args.extras.now c.loop-i.repeated c.loop-i.seen c.loop-i.run c.loop-i.i (omega arith) c.loop-i.invariant

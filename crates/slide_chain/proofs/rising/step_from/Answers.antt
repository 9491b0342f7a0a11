-- The words rise, and what stands behind a word begins with the next one.
use Rattle.std.proofs.Common.{◌+◌, ◌∙◌, sym, get_or, arith}
use Rattle.slide_chain.proofs.ListLaws.{next-at, step_to-at, step_to-past}
use Rattle.slide_chain.proofs.rising.step_from.Goals as goal

pub step_between-requires : goal.step_between-requires
step_between-requires c = omega (arith, next-at c.args.words.now c.args.i c.if-i-words.true c.requires.rises)

pub returns-then-i-words : goal.returns-then-i-words
returns-then-i-words c = c.step_between.ensures ∙ sym (step_to-at c.args.limit (get_or c.args.words.now c.args.i 0) c.args.words.now (c.args.i + 1) c.if-i-words.true)

pub returns-else-i-words : goal.returns-else-i-words
returns-else-i-words c = sym (step_to-past c.args.limit (get_or c.args.words.now c.args.i 0) c.args.words.now (c.args.i + 1) c.if-i-words.false)

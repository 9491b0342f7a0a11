-- Each turn takes one word.
use Rattle.dsc_gen.proofs.DrawLaws.{words_more, after_more, words_all, after_all}
use Rattle.dsc_gen.proofs.draws.words.Goals as goal

pub loop-preserved : goal.loop-preserved
loop-preserved c = record {
  made = words_more c.args.count c.loop.counter c.next_word.result c.loop.generator c.next_word.new.self _ _ _ c.loop-test.true c.loop.invariant.made c.next_word.ensures c.in_ok-push.ensures.items;
  state = after_more c.args.count c.loop.counter c.next_word.result c.loop.generator c.next_word.new.self _ c.loop-test.true c.loop.invariant.state c.next_word.ensures;
}

pub returns-clause-words : goal.returns-clause-words
returns-clause-words c = words_all c.args.count c.loop.counter c.loop.generator _ _ c.loop-test.false c.loop.invariant.made

pub returns-clause-after : goal.returns-clause-after
returns-clause-after c = after_all c.args.count c.loop.counter c.loop.generator _ c.loop-test.false c.loop.invariant.state

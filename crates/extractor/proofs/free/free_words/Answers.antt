use Rattle.std.proofs.Common.{get_or, sym, ◌∙◌}
use Rattle.extractor.specs.Free.{lists}
use Rattle.extractor.proofs.HomeLaws.{home_at, word_at, no_word}
use Rattle.extractor.proofs.FreeLaws.{free_start, free_next, lists_long}
use Rattle.extractor.proofs.free.free_words.Goals as goal

pub loop-n-init : goal.loop-n-init
loop-n-init c = free_start c.args.start c.args.words.now c.args.images.now (lists c.in_ok-free.free.items) c.in_ok-free.ensures

pub keep_word-requires : goal.keep_word-requires
keep_word-requires c = record {
  count = sym (lists_long c.loop-n.free.items) ∙ c.loop-n.invariant.count;
  bounds = c.requires.bounds;
  address = c.requires.addresses c.loop-n.n no_word c.loop-n-test.true;
  home = home_at c.args.images.now c.args.start c.args.words.now c.args.homes.now c.loop-n.n c.requires.homes c.loop-n-test.true;
}

pub loop-n-preserved : goal.loop-n-preserved
loop-n-preserved c =
    free_next c.args.start c.args.words.now c.args.images.now (lists c.loop-n.free.items) (lists c.keep_word.new.free.items) c.loop-n.n (get_or c.args.words.now c.loop-n.n no_word) c.loop-n.invariant c.loop-n-test.true
    (word_at c.args.words.now c.loop-n.n no_word (get_or c.args.words.now c.loop-n.n no_word) c.loop-n-test.true) c.in_ok-keep_word.ensures

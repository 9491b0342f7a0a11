-- The words so far and those that are left.
use Rattle.std.proofs.Common.{◌≡◌, ◌++◌, drop}
use Rattle.dsc_gen.specs.Contents.{words_bytes}
use Rattle.dsc_gen.proofs.contents.put_words.Given as goal

abbrev pub invariant-loop-word : goal.invariant-loop-word
invariant-loop-word l = l.out.items ++ words_bytes (drop l.word-index l.words) ≡ l.fn.out.items ++ words_bytes l.words

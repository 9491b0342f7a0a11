use Rattle.std.proofs.Common.{take}
use Rattle.extractor.specs.Free.{AreFree, lists}
use Rattle.extractor.proofs.free.free_words.Given as goal

abbrev pub invariant-loop-n : goal.invariant-loop-n
invariant-loop-n l = AreFree l.start (take l.n l.words) l.images (lists l.free.items)

use Rattle.std.proofs.Common.{◌-◌, length}
use Rattle.extractor.proofs.HomeLaws.{AreFilled}
use Rattle.extractor.proofs.homes.fill_segments.Given as goal

abbrev pub invariant-loop-n : goal.invariant-loop-n
invariant-loop-n l = AreFilled l.start l.words l.initial.homes l.homes l.image (length l.segments - l.n) l.segments

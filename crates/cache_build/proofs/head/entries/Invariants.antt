use Rattle.std.proofs.Common.{◌≡◌, take}
use Rattle.cache_layout.specs.Places.{numbered}
use Rattle.cache_build.specs.Head.{entry_of}
use Rattle.cache_build.proofs.head.entries.Given as goal

abbrev pub invariant-loop-number : goal.invariant-loop-number
invariant-loop-number l = l.entries.items ≡ numbered (entry_of l.layout) (take l.number l.images)
